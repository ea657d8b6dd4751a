-- Each byte of the piece is taken, up to one that ends a row or is the first bad one.
use Rattle.std.proofs.Common.{rules, ◌≡◌, ◌++◌, None, IfErr, arith, get_or, subst, sym}
use Rattle.std.proofs.lemmas.List.{take_all}
use Rattle.std.proofs.lemmas.Result.{err_from_is_err_and}
use Rattle.sample_io.specs.Pieces.{HasTaken, MeetsFault}
use Rattle.sample_io.specs.Private.Filling.{TakesNextByte}
use Rattle.sample_io.proofs.Feeding.{room_left, more_taken, row_found, fault_found}
use Rattle.sample_io.proofs.pieces.Rows.feed.Goals as goal

pub take-requires-clause-room : goal.take-requires-clause-room
take-requires-clause-room c =
    let running : c.args.self.now.fault ≡ None = search rules in
    room_left c.args.self.now c.loop-i.self c.args.piece.now c.loop-i.i c.requires running c.loop-i-test.true
    c.loop-i.invariant

pub returns-in_err-take-clause-fault : goal.returns-in_err-take-clause-fault
returns-in_err-take-clause-fault c =
    let p = err_from_is_err_and c.from_residual.result c.from_residual.ensures.1 in
    let found =
    fault_found c.args.self.now c.loop-i.self c.args.piece.now c.loop-i.i c.in_err-take.field-0.0 c.loop-i-test.true
    c.loop-i.invariant c.in_err-take.ensures.fault in
    subst (λ r. IfErr r (MeetsFault c.args.self.now c.args.piece.now)) (sym p.1)
    (subst (MeetsFault c.args.self.now c.args.piece.now) (sym p.2) found)

pub returns-then-branch-clause-takes : goal.returns-then-branch-clause-takes
returns-then-branch-clause-takes c =
    let takes =
    subst (TakesNextByte c.loop-i.self (get_or c.args.piece.now c.loop-i.i 0) c.take.new.self) c.if-branch.true
    c.in_ok-take.ensures.takes in (
      omega arith,
      omega (arith, c.loop-i-test.true),
      row_found c.args.self.now c.loop-i.self c.take.new.self c.args.piece.now c.loop-i.i c.loop-i-test.true
          c.loop-i.invariant takes,
    )

pub loop-i-preserved : goal.loop-i-preserved
loop-i-preserved c =
    let takes =
    subst (TakesNextByte c.loop-i.self (get_or c.args.piece.now c.loop-i.i 0) c.take.new.self) c.if-branch.false
    c.in_ok-take.ensures.takes in
    more_taken c.args.self.now c.loop-i.self c.take.new.self c.args.piece.now c.loop-i.i c.loop-i-test.true
    c.loop-i.invariant
    c.in_ok-take.ensures.channels c.in_ok-take.ensures.running takes

pub returns-clause-takes : goal.returns-clause-takes
returns-clause-takes c = (
  c.loop-i.invariant.row,
  λ bytes before h.
      subst (λ p. HasTaken c.loop-i.self (bytes ++ p) before)
      (take_all c.loop-i.i c.args.piece.now (omega (arith, c.loop-i-test.false)))
      (c.loop-i.invariant.taken bytes before h),
)
