use Rattle.std.proofs.Common.{arith, ◌≡◌, sym, ap, subst, ◌∙◌, ◌-◌, ◌≤◌, ℕ, List, ◌++◌, length, take, drop, length-drop}
use Rattle.std.proofs.Math.Seq.{take-add}
use Rattle.std.proofs.lemmas.Grind.{common_steps}
use Rattle.lists.proofs.Results.{on_ok}
use Rattle.desk_core.specs.Desk.{IsWriting}
use Rattle.desk_core.proofs.DeskLemmas.{never_fall_trans, writing_written}
use Rattle.desk_core.proofs.WholeLemmas.{on_err, any_err, unchanged_but_output, writing_closed, writing_failed}
use Rattle.desk_core.proofs.whole.write_whole.Goals as goal

pub returns-in_err-done-clause-err : goal.returns-in_err-done-clause-err
returns-in_err-done-clause-err g c =
    let sofar = c.loop-done.invariant in
    any_err _ _
    (writing_failed _ _ c.loop-done.done _ _ _ sofar.within sofar.writing
    (unchanged_but_output _ _ c.in_err-done.ensures.err))

pub loop-done-preserved : goal.loop-done-preserved
loop-done-preserved g c =
    let sofar = c.loop-done.invariant in
    let step = c.in_ok-done.ensures.ok in
    let within : c.loop-done.done ≤ length c.args.bytes.now = sofar.within in
    let rest : take (length c.args.bytes.now - c.loop-done.done) (drop c.loop-done.done c.args.bytes.now)
    ≡ drop c.loop-done.done c.args.bytes.now = grind (arith, common_steps) in
    let room : c.in_ok-done.field-0
    ≤ length
    (take (length c.args.bytes.now - c.loop-done.done) (drop c.loop-done.done c.args.bytes.now)) = step.room in
    record {
      never_fall = never_fall_trans _ _ _ sofar.never_fall c.in_ok-done.ensures.never_fall;
      within = omega (arith, length-drop c.loop-done.done c.args.bytes.now, ap (length {A = ℕ}) rest);
      writing = writing_written _ _ _ _ _ _ _ _
          (ap (λ (p : List ℕ). take c.loop-done.done c.args.bytes.now ++ take c.in_ok-done.field-0 p) rest
          ∙ sym (take-add c.loop-done.done c.in_ok-done.field-0 c.args.bytes.now))
          sofar.writing step;
    }

pub returns-clause-ok : goal.returns-clause-ok
returns-clause-ok g c =
    let within : c.loop-done.done ≤ length c.args.bytes.now = c.loop-done.invariant.within in
    let whole : take c.loop-done.done c.args.bytes.now ≡ c.args.bytes.now = grind (arith, common_steps) in
    on_ok _ _ _
    (writing_closed _ _ _ _ _
    (subst
    (λ (xs : List ℕ). IsWriting c.args.name.now xs (g.D.Desk.view c.args.desk.now) (g.D.Desk.view c.loop-done.desk))
    whole c.loop-done.invariant.writing)) c.close.ensures.ok

pub returns-clause-err : goal.returns-clause-err
returns-clause-err g c =
    let sofar = c.loop-done.invariant in
    on_err _ _ _ (writing_failed _ _ c.loop-done.done _ _ _ sofar.within sofar.writing) c.close.ensures.err
