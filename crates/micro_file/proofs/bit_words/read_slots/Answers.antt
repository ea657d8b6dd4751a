use Rattle.std.proofs.Common.{[], length, arith, sym, ◌∙◌}
use Rattle.std.proofs.lemmas.Result.{err_from_is_err_and}
use Rattle.micro_file.specs.Private.Fields.{each_at}
use Rattle.micro_file.specs.Private.PackedWords.{slot_at, slots_at}
use Rattle.micro_file.proofs.Idle.{no_slot}
use Rattle.micro_file.proofs.Passing.{goes_on, ends, is_done}
use Rattle.micro_file.proofs.bit_words.read_slots.Goals as goal

pub returns-then-k-len : goal.returns-then-k-len
unfolding slots_at
returns-then-k-len c =
    is_done (slot_at c.args.image.now) (no_slot c.args.image.now) c.loop-k.issues (length c.args.image.now.units)
    c.loop-k.k c.loop-k.reader
    (each_at (slot_at c.args.image.now) [] 0 (length c.args.image.now.units) c.args.reader.now)
    c.loop-k.invariant.0 c.loop-k.invariant.1 c.pass-k.result c.pass-k.new.reader
    (omega (arith, c.pass-k.ensures.most, c.len.ensures)) c.pass-k.ensures.passed
    (omega (arith, c.if-k-len.true, c.len-in-loop-k.ensures))

pub returns-in_err-read_slot : goal.returns-in_err-read_slot
unfolding slots_at
returns-in_err-read_slot c =
    let p = err_from_is_err_and c.from_residual.result c.from_residual.ensures.1 in
    rw (p.1, p.2)
    (ends (slot_at c.args.image.now) (no_slot c.args.image.now) c.loop-k.issues (length c.args.image.now.units)
    c.loop-k.k c.loop-k.reader
    (each_at (slot_at c.args.image.now) [] 0 (length c.args.image.now.units) c.args.reader.now)
    c.loop-k.invariant.0 c.loop-k.invariant.1 c.pass-k.result c.pass-k.new.reader
    (omega (arith, c.pass-k.ensures.most, c.len.ensures)) c.pass-k.ensures.passed
    (λ all. c.if-k-len.false (all ∙ sym c.len-in-loop-k.ensures)) c.in_err-read_slot.field-0.0
    c.in_err-read_slot.ensures)

pub loop-k-preserved : goal.loop-k-preserved
loop-k-preserved c =
    goes_on (slot_at c.args.image.now) (no_slot c.args.image.now) c.loop-k.issues (length c.args.image.now.units)
    c.loop-k.k c.loop-k.reader
    (each_at (slot_at c.args.image.now) [] 0 (length c.args.image.now.units) c.args.reader.now)
    c.loop-k.invariant.0 c.loop-k.invariant.1 c.pass-k.result c.pass-k.new.reader
    (omega (arith, c.pass-k.ensures.most, c.len.ensures)) c.pass-k.ensures.passed
    (λ all. c.if-k-len.false (all ∙ sym c.len-in-loop-k.ensures)) c.read_slot.new.issues c.read_slot.new.reader
    c.in_ok-read_slot.ensures
