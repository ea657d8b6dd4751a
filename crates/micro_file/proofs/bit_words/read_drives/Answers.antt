use Rattle.std.proofs.Common.{[], sym, ◌∙◌, arith}
use Rattle.std.proofs.lemmas.Result.{err_from_is_err_and}
use Rattle.micro_file.specs.Private.WordFlags.{on_at, over_at}
use Rattle.micro_file.proofs.Flat.{not_on}
use Rattle.micro_file.proofs.Passing.{over_goes_on, over_ends, over_done}
use Rattle.micro_file.proofs.bit_words.read_drives.Goals as goal

pub returns-then-k-len : goal.returns-then-k-len
returns-then-k-len c =
    over_done on_at not_on c.args.drives.now c.loop-k.enables c.loop-k.k c.loop-k.reader
    (over_at on_at [] c.args.drives.now c.args.reader.now) c.loop-k.invariant.0 c.loop-k.invariant.1 c.pass-k.result
    c.pass-k.new.reader (omega (arith, c.pass-k.ensures.most, c.len.ensures)) c.pass-k.ensures.passed
    (omega (arith, c.if-k-len.true, c.len-in-loop-k.ensures))

pub returns-in_err-read_drive : goal.returns-in_err-read_drive
returns-in_err-read_drive c =
    let p = err_from_is_err_and c.from_residual.result c.from_residual.ensures.1 in
    rw (p.1, p.2)
    (over_ends on_at not_on c.args.drives.now c.loop-k.enables c.loop-k.k c.loop-k.reader
    (over_at on_at [] c.args.drives.now c.args.reader.now) c.loop-k.invariant.0 c.loop-k.invariant.1 c.pass-k.result
    c.pass-k.new.reader (omega (arith, c.pass-k.ensures.most, c.len.ensures)) c.pass-k.ensures.passed
    (λ all. c.if-k-len.false (all ∙ sym c.len-in-loop-k.ensures)) c.index.result.now c.index.ensures
    c.in_err-read_drive.field-0.0 c.in_err-read_drive.ensures)

pub loop-k-preserved : goal.loop-k-preserved
loop-k-preserved c =
    over_goes_on on_at not_on c.args.drives.now c.loop-k.enables c.loop-k.k c.loop-k.reader
    (over_at on_at [] c.args.drives.now c.args.reader.now) c.loop-k.invariant.0 c.loop-k.invariant.1 c.pass-k.result
    c.pass-k.new.reader (omega (arith, c.pass-k.ensures.most, c.len.ensures)) c.pass-k.ensures.passed
    (λ all. c.if-k-len.false (all ∙ sym c.len-in-loop-k.ensures)) c.index.result.now c.index.ensures
    c.read_drive.new.enables c.read_drive.new.reader c.in_ok-read_drive.ensures
