use Rattle.std.proofs.Common.{[], sym, ◌∙◌, arith}
use Rattle.std.proofs.lemmas.Result.{err_from_is_err_and}
use Rattle.micro_file.specs.Private.WordFlags.{into_at, over_at}
use Rattle.micro_file.proofs.Flat.{none_into}
use Rattle.micro_file.proofs.Passing.{over_goes_on, over_ends, over_done}
use Rattle.micro_file.proofs.bit_words.read_takes.Goals as goal

pub returns-then-k-len : goal.returns-then-k-len
returns-then-k-len c =
    over_done (into_at c.args.image.now) (none_into c.args.image.now) c.args.files.now c.loop-k.takes c.loop-k.k
    c.loop-k.reader
    (over_at (into_at c.args.image.now) [] c.args.files.now c.args.reader.now) c.loop-k.invariant.0 c.loop-k.invariant.1
    c.pass-k.result
    c.pass-k.new.reader (omega (arith, c.pass-k.ensures.most, c.len.ensures)) c.pass-k.ensures.passed
    (omega (arith, c.if-k-len.true, c.len-in-loop-k.ensures))

pub returns-in_err-read_port_takes : goal.returns-in_err-read_port_takes
returns-in_err-read_port_takes c =
    let p = err_from_is_err_and c.from_residual.result c.from_residual.ensures.1 in
    rw (p.1, p.2)
    (over_ends (into_at c.args.image.now) (none_into c.args.image.now) c.args.files.now c.loop-k.takes c.loop-k.k
    c.loop-k.reader
    (over_at (into_at c.args.image.now) [] c.args.files.now c.args.reader.now) c.loop-k.invariant.0 c.loop-k.invariant.1
    c.pass-k.result
    c.pass-k.new.reader (omega (arith, c.pass-k.ensures.most, c.len.ensures)) c.pass-k.ensures.passed
    (λ all. c.if-k-len.false (all ∙ sym c.len-in-loop-k.ensures)) c.index-file.result.now c.index-file.ensures
    c.in_err-read_port_takes.field-0.0 c.in_err-read_port_takes.ensures)

pub loop-k-preserved : goal.loop-k-preserved
loop-k-preserved c =
    over_goes_on (into_at c.args.image.now) (none_into c.args.image.now) c.args.files.now c.loop-k.takes c.loop-k.k
    c.loop-k.reader
    (over_at (into_at c.args.image.now) [] c.args.files.now c.args.reader.now) c.loop-k.invariant.0 c.loop-k.invariant.1
    c.pass-k.result
    c.pass-k.new.reader (omega (arith, c.pass-k.ensures.most, c.len.ensures)) c.pass-k.ensures.passed
    (λ all. c.if-k-len.false (all ∙ sym c.len-in-loop-k.ensures)) c.index-file.result.now c.index-file.ensures
    c.read_port_takes.new.takes c.read_port_takes.new.reader c.in_ok-read_port_takes.ensures
