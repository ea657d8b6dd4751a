use Rattle.std.proofs.Common.{◌-◌, length, arith}
use Rattle.std.proofs.lemmas.Result.{err_from_is_err_and}
use Rattle.micro_file.specs.Private.PackedWords.{most_takes, takes_at}
use Rattle.micro_file.proofs.PortTakes.{goes_on, ends, is_done, is_full, no_flag}
use Rattle.micro_file.proofs.bit_words.read_port_takes.Goals as goal

pub returns-in_err-number : goal.returns-in_err-number
returns-in_err-number c =
    let p = err_from_is_err_and c.from_residual.result c.from_residual.ensures.1 in
    rw (p.1, p.2)
    (no_flag c.args.image.now c.args.port c.args.size c.loop-takes.takes c.loop-takes.reader
    (takes_at c.args.image.now c.args.port c.args.size (most_takes - length c.args.takes.now) c.args.takes.now
    c.args.reader.now)
    c.loop-takes.invariant c.in_err-number.field-0.0 c.in_err-number.ensures.reads)

pub returns-then-branch-eq0 : goal.returns-then-branch-eq0
returns-then-branch-eq0 c =
    is_done c.args.image.now c.args.port c.args.size c.loop-takes.takes c.loop-takes.reader
    (takes_at c.args.image.now c.args.port c.args.size (most_takes - length c.args.takes.now) c.args.takes.now
    c.args.reader.now)
    c.loop-takes.invariant c.number.new.reader (rw c.if-branch-eq0.true at c.in_ok-number.ensures.reads)

pub returns-then-len-ge-MAX_TAKES : goal.returns-then-len-ge-MAX_TAKES
returns-then-len-ge-MAX_TAKES c =
    rw (c.refused.ensures, c.count-left.ensures.count)
    (is_full c.args.image.now c.args.port c.args.size c.loop-takes.takes c.loop-takes.reader
    (takes_at c.args.image.now c.args.port c.args.size (most_takes - length c.args.takes.now) c.args.takes.now
    c.args.reader.now)
    c.loop-takes.invariant c.in_ok-number.field-0 c.number.new.reader c.in_ok-number.ensures.reads
    c.if-branch-eq0.false (omega (arith, c.len.ensures, c.if-len-ge-MAX_TAKES.true)))

pub returns-in_err-take : goal.returns-in_err-take
returns-in_err-take c =
    let p = err_from_is_err_and c.from_residual-in_err-take.result c.from_residual-in_err-take.ensures.1 in
    rw (p.1, p.2)
    (ends c.args.image.now c.args.port c.args.size c.loop-takes.takes c.loop-takes.reader
    (takes_at c.args.image.now c.args.port c.args.size (most_takes - length c.args.takes.now) c.args.takes.now
    c.args.reader.now)
    c.loop-takes.invariant c.in_ok-number.field-0 c.number.new.reader c.in_ok-number.ensures.reads
    c.if-branch-eq0.false c.in_err-take.field-0.0 (omega (arith, c.len.ensures, c.if-len-ge-MAX_TAKES.false))
    (c.in_err-take.ensures c.loop-takes.reader c.count-left.ensures.count))

pub loop-takes-preserved : goal.loop-takes-preserved
loop-takes-preserved c =
    rw c.in_ok-push.ensures.ok
    (goes_on c.args.image.now c.args.port c.args.size c.loop-takes.takes c.loop-takes.reader
    (takes_at c.args.image.now c.args.port c.args.size (most_takes - length c.args.takes.now) c.args.takes.now
    c.args.reader.now)
    c.loop-takes.invariant c.in_ok-number.field-0 c.number.new.reader c.in_ok-number.ensures.reads
    c.if-branch-eq0.false c.in_ok-take.take c.read_taken.new.reader
    (omega (arith, c.len.ensures, c.if-len-ge-MAX_TAKES.false))
    (c.in_ok-take.ensures c.loop-takes.reader c.count-left.ensures.count))
