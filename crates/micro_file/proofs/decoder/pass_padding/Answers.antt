use Rattle.micro_file.proofs.Padding.{padding_passes, padding_refused}
use Rattle.micro_file.proofs.decoder.pass_padding.Goals as goal

pub returns-then-passes_zeros : goal.returns-then-passes_zeros
returns-then-passes_zeros c =
    padding_passes c.args.reader.now c.passes_zeros.new.self
    (rw (← c.count-left.ensures.count) (c.passes_zeros.ensures.passed c.if-passes_zeros.true))

pub returns-else-passes_zeros : goal.returns-else-passes_zeros
returns-else-passes_zeros c =
    let others = (c.passes_zeros.ensures.others c.if-passes_zeros.false).0 in
    rw (c.refused.ensures, c.count-left.ensures.count)
    (padding_refused c.args.reader.now (rw (← c.count-left.ensures.count) others))
