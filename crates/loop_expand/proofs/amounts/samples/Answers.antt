use Rattle.std.proofs.Common.{arith}
use Rattle.silage_syntax.specs.Tree.{view_manifest}
use Rattle.loop_expand.proofs.FlatReads.{natural_is}
use Rattle.loop_expand.proofs.amounts.samples.Goals as goal

pub overflow_cast-result : goal.overflow_cast-result
overflow_cast-result c =
    let (k, value, most) = c.requires in
    omega (arith, most, c.natural.ensures, natural_is c.args.env.now (view_manifest c.args.m.now) k value)
