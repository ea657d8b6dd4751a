use Rattle.silage_syntax.specs.Tree.{view_manifest}
use Rattle.loop_expand.proofs.ManifestRows.{size}
use Rattle.loop_expand.proofs.values.+values_of.Given as goal

abbrev pub decreases-values_of : goal.decreases-values_of
decreases-values_of l = size (view_manifest l.m.now)
