use Rattle.std.proofs.Common.{◌≡◌, map, take}
use Rattle.silage_syntax.specs.Tree.{view_manifest}
use Rattle.fix_types.proofs.copies.manifests.Given as goal

abbrev pub invariant-loop-m : goal.invariant-loop-m
invariant-loop-m l = map view_manifest l.copies ≡ map view_manifest (take l.m-index l.ms)
