use Rattle.std.proofs.Common.{◌≡◌, take}
use Rattle.fix_types.proofs.copies.decls.Given as goal

abbrev pub invariant-loop-d : goal.invariant-loop-d
invariant-loop-d l = l.copies ≡ take l.d-index l.ds
