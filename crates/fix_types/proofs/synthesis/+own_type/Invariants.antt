use Rattle.std.proofs.Common.{◌≡◌, drop}
use Rattle.silage_syntax.specs.Tree.{view_arms}
use Rattle.silage_meaning.specs.Types.{branches_type}
use Rattle.fix_types.specs.Private.Scopes.{program_of, function_of}
use Rattle.type_rules.specs.Private.Sound.{AreSound}
use Rattle.fix_types.proofs.synthesis.+own_type.Given as goal

abbrev pub invariant-loop-arm : goal.invariant-loop-arm
invariant-loop-arm l = record {
  sound : AreSound (view_arms (drop l.arm-index l.arms));
  same : branches_type (program_of l.scope) (function_of l.scope) (view_arms (drop l.arm-index l.arms))
      ≡ branches_type (program_of l.scope) (function_of l.scope) (view_arms l.arms);
}
