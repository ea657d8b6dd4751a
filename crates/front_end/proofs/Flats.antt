-- The flat program of a program without a delay-free loop, and the first loop of one that has one.
use Rattle.std.proofs.Common.{◌≡◌, refl, subst, ℕ}
use Rattle.silage_syntax.specs.Tree.{Program}
use Rattle.type_rules.specs.declared.typed.Typed.{Typed}
use Rattle.element_rules.specs.declared.elements.Elements.{Elements}
use Rattle.signal_graph.specs.Flat as flat
use Rattle.signal_graph.specs.FlatRules.{IsFlat}
use Rattle.signal_graph.specs.FlatSolves.{IsFlatLoopless}
use Rattle.flow_graph.specs.Loops as graph
use Rattle.flow_graph.specs.declared.fault.GraphFault.{GraphFault}
use Rattle.flow_graph.specs.declared.fault.GraphFault.TheVariants.{Loop, Memory}
use Rattle.loop_expand.specs.Expanded.{AreOf}
use Rattle.loop_expand.specs.FlatOf.{IsFlatOf}
use Rattle.loop_expand.specs.KeepsProgram.{KeepsElementSolutions}
use Rattle.loop_expand.proofs.ProgramKeeps.{flat_keeps}
use Rattle.loop_expand.proofs.SmallFlat.{flat_is_sound}
use Rattle.loop_expand.proofs.SoundFlat.{flat_loopless}
use Rattle.loop_expand.proofs.TypedSolutions.{output_types_same, typed_solutions}
use Rattle.front_end.specs.Private.Checks.{IsFlatFor, IsLoopError}
use Rattle.source_faults.specs.Private.Errors.{of_build}
use Rattle.front_end.proofs.FirstLoops.{one_expansion, first_loop}

module _ (p : Program) (typed : Typed) (es : Elements) (are : AreOf p typed es) (f : flat.Program)
    (flat_of : IsFlatOf p es f) where
  pub is_flat : IsFlat f
  is_flat = flat_is_sound p are.checked es are.elements f flat_of

  pub flat_for : IsFlatLoopless f → IsFlatFor p f
  flat_for none = record {
    loops = (flat_loopless p are.checked es are.elements f flat_of).1 none;
    made = record { elements = es; expansion = are.elements; flat_of = flat_of };
    sound = is_flat;
    loopless = none;
    keeps = λ others expansion.
        subst (λ (z : Elements). KeepsElementSolutions p z f) (one_expansion p es others are.elements expansion)
        (flat_keeps p are.checked es are.elements f flat_of none);
    types = typed_solutions p are.checked es are.elements f flat_of is_flat none;
    outputs = output_types_same p are.checked es are.elements f flat_of;
  }

  pub loop_error : (fault : GraphFault)
      → ((e : ℕ) → fault ≡ Loop e → graph.IsFirstLoop f e)
      → IsLoopError p (of_build fault)
  loop_error (Loop e) first = first_loop p are.checked es are.elements f flat_of e (first e refl)
  loop_error Memory first = tt
