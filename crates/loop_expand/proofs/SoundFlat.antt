-- The flat program of a checked program is sound but for its size, which is a premise here.
use Rattle.std.proofs.Common.{◌≡◌, sym, subst, ℕ, ◌^◌, ◌≤◌, ◌↔◌, length}
use Rattle.std.specs.Prelude.{All, sum_by}
use Rattle.fix_word.specs.declared.types.SigType.{SigType}
use Rattle.lists.specs.Rows.{Rows}
use Rattle.silage_syntax.specs.Tree.{Program}
use Rattle.silage_meaning.specs.Value.{Words}
use Rattle.silage_meaning.specs.Solves.{IsStream, IsOneSolution}
use Rattle.silage_meaning.specs.Rules.{HasNoDelaylessLoop}
use Rattle.element_rules.specs.declared.elements.Elements.{Elements}
use Rattle.element_rules.specs.Expansion.{IsExpansion}
use Rattle.signal_graph.specs.Flat as flat
use Rattle.signal_graph.specs.Flat.{size_of_body}
use Rattle.signal_graph.specs.Rules.{IsWithin, IsType}
use Rattle.signal_graph.specs.FlatRules.{IsFlat}
use Rattle.signal_graph.specs.FlatSolves.{IsFlatLoopless}
use Rattle.loop_expand.specs.Checked.{IsChecked}
use Rattle.loop_expand.specs.FlatOf.{IsFlatOf}
use Rattle.element_rules.proofs.OnceTables.{distinct_numbers}
use Rattle.loop_expand.proofs.Expanded.{numbering, program_solution}
use Rattle.loop_expand.proofs.FlatLoops.{loopless_both}
use Rattle.loop_expand.proofs.FlatWords.{input_count, input_types_allowed, out_count, outs_there}
use Rattle.loop_expand.proofs.FlatElements.{elements_sound}
use Rattle.loop_expand.proofs.FlatCount.{element_count_is}

-- the flat program has at most 2^17 raw words, reads and operations
abbrev pub IsSmall : flat.Program → Type 0
IsSmall f = sum_by (λ (x : flat.Element). size_of_body x.body) f.elems ≤ 2 ^ 17

module _ (p : Program) (checked : IsChecked p) (es : Elements) (made : IsExpansion p es) (f : flat.Program)
    (flat_of : IsFlatOf p es f) where
  -- the flat program has a delay-free loop exactly where the program has one
  pub flat_loopless : HasNoDelaylessLoop p ↔ IsFlatLoopless f
  flat_loopless =
      loopless_both p checked es (numbering p checked es made)
      (distinct_numbers p checked.names checked.positions es made) f flat_of

  -- it breaks no rule if it is small
  pub flat_sound : IsSmall f → IsFlat f
  flat_sound small = record {
    input_count = subst (λ (n : ℕ). IsWithin 1 16 n) (sym (lengths flat_of.inputs)) (input_count p checked);
    inputs = subst (All IsType) (sym flat_of.inputs) (input_types_allowed p checked);
    out_count = out_count p checked es f flat_of;
    outs = outs_there p checked es f flat_of;
    element_count = element_count_is p checked es made f flat_of;
    elements = elements_sound p checked es f flat_of (numbering p checked es made);
    size = small;
  }
    where
      lengths : {xs ys : _} → xs ≡ ys → length {A = SigType} xs ≡ length ys
      lengths e = cc e

  -- so a checked program without a delay-free loop has one solution
  pub one_solution : IsSmall f
      → HasNoDelaylessLoop p
      → (stream : Rows)
      → IsStream p stream
      → (words : Words) × IsOneSolution p stream words
  one_solution small loopless stream rows =
      program_solution p checked es made f flat_of stream rows (flat_sound small) (flat_loopless.0 loopless)
