-- The flat program of a checked program, by its expansion.
use Rattle.std.proofs.Common.{◌≡◌, subst, [], Some, Ok}
use Rattle.lists.specs.Rows.{Rows}
use Rattle.recurrences.proofs.Kept.{equal_to_one}
use Rattle.fault_order.specs.Private.FirstMet.{first}
use Rattle.fault_order.proofs.TableFaults.{then_parts}
use Rattle.silage_syntax.specs.Tree.{Func, Program}
use Rattle.silage_syntax.specs.Names.{main_of}
use Rattle.silage_meaning.specs.Value.{Words}
use Rattle.silage_meaning.specs.Solves.{IsStream, IsOneSolution}
use Rattle.element_rules.specs.declared.elements.Elements.{Elements}
use Rattle.element_rules.specs.Tables.{at_entry, table_rules}
use Rattle.element_rules.specs.Expansion.{IsExpansion}
use Rattle.element_rules.specs.Numbering.{IsNumbering}
use Rattle.element_rules.specs.ElementRules.{word_rules, instance_table, max_nested, main_table, element_rules}
use Rattle.element_rules.proofs.SoundNames.{names_apart}
use Rattle.element_rules.proofs.PlacedFaults.{elements_pass}
use Rattle.element_rules.proofs.NumberedElements.{is_numbering}
use Rattle.signal_graph.specs.Flat as flat
use Rattle.signal_graph.specs.FlatRules.{IsFlat}
use Rattle.signal_graph.specs.FlatSolves.{flat_system, IsFlatLoopless}
use Rattle.signal_graph.proofs.OneSolution.{flat_solution}
use Rattle.loop_expand.specs.Checked.{IsChecked}
use Rattle.loop_expand.specs.FlatOf.{IsFlatOf}
use Rattle.loop_expand.specs.Kept.{program_system, HaveSameWords, KeepsSolutions}
use Rattle.loop_expand.proofs.ProgramSystem.{one_system}
use Rattle.element_rules.proofs.LoadedElements.{main_there as names_main}
use Rattle.element_rules.proofs.OnceTables.{distinct_numbers}
use Rattle.loop_expand.proofs.Kept.{keeps_solutions}

module _ (p : Program) (checked : IsChecked p) where
  pub main_there : (f : Func) × (main_of p ≡ Some f)
  main_there = names_main p checked.names

  main_ok : (f : Func) → main_of p ≡ Some f → first (table_rules (at_entry []) (instance_table p max_nested f)) ≡ Ok tt
  main_ok f is =
      let all : first (element_rules p) ≡ Ok tt = elements_pass p checked.elements in
      let of_main : first (table_rules (at_entry []) (main_table p (Some f))) ≡ Ok tt =
      subst (λ o. first (table_rules (at_entry []) (main_table p o)) ≡ Ok tt) is all in
      (then_parts (first (table_rules (at_entry []) (instance_table p max_nested f))) (Ok tt)
      (then_parts (first (word_rules f)) _ of_main).1).0

  module _ (es : Elements) (made : IsExpansion p es) where
    pub numbering : IsNumbering p es
    numbering = let m = main_there in is_numbering p (names_apart p checked.names) m.0 m.1 es made (main_ok m.0 m.1)

    module _ (f : flat.Program) (is : IsFlatOf p es f) (stream : Rows) (rows : IsStream p stream) where
      -- the flat program has the solutions of the program
      pub expanded_keeps : KeepsSolutions p es f stream
      expanded_keeps =
          keeps_solutions p checked es numbering (distinct_numbers p checked.names checked.positions es made) f is
          stream rows

      -- so the program has one solution where the flat program has no delay-free loop
      module _ (sound : IsFlat f) (loopless : IsFlatLoopless f) where
        pub program_solution : (words : Words) × IsOneSolution p stream words
        program_solution =
            let (numbered, one) = flat_solution f sound stream loopless in
            let (words, solves, same) = expanded_keeps.solutions.back numbered one.solves in (
              words,
              (one_system p stream words).1 (equal_to_one (program_system p stream) (flat_system f stream)
                  (HaveSameWords es stream) expanded_keeps.solutions words numbered solves same one),
            )
