-- The pruned graph of a checked program without a delay-free loop keeps its solutions.
use Rattle.std.proofs.Common.{◌≡◌, sym, subst, ◌∙◌, arith, ◌↔◌, List, [], ◌∷◌, length, ℤ}
use Rattle.std.specs.List.{AllZip}
use Rattle.std.proofs.lemmas.List.Elements.{All-weaker}
use Rattle.lists.specs.Rows.{Rows}
use Rattle.recurrences.specs.Systems.{Signals, System}
use Rattle.recurrences.specs.Kept.{KeepsSolutions}
use Rattle.recurrences.proofs.Kept.{AreEqualThrough, keeps_through, keeps_the_one}
use Rattle.fix_word.specs.declared.types.SigType.{SigType}
use Rattle.fix_word.specs.declared.types.SigType.TheVariants.{Fix, Bool as Truths}
use Rattle.silage_syntax.specs.Tree.{Program}
use Rattle.silage_meaning.specs.Types as meaning
use Rattle.silage_meaning.specs.Value.{Words}
use Rattle.silage_meaning.specs.Solves.{Solves, IsRow, IsStream, input_types, output_types, out}
use Rattle.silage_meaning.proofs.InputRows.{outputs_length}
use Rattle.element_rules.specs.declared.elements.Elements.{Elements}
use Rattle.element_rules.specs.Expansion.{IsExpansion}
use Rattle.signal_graph.specs.Flat as flat
use Rattle.signal_graph.specs.FlatRules.{IsFlat}
use Rattle.signal_graph.specs.FlatSolves.{flat_system, IsFlatLoopless}
use Rattle.signal_graph.specs.GraphOf.{IsGraphOf}
use Rattle.signal_graph.specs.GraphRules.{IsGraph}
use Rattle.signal_graph.specs.GraphSolves.{graph_system, graph_out, GraphSolves}
use Rattle.signal_graph.specs.Keeps.{IsRowOf, IsStreamOf, AreEqualWords as AreEqualNodes, AreKeptWords}
use Rattle.signal_graph.specs.Pruned.{IsPruned}
use Rattle.signal_graph.specs.Rules as graphs
use Rattle.signal_graph.specs.Values as numbered
use Rattle.signal_graph.specs.declared.graph.Graph.{Graph}
use Rattle.signal_graph.proofs.AnySolutions.{graph_out_same}
use Rattle.signal_graph.proofs.GraphKeeps.{graph_keeps}
use Rattle.signal_graph.proofs.GraphLoopless.{graph_is_loopless}
use Rattle.signal_graph.proofs.GraphSound.{graph_is_sound}
use Rattle.signal_graph.proofs.Members.{zip_length}
use Rattle.signal_graph.proofs.OneSolution.{flat_solution}
use Rattle.signal_graph.proofs.PrunedKeeps.{pruned_keeps}
use Rattle.loop_expand.specs.Checked.{IsChecked}
use Rattle.loop_expand.specs.FlatOf.{IsFlatOf}
use Rattle.loop_expand.specs.Kept.{program_system, HaveSameWords}
use Rattle.loop_expand.specs.KeepsProgram.{AreEqualWords, KeepsElementSolutions, HaveEqualRows, KeepsProgramSolutions}
use Rattle.element_rules.specs.Numbers.{IsNumberOf}
use Rattle.loop_expand.proofs.Expanded.{expanded_keeps, program_solution}
use Rattle.loop_expand.proofs.ProgramSystem.{solves_system}
use Rattle.loop_expand.proofs.SmallFlat.{flat_is_sound}

-- solutions that are equal in one sense are equal in each that follows from it
keeps_weaker : {E F A : Type 0} (s : System E A) (t : System F A) (First Second : Signals E A → Signals F A → Type 0)
    → ((x : Signals E A) (y : Signals F A) → First x y → Second x y)
    → KeepsSolutions s t First
    → KeepsSolutions s t Second
keeps_weaker s t First Second follows keeps = record {
  forth = λ x solves. let (y, one, equal) = keeps.forth x solves in (y, one, follows x y equal);
  back = λ y solves. let (x, one, equal) = keeps.back y solves in (x, one, follows x y equal);
}

-- A word is in a type of the program where it is in the type of a graph.
in_type : (ty : SigType) (word : ℤ) → meaning.IsInType ty word → graphs.IsInType ty word
in_type (Fix t) word is = is
in_type Truths word is = is

pub in_type_back : (ty : SigType) (word : ℤ) → graphs.IsInType ty word → meaning.IsInType ty word
in_type_back (Fix t) word is = is
in_type_back Truths word is = is

zip_weaker : {A B : Type 0} (R S : A → B → Type 0)
    → ((x : A) (y : B) → R x y → S x y)
    → (xs : List A) (ys : List B)
    → AllZip R xs ys
    → AllZip S xs ys
zip_weaker R S follows [] [] h = tt
zip_weaker R S follows [] (y ∷ ys) h = absurd h
zip_weaker R S follows (x ∷ xs) [] h = absurd h
zip_weaker R S follows (x ∷ xs) (y ∷ ys) h = (follows x y h.0, zip_weaker R S follows xs ys h.1)

-- the valid rows of a program are those of its input types
pub row_is : (p : Program) (row : List ℤ) → IsRow p row ↔ IsRowOf (input_types p) row
row_is p row = (
  zip_weaker meaning.IsInType graphs.IsInType in_type (input_types p) row,
  zip_weaker graphs.IsInType meaning.IsInType in_type_back (input_types p) row,
)

pub rows_are : (p : Program) (stream : Rows) → IsStream p stream ↔ IsStreamOf (input_types p) stream
rows_are p stream = (
  All-weaker (IsRow p) (IsRowOf (input_types p)) (λ row. (row_is p row).0) stream,
  All-weaker (IsRowOf (input_types p)) (IsRow p) (λ row. (row_is p row).1) stream,
)

module _ (p : Program) (checked : IsChecked p) (es : Elements) (made : IsExpansion p es) (f : flat.Program)
    (flat_of : IsFlatOf p es f) (loopless : IsFlatLoopless f) where
  sound : IsFlat f
  sound = flat_is_sound p checked es made f flat_of

  -- the flat program keeps the solutions of the program
  pub flat_keeps : KeepsElementSolutions p es f
  flat_keeps stream rows =
      let keeps = expanded_keeps p checked es made f flat_of stream rows in
      let (numbered, one) = flat_solution f sound stream loopless in
      keeps_weaker (program_system p stream) (flat_system f stream) (HaveSameWords es stream)
      (AreEqualWords p es f stream)
      (λ words others same. record { elements = same; rows = sym (keeps.outputs words others same) })
      (keeps_the_one (program_system p stream) (flat_system f stream) (HaveSameWords es stream) keeps.solutions
      numbered one)

  module _ (g : Graph) (graph_of : IsGraphOf f g) (h : Graph) (pruned : IsPruned g h) where
    same_inputs : h.inputs ≡ input_types p
    same_inputs = pruned.inputs ∙ graph_of.inputs ∙ flat_of.inputs

    same_outs : h.outs ≡ length (output_types p)
    same_outs =
        let outs = zip_length (IsNumberOf es) f.outs _ flat_of.outs in
        let count = outputs_length p in
        pruned.outs ∙ graph_of.outs ∙ outs ∙ count

    module _ (stream : Rows) (rows : IsStream p stream) where
      through :
          KeepsSolutions (program_system p stream) (graph_system h stream)
          (AreEqualThrough (AreEqualThrough (AreEqualWords p es f stream) (AreEqualNodes f g stream))
          (AreKeptWords g h stream))
      through =
          let of_inputs =
          subst (λ (inputs : List SigType). IsStreamOf inputs stream) (sym flat_of.inputs)
          ((rows_are p stream).0 rows) in
          let first =
          keeps_through (program_system p stream) (flat_system f stream) (graph_system g stream)
          (AreEqualWords p es f stream) (AreEqualNodes f g stream)
          (flat_keeps stream rows) ((graph_keeps f g graph_of sound loopless).solutions stream of_inputs) in
          let prunes =
          pruned_keeps g h (graph_is_sound f g graph_of sound)
          (graph_is_loopless f sound loopless g graph_of) pruned in
          keeps_through (program_system p stream) (graph_system g stream) (graph_system h stream)
          (AreEqualThrough (AreEqualWords p es f stream) (AreEqualNodes f g stream)) (AreKeptWords g h stream)
          first (prunes.solutions stream)

      equal_rows : (words : Words) (others : numbered.Words)
          → AreEqualThrough (AreEqualThrough (AreEqualWords p es f stream) (AreEqualNodes f g stream))
          (AreKeptWords g h stream) words others
          → HaveEqualRows p h stream words others
      equal_rows words others (nodes, (elements, a, b), c) =
          c.rows (length stream) (omega arith) ∙ b.rows (length stream) (omega arith) ∙ a.rows

    -- its pruned graph keeps the solutions of the program
    pub program_keeps : KeepsProgramSolutions p h
    program_keeps = record {
      inputs = same_inputs;
      outs = same_outs;
      one_solution = λ stream rows. program_solution p checked es made f flat_of stream rows sound loopless;
      solutions = λ stream rows. keeps_weaker (program_system p stream) (graph_system h stream) _
          (HaveEqualRows p h stream) (equal_rows stream rows) (through stream rows);
    }

-- Where a graph keeps the solutions of a program, any two have equal rows.
module _ (p : Program) (g : Graph) (sound : IsGraph g) (keeps : KeepsProgramSolutions p g) where
  pub any_rows : (stream : Rows)
      → IsStream p stream
      → (words : Words) (others : numbered.Words)
      → Solves p stream words
      → GraphSolves g stream others
      → graph_out g others (length stream) ≡ out p words (length stream)
  any_rows stream rows words others solves theirs =
      let (its, one, equal) = (keeps.solutions stream rows).forth words ((solves_system p stream words).0 solves) in
      graph_out_same g stream others its sound (one.unique others theirs) (length stream) (omega arith) ∙ equal
