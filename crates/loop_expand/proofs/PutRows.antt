-- Rows that are put one after another, each in the solutions over the rows so far, are the output rows of the program.
use Rattle.std.proofs.Common.{◌≡◌, refl, sym, ◌∙◌, ap, ap₂, arith, ℕ, List, [], ◌∷◌, ◌++◌, length, length-append, ℤ}
use Rattle.std.proofs.lemmas.List.FromFn.{map-range_with_len_more}
use Rattle.lists.specs.Rows.{Rows}
use Rattle.silage_syntax.specs.Tree.{Program}
use Rattle.silage_meaning.specs.Value.{Words}
use Rattle.silage_meaning.specs.Solves.{Solves, IsStream, out}
use Rattle.signal_graph.specs.GraphSolves.{graph_out, out_row, GraphSolves}
use Rattle.signal_graph.specs.Values as numbered
use Rattle.signal_graph.specs.declared.graph.Graph.{Graph}
use Rattle.signal_graph.proofs.Prefix.{solves_before}
use Rattle.loop_expand.specs.KeepsProgram.{KeepsProgramSolutions}
use Rattle.loop_expand.proofs.ProgramSystem.{solves_system}

-- the rows are the output rows of each solution of the graph over the stream
abbrev pub AreOutputRows : Graph → Rows → Rows → Type 0
AreOutputRows g stream put =
    (words : numbered.Words) → GraphSolves g stream words → put ≡ graph_out g words (length stream)

-- the row is the output row of the sample that comes, in each solution over the stream with this row added
abbrev pub IsNextRow : Graph → Rows → (row put : List ℤ) → Type 0
IsNextRow g stream row put =
    (words : numbered.Words) → GraphSolves g (stream ++ row ∷ []) words → put ≡ out_row g words (length stream)

module _ (g : Graph) where
  pub no_rows : AreOutputRows g [] []
  no_rows words solves = refl

  pub next_row : (stream put : Rows) (row more : List ℤ)
      → AreOutputRows g stream put
      → IsNextRow g stream row more
      → AreOutputRows g (stream ++ row ∷ []) (put ++ more ∷ [])
  next_row stream put row more are is words solves =
      ap₂ (λ (xs : Rows) (x : List ℤ). xs ++ x ∷ []) (are words (solves_before g stream (row ∷ []) words solves))
      (is words solves)
      ∙ sym (map-range_with_len_more (out_row g words) 0 (length stream) (length stream) (omega arith))
      ∙ ap (λ (n : ℕ). graph_out g words n) (sym (length-append stream (row ∷ [])))

-- they are those of the program
pub rows_of_program : (p : Program) (g : Graph)
    → KeepsProgramSolutions p g
    → (stream : Rows)
    → IsStream p stream
    → (put : Rows)
    → AreOutputRows g stream put
    → (words : Words)
    → Solves p stream words
    → put ≡ out p words (length stream)
rows_of_program p g keeps stream rows put are words solves =
    let (its, one, equal) = (keeps.solutions stream rows).forth words ((solves_system p stream words).0 solves) in
    are its one.solves ∙ equal
