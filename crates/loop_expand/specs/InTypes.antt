-- The words of a program's solutions are in the types that its signals are declared with.
use Rattle.std.specs.Prelude.{ℕ, List, map, length, All, ℤ}
use Rattle.std.specs.List.{AllZip}
use Rattle.lists.specs.Rows.{Rows}
use Rattle.fix_word.specs.declared.types.SigType.{SigType}
use Rattle.signal_graph.specs.Flat as flat
use Rattle.signal_graph.specs.FlatSolves.{element_of}
use Rattle.silage_syntax.specs.Tree.{Program}
use Rattle.silage_meaning.specs.Instances.{Element, IsElement}
use Rattle.silage_meaning.specs.Types.{IsInType}
use Rattle.silage_meaning.specs.Value.{Words}
use Rattle.silage_meaning.specs.Solves.{Solves, IsSample, IsStream, output_types, out}

-- the type of each output word of a flat program: that of its element
abbrev pub flat_output_types : flat.Program → List SigType
flat_output_types f = map (λ (k : ℕ). (element_of f k).ty) f.outs

-- an output row has a word for each output, in the range of its type
abbrev pub IsOutputRow : Program → List ℤ → Type 0
IsOutputRow p row = AllZip IsInType (output_types p) row

-- Over each stream of valid rows, each word of a solution is in the type of its element, at each sample that has words;
-- so its output rows are rows of the output types.
pub record HasTypedSolutions (p : Program) : Type 0 where
  pub words : (stream : Rows) (words : Words)
      → IsStream p stream
      → Solves p stream words
      → (e : Element) (n : ℤ) (is : IsElement p e)
      → IsSample (length stream) n
      → IsInType is.decl.ty (words e n)
  pub rows : (stream : Rows) (words : Words)
      → IsStream p stream
      → Solves p stream words
      → All (IsOutputRow p) (out p words (length stream))
