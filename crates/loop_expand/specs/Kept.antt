-- What it is for the flat program to have the solutions of the program.
use Rattle.std.specs.Prelude.{◌≡◌, ℕ, length, ℤ}
use Rattle.lists.specs.Rows.{Rows}
use Rattle.recurrences.specs.Systems.{System}
use Rattle.recurrences.specs.Kept.{KeepsAllSolutions}
use Rattle.silage_syntax.specs.Tree.{Program}
use Rattle.silage_syntax.specs.Manifests.{max_delay}
use Rattle.silage_meaning.specs.Instances.{Element, IsElement}
use Rattle.silage_meaning.specs.Value.{Words}
use Rattle.silage_meaning.specs.Solves.{Source, IsDefined, Gives, IsInitial, IsSample, out}
use Rattle.silage_meaning.specs.Rules.{SourceReads}
use Rattle.element_rules.specs.declared.elements.Elements.{Elements}
use Rattle.signal_graph.specs.Flat as flat
use Rattle.signal_graph.specs.Values as flat_words
use Rattle.signal_graph.specs.FlatSolves.{flat_system, flat_out}
use Rattle.element_rules.specs.Numbers.{IsNumberOf}

-- the equations of a program as a system of recurrence equations between its elements
abbrev pub program_system : Program → Rows → System Element ℤ
program_system p stream = record {
  IsElement = IsElement p;
  past = max_delay;
  samples = length stream;
  Starts = IsInitial p;
  Gives = λ e n words v. (source : Source) → IsDefined p e source → Gives p stream words n source v;
  Reads = λ e d ago. (source : Source) × IsDefined p e source × SourceReads source d ago;
}

-- each element has the same words in the program and, by its number, in the flat program
abbrev pub HaveSameWords : Elements → Rows → Words → flat_words.Words → Type 0
HaveSameWords es stream words numbered =
    (k : ℕ) (e : Element) (n : ℤ) → IsNumberOf es k e → IsSample (length stream) n → numbered k n ≡ words e n

-- Over the stream, the solutions of the program and of the flat program correspond one to one, with the same words; and
-- where words are the same, so are the output rows.
pub record KeepsSolutions (p : Program) (es : Elements) (f : flat.Program) (stream : Rows) : Type 0 where
  pub solutions : KeepsAllSolutions (program_system p stream) (flat_system f stream) (HaveSameWords es stream)
  pub outputs : (words : Words) (numbered : flat_words.Words)
      → HaveSameWords es stream words numbered
      → out p words (length stream) ≡ flat_out f numbered (length stream)
