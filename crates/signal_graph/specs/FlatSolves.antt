-- What it is to solve the equations of a flat program over a stream of input rows.
use Rattle.std.specs.Prelude.{ℕ, ◌<◌, [], map, length, slice_index_or, ℤ, pos}
use Rattle.std.specs.List.{range_with_len}
use Rattle.lists.specs.Rows.{Rows}
use Rattle.fix_word.specs.declared.types.SigType.TheVariants as sig
use Rattle.recurrences.specs.Systems.{System, Solves, IsOneSolution, HasNoDelaylessLoop}
use Rattle.signal_graph.specs.Flat.{Element, Program, word}
use Rattle.signal_graph.specs.Values.{Words, body_value, BodyReads}
use Rattle.signal_graph.specs.Numbered.{numbered}

-- what stands in the place of an element that is not there
abbrev pub no_element : Element
no_element = record { ty = sig.Bool; body = word 0; inits = [] }

-- element e
abbrev pub element_of : Program → ℕ → Element
element_of p e = slice_index_or p.elems e no_element

abbrev pub IsElementNumber : Program → ℕ → Type 0
IsElementNumber p e = e < length p.elems

-- element e reads element d, this many samples ago
abbrev pub ElementReads : Program → (e d ago : ℕ) → Type 0
ElementReads p e d ago = BodyReads (element_of p e).body d ago

-- no element of the program depends on itself without a delay
abbrev pub IsFlatLoopless : Program → Type 0
IsFlatLoopless p = HasNoDelaylessLoop (ElementReads p) (IsElementNumber p)

-- the equations: an element gives the value of its body
abbrev pub flat_system : Program → Rows → System ℕ ℤ
flat_system p stream =
    numbered (length p.elems) (length stream) (λ e. (element_of p e).inits)
    (λ e n words. body_value stream words n (element_of p e).body) (ElementReads p)

abbrev pub FlatSolves : Program → Rows → Words → Type 0
FlatSolves p stream words = Solves (flat_system p stream) words

abbrev pub IsOneFlatSolution : Program → Rows → Words → Type 0
IsOneFlatSolution p stream words = IsOneSolution (flat_system p stream) words

-- the output rows of the samples 0 to count - 1
abbrev pub flat_out : Program → Words → (count : ℕ) → Rows
flat_out p words count = map (λ n. map (λ (e : ℕ). words e (pos n)) p.outs) (range_with_len 0 count)
