-- Why a program is not unfolded.
use Rattle.std.specs.Prelude.{◌≡◌, ℕ, ◌+◌, ◌*◌, ◌<◌, ◌≤◌, ◌⊎◌, nat_le, List, length, find, sum_by, Option, Some, None}
use Rattle.rate_faults.specs.declared.FrameFault.{FrameFault}
use Rattle.rate_faults.specs.declared.FrameFault.TheVariants.{Word, Ports, Weight, Memory}
use Rattle.signal_graph.specs.Flat.{Element, Program}
use Rattle.signal_graph.specs.Expressions.{operation_count_of_body}
use Rattle.rate_unfold.specs.Frames.{Rates, place}

-- the first of these numbers that is none of so many words
abbrev pub unknown : (count : ℕ) → List ℕ → Option ℕ
unknown count words = find (λ (j : ℕ). nat_le count j) words

abbrev pub or_else : Option ℕ → Option ℕ → Option ℕ
or_else None second = second
or_else (Some j) second = Some j

-- the first number of `down` that is no output word, or else the first of `up` that is no input word
abbrev pub unknown_word : Rates → Program → Option ℕ
unknown_word r p = or_else (unknown (length p.outs) r.down) (unknown (length p.inputs) r.up)

-- how many input words and output words a frame row has
abbrev pub frame_inputs : Rates → Program → ℕ
frame_inputs r p = place r.phases r.up (length p.inputs)

abbrev pub frame_outs : Rates → Program → ℕ
frame_outs r p = place r.phases r.down (length p.outs)

abbrev pub HasManyWords : Rates → Program → Type 0
HasManyWords r p = (16 < frame_inputs r p) ⊎ (16 < frame_outs r p)

pub record HasFewWords (r : Rates) (p : Program) : Type 0 where
  pub inputs : frame_inputs r p ≤ 16
  pub outs : frame_outs r p ≤ 16

abbrev pub operations_of : Program → ℕ
operations_of p = sum_by (λ (element : Element). operation_count_of_body element.body) p.elems

-- the elements and operations of the unfolded program
abbrev pub weight : Rates → Program → ℕ
weight r p = r.phases * (length p.elems + operations_of p)

abbrev pub max_weight : ℕ
max_weight = 8192

-- the fault is the first one that there is, in the order of the rows; to be out of memory is none
abbrev pub IsFrameFault : Rates → Program → FrameFault → Type 0
IsFrameFault r p (Word j) = unknown_word r p ≡ Some j
IsFrameFault r p Ports = (unknown_word r p ≡ None) × HasManyWords r p
IsFrameFault r p Weight = (unknown_word r p ≡ None) × HasFewWords r p × (max_weight < weight r p)
IsFrameFault r p Memory = ⊥

pub record HasNoFrameFault (r : Rates) (p : Program) : Type 0 where
  pub words : unknown_word r p ≡ None
  pub few : HasFewWords r p
  pub light : weight r p ≤ max_weight
