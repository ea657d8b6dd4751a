-- The unfolded program: one sample of it is a frame of the program.
--
-- It has an element for each phase and each element of the program. Its words in a frame are those that the element has
-- at the samples of that phase.
use Rattle.std.specs.Prelude.{◌≡◌, ℕ, ◌+◌, ◌*◌, ◌/◌, ◌%◌, ◌<◌, ◌==◌, nat_lt, ◌&&◌, if◌then◌else◌, List, map, length, ℤ}
use Rattle.std.specs.Prelude.{pos, slice_index_or, filter}
use Rattle.signal_graph.specs.Flat.{Expr, raw, read, calculation, Parts, no_part, part, Body, word, value, Element}
use Rattle.signal_graph.specs.Flat.{Program}
use Rattle.signal_graph.specs.FlatSolves.{element_of}
use Rattle.rate_unfold.specs.Frames.{Rates, is_slow, place, frame, frame_types}

-- of m phases, the sample that is k samples before phase j of a frame is phase p, d frames before: j - k = p - d * m
pub record IsBefore (m j k p d : ℕ) : Type 0 where
  pub phase : p < m
  pub samples : j + d * m ≡ p + k

-- the number of element e in phase j, where there are so many elements
abbrev pub in_phase : (elements j e : ℕ) → ℕ
in_phase elements j e = j * elements + e

-- the second expression has in a frame the value that the first has at the sample of phase j
module _ (m elements j : ℕ) where
  abbrev mutual
    pub IsExprInPhase : Expr → Expr → Type 0
    IsExprInPhase (raw w) (raw v) = v ≡ w
    IsExprInPhase (read e k) (read c d) = (p : ℕ) × IsBefore m j k p d × (c ≡ in_phase elements p e)
    IsExprInPhase (calculation o fmt parts) (calculation q form others) =
        (q ≡ o) × (form ≡ fmt) × ArePartsInPhase parts others
    IsExprInPhase _ _ = ⊥

    pub ArePartsInPhase : Parts → Parts → Type 0
    ArePartsInPhase no_part no_part = Unit {0}
    ArePartsInPhase (part x rest) (part y others) = IsExprInPhase x y × ArePartsInPhase rest others
    ArePartsInPhase _ _ = ⊥

-- what stands for input word i in phase j: its place in the frame row, or 0 for a slow word after phase 0
abbrev pub word_in_phase : Rates → (j i : ℕ) → Body
word_in_phase r j i =
    if is_slow r.up i && nat_lt 0 j then value (raw (pos 0)) else word (place r.phases r.up i + j)

abbrev pub IsBodyInPhase : Rates → (elements j : ℕ) → Body → Body → Type 0
IsBodyInPhase r elements j (word i) body = body ≡ word_in_phase r j i
IsBodyInPhase r elements j (value x) (value y) = IsExprInPhase r.phases elements j x y
IsBodyInPhase r elements j (value x) (word i) = ⊥

-- the initial values of an element in phase j: that at sample -k is at frame -d, where -k = j - d * m
abbrev pub inits_in_phase : (m j : ℕ) → List (ℕ × ℤ) → List (ℕ × ℤ)
inits_in_phase m j inits =
    map (λ (i : ℕ × ℤ). ((j + i.0) / m, i.1)) (filter (λ (i : ℕ × ℤ). (j + i.0) % m == 0) inits)

pub record IsElementInPhase (r : Rates) (elements j : ℕ) (e unfolded : Element) : Type 0 where
  pub ty : unfolded.ty ≡ e.ty
  pub body : IsBodyInPhase r elements j e.body unfolded.body
  pub inits : unfolded.inits ≡ inits_in_phase r.phases j e.inits

-- the program is unfolded to frames
pub record IsUnfolded (r : Rates) (p unfolded : Program) : Type 0 where
  pub inputs : unfolded.inputs ≡ frame_types r.phases r.up p.inputs
  pub count : length unfolded.elems ≡ r.phases * length p.elems
  pub elements : (j e : ℕ)
      → j < r.phases
      → e < length p.elems
      → IsElementInPhase r (length p.elems) j (element_of p e) (element_of unfolded (in_phase (length p.elems) j e))
  pub outs : unfolded.outs
      ≡ frame r.phases r.down (length p.outs) (λ i j. in_phase (length p.elems) j (slice_index_or p.outs i 0))
