-- The value of an element in a phase is the one at the sample of the phase.
use Rattle.std.proofs.Common.{◌≡◌, ℕ, ◌+◌, ◌*◌, ◌<◌, List, [], ◌∷◌, length, get_or, map, refl, sym, ap, ap₂}
use Rattle.std.proofs.Common.{◌∙◌, arith, Bool, true, false, ◌&&◌, if◌then◌else◌}
use Rattle.std.specs.Prelude.{ℤ, pos, nat_lt, slice_index_or}
use Rattle.std.specs.List.{range_with_len}
use Rattle.std.proofs.lemmas.Option.{slice_get_within}
use Rattle.std.proofs.lemmas.List.FromFn.{length-map-range_with_len, get_or-map-range_with_len}
use Rattle.lists.specs.Rows.{Rows}
use Rattle.fix_word.specs.declared.types.SigType.{SigType}
use Rattle.signal_graph.specs.Flat.{Expr, raw, read, calculation, Parts, no_part, part, Body, word, value, Program}
use Rattle.signal_graph.specs.FlatRules.{IsExpr, AreExprs, IsBodyOf}
use Rattle.signal_graph.specs.Values.{Words, result, value_of, values_of, body_value, input_word}
use Rattle.rate_unfold.specs.Frames.{Rates, is_slow, place, fast_word, fast_row, fast}
use Rattle.rate_unfold.specs.Unfolded.{word_in_phase}
use Rattle.rate_unfold.specs.Private.Unfolding.{expr_in_phase, parts_in_phase, body_in_phase, frames_before}
use Rattle.rate_unfold.specs.Private.Unfolding.{phase_before}
use Rattle.rate_unfold.proofs.Blocks.{length_blocks, block_at}
use Rattle.rate_unfold.proofs.Samples.{is_before}
use Rattle.rate_unfold.proofs.FrameWords.{AreFramed, read_same}

module _ (r : Rates) (count : ℕ) (frames : Rows) where
  pieces : (row : List ℤ) → length (map (fast_row r count row) (range_with_len 0 r.phases)) ≡ r.phases
  pieces row = length-map-range_with_len (fast_row r count row) 0 r.phases

  pub length_fast : length (fast r count frames) ≡ length frames * r.phases
  length_fast =
      length_blocks (λ (row : List ℤ). map (fast_row r count row) (range_with_len 0 r.phases)) r.phases pieces frames

  pub fast_row_at : (n j : ℕ) (d : List ℤ)
      → n < length frames
      → j < r.phases
      → get_or (fast r count frames) (n * r.phases + j) d ≡ fast_row r count (get_or frames n []) j
  fast_row_at n j d less inside =
      block_at (λ (row : List ℤ). map (fast_row r count row) (range_with_len 0 r.phases)) r.phases pieces frames n j []
      d
      less inside
      ∙ get_or-map-range_with_len (fast_row r count (get_or frames n [])) 0 r.phases j j d inside (omega arith)

  pub fast_word_at : (n j i : ℕ)
      → n < length frames
      → j < r.phases
      → i < count
      → input_word (fast r count frames) (n * r.phases + j) i ≡ fast_word r (slice_index_or frames n []) i j
  fast_word_at n j i less inside there =
      ap (λ (row : List ℤ). slice_index_or row i (pos 0)) (fast_row_at n j [] less inside)
      ∙ get_or-map-range_with_len (λ k. fast_word r (get_or frames n []) k j) 0 count i i (pos 0) there (omega arith)

module _ (p : Program) (m samples : ℕ) (words others : Words) (are : AreFramed m (length p.elems) samples words others)
    (j n : ℕ) (inside : j < m) (less : n < samples) where
  mutual
    pub value_same : (x : Expr)
        → IsExpr p x
        → value_of others n (expr_in_phase m (length p.elems) j x) ≡ value_of words (n * m + j) x
    value_same (raw w) is = refl
    value_same (read e k) is =
        read_same m (length p.elems) samples words others are j n e k (phase_before m j k) (frames_before m j k) inside
        less is.element is.delay (is_before m j k inside)
    value_same (calculation o fmt parts) is = ap (result o fmt) (values_same parts is.1)

    values_same : (parts : Parts)
        → AreExprs p parts
        → values_of others n (parts_in_phase m (length p.elems) j parts) ≡ values_of words (n * m + j) parts
    values_same no_part are_parts = refl
    values_same (part x rest) are_parts =
        ap₂ (λ (v : ℤ) (vs : List ℤ). v ∷ vs) (value_same x are_parts.0) (values_same rest are_parts.1)

module _ (r : Rates) (p : Program) (frames : Rows) (words others : Words)
    (are : AreFramed r.phases (length p.elems) (length frames) words others)
    (j n : ℕ) (inside : j < r.phases) (less : n < length frames) where
  word_same : (i : ℕ)
      → body_value frames others n (word_in_phase r j i) ≡ fast_word r (slice_index_or frames n []) i j
  word_same i = by (is_slow r.up i && nat_lt 0 j)
    where
      by : (b : Bool)
          → body_value frames others n (if b then value (raw (pos 0)) else word (place r.phases r.up i + j))
          ≡ (if b then pos 0 else slice_index_or (slice_index_or frames n []) (place r.phases r.up i + j) (pos 0))
      by true = refl
      by false = refl

  pub body_same : (ty : SigType) (body : Body)
      → IsBodyOf p ty body
      → body_value frames others n (body_in_phase r (length p.elems) j body)
      ≡ body_value (fast r (length p.inputs) frames) words (n * r.phases + j) body
  body_same ty (word i) is =
      word_same i
      ∙ sym (fast_word_at r (length p.inputs) frames n j i less inside (slice_get_within p.inputs i ty is))
  body_same ty (value x) is =
      value_same p r.phases (length frames) words others are j n inside less x is.sound
