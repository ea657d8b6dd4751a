-- The output rows of the unfolded program are the frame rows of those of the program.
use Rattle.std.proofs.Common.{◌≡◌, ℕ, ◌+◌, ◌*◌, ◌/◌, ◌<◌, ◌≤◌, List, [], length, map, sym, ap, ◌∙◌}
use Rattle.std.proofs.Common.{arith, subst}
use Rattle.std.specs.Prelude.{ℤ, pos, slice_index_or}
use Rattle.std.specs.List.{range_with_len}
use Rattle.std.proofs.lemmas.List.{get_or-map}
use Rattle.std.proofs.lemmas.List.FromFn.{length-map-range_with_len, get_or-map-range_with_len}
use Rattle.std.proofs.lemmas.Nat.{mul-add-lt}
use Rattle.std.proofs.Math.Nat.{mul_comm}
use Rattle.lists.specs.Rows.{Rows}
use Rattle.lists.proofs.Ranges.{map_same}
use Rattle.signal_graph.specs.Flat.{Program}
use Rattle.signal_graph.specs.FlatRules.{IsFlat}
use Rattle.signal_graph.specs.Values.{Words}
use Rattle.signal_graph.specs.FlatSolves.{flat_out}
use Rattle.rate_unfold.specs.Frames.{Rates, places_of, word_of, frame_row, frame_out}
use Rattle.rate_unfold.specs.Unfolded.{in_phase}
use Rattle.rate_unfold.specs.Private.Unfolding.{unfolded}
use Rattle.rate_unfold.proofs.FrameRows.{frame_same, map_frame, few_places}
use Rattle.rate_unfold.proofs.FrameWords.{AreFramed}
use Rattle.rate_unfold.proofs.UnfoldedInits.{whole}

module _ (r : Rates) (p : Program) (sound : IsFlat p) (some : 1 ≤ r.phases) (samples : ℕ) (words others : Words)
    (are : AreFramed r.phases (length p.elems) samples words others) (count : ℕ) (within : count ≤ samples) where
  abbrev m : ℕ
  m = r.phases

  abbrev rows : Rows
  rows = flat_out p words (count * m)

  length_rows : length rows ≡ count * m
  length_rows = length-map-range_with_len (λ n. map (λ (e : ℕ). words e (pos n)) p.outs) 0 (count * m)

  word_in_row : (n j i : ℕ)
      → n < count
      → j < m
      → i < length p.outs
      → word_of rows (n * m + j) i ≡ words (slice_index_or p.outs i 0) (pos (n * m + j))
  word_in_row n j i less inside there =
      let below : n * m + j < count * m =
      subst (λ (k : ℕ). n * m + j < k) (mul_comm m count) (mul-add-lt n m j count less inside) in
      ap (λ (row : List ℤ). slice_index_or row i (pos 0))
      (get_or-map-range_with_len (λ n. map (λ (e : ℕ). words e (pos n)) p.outs) 0 (count * m) (n * m + j) (n * m + j) []
      below (omega arith))
      ∙ get_or-map (λ (e : ℕ). words e (pos (n * m + j))) p.outs i 0 (pos 0) there

  row_same : (n : ℕ)
      → n < count
      → map (λ (e : ℕ). others e (pos n)) (unfolded r p).outs ≡ frame_row r (length p.outs) rows n
  row_same n less =
      map_frame (λ (e : ℕ). others e (pos n)) m r.down
      (λ i j. in_phase (length p.elems) j (slice_index_or p.outs i 0)) (length p.outs)
      ∙ frame_same m r.down (λ i j. others (in_phase (length p.elems) j (slice_index_or p.outs i 0)) (pos n))
      (λ i j. word_of rows (n * m + j) i) (length p.outs)
      (λ i j there in_it.
      let inside : j < m = inside_of i j in_it in
      are.present j (slice_index_or p.outs i 0) n inside (sound.outs i 0 there) (omega (arith, within, less))
      ∙ sym (word_in_row n j i less inside there))
    where
      inside_of : (i j : ℕ) → j < places_of m r.down i → j < m
      inside_of i j in_it = let few = few_places m r.down i some in omega (arith, few, in_it)

  pub out_rows : flat_out (unfolded r p) others count ≡ frame_out r (length p.outs) rows
  out_rows =
      map_same (λ n. map (λ (e : ℕ). others e (pos n)) (unfolded r p).outs) (frame_row r (length p.outs) rows) 0 count
      (λ n low less. row_same n (omega (arith, less)))
      ∙ ap (λ (k : ℕ). map (frame_row r (length p.outs) rows) (range_with_len 0 k))
      (sym (ap (λ (k : ℕ). k / m) length_rows ∙ (whole m count some).0))
