-- Words solve the program exactly where the unfolded ones solve the unfolded program.
use Rattle.std.proofs.Common.{◌≡◌, ℕ, zero, suc, ◌+◌, ◌-◌, ◌*◌, ◌/◌, ◌%◌, ◌<◌, ◌≤◌, ◌⊎◌, inl, inr, length, sym, ap, ◌∙◌}
use Rattle.std.proofs.Common.{arith, subst}
use Rattle.std.specs.Prelude.{pos, negsuc}
use Rattle.std.proofs.lemmas.Bool.{cases_lt}
use Rattle.std.proofs.lemmas.Nat.{div-add-mod', div_below, mod_below, mul-add-lt}
use Rattle.std.proofs.Math.Nat.{mul_comm}
use Rattle.lists.specs.Rows.{Rows}
use Rattle.signal_graph.specs.Rules.{max_delay, word_before}
use Rattle.signal_graph.specs.Flat.{Program}
use Rattle.signal_graph.specs.FlatRules.{IsFlat}
use Rattle.signal_graph.specs.Values.{Words, body_value}
use Rattle.signal_graph.specs.FlatSolves.{no_element, element_of, FlatSolves}
use Rattle.rate_unfold.specs.Frames.{Rates}
use Rattle.rate_unfold.specs.Unfolded.{in_phase}
use Rattle.rate_unfold.specs.Solutions.{word_at, fast_of}
use Rattle.rate_unfold.specs.Private.Unfolding.{unfolded}
use Rattle.rate_unfold.proofs.FrameWords.{AreFramed, before_zero, word_there, no_word}
use Rattle.rate_unfold.proofs.UnfoldedElements.{length_unfolded, element_at}
use Rattle.rate_unfold.proofs.UnfoldedInits.{its_word, none_before}
use Rattle.rate_unfold.proofs.UnfoldedValues.{length_fast, body_same}
use Rattle.rate_unfold.proofs.Samples.{rows_together}

-- the phase and the frame of each sample, and of each before sample 0
pub record IsPlaced (m j n k : ℕ) : Type 0 where
  pub inside : j < m
  pub same : k ≡ n * m + j

pub placed : (m k : ℕ) → 0 < m → IsPlaced m (k % m) (k / m) k
placed m k some = record { inside = mod_below k m some; same = sym (div-add-mod' k m) }

pub record IsPlacedBefore (m j i k : ℕ) : Type 0 where
  pub inside : j < m
  pub same : k ≡ before_zero m j i

pub placed_before : (m k : ℕ) → 0 < m → IsPlacedBefore m (m - 1 - k % m) (k / m) k
placed_before m k some =
    let low = mod_below k m some in
    let split = div-add-mod' k m in
    record { inside = omega arith; same = omega (arith, low, split) }

pub few_frames : (m k i : ℕ) → 0 < m → i * m ≤ k → i ≤ k
few_frames zero k i some le = absurd (omega arith)
few_frames (suc m) k i some le = omega (arith, product m)
  where
    product : (m : ℕ) → i ≤ i * suc m
    product m = grind arith

module _ (r : Rates) (p : Program) (sound : IsFlat p) (some : 1 ≤ r.phases) where
  abbrev size : ℕ
  size = length p.elems

  abbrev m : ℕ
  m = r.phases

  pub init_at : (j e i : ℕ)
      → j < m
      → e < size
      → word_before (element_of (unfolded r p) (in_phase size j e)).inits (i + 1)
      ≡ word_before (element_of p e).inits (before_zero m j i + 1)
  init_at j e i inside there =
      let product : i * m + 1 * m ≡ (i + 1) * m = rows_together i 1 m in
      ap (λ x. word_before x.inits (i + 1)) (element_at r p j e inside there)
      ∙ its_word m j some (i + 1) (before_zero m j i + 1) (omega (arith, product)) (element_of p e).inits

  pub far : (e k : ℕ) → e < size → max_delay ≤ k → word_before (element_of p e).inits (k + 1) ≡ pos 0
  far e k there le =
      none_before (element_of p e).inits (k + 1) (sound.elements e no_element there).inits.samples (omega arith)

  pub some_elements : (c : ℕ) → c < length (unfolded r p).elems → 0 < size
  some_elements c el = positive size (subst (λ (n : ℕ). c < n) (length_unfolded r p) el)
    where
      positive : (n : ℕ) → c < m * n → 0 < n
      positive zero less = absurd (omega arith)
      positive (suc n) less = omega arith

  pub phase_below : (c : ℕ) → c < length (unfolded r p).elems → c / size < m
  phase_below c el = div_below c size m (some_elements c el) (subst (λ (n : ℕ). c < n) (length_unfolded r p) el)

  pub its_place : (c : ℕ) → c < length (unfolded r p).elems → IsPlaced size (c % size) (c / size) c
  its_place c el = placed size c (some_elements c el)

  pub in_unfolded : (j e : ℕ) → j < m → e < size → in_phase size j e < length (unfolded r p).elems
  in_unfolded j e inside there =
      subst (λ (n : ℕ). in_phase size j e < n) (sym (length_unfolded r p)) (below j e inside there)
    where
      below : (j e : ℕ) → j < m → e < size → in_phase size j e < m * size
      below j e inside there =
          subst (λ (n : ℕ). in_phase size j e < n) (mul_comm size m) (mul-add-lt j size e m inside there)

  pub in_stream : (frames : Rows) (j n : ℕ) → j < m → n < length frames → n * m + j < length (fast_of r p frames)
  in_stream frames j n inside less =
      subst (λ (count : ℕ). n * m + j < count) (sym (length_fast r (length p.inputs) frames))
      (subst (λ (count : ℕ). n * m + j < count) (mul_comm m (length frames))
      (mul-add-lt n m j (length frames) less inside))

  pub in_frames : (frames : Rows) (k : ℕ) → k < length (fast_of r p frames) → k / m < length frames
  in_frames frames k less =
      let below : k < length frames * m =
      subst (λ (count : ℕ). k < count) (length_fast r (length p.inputs) frames) less in
      div_below k m (length frames) some below

  module _ (frames : Rows) (words others : Words) (are : AreFramed m size (length frames) words others) where
    gives_same : (j e n : ℕ)
        → j < m
        → e < size
        → n < length frames
        → body_value frames others n (element_of (unfolded r p) (in_phase size j e)).body
        ≡ body_value (fast_of r p frames) words (n * m + j) (element_of p e).body
    gives_same j e n inside there less =
        ap (λ x. body_value frames others n x.body) (element_at r p j e inside there)
        ∙ body_same r p frames words others are j n inside less (element_of p e).ty (element_of p e).body
        (sound.elements e no_element there).body

    pub forth : FlatSolves p (fast_of r p frames) words → FlatSolves (unfolded r p) frames others
    forth solves = record {
      past = λ c i el less.
          let at = its_place c el in
          subst (λ (k : ℕ). others k (negsuc i) ≡ word_before (element_of (unfolded r p) k).inits (i + 1))
          (sym at.same) (past_at (c / size) (c % size) i (phase_below c el) at.inside less);
      present = λ c n el less.
          let at = its_place c el in
          subst (λ (k : ℕ). others k (pos n) ≡ body_value frames others n (element_of (unfolded r p) k).body)
          (sym at.same) (present_at (c / size) (c % size) n (phase_below c el) at.inside less);
    }
      where
        past_at : (j e i : ℕ)
            → j < m
            → e < size
            → i < max_delay
            → others (in_phase size j e) (negsuc i)
            ≡ word_before (element_of (unfolded r p) (in_phase size j e)).inits (i + 1)
        past_at j e i inside there less =
            are.past j e i inside there less ∙ by (cases_lt (before_zero m j i) max_delay)
            ∙ sym (init_at j e i inside there)
          where
            by : (before_zero m j i < max_delay) ⊎ (max_delay ≤ before_zero m j i)
                → word_at words e (negsuc (before_zero m j i))
                ≡ word_before (element_of p e).inits (before_zero m j i + 1)
            by (inl near) =
                word_there words e (before_zero m j i) near ∙ solves.past e (before_zero m j i) there near
            by (inr le) = no_word words e (before_zero m j i) le ∙ sym (far e (before_zero m j i) there le)

        present_at : (j e n : ℕ)
            → j < m
            → e < size
            → n < length frames
            → others (in_phase size j e) (pos n)
            ≡ body_value frames others n (element_of (unfolded r p) (in_phase size j e)).body
        present_at j e n inside there less =
            are.present j e n inside there less
            ∙ solves.present e (n * m + j) there (in_stream frames j n inside less)
            ∙ sym (gives_same j e n inside there less)

    pub back : FlatSolves (unfolded r p) frames others → FlatSolves p (fast_of r p frames) words
    back solves = record {
      past = λ e k there less.
          let at = placed_before m k some in
          subst (λ (t : ℕ). words e (negsuc t) ≡ word_before (element_of p e).inits (t + 1))
          (sym at.same)
          (past_at (m - 1 - k % m) e (k / m) at.inside there (subst (λ (t : ℕ). t < max_delay) at.same less));
      present = λ e k there less.
          let at = placed m k some in
          subst (λ (t : ℕ). words e (pos t) ≡ body_value (fast_of r p frames) words t (element_of p e).body)
          (sym at.same) (present_at (k % m) e (k / m) at.inside there (in_frames frames k less));
    }
      where
        past_at : (j e i : ℕ)
            → j < m
            → e < size
            → before_zero m j i < max_delay
            → words e (negsuc (before_zero m j i)) ≡ word_before (element_of p e).inits (before_zero m j i + 1)
        past_at j e i inside there near =
            let few = few_frames m (before_zero m j i) i some (omega arith) in
            sym (word_there words e (before_zero m j i) near)
            ∙ sym (are.past j e i inside there (omega (arith, few, near)))
            ∙ solves.past (in_phase size j e) i (in_unfolded j e inside there) (omega (arith, few, near))
            ∙ init_at j e i inside there

        present_at : (j e n : ℕ)
            → j < m
            → e < size
            → n < length frames
            → words e (pos (n * m + j)) ≡ body_value (fast_of r p frames) words (n * m + j) (element_of p e).body
        present_at j e n inside there less =
            sym (are.present j e n inside there less)
            ∙ solves.present (in_phase size j e) n (in_unfolded j e inside there) less
            ∙ gives_same j e n inside there less
