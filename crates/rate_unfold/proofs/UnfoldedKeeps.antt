-- The unfolded program keeps all solutions of the program.
use Rattle.std.proofs.Common.{◌≡◌, ℕ, ◌+◌, ◌-◌, ◌*◌, ◌/◌, ◌%◌, ◌<◌, ◌≤◌, ◌⊎◌, inl, inr, length, sym, ap, ap₂}
use Rattle.std.proofs.Common.{◌∙◌, arith, subst}
use Rattle.std.specs.Prelude.{pos, negsuc, ◌+ℤ◌, ◌*ℤ◌, ◌↔◌}
use Rattle.std.proofs.lemmas.Bool.{cases_lt}
use Rattle.std.proofs.lemmas.Nat.{div-mul-add, mod-mul-add}
use Rattle.lists.specs.Rows.{Rows}
use Rattle.recurrences.specs.Systems.{AreSame}
use Rattle.recurrences.specs.Kept.{KeepsAllSolutions}
use Rattle.signal_graph.specs.Rules.{max_delay}
use Rattle.signal_graph.specs.Flat.{Program}
use Rattle.signal_graph.specs.FlatRules.{IsFlat}
use Rattle.signal_graph.specs.Values.{Words}
use Rattle.signal_graph.specs.FlatSolves.{flat_system, FlatSolves}
use Rattle.rate_unfold.specs.Frames.{Rates}
use Rattle.rate_unfold.specs.Unfolded.{in_phase}
use Rattle.rate_unfold.specs.Solutions.{word_at, AreUnfoldedWords, fast_of}
use Rattle.rate_unfold.specs.Private.Unfolding.{unfolded}
use Rattle.rate_unfold.proofs.FrameWords.{AreFramed, framed, unframed, before_zero, word_there, no_word}
use Rattle.rate_unfold.proofs.UnfoldedSolves.{placed, placed_before, few_frames, init_at, far, phase_below, its_place}
use Rattle.rate_unfold.proofs.UnfoldedSolves.{in_unfolded, in_frames, in_stream, forth, back}

module _ (r : Rates) (p : Program) (sound : IsFlat p) (some : 1 ≤ r.phases) (frames : Rows) where
  abbrev size : ℕ
  size = length p.elems

  abbrev m : ℕ
  m = r.phases

  -- the words of the unfolded program by those of the program
  abbrev by_frames : Words → Words
  by_frames words c n = word_at words (c % size) (n *ℤ pos m +ℤ pos (c / size))

  are_by_frames : (words : Words) → AreUnfoldedWords r p frames words (by_frames words)
  are_by_frames words j e n inside there sample =
      ap₂ (λ (d i : ℕ). word_at words d (n *ℤ pos m +ℤ pos i)) (mod-mul-add j size e there) (div-mul-add j size e there)

  -- and back
  abbrev by_samples : Words → Words
  by_samples others e (pos k) = others (in_phase size (k % m) e) (pos (k / m))
  by_samples others e (negsuc k) = others (in_phase size (m - 1 - k % m) e) (negsuc (k / m))

  are_by_samples : (others : Words)
      → FlatSolves (unfolded r p) frames others
      → AreFramed m size (length frames) (by_samples others) others
  are_by_samples others solves = record {
    present = λ j e n inside there less.
        sym (ap₂ (λ (i k : ℕ). others (in_phase size i e) (pos k)) (mod-mul-add n m j inside)
        (div-mul-add n m j inside));
    past = λ j e i inside there less. past_at j e i inside there less (cases_lt (before_zero m j i) max_delay);
  }
    where
      past_at : (j e i : ℕ)
          → j < m
          → e < size
          → i < max_delay
          → (before_zero m j i < max_delay) ⊎ (max_delay ≤ before_zero m j i)
          → others (in_phase size j e) (negsuc i) ≡ word_at (by_samples others) e (negsuc (before_zero m j i))
      past_at j e i inside there less (inl near) =
          let rest : m - 1 - j < m = omega arith in
          let phase : m - 1 - before_zero m j i % m ≡ j =
          ap (λ (k : ℕ). m - 1 - k) (mod-mul-add i m (m - 1 - j) rest) ∙ omega arith in
          sym (word_there (by_samples others) e (before_zero m j i) near
          ∙ ap₂ (λ (q k : ℕ). others (in_phase size q e) (negsuc k)) phase (div-mul-add i m (m - 1 - j) rest))
      past_at j e i inside there less (inr le) =
          solves.past (in_phase size j e) i (in_unfolded r p sound some j e inside there) less
          ∙ init_at r p sound some j e i inside there
          ∙ far r p sound some e (before_zero m j i) there le
          ∙ sym (no_word (by_samples others) e (before_zero m j i) le)

  module _ (x w y z : Words) (a : AreFramed m size (length frames) x y) (b : AreFramed m size (length frames) w z) where
    same_forth : AreSame (flat_system p (fast_of r p frames)) x w → AreSame (flat_system (unfolded r p) frames) y z
    same_forth same = record {
      past = λ c i el less.
          let at = its_place r p sound some c el in
          subst (λ (k : ℕ). y k (negsuc i) ≡ z k (negsuc i)) (sym at.same)
          (past_at (c / size) (c % size) i (phase_below r p sound some c el) at.inside less);
      present = λ c n el less.
          let at = its_place r p sound some c el in
          let inside = phase_below r p sound some c el in
          subst (λ (k : ℕ). y k (pos n) ≡ z k (pos n)) (sym at.same)
          (a.present (c / size) (c % size) n inside at.inside less
          ∙ same.present (c % size) (n * m + c / size) at.inside
          (in_stream r p sound some frames (c / size) n inside less)
          ∙ sym (b.present (c / size) (c % size) n inside at.inside less));
    }
      where
        past_at : (j e i : ℕ)
            → j < m
            → e < size
            → i < max_delay
            → y (in_phase size j e) (negsuc i) ≡ z (in_phase size j e) (negsuc i)
        past_at j e i inside there less =
            a.past j e i inside there less ∙ by (cases_lt (before_zero m j i) max_delay)
            ∙ sym (b.past j e i inside there less)
          where
            by : (before_zero m j i < max_delay) ⊎ (max_delay ≤ before_zero m j i)
                → word_at x e (negsuc (before_zero m j i)) ≡ word_at w e (negsuc (before_zero m j i))
            by (inl near) =
                word_there x e (before_zero m j i) near ∙ same.past e (before_zero m j i) there near
                ∙ sym (word_there w e (before_zero m j i) near)
            by (inr le) = no_word x e (before_zero m j i) le ∙ sym (no_word w e (before_zero m j i) le)

    same_back : AreSame (flat_system (unfolded r p) frames) y z → AreSame (flat_system p (fast_of r p frames)) x w
    same_back same = record {
      past = λ e k there less.
          let at = placed_before m k some in
          subst (λ (t : ℕ). x e (negsuc t) ≡ w e (negsuc t)) (sym at.same)
          (past_at (m - 1 - k % m) e (k / m) at.inside there (subst (λ (t : ℕ). t < max_delay) at.same less));
      present = λ e k there less.
          let at = placed m k some in
          let inside = in_frames r p sound some frames k less in
          subst (λ (t : ℕ). x e (pos t) ≡ w e (pos t)) (sym at.same)
          (sym (a.present (k % m) e (k / m) at.inside there inside)
          ∙ same.present (in_phase size (k % m) e) (k / m) (in_unfolded r p sound some (k % m) e at.inside there) inside
          ∙ b.present (k % m) e (k / m) at.inside there inside);
    }
      where
        past_at : (j e i : ℕ)
            → j < m
            → e < size
            → before_zero m j i < max_delay
            → x e (negsuc (before_zero m j i)) ≡ w e (negsuc (before_zero m j i))
        past_at j e i inside there near =
            let few = few_frames m (before_zero m j i) i some (omega arith) in
            let short : i < max_delay = omega (arith, few, near) in
            sym (word_there x e (before_zero m j i) near)
            ∙ sym (a.past j e i inside there short)
            ∙ same.past (in_phase size j e) i (in_unfolded r p sound some j e inside there) short
            ∙ b.past j e i inside there short
            ∙ word_there w e (before_zero m j i) near

  pub unfolded_solves : (words others : Words)
      → AreUnfoldedWords r p frames words others
      → FlatSolves p (fast_of r p frames) words ↔ FlatSolves (unfolded r p) frames others
  unfolded_solves words others are =
      let are_framed = framed r p frames words others are in
      (forth r p sound some frames words others are_framed, back r p sound some frames words others are_framed)

  pub unfolded_keeps :
      KeepsAllSolutions (flat_system p (fast_of r p frames)) (flat_system (unfolded r p) frames)
      (AreUnfoldedWords r p frames)
  unfolded_keeps = record {
    forth = λ words solves.
        let are = are_by_frames words in
        (by_frames words, (unfolded_solves words (by_frames words) are).0 solves, are);
    back = λ others solves.
        let are = unframed r p frames (by_samples others) others (are_by_samples others solves) in
        (by_samples others, (unfolded_solves (by_samples others) others are).1 solves, are);
    one = λ x w y z a b. (
      same_forth x w y z (framed r p frames x y a) (framed r p frames w z b),
      same_back x w y z (framed r p frames x y a) (framed r p frames w z b),
    );
  }
