-- Registers that are not written for some cycles keep their labels; what is noted of them, take by take.
use Rattle.std.proofs.Common.{◌≡◌, ◌∙◌, ℕ, zero, suc, ◌+◌, ◌-◌, ◌<◌, ◌≤◌, ◌⊎◌, refl, sym, ap, subst, arith, inl}
use Rattle.std.proofs.Common.{inr, below_more}
use Rattle.std.proofs.Common.{Bool, true, false, cond, List, [], ◌∷◌, Some, None, length, take, find, ◌==◌}
use Rattle.std.specs.List.{All}
use Rattle.std.specs.Prelude.{slice_set}
use Rattle.std.proofs.lemmas.Bool.{cases_eq, cases_lt}
use Rattle.std.proofs.lemmas.List.{length-set, get_or-set_same, get_or-set_other}
use Rattle.std.proofs.lemmas.List.Elements.{All-contains, All-more, All-tail}
use Rattle.micro_image.specs.declared.image.Image.{Image}
use Rattle.micro_image.specs.declared.image.Issue.{Issue}
use Rattle.micro_image.specs.declared.image.Take.{Take}
use Rattle.micro_image.specs.Fields.{nth}
use Rattle.micro_image.specs.Log.{Register}
use Rattle.plan_soundness.proofs.Elements.{find_among, Contains-from_In}
use Rattle.plan_soundness.proofs.Writes.{same_sound}
use Rattle.image_labels.specs.declared.label.Certificate.{Certificate}
use Rattle.image_labels.specs.Labels.{is_into, word_in, issued_in, taken_label, register_label}
use Rattle.image_labels.specs.Private.Written.{AreElsewhere, IsUnwritten, place_of, AreUnwritten, AreNoted, written_at}
use Rattle.image_labels.specs.Private.Written.{AreReadSince, AreAllReadSince}

-- what stands past the end of takes
abbrev pub no_take : Take
no_take = record { port = record { unit = 0; port = 0 }; bus = 0; reg = 0 }

none_found : {A : Type 0} (test : A → Bool) (xs : List A) → All (λ x. test x ≡ false) xs → find test xs ≡ None
none_found test [] all = refl
none_found test (x ∷ xs) all =
    ap (λ b. cond b (Some x) (find test xs)) (all 0 x (omega arith))
    ∙ none_found test xs (All-tail (λ x. test x ≡ false) x xs all)

module _ (image : Image) (certificate : Certificate) (u p r : ℕ) where
  kept : (at more : ℕ)
      → IsUnwritten image u p r at (at + more)
      → register_label image certificate u p r (at + more) ≡ register_label image certificate u p r at
  kept at zero not = ap (register_label image certificate u p r) (let e : at + 0 ≡ at = omega arith in e)
  kept at (suc more) not =
      ap (register_label image certificate u p r) (let e : at + suc more ≡ suc (at + more) = omega arith in e)
      ∙ ap (λ o. taken_label image certificate (at + more) o (register_label image certificate u p r (at + more)))
      (none_found (is_into u p r) (word_in image (at + more)).takes (not (at + more) (omega arith) (omega arith)))
      ∙ kept at more (λ b from below. not b from (omega (arith, below)))

  -- its label in a cycle is the one that it has since it is not written
  pub label_since : (since c : ℕ)
      → since ≤ c
      → IsUnwritten image u p r since c
      → register_label image certificate u p r since ≡ register_label image certificate u p r c
  label_since since c le not =
      let whole : since + (c - since) ≡ c = omega (arith, le) in
      sym (kept since (c - since) (subst (IsUnwritten image u p r since) (sym whole) not))
      ∙ ap (register_label image certificate u p r) whole

-- nor is it since a later cycle
pub unwritten_later : (image : Image) (u p r since later c : ℕ)
    → since ≤ later
    → IsUnwritten image u p r since c
    → IsUnwritten image u p r later c
unwritten_later image u p r since later c le not = λ b from below. not b (omega (arith, le, from)) below

into_place : (u p r : ℕ) (take : Take)
    → is_into u p r take ≡ true
    → place_of u p r ≡ place_of take.port.unit take.port.port take.reg
into_place u p r take into =
    let same : Register take.port.unit take.port.port take.reg ≡ Register u p r =
    same_sound (Register take.port.unit take.port.port take.reg) (Register u p r) into in
    grind (arith, same)

-- a take into a register of another place is not into this one
elsewhere : (u p r : ℕ) (take : Take) (b : Bool)
    → is_into u p r take ≡ b
    → (place_of u p r ≡ place_of take.port.unit take.port.port take.reg → ⊥)
    → is_into u p r take ≡ false
elsewhere u p r take true is other = absurd (other (into_place u p r take is))
elsewhere u p r take false is other = is

module _ (image : Image) (last : List ℕ) (c : ℕ) (takes : List Take) (i : ℕ) (d : Take) (less : i < length takes)
    (noted : AreNoted image last c (take i takes)) where
  abbrev pub at : ℕ
  at = place_of (nth takes i d).port.unit (nth takes i d).port.port (nth takes i d).reg

  abbrev next : List ℕ
  next = slice_set last at (c + 1)

  inside : (k : ℕ) → k < length next → k < length last
  inside k there = omega (arith, there, length-set last at (c + 1))

  noted_here : (u p r : ℕ) → place_of u p r < length next → place_of u p r ≡ at → nth next (place_of u p r) 0 ≡ c + 1
  noted_here u p r there same =
      subst (λ k. nth (slice_set last k (c + 1)) (place_of u p r) 0 ≡ c + 1) same
      (get_or-set_same last (place_of u p r) (c + 1) 0 (inside (place_of u p r) there))

  before_by : (u p r : ℕ)
      → place_of u p r < length next
      → (place_of u p r ≡ at) ⊎ (place_of u p r ≡ at → ⊥)
      → IsUnwritten image u p r (nth next (place_of u p r) 0) c
  before_by u p r there (inl same) =
      λ b from below. let is = noted_here u p r there same in absurd (omega (arith, from, below, is))
  before_by u p r there (inr other) =
      subst (λ since. IsUnwritten image u p r since c) (sym (get_or-set_other last at (place_of u p r) (c + 1) 0 other))
      (noted.before u p r (inside (place_of u p r) there))

  now_by : (u p r : ℕ)
      → place_of u p r < length next
      → (place_of u p r ≡ at) ⊎ (place_of u p r ≡ at → ⊥)
      → (nth last (place_of u p r) 0 ≡ c + 1) ⊎ AreElsewhere u p r (take i takes)
      → (nth next (place_of u p r) 0 ≡ c + 1) ⊎ AreElsewhere u p r (take (i + 1) takes)
  now_by u p r there (inl same) h = inl (noted_here u p r there same)
  now_by u p r there (inr other) (inl is) =
      inl (get_or-set_other last at (place_of u p r) (c + 1) 0 other ∙ is)
  now_by u p r there (inr other) (inr away) =
      inr (All-more (λ take. is_into u p r take ≡ false) takes i d less away
      (elsewhere u p r (nth takes i d) (is_into u p r (nth takes i d)) refl other))

  -- one take more
  pub noted_more : AreNoted image (slice_set last at (c + 1)) c (take (i + 1) takes)
  noted_more =
      record {
        before = λ u p r there. before_by u p r there (cases_eq (place_of u p r) at);
        now =
            λ u p r there. now_by u p r there (cases_eq (place_of u p r) at)
            (noted.now u p r (inside (place_of u p r) there));
      }

pub noted_none : (image : Image) (last : List ℕ) (c : ℕ) → AreUnwritten image last c → AreNoted image last c []
noted_none image last c not =
    record { before = not; now = λ u p r there. inr (λ k d less. absurd (omega (arith, less))) }

-- all takes of the cycle
pub noted_all : (image : Image) (last : List ℕ) (c : ℕ)
    → AreNoted image last c (word_in image c).takes
    → AreUnwritten image last (c + 1)
noted_all image last c noted u p r there b from below =
    by (noted.now u p r there) (cases_lt b c)
  where
    by : (nth last (place_of u p r) 0 ≡ c + 1) ⊎ AreElsewhere u p r (word_in image c).takes
        → (b < c) ⊎ (c ≤ b)
        → AreElsewhere u p r (word_in image b).takes
    by h (inl less) = noted.before u p r there b from less
    by (inl is) (inr le) = absurd (omega (arith, is, le, from, below))
    by (inr away) (inr le) =
        subst (λ d. AreElsewhere u p r (word_in image d).takes) (let e : c ≡ b = omega (arith, le, below) in e) away

-- a hint on what the issue of a unit reads
pub hint_is : (image : Image) (certificate : Certificate) (count c u p r : ℕ) (issue : Issue)
    → AreAllReadSince image certificate count
    → c < count
    → p < 3
    → issued_in (word_in image c) u ≡ Some issue
    → nth issue.regs p 0 ≡ r
    → IsUnwritten image u p r (written_at certificate c u p) c
hint_is image certificate count c u p r issue reads less port is same =
    let among = find_among (λ (issue : Issue). issue.unit == u) issue (word_in image c).issues is in
    let read : AreReadSince image certificate c issue =
    All-contains (AreReadSince image certificate c) (word_in image c).issues issue (reads c less)
    (Contains-from_In among.0) in
    let on : issue.unit ≡ u = grind (arith, among.1) in
    subst (λ r. IsUnwritten image u p r (written_at certificate c u p) c) same
    (subst (λ u. IsUnwritten image u p (nth issue.regs p 0) (written_at certificate c u p) c) on (read p port))

-- those of the issues of one cycle more
pub reads_more : (image : Image) (certificate : Certificate) (c : ℕ)
    → AreAllReadSince image certificate c
    → All (AreReadSince image certificate c) (word_in image c).issues
    → AreAllReadSince image certificate (c + 1)
reads_more image certificate c reads more =
    below_more (λ d. All (AreReadSince image certificate d) (word_in image d).issues) c reads more
