-- The units are judged as a walk over them and their ends judges them.
use Rattle.std.proofs.Common.{◌≡◌, ℕ, zero, suc, ◌+◌, ◌-◌, ◌<◌, ◌≤◌, true, false, List, [], ◌∷◌, ◌++◌, length, get_or}
use Rattle.std.proofs.Common.{drop, Ok, Err, refl, sym, ap, subst, ◌∙◌, append_assoc, arith}
use Rattle.std.proofs.lemmas.List.{append-nil, drop_more, at_drop_all}
use Rattle.micro_image.specs.declared.image.UnitDesc.{UnitDesc}
use Rattle.micro_file.specs.declared.misread.Misread.TheVariants.{Field}
use Rattle.micro_file.specs.Private.Fields.{◌>>=◌, many_at}
use Rattle.micro_file.specs.Private.FormAt.{FormAt}
use Rattle.micro_file.specs.Private.Units.{unit_at, is_tied, judged, judged_at, some_units_at}
use Rattle.micro_file.specs.Private.Ends.{ends_of, all_judged}
use Rattle.micro_file.proofs.Readers.{bound, ok_is}

module _ (form : FormAt) where
  -- ---- the ends

  -- the end of one more unit
  ends_more : (n : ℕ) (bytes : List ℕ) (unit : UnitDesc) (after : List ℕ)
      → unit_at form bytes ≡ Ok (unit, after)
      → ends_of form (suc n) bytes ≡ length after ∷ ends_of form n after
  unfolding ends_of
  ends_more n bytes unit after e = rw e refl

  -- the step of a loop that notes one more end
  pub ends_go_on : (ends : List ℕ) (count i : ℕ) (bytes : List ℕ) (unit : UnitDesc) (after : List ℕ)
      → i < count
      → unit_at form bytes ≡ Ok (unit, after)
      → (ends ++ length after ∷ []) ++ ends_of form (count - (i + 1)) after ≡ ends ++ ends_of form (count - i) bytes
  ends_go_on ends count i bytes unit after lt e =
      let k : count - i ≡ suc (count - (i + 1)) = omega arith in
      append_assoc ends (length after ∷ []) (ends_of form (count - (i + 1)) after)
      ∙ ap (λ (t : List ℕ). ends ++ t)
      (sym (ap (λ (n : ℕ). ends_of form n bytes) k ∙ ends_more (count - (i + 1)) bytes unit after e))

  -- nothing is left to note
  pub ends_done : (ends : List ℕ) (count i : ℕ) (bytes : List ℕ)
      → count ≤ i
      → ends ++ ends_of form (count - i) bytes ≡ ends
  unfolding ends_of
  ends_done ends count i bytes le =
      let k : count - i ≡ 0 = omega arith in
      ap (λ (n : ℕ). ends ++ ends_of form n bytes) k ∙ append-nil ends

  -- ---- a walk over the units and their ends

  module _ (units xs : List UnitDesc) (ends : List ℕ) (i : ℕ) (x : UnitDesc) (d : ℕ)
      (same : length ends ≡ length xs) (lt : i < length xs) (is : x ≡ get_or xs i x) where
    parted : all_judged form units (drop i xs) (drop i ends)
        ≡ (judged form units x (get_or ends i d) >>= λ _. all_judged form units (drop (i + 1) xs) (drop (i + 1) ends))
    unfolding all_judged
    parted =
        let front : drop i xs ≡ x ∷ drop (i + 1) xs =
        drop_more xs i x lt ∙ ap (λ (y : UnitDesc). y ∷ drop (i + 1) xs) (sym is) in
        rw (front, drop_more ends i d (omega arith)) refl

    pub passed_one : is_tied units x ≡ true
        → all_judged form units (drop i xs) (drop i ends) ≡ all_judged form units (drop (i + 1) xs) (drop (i + 1) ends)
    passed_one tied = parted ∙ rw tied refl

    pub blamed_one : is_tied units x ≡ false
        → all_judged form units (drop i xs) (drop i ends) ≡ Err (Field (get_or ends i d + form.ram_length))
    blamed_one loose = parted ∙ rw loose refl

  pub passed_all : (units xs : List UnitDesc) (ends : List ℕ) (i : ℕ)
      → length xs ≤ i
      → all_judged form units (drop i xs) ends ≡ Ok tt
  unfolding all_judged
  passed_all units xs ends i le = at_drop_all (λ (ys : List UnitDesc). all_judged form units ys ends) xs i le

  -- ---- that walk is the judgement

  module _ (units : List UnitDesc) where
    judged_more : (n : ℕ) (bytes : List ℕ) (unit : UnitDesc) (after : List ℕ) (back : List UnitDesc)
        → unit_at form bytes ≡ Ok (unit, after)
        → judged_at form units n after ≡ all_judged form units back (ends_of form n after)
        → judged_at form units (suc n) bytes ≡ all_judged form units (unit ∷ back) (length after ∷ ends_of form n after)
    unfolding judged_at all_judged
    judged_more n bytes unit after back e h = rw (e, h) refl

    pub judged_by : (n : ℕ) (front : List UnitDesc) (bytes : List ℕ) (x : List UnitDesc × List ℕ)
        → many_at (λ _. unit_at form) front n bytes ≡ Ok x
        → (back : List UnitDesc)
        × (x.0 ≡ front ++ back)
        × (length back ≡ n)
        × (length (ends_of form n bytes) ≡ n)
        × (judged_at form units n bytes ≡ all_judged form units back (ends_of form n bytes))
    unfolding many_at judged_at ends_of all_judged
    judged_by zero front bytes x e = (
      [],
      subst (λ (p : List UnitDesc × List ℕ). p.0 ≡ front ++ []) (ok_is (front, bytes) x e) (sym (append-nil front)),
      refl,
      refl,
      refl,
    )
    judged_by (suc n) front bytes x e =
        let s =
        bound (unit_at form bytes) (λ (u : UnitDesc × List ℕ). many_at (λ _. unit_at form) (front ++ u.0 ∷ []) n u.1)
        x e in
        let more = judged_by n (front ++ s.0.0 ∷ []) s.0.1 x s.2 in
        let ends : ends_of form (suc n) bytes ≡ length s.0.1 ∷ ends_of form n s.0.1 =
        ends_more n bytes s.0.0 s.0.1 s.1 in
        let counted : length (ends_of form (suc n) bytes) ≡ suc n = ap length ends ∙ ap suc more.3 in
        let walked : judged_at form units (suc n) bytes
        ≡ all_judged form units (s.0.0 ∷ more.0) (length s.0.1 ∷ ends_of form n s.0.1) =
        judged_more n bytes s.0.0 s.0.1 more.0 s.1 more.4 in (
          s.0.0 ∷ more.0,
          more.1 ∙ append_assoc front (s.0.0 ∷ []) more.0,
          omega (arith, more.2),
          counted,
          walked ∙ ap (all_judged form units (s.0.0 ∷ more.0)) (sym ends),
        )

  -- ---- units that were read with their ends

  module _ (units : List UnitDesc) (count : ℕ) (bytes after ends : List ℕ)
      (read : many_at (λ _. unit_at form) [] count bytes ≡ Ok (units, after))
      (noted : ends ≡ ends_of form count bytes) where
    pub as_many : length ends ≡ length units
    as_many =
        let j = judged_by units count [] bytes (units, after) read in
        let back : length units ≡ length j.0 = ap length j.1 in
        ap length noted ∙ j.3 ∙ sym (back ∙ j.2)

    pub once_judged : some_units_at form count bytes ≡ (all_judged form units units ends >>= λ _. Ok (units, after))
    unfolding some_units_at
    once_judged =
        let j = judged_by units count [] bytes (units, after) read in
        let same : all_judged form units j.0 (ends_of form count bytes) ≡ all_judged form units units ends =
        ap (λ (xs : List UnitDesc). all_judged form units xs (ends_of form count bytes)) (sym j.1)
        ∙ ap (all_judged form units units) (sym noted) in
        rw (read, j.4 ∙ same) refl
