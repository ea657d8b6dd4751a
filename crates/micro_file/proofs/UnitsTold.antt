-- Units are read as they are laid out, and the first that is not tied to a ram is blamed.
use Rattle.std.proofs.Common.{◌≡◌, ℕ, zero, suc, ◌+◌, Bool, true, false, List, [], ◌∷◌, ◌++◌, length, Ok, Err}
use Rattle.std.proofs.Common.{Result, refl, sym, ap, subst, ◌∙◌, append_assoc, arith, ℤ}
use Rattle.std.specs.List.{All, flat_map}
use Rattle.std.proofs.lemmas.List.{length-append, append-nil}
use Rattle.std.proofs.lemmas.List.Concat.{flat_map-cons}
use Rattle.std.proofs.lemmas.List.Elements.{All-nil, All-cons}
use Rattle.operations.specs.declared.units.Kind.{Kind}
use Rattle.operations.specs.declared.units.Kind.TheVariants as kind
use Rattle.micro_image.specs.declared.image.UnitDesc.{UnitDesc}
use Rattle.micro_image.specs.Form.{Form, spelled_unit}
use Rattle.micro_image.specs.Valid.{IsWithin, ports}
use Rattle.micro_bits.proofs.Bits.{IsDigits}
use Rattle.micro_file.specs.declared.misread.Misread.{Misread}
use Rattle.micro_file.specs.declared.misread.Misread.TheVariants.{Field}
use Rattle.micro_file.specs.Hardware.{Any, Own, IsTied, file, cells_of, ram_of, unit, IsUntied, tied, some_units}
use Rattle.micro_file.specs.Layout.{Reading, chain, field, many}
use Rattle.micro_file.specs.Private.Fields.{◌>>=◌, many_at}
use Rattle.micro_file.specs.Private.FormAt.{FormAt}
use Rattle.micro_file.specs.Private.Units.{file_at, cells_at, ram_at, unit_at, is_tied, judged, judged_at}
use Rattle.micro_file.specs.Private.Units.{some_units_at}
use Rattle.micro_file.specs.Private.Ends.{ends_of}
use Rattle.micro_file.proofs.FormReader.{ReadsForm}
use Rattle.micro_file.proofs.FormTold.{TellsForm}
use Rattle.micro_file.proofs.Judgement.{judged_by}
use Rattle.micro_file.proofs.Layouts.{Tells, Is, tells_placed, tells_given, tells_next, tells_many, field_allowed}
use Rattle.micro_file.proofs.Readers.{bound, ok_is, well}
use Rattle.micro_file.proofs.UnitReader.{tied_by, all_tied, unit_reader}

-- ---- the first that is not such

first_once : {A : Type 0} (T : A → Type 0) (before others : List A) (x y : A) (behind rest : List A)
    → before ++ x ∷ behind ≡ others ++ y ∷ rest
    → All T before
    → ¬ T x
    → All T others
    → ¬ T y
    → (before ≡ others) × (x ≡ y)
first_once T [] [] x y behind rest e a n b m = (refl, cc)
first_once T [] (z ∷ others) x y behind rest e a n b m =
    let same : z ≡ x = cc in
    absurd (n (subst T same (b 0 z (omega arith))))
first_once T (z ∷ before) [] x y behind rest e a n b m =
    let same : z ≡ y = cc in
    absurd (m (subst T same (a 0 z (omega arith))))
first_once {A} T (z ∷ before) (w ∷ others) x y behind rest e a n b m =
    let tails : before ++ x ∷ behind ≡ others ++ y ∷ rest = cc in
    let heads : z ≡ w = cc in
    let more =
    first_once T before others x y behind rest tails (λ k d lt. a (suc k) d (omega (arith, lt))) n
    (λ k d lt. b (suc k) d (omega (arith, lt))) m in
    (rw (heads, more.0) refl, more.1)

module _ {base : ℕ} {spell : Form} {own : Own} {form : FormAt} (is : ReadsForm base spell form)
    (told : TellsForm base spell own form) where
  file_told : Is base (file spell own) (file_at form)
  unfolding file_at
  file_told left fits =
      tells_next base (field spell.registers (IsWithin 1 256)) own.initial left
      (λ (n : ℕ × List ℕ). form.initial n.0 n.1) (form.registers left) (told.registers left fits)
      (λ x e d. told.initial x.0 x.1 d)

  cells_told : (k : Kind) → Is base (cells_of spell own k) (cells_at form k)
  unfolding cells_at
  cells_told kind.Ram left fits =
      tells_next base (field spell.cells (IsWithin 1 65536)) own.initial left
      (λ (n : ℕ × List ℕ). form.initial n.0 n.1) (form.cells left) (told.cells left fits)
      (λ x e d. told.initial x.0 x.1 d)
  cells_told _ left fits = tells_given base [] left fits

  ram_told : (k : Kind) → Is base (ram_of spell own k) (ram_at form k)
  unfolding ram_at
  ram_told kind.Acu left fits = told.ram left fits
  ram_told _ left fits = tells_given base 0 left fits

  abbrev whole_unit : Kind → ℕ → ℕ → List (List ℤ) → List ℤ → ℕ → UnitDesc
  whole_unit kind latency gap files cells ram =
      record { kind = kind; latency = latency; gap = gap; files = files; cells = cells; ram = ram }

  unit_told : Is base (unit spell own) (unit_at form)
  unfolding unit unit_at
  unit_told left fits =
      tells_next base (field spell.kind Any) _ left
      (λ (k : Kind × List ℕ).
      form.latency k.1 >>= λ l. form.gap l.0 l.1 >>= λ g. many_at (λ _. file_at form) [] (ports k.0) g.1 >>= λ f.
      cells_at form k.0 f.1 >>= λ c. ram_at form k.0 c.1 >>= λ r. Ok (whole_unit k.0 l.0 g.0 f.0 c.0 r.0, r.1))
      (form.kind left) (told.kind left fits) (λ k e d.
      tells_next base (field spell.cycles (IsWithin 1 8)) _ k.1
      (λ (l : ℕ × List ℕ).
      form.gap l.0 l.1 >>= λ g. many_at (λ _. file_at form) [] (ports k.0) g.1 >>= λ f. cells_at form k.0 f.1 >>= λ c.
      ram_at form k.0 c.1 >>= λ r. Ok (whole_unit k.0 l.0 g.0 f.0 c.0 r.0, r.1))
      (form.latency k.1) (told.latency k.1 d) (λ l e2 d2.
      tells_next base (field spell.cycles (IsWithin 1 l.0)) _ l.1
      (λ (g : ℕ × List ℕ).
      many_at (λ _. file_at form) [] (ports k.0) g.1 >>= λ f. cells_at form k.0 f.1 >>= λ c.
      ram_at form k.0 c.1 >>= λ r. Ok (whole_unit k.0 l.0 g.0 f.0 c.0 r.0, r.1))
      (form.gap l.0 l.1)
      (told.gap l.0 (field_allowed base spell.cycles (IsWithin 1 8) k.1 (form.latency k.1) l (told.latency k.1 d) e2)
      l.1 d2) (λ g e3 d3.
      tells_next base (many (λ _. file spell own) [] (ports k.0)) _ g.1
      (λ (f : List (List ℤ) × List ℕ).
      cells_at form k.0 f.1 >>= λ c. ram_at form k.0 c.1 >>= λ r. Ok (whole_unit k.0 l.0 g.0 f.0 c.0 r.0, r.1))
      (many_at (λ _. file_at form) [] (ports k.0) g.1)
      (tells_many base (λ _. file spell own) (λ _. file_at form) (λ _. file_told) [] (ports k.0) g.1 d3) (λ f e4 d4.
      tells_next base (cells_of spell own k.0) _ f.1
      (λ (c : List ℤ × List ℕ). ram_at form k.0 c.1 >>= λ r. Ok (whole_unit k.0 l.0 g.0 f.0 c.0 r.0, r.1))
      (cells_at form k.0 f.1) (cells_told k.0 f.1 d4) (λ c e5 d5.
      tells_next base (ram_of spell own k.0) _ c.1
      (λ (r : ℕ × List ℕ). Ok (whole_unit k.0 l.0 g.0 f.0 c.0 r.0, r.1)) (ram_at form k.0 c.1) (ram_told k.0 c.1 d5)
      (λ r e6 d6. tells_given base (whole_unit k.0 l.0 g.0 f.0 c.0 r.0) r.1 d6))))))

  -- ---- the rams of acus

  -- the units from here on are these, behind those in front; the first of them that is not tied is blamed
  record IsBlamed (units front xs : List UnitDesc) (bytes : List ℕ) (m : Misread) : Type 0 where
    before : List UnitDesc
    acu : UnitDesc
    behind : List UnitDesc
    are : xs ≡ front ++ before ++ acu ∷ behind
    tied : All (IsTied units) before
    untied : ¬ IsTied units acu
    rest : List ℕ
    text : bytes ≡ flat_map (spelled_unit spell) (before ++ acu ∷ []) ++ rest
    at : m ≡ Field (length (spell.ram acu.ram) + length rest)

  is_loose : (units : List UnitDesc) (x : UnitDesc) → is_tied units x ≡ false → ¬ IsTied units x
  is_loose units x e h = not_both ((tied_by x.kind x.ram units).1 h)
    where
      not_both : is_tied units x ≡ true → ⊥
      not_both t = absurd cc

  judged_loose : (units : List UnitDesc) (x : UnitDesc) (n : ℕ) (after : List ℕ) (m : Misread)
      → is_tied units x ≡ false
      → (judged form units x (length after) >>= λ _. judged_at form units n after) ≡ Err m
      → Field (length after + form.ram_length) ≡ m
  judged_loose units x n after m loose e = (let h = rw loose at e in cc)

  judged_tied : (units : List UnitDesc) (x : UnitDesc) (n : ℕ) (after : List ℕ) (m : Misread)
      → is_tied units x ≡ true
      → (judged form units x (length after) >>= λ _. judged_at form units n after) ≡ Err m
      → judged_at form units n after ≡ Err m
  judged_tied units x n after m fixed e = rw fixed at e

  step : (units : List UnitDesc) (n : ℕ) (bytes : List ℕ) (x : UnitDesc × List ℕ) (m : Misread)
      → unit_at form bytes ≡ Ok x
      → judged_at form units (suc n) bytes ≡ Err m
      → (judged form units x.0 (length x.1) >>= λ _. judged_at form units n x.1) ≡ Err m
  unfolding judged_at
  step units n bytes x m read e = rw read at e

  blamed : (units : List UnitDesc) (n : ℕ) (front : List UnitDesc) (bytes : List ℕ) (x : List UnitDesc × List ℕ)
      → IsDigits base bytes
      → many_at (λ _. unit_at form) front n bytes ≡ Ok x
      → (m : Misread)
      → judged_at form units n bytes ≡ Err m
      → IsBlamed units front x.0 bytes m
  unfolding many_at judged_at
  blamed units zero front bytes x fits e m bad = absurd cc
  blamed units (suc n) front bytes x fits e m bad =
      let s =
      bound (unit_at form bytes) (λ (u : UnitDesc × List ℕ). many_at (λ _. unit_at form) (front ++ u.0 ∷ []) n u.1) x
      e in
      by s.0 s.1 s.2 (λ d more. blamed units n (front ++ s.0.0 ∷ []) s.0.1 x d s.2 m more) (is_tied units s.0.0) refl
    where
      by : (u : UnitDesc × List ℕ)
          → unit_at form bytes ≡ Ok u
          → many_at (λ _. unit_at form) (front ++ u.0 ∷ []) n u.1 ≡ Ok x
          → (IsDigits base u.1 → judged_at form units n u.1 ≡ Err m → IsBlamed units (front ++ u.0 ∷ []) x.0 u.1 m)
          → (b : Bool)
          → is_tied units u.0 ≡ b
          → IsBlamed units front x.0 bytes m
      by u read more others true fixed =
          let t = (unit_reader is).took bytes fits u read in
          let h =
          others t.text.rest_fits (judged_tied units u.0 n u.1 m fixed (step units n bytes u m read bad)) in
          record {
            before = u.0 ∷ h.before;
            acu = h.acu;
            behind = h.behind;
            are = h.are ∙ append_assoc (front ++ u.0 ∷ []) h.before (h.acu ∷ h.behind)
                ∙ append_assoc front (u.0 ∷ []) (h.before ++ h.acu ∷ h.behind)
                ∙ sym (append_assoc front (u.0 ∷ h.before) (h.acu ∷ h.behind));
            tied = All-cons (IsTied units) u.0 h.before ((tied_by u.0.kind u.0.ram units).0 fixed) h.tied;
            untied = h.untied;
            rest = h.rest;
            text =
                t.text.parts ∙ ap (λ (r : List ℕ). spelled_unit spell u.0 ++ r) h.text
                ∙ sym (append_assoc (spelled_unit spell u.0)
                (flat_map (spelled_unit spell) (h.before ++ h.acu ∷ [])) h.rest)
                ∙ ap (λ (r : List ℕ). r ++ h.rest)
                (sym (flat_map-cons (spelled_unit spell) u.0 (h.before ++ h.acu ∷ [])));
            at = h.at;
          }
      by u read more others false loose =
          let t = (unit_reader is).took bytes fits u read in
          let j = judged_by form units n (front ++ u.0 ∷ []) u.1 x more in
          let told_at = judged_loose units u.0 n u.1 m loose (step units n bytes u m read bad) in
          record {
            before = [];
            acu = u.0;
            behind = j.0;
            are = j.1 ∙ append_assoc front (u.0 ∷ []) j.0 ∙ sym (append_assoc front [] (u.0 ∷ j.0));
            tied = All-nil (IsTied units);
            untied = is_loose units u.0 loose;
            rest = u.1;
            text =
                t.text.parts
                ∙ ap (λ (r : List ℕ). r ++ u.1)
                (sym (flat_map-cons (spelled_unit spell) u.0 [] ∙ append-nil (spelled_unit spell u.0)));
            at =
                sym told_at
                ∙ ap (λ (k : ℕ). Field k) (omega (arith, told.ram_length u.0.ram));
          }

  module _ (count : ℕ) (left : List ℕ) (fits : IsDigits base left) (x : List UnitDesc × List ℕ)
      (read : many_at (λ _. unit_at form) [] count left ≡ Ok x) where
    found : (m : Misread) → judged_at form x.0 count left ≡ Err m → IsUntied spell own x.0 left m
    found m bad =
        let h = blamed x.0 count [] left x fits read m bad in
        record {
          before = h.before;
          acu = h.acu;
          behind = h.behind;
          units_are = h.are;
          tied = h.tied;
          untied = h.untied;
          rest = h.rest;
          text = h.text;
          is = h.at;
        }

    all_ok : (ok : Unit {0}) → judged_at form x.0 count left ≡ Ok ok → All (IsTied x.0) x.0
    all_ok ok good =
        let j = judged_by form x.0 count [] left x read in
        subst (All (IsTied x.0)) (sym j.1)
        (all_tied is x.0 j.0 (ends_of form count left) ok (omega (arith, j.2, j.3)) (sym j.4 ∙ good))

    loose_not_all : (m : Misread) → IsUntied spell own x.0 left m → All (IsTied x.0) x.0 → ⊥
    loose_not_all m h all =
        let there : All (IsTied x.0) (h.before ++ h.acu ∷ h.behind) = subst (All (IsTied x.0)) h.units_are all in
        h.untied (last_of h.before there)
      where
        last_of : (before : List UnitDesc) → All (IsTied x.0) (before ++ h.acu ∷ h.behind) → IsTied x.0 h.acu
        last_of [] a = a 0 h.acu (omega arith)
        last_of (b ∷ before) a = last_of before (λ k d lt. a (suc k) d (omega (arith, lt)))

    one_loose : (m n : Misread) → IsUntied spell own x.0 left m → IsUntied spell own x.0 left n → m ≡ n
    one_loose m n a b =
        let same =
        first_once (IsTied x.0) a.before b.before a.acu b.acu a.behind b.behind (sym a.units_are ∙ b.units_are) a.tied
        a.untied b.tied b.untied in
        let spelled : flat_map (spelled_unit spell) (a.before ++ a.acu ∷ [])
        ≡ flat_map (spelled_unit spell) (b.before ++ b.acu ∷ []) = rw (same.0, same.1) refl in
        let rams : length (spell.ram a.acu.ram) ≡ length (spell.ram b.acu.ram) =
        ap (λ (u : UnitDesc). length (spell.ram u.ram)) same.1 in
        a.is
        ∙ ap (λ (k : ℕ). Field k)
        (omega (
          arith,
          rams,
          ap length a.text,
          ap length b.text,
          ap length spelled,
          length-append (flat_map (spelled_unit spell) (a.before ++ a.acu ∷ [])) a.rest,
          length-append (flat_map (spelled_unit spell) (b.before ++ b.acu ∷ [])) b.rest,
        ))
        ∙ sym b.is

    tied_by_result : (r : Result (Unit {0}) Misread)
        → judged_at form x.0 count left ≡ r
        → IsDigits base x.1
        → Tells base (tied spell own left x.0) x.1 (r >>= λ _. well x)
    tied_by_result (Ok ok) e d = record {
      there = (refl, all_ok ok e);
      only = only_ok;
      fits = λ y same. subst (λ (p : List UnitDesc × List ℕ). IsDigits base p.1) (ok_is x y same) d;
    }
      where
        only_ok : (other : Reading (List UnitDesc)) → tied spell own left x.0 x.1 other → other ≡ Ok x
        only_ok (Ok y) h = ap Ok h.0
        only_ok (Err m) h = absurd (loose_not_all m h (all_ok ok e))
    tied_by_result (Err m) e d = record {
      there = found m e;
      only = only_err;
      fits = λ y same. absurd cc;
    }
      where
        only_err : (other : Reading (List UnitDesc)) → tied spell own left x.0 x.1 other → other ≡ Err m
        only_err (Ok y) h = absurd (loose_not_all m (found m e) h.1)
        only_err (Err n) h = ap Err (one_loose n m h (found m e))

  pub some_units_told : (count : ℕ) → Is base (some_units spell own count) (some_units_at form count)
  unfolding some_units_at
  some_units_told count left fits =
      tells_placed base (λ place. chain (many (λ _. unit spell own) [] count) (tied spell own place)) left
      (some_units_at form count left)
      (tells_next base (many (λ _. unit spell own) [] count) (tied spell own left) left
      (λ (x : List UnitDesc × List ℕ). judged_at form x.0 count left >>= λ _. well x)
      (many_at (λ _. unit_at form) [] count left)
      (tells_many base (λ _. unit spell own) (λ _. unit_at form) (λ _. unit_told) [] count left fits)
      (λ x e d. tied_by_result count left fits x e (judged_at form x.0 count left) refl d))
