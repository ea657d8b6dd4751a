-- Writes into registers and cells.
use Rattle.std.proofs.Common.{◌≡◌, ◌≢◌, ℕ, ◌<◌, ◌⊎◌, inl, inr, ⊎_elim, refl, sym, ap, ◌∙◌, subst, arith, List, []}
use Rattle.std.proofs.Common.{length, slice_index_or, slice_set, ℤ, pos}
use Rattle.std.proofs.Math.Seq.{map-set_same}
use Rattle.std.proofs.lemmas.Bool.{cases_eq}
use Rattle.std.proofs.lemmas.List.{get_or-set_same, get_or-set_other, length-set, get_or-map, length-map}
use Rattle.datapath.specs.declared.types.Datapath.{Datapath}
use Rattle.micro_image.specs.declared.image.UnitDesc.{UnitDesc}
use Rattle.micro_image.specs.Fields.{nth, no_unit}
use Rattle.micro_image.specs.Log.{Place, Register, Cell, Latch}
use Rattle.plan_core.specs.Hardware.{unit_of}
use Rattle.microcode_asm.specs.Units.{held, IsAlike, Writes}
use Rattle.microcode_asm.specs.Private.Starts.{AreUnitsOf}
use Rattle.microcode_asm.proofs.IssueSteps.{read_at}

-- two places are one or not
pub place_cases : (a b : Place) → (a ≡ b) ⊎ (a ≡ b → ⊥)
place_cases (Register u p r) (Register v q s) =
    ⊎_elim
    (λ (unit : u ≡ v).
    ⊎_elim
    (λ (port : p ≡ q).
    ⊎_elim
    (λ (reg : r ≡ s).
    inl (ap (λ u. Register u p r) unit ∙ ap (λ p. Register v p r) port ∙ ap (Register v q) reg))
    (λ never. inr (λ (same : Register u p r ≡ Register v q s). never (cc)))
    (cases_eq r s))
    (λ never. inr (λ (same : Register u p r ≡ Register v q s). never (cc)))
    (cases_eq p q))
    (λ never. inr (λ (same : Register u p r ≡ Register v q s). never (cc)))
    (cases_eq u v)
place_cases (Register u p r) (Cell v d) = inr (λ (same : Register u p r ≡ Cell v d). absurd (cc))
place_cases (Register u p r) (Latch k) = inr (λ (same : Register u p r ≡ Latch k). absurd (cc))
place_cases (Cell u c) (Register v q s) = inr (λ (same : Cell u c ≡ Register v q s). absurd (cc))
place_cases (Cell u c) (Cell v d) =
    ⊎_elim
    (λ (unit : u ≡ v).
    ⊎_elim (λ (cell : c ≡ d). inl (ap (λ u. Cell u c) unit ∙ ap (Cell v) cell))
    (λ never. inr (λ (same : Cell u c ≡ Cell v d). never (cc)))
    (cases_eq c d))
    (λ never. inr (λ (same : Cell u c ≡ Cell v d). never (cc)))
    (cases_eq u v)
place_cases (Cell u c) (Latch k) = inr (λ (same : Cell u c ≡ Latch k). absurd (cc))
place_cases (Latch j) (Register v q s) = inr (λ (same : Latch j ≡ Register v q s). absurd (cc))
place_cases (Latch j) (Cell v d) = inr (λ (same : Latch j ≡ Cell v d). absurd (cc))
place_cases (Latch j) (Latch k) =
    ⊎_elim (λ (same : j ≡ k). inl (ap Latch same)) (λ never. inr (λ (same : Latch j ≡ Latch k). never (cc)))
    (cases_eq j k)

abbrev with_file : UnitDesc → ℕ → List ℤ → UnitDesc
with_file x q file = record {
  kind = x.kind;
  latency = x.latency;
  gap = x.gap;
  files = slice_set x.files q file;
  cells = x.cells;
  ram = x.ram;
}

alike_itself : (x : UnitDesc) → IsAlike x x
alike_itself x =
    record { kind = refl; latency = refl; gap = refl; files = refl; cells = refl; ram = refl }

module _ (units : List UnitDesc) (u q r : ℕ) (word : ℤ) (in-u : u < length units)
    (in-q : q < length (nth units u no_unit).files) (in-r : r < length (nth (nth units u no_unit).files q [])) where
  abbrev old_unit : UnitDesc
  old_unit = nth units u no_unit

  abbrev new_file : List ℤ
  new_file = slice_set (nth old_unit.files q []) r word

  abbrev new_units : List UnitDesc
  new_units = slice_set units u (with_file old_unit q new_file)

  at_unit : nth new_units u no_unit ≡ with_file old_unit q new_file
  at_unit = get_or-set_same units u _ no_unit in-u

  other_unit : (v : ℕ) → (u ≡ v → ⊥) → nth new_units v no_unit ≡ nth units v no_unit
  other_unit v apart = get_or-set_other units u v _ no_unit (λ same. apart (sym same))

  alike : (v : ℕ) → IsAlike (nth new_units v no_unit) (nth units v no_unit)
  alike v =
      ⊎_elim
      (λ (same : u ≡ v).
      subst (λ v. IsAlike (nth new_units v no_unit) (nth units v no_unit)) same
      (subst (λ x. IsAlike x old_unit) (sym at_unit) (record {
        kind = refl;
        latency = refl;
        gap = refl;
        files = map-set_same length old_unit.files q new_file [] (length-set (nth old_unit.files q []) r word);
        cells = refl;
        ram = refl;
      })))
      (λ (apart : u ≡ v → ⊥).
      subst (λ x. IsAlike x (nth units v no_unit)) (sym (other_unit v apart)) (alike_itself (nth units v no_unit)))
      (cases_eq u v)

  file_at : nth (nth new_units u no_unit).files q [] ≡ new_file
  file_at = ap (λ x. nth x.files q []) at_unit ∙ get_or-set_same old_unit.files q new_file [] in-q

  others : (other : Place) → other ≢ Register u q r → held new_units other ≡ held units other
  others (Register v s t) apart =
      ⊎_elim
      (λ (same : u ≡ v).
      subst (λ v. (Register v s t ≡ Register u q r → ⊥) → held new_units (Register v s t) ≡ held units (Register v s t))
      same (λ apart. in_unit s t apart) apart)
      (λ (other : u ≡ v → ⊥). ap (λ x. nth (nth x.files s []) t (pos 0)) (other_unit v other))
      (cases_eq u v)
    where
      in_file : (t : ℕ)
          → (Register u q t ≡ Register u q r → ⊥)
          → held new_units (Register u q t) ≡ held units (Register u q t)
      in_file t apart =
          ap (λ file. nth file t (pos 0)) file_at
          ∙ get_or-set_other (nth old_unit.files q []) r t word (pos 0) (λ same. apart (ap (Register u q) same))

      in_unit : (s t : ℕ)
          → (Register u s t ≡ Register u q r → ⊥)
          → held new_units (Register u s t) ≡ held units (Register u s t)
      in_unit s t apart =
          ⊎_elim
          (λ (same : q ≡ s).
          subst (λ s. (Register u s t ≡ Register u q r → ⊥)
          → held new_units (Register u s t) ≡ held units (Register u s t)) same (λ apart. in_file t apart) apart)
          (λ (other : q ≡ s → ⊥).
          ap (λ x. nth (nth x.files s []) t (pos 0)) at_unit
          ∙ ap (λ file. nth file t (pos 0))
          (get_or-set_other old_unit.files q s new_file [] (λ same. other (sym same))))
          (cases_eq q s)
  others (Cell v c) apart =
      ⊎_elim
      (λ (same : u ≡ v).
      subst (λ v. held new_units (Cell v c) ≡ held units (Cell v c)) same (ap (λ x. nth x.cells c (pos 0)) at_unit))
      (λ (other : u ≡ v → ⊥). ap (λ x. nth x.cells c (pos 0)) (other_unit v other))
      (cases_eq u v)
  others (Latch j) apart = refl

  wrote : Writes (Register u q r) word units new_units
  wrote = record {
    count = length-set units u _;
    alike = alike;
    here = ap (λ file. nth file r (pos 0)) file_at ∙ get_or-set_same (nth old_unit.files q []) r word (pos 0) in-r;
    others = others;
  }

-- a register is written through its unit and its file
pub wrote_register : (units : List UnitDesc) (u q r u' q' r' : ℕ) (word word' : ℤ) (x : UnitDesc) (file : List ℤ)
    → u < length units
    → q < length (nth units u no_unit).files
    → r < length (nth (nth units u no_unit).files q [])
    → u' ≡ u
    → q' ≡ q
    → r' ≡ r
    → word' ≡ word
    → x ≡ slice_index_or units u' x
    → file ≡ slice_index_or x.files q' file
    → Writes (Register u q r) word units (slice_set units u' (with_file x q' (slice_set file r' word')))
wrote_register units u q r u' q' r' word word' x file in-u in-q in-r u-is q-is r-is word-is x-is file-is =
    let unit : x ≡ nth units u no_unit =
    read_at units u x no_unit in-u (x-is ∙ ap (λ u. slice_index_or units u x) u-is) in
    let there : q < length x.files = subst (λ (x : UnitDesc). q < length x.files) (sym unit) in-q in
    let its_file : file ≡ nth (nth units u no_unit).files q [] =
    read_at x.files q file [] there (file-is ∙ ap (λ q. slice_index_or x.files q file) q-is)
    ∙ ap (λ (x : UnitDesc). nth x.files q []) unit in
    subst (λ a. Writes (Register u q r) word units (slice_set units a (with_file x q' (slice_set file r' word'))))
    (sym u-is)
    (subst (λ b. Writes (Register u q r) word units (slice_set units u (with_file x b (slice_set file r' word'))))
    (sym q-is)
    (subst (λ c. Writes (Register u q r) word units (slice_set units u (with_file x q (slice_set file c word'))))
    (sym r-is)
    (subst (λ z. Writes (Register u q r) word units (slice_set units u (with_file x q (slice_set file r z))))
    (sym word-is)
    (subst (λ file. Writes (Register u q r) word units (slice_set units u (with_file x q (slice_set file r word))))
    (sym its_file)
    (subst (λ x. Writes (Register u q r) word units
    (slice_set units u (with_file x q (slice_set (nth (nth units u no_unit).files q []) r word)))) (sym unit)
    (wrote units u q r word in-u in-q in-r))))))

-- units that are written into are still those of the datapath
pub units_kept : (d : Datapath) (place : Place) (word : ℤ) (old new : List UnitDesc)
    → AreUnitsOf d old
    → Writes place word old new
    → AreUnitsOf d new
units_kept d place word old new units writes = record {
  count = writes.count ∙ units.count;
  each = λ u below.
      let unit = units.each u below in
      let like = writes.alike u in record {
        kind = like.kind ∙ unit.kind;
        latency = like.latency ∙ unit.latency;
        gap = like.gap ∙ unit.gap;
        files = like.files ∙ unit.files;
        cells = like.cells ∙ unit.cells;
        ram = like.ram ∙ unit.ram;
      };
}

-- how many registers a file has
pub file_length : (d : Datapath) (u q : ℕ) (units : List UnitDesc)
    → AreUnitsOf d units
    → u < length d.units
    → q < length (unit_of d u).files
    → (q < length (nth units u no_unit).files)
    × (length (nth (nth units u no_unit).files q []) ≡ slice_index_or (unit_of d u).files q 0)
file_length d u q units are in-u in-q =
    let unit = are.each u in-u in
    let in-q' : q < length (nth units u no_unit).files =
    omega (arith, in-q, ap length unit.files, length-map (nth units u no_unit).files length) in (
      in-q',
      sym (get_or-map length (nth units u no_unit).files q [] 0 in-q')
          ∙ ap (λ (sizes : List ℕ). slice_index_or sizes q 0) unit.files,
    )
