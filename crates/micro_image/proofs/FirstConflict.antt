-- A run has one first conflict, of which rows that come after change nothing.
use Rattle.std.proofs.Common.{◌≡◌, ◌∙◌, refl, sym, ap, ap₂, subst, arith, ℕ, zero, suc, ◌<◌, ◌≤◌, ◌++◌, length, inl}
use Rattle.std.proofs.Common.{inr}
use Rattle.std.proofs.lemmas.Bool.{cases_order}
use Rattle.lists.specs.Rows.{Rows}
use Rattle.micro_image.specs.declared.conflict.Conflict.{Conflict}
use Rattle.micro_image.specs.declared.conflict.ConflictKind.{ConflictKind}
use Rattle.micro_image.specs.declared.conflict.ConflictKind.TheVariants.{Busy, TwoDrivers, FileTwice, NoDriver}
use Rattle.micro_image.specs.declared.conflict.ConflictKind.TheVariants.{NoResult, Address}
use Rattle.micro_image.specs.Conflict.{HasConflict, IsConflict, IsClearBelow, rank}
use Rattle.micro_image.specs.Fields.{Microprogram}
use Rattle.micro_image.proofs.Prefix.{IsConflict-with, IsConflict-without}

-- the kind of a rank
abbrev kind_at : ℕ → ConflictKind
kind_at zero = Busy
kind_at (suc zero) = TwoDrivers
kind_at (suc (suc zero)) = FileTwice
kind_at (suc (suc (suc zero))) = NoDriver
kind_at (suc (suc (suc (suc zero)))) = NoResult
kind_at (suc (suc (suc (suc (suc rest))))) = Address

kind_again : (kind : ConflictKind) → kind ≡ kind_at (rank kind)
kind_again Busy = refl
kind_again TwoDrivers = refl
kind_again FileTwice = refl
kind_again NoDriver = refl
kind_again NoResult = refl
kind_again Address = refl

same_kind : (kind other : ConflictKind) → rank kind ≤ rank other → rank other ≤ rank kind → kind ≡ other
same_kind kind other le ge =
    let same : rank kind ≡ rank other = omega (arith, le, ge) in
    kind_again kind ∙ ap kind_at same ∙ sym (kind_again other)

abbrev made : ℕ → ConflictKind → ℕ → Conflict
made cycle kind place = record { cycle = cycle; kind = kind; place = place }

module _ (micro : Microprogram) where
  -- a cycle has one conflict
  one_at : (z : Rows) (cycle : ℕ) (kind other : ConflictKind) (place there : ℕ)
      → IsConflict micro z (made cycle kind place)
      → IsConflict micro z (made cycle other there)
      → made cycle kind place ≡ made cycle other there
  one_at z cycle kind other place there a b =
      let same : kind ≡ other =
      same_kind kind other (a.least_kind other there b.there) (b.least_kind kind place a.there) in
      let le = a.least_place there (subst (λ k. HasConflict k micro z cycle there) (sym same) b.there) in
      let ge = b.least_place place (subst (λ k. HasConflict k micro z cycle place) same a.there) in
      let least : place ≡ there = omega (arith, le, ge) in
      ap₂ (made cycle) same least

  module _ (z after : Rows) (conflict : Conflict) (is : IsConflict micro z conflict)
      (within : conflict.cycle < length z) where
    later : IsConflict micro (z ++ after) conflict
    later = IsConflict-with micro z after conflict within is

    -- cycles with a conflict are no first cycles of cycles without one
    pub not_clear : (n : ℕ) → conflict.cycle < n → IsClearBelow micro (z ++ after) n → ⊥
    not_clear n below clear = clear conflict.cycle below conflict.kind conflict.place later.there

    -- and the first conflict stays the first
    pub first_once : (other : Conflict)
        → IsClearBelow micro z conflict.cycle
        → IsConflict micro (z ++ after) other
        → IsClearBelow micro (z ++ after) other.cycle
        → conflict ≡ other
    first_once other clear its free = elim (cases_order conflict.cycle other.cycle) [
      | inl same ↦
          let moved : IsConflict micro (z ++ after) (made conflict.cycle other.kind other.place) =
          subst (λ t. IsConflict micro (z ++ after) (made t other.kind other.place)) (sym same) its in
          one_at (z ++ after) conflict.cycle conflict.kind other.kind conflict.place other.place later moved
          ∙ ap (λ t. made t other.kind other.place) same
      | inr (inl before) ↦ absurd (not_clear other.cycle before free)
      | inr (inr behind) ↦
          let early = IsConflict-without micro z after other (omega (arith, behind, within)) its in
          absurd (clear other.cycle behind other.kind other.place early.there)
    ]
