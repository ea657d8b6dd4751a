-- A stream has one first conflict, of which rows that come after change nothing.
use Rattle.std.proofs.Common.{◌≡◌, ◌∙◌, sym, ap, subst, arith, ◌<◌, ◌++◌, length, append_assoc}
use Rattle.std.proofs.lemmas.List.{length-append}
use Rattle.lists.specs.Rows.{Rows}
use Rattle.micro_image.specs.declared.conflict.Conflict.{Conflict}
use Rattle.micro_image.specs.Conflict.{IsConflict, IsClearBelow}
use Rattle.micro_image.specs.Fields.{Microprogram}
use Rattle.micro_image.specs.Run.{spread}
use Rattle.micro_image.proofs.FirstConflict.{not_clear, first_once}
use Rattle.micro_image.proofs.Streams.{spread-append}
use Rattle.sample_loops.specs.Machines.{cycles_with, IsClearOver, IsConflictInLast}

-- a run of the microprogram over rows, after other cycles
module _ (micro : Microprogram) (cycles : Rows) where
  cycles_more : (some more : Rows)
      → cycles_with micro cycles (some ++ more) ≡ cycles_with micro cycles some ++ spread micro.period more
  cycles_more some more =
      ap (λ z. cycles ++ z) (spread-append micro.period some more)
      ∙ sym (append_assoc cycles (spread micro.period some) (spread micro.period more))

  pub clear_apart : (some more : Rows) (conflict : Conflict)
      → IsClearOver micro cycles (some ++ more)
      → IsConflictInLast micro cycles some conflict
      → ⊥
  clear_apart some more conflict clear met =
      let first = cycles_with micro cycles some in
      let later = spread micro.period more in
      let all = length (cycles_with micro cycles (some ++ more)) in
      let size = ap length (cycles_more some more) ∙ length-append first later in
      let below : conflict.cycle < all = omega (arith, met.first.within, size) in
      not_clear micro first later conflict met.first.there met.first.within all below
      (subst (λ z. IsClearBelow micro z all) (cycles_more some more) clear)

  pub meets_once : (some more : Rows) (conflict other : Conflict)
      → IsConflictInLast micro cycles some conflict
      → IsConflictInLast micro cycles (some ++ more) other
      → conflict ≡ other
  meets_once some more conflict other met its =
      first_once micro (cycles_with micro cycles some) (spread micro.period more) conflict met.first.there
      met.first.within other met.first.clear
      (subst (λ z. IsConflict micro z other) (cycles_more some more) its.first.there)
      (subst (λ z. IsClearBelow micro z other.cycle) (cycles_more some more) its.first.clear)
