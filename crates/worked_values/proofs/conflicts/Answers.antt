-- Each conflict is counted in the word, or read from the log.
use Rattle.std.proofs.Common.{◌≡◌, ◌≤◌, refl, sym, subst, arith, [], ◌∷◌, pos}
use Rattle.std.proofs.lemmas.Option.{same_Some}
use Rattle.micro_image.specs.Log.{value, entries_by, Log, operand}
use Rattle.micro_image.specs.Fields.{Microprogram, microprogram_of}
use Rattle.micro_image.specs.Conflict.{IsOutside}
use Rattle.worked_values.specs.Machine.{load, memory, image_with, word}
use Rattle.worked_values.specs.Conflicts.{Loads}
use Rattle.worked_values.specs.Runs.{cycles}
use Rattle.worked_values.proofs.conflicts.Goals as goal

pub returns-clause-busy : goal.returns-clause-busy
returns-clause-busy _ = ((refl, (1, omega arith, omega arith, refl)), λ h. omega (arith, h.1.1, h.1.2))

pub returns-clause-drivers : goal.returns-clause-drivers
returns-clause-drivers _ = (omega arith, λ h. omega (arith, h))

pub returns-clause-writes : goal.returns-clause-writes
returns-clause-writes _ = (omega arith, λ h. omega (arith, h))

pub returns-clause-bare : goal.returns-clause-bare
returns-clause-bare _ = ((omega arith, refl), λ h. omega (arith, h.1))

pub returns-clause-results : goal.returns-clause-results
returns-clause-results _ = ((omega arith, refl), λ h. omega (arith, h.0))

-- the ram whose register 2 has the number of its cell 1, and the load by it
abbrev loading : Microprogram
loading =
    microprogram_of
    (image_with (record memory { files = (pos 0 ∷ pos 0 ∷ pos 1 ∷ []) ∷ (pos 0 ∷ []) ∷ [] })
    (word (record load { regs = 2 ∷ 0 ∷ [] } ∷ []) [] []))

within : Loads (pos 1) → ⊥
unfolding value entries_by
within (issue, is, memory_is, outside) =
    let same : record load { regs = 2 ∷ 0 ∷ [] } ≡ issue = same_Some _ _ is in
    let out : 2 ≤ 1 =
    subst (λ s. IsOutside 2 (operand loading (Log loading cycles 2) 2 s 0)) (sym same) outside in
    omega (arith, out)

pub returns-clause-addresses : goal.returns-clause-addresses
unfolding value entries_by
returns-clause-addresses _ = ((_, refl, tt, omega arith), (_, refl, tt, tt), within)
