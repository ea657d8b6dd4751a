-- The log is computed, and each cycle passes the test of `Clear`.
use Rattle.std.proofs.Common.{◌≡◌, refl, ℕ, zero, suc, [], ◌∷◌, pos}
use Rattle.fix_word.specs.Values.{wrap_of}
use Rattle.micro_image.specs.Log.{value, entries_by}
use Rattle.micro_image.specs.Fields.{unit_of}
use Rattle.micro_image.specs.Run.{spread}
use Rattle.worked_values.specs.Runs.{echoing, cycles, three_samples, alternating, both_put, both_put_back}
use Rattle.worked_values.proofs.Clear.{quiet, clear_below}
use Rattle.worked_values.proofs.runs.Goals as goal

gaps : (u : ℕ) → (unit_of echoing u).gap ≡ 1
gaps zero = refl
gaps (suc zero) = refl
gaps (suc (suc zero)) = refl
gaps (suc (suc (suc zero))) = refl
gaps (suc (suc (suc (suc zero)))) = refl
gaps (suc (suc (suc (suc (suc zero))))) = refl
gaps (suc (suc (suc (suc (suc (suc u)))))) = refl

pub returns-clause-written : goal.returns-clause-written
unfolding value entries_by wrap_of
returns-clause-written _ = refl

pub returns-clause-addresses : goal.returns-clause-addresses
unfolding value entries_by
returns-clause-addresses _ = refl

pub returns-clause-loads : goal.returns-clause-loads
unfolding value entries_by
returns-clause-loads _ = refl

pub returns-clause-cells : goal.returns-clause-cells
unfolding value entries_by
returns-clause-cells _ = refl

pub returns-clause-rows : goal.returns-clause-rows
unfolding value entries_by wrap_of quiet
returns-clause-rows _ = record { clear = clear_below echoing cycles 18 gaps refl; put = refl }

two_gaps : (u : ℕ) → (unit_of alternating u).gap ≡ 1
two_gaps zero = refl
two_gaps (suc zero) = refl
two_gaps (suc (suc u)) = refl

pub returns-clause-round : goal.returns-clause-round
unfolding value entries_by quiet
returns-clause-round _ =
    record { clear = clear_below alternating (spread 1 three_samples) 3 two_gaps refl; put = refl }

both_gaps : (u : ℕ) → (unit_of both_put u).gap ≡ 1
both_gaps zero = refl
both_gaps (suc zero) = refl
both_gaps (suc (suc u)) = refl

back_gaps : (u : ℕ) → (unit_of both_put_back u).gap ≡ 1
back_gaps zero = refl
back_gaps (suc zero) = refl
back_gaps (suc (suc u)) = refl

pub returns-clause-latch : goal.returns-clause-latch
unfolding value entries_by quiet
returns-clause-latch _ = (
  record { clear = clear_below both_put (spread 1 ((pos 0 ∷ []) ∷ [])) 1 both_gaps refl; put = refl },
  record { clear = clear_below both_put_back (spread 1 ((pos 0 ∷ []) ∷ [])) 1 back_gaps refl; put = refl },
)
