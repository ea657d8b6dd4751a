-- The image of y = x + 1 runs without a conflict, and with two units on the bus it has one.
use Rattle.std.proofs.Common.{◌≡◌, ◌<◌, ◌≤◌, ◌==◌, refl, arith, ap, subst, sym, ◌∙◌, ◌-◌, nat_le, if◌then◌else◌, ℕ}
use Rattle.std.proofs.Common.{zero, suc, Bool, true, false, List, [], ◌∷◌, count_by, find, Some, None, IsNone, pos}
use Rattle.std.proofs.Common.{negsuc, ◌%◌, replicate}
use Rattle.lists.specs.Rows.{Rows}
use Rattle.fix_word.specs.Values.{wrap_of}
use Rattle.micro_image.specs.declared.conflict.ConflictKind.{ConflictKind}
use Rattle.micro_image.specs.declared.conflict.ConflictKind.TheVariants.{Busy, TwoDrivers, FileTwice, NoDriver}
use Rattle.micro_image.specs.declared.conflict.ConflictKind.TheVariants.{NoResult, Address}
use Rattle.micro_image.specs.declared.image.Enable.{Enable}
use Rattle.micro_image.specs.declared.image.Issue.{Issue}
use Rattle.micro_image.specs.declared.image.Take.{Take}
use Rattle.micro_image.specs.declared.image.Word.{Word}
use Rattle.micro_image.specs.Conflict.{HasConflict, IsClear, IsConflict, IsMemory, file_of, rank}
use Rattle.micro_image.specs.Fields.{Microprogram, microprogram_of, delay_of, nth, no_word, unit_of, word_at, issue_at}
use Rattle.micro_image.specs.Operations.{gives}
use Rattle.micro_image.specs.Log.{Entry, Result, Log, given, value, entries_by}
use Rattle.micro_image.specs.Run.{IsRunOut}
use Rattle.micro_image.proofs.Increment.{increment, image_of, fetch, sum}
use Rattle.micro_image.proofs.IncrementFile.{two_drivers}

-- the microprogram of the hardware with these words
abbrev micro_of : List Word → Microprogram
micro_of words = microprogram_of (image_of words)

-- the gap of each unit is 1
gap_is : (words : List Word) (u : ℕ) → (unit_of (micro_of words) u).gap ≡ 1
gap_is words zero = refl
gap_is words (suc zero) = refl
gap_is words (suc (suc zero)) = refl
gap_is words (suc (suc (suc zero))) = refl
gap_is words (suc (suc (suc (suc u)))) = refl

latency_is : (words : List Word) (u : ℕ) → (unit_of (micro_of words) u).latency ≡ 1
latency_is words zero = refl
latency_is words (suc zero) = refl
latency_is words (suc (suc zero)) = refl
latency_is words (suc (suc (suc zero))) = refl
latency_is words (suc (suc (suc (suc u)))) = refl

-- nothing in the word is in conflict
record IsQuiet (w : Word) : Type 0 where
  drives : (b : ℕ) → count_by (λ enable. enable.bus == b) w.enables < 2
  fills : (file : ℕ) → count_by (λ take. file_of take == file) w.takes < 2
  driven : (b : ℕ) → 0 < count_by (λ take. take.bus == b) w.takes → 0 < count_by (λ enable. enable.bus == b) w.enables
  resulting : (u : ℕ)
      → 0 < count_by (λ enable. enable.unit == u) w.enables
      → (issue : Issue) × (find (λ s. s.unit == u) w.issues ≡ Some issue) × (gives issue.op ≡ true)
  plain : (u : ℕ) (issue : Issue) → find (λ s. s.unit == u) w.issues ≡ Some issue → IsMemory issue.op → ⊥

quiet_none : IsQuiet no_word
quiet_none = record {
  drives = λ b. omega arith;
  fills = λ file. omega arith;
  driven = λ b h. absurd (omega (arith, h));
  resulting = λ u h. absurd (omega (arith, h));
  plain = λ u issue found. absurd (cc);
}

only_found : (s issue : Issue) (b : Bool) → (if b then Some s else None) ≡ Some issue → s ≡ issue
only_found s issue true found = cc
only_found s issue false found = absurd (cc)

found_on : (s : Issue) (u : ℕ) → s.unit ≡ u → find (λ issue. issue.unit == u) (s ∷ []) ≡ Some s
found_on s u is = grind (arith, is)

-- a word of one issue that gives a result, on a bus that one take reads
quiet_one : (s : Issue) (enable : Enable) (take : Take)
    → enable.unit ≡ s.unit
    → enable.bus ≡ take.bus
    → gives s.op ≡ true
    → (IsMemory s.op → ⊥)
    → IsQuiet (record { issues = s ∷ []; enables = enable ∷ []; takes = take ∷ [] })
quiet_one s enable take unit bus result memory = record {
  drives = λ b. grind arith;
  fills = λ file. grind arith;
  driven = λ b h. grind (arith, h, bus);
  resulting = λ u h. (s, found_on s u (grind (arith, h, unit)), result);
  plain = λ u issue found is. memory (subst (λ i. IsMemory i.op) (sym (only_found s issue (s.unit == u) found)) is);
}

-- a word of one issue alone
quiet_alone : (s : Issue) → (IsMemory s.op → ⊥) → IsQuiet (record { issues = s ∷ []; enables = []; takes = [] })
quiet_alone s memory = record {
  drives = λ b. omega arith;
  fills = λ file. omega arith;
  driven = λ b h. absurd (omega (arith, h));
  resulting = λ u h. absurd (omega (arith, h));
  plain = λ u issue found is. memory (subst (λ i. IsMemory i.op) (sym (only_found s issue (s.unit == u) found)) is);
}

quiet_fetch : IsQuiet fetch
quiet_fetch = quiet_one _ _ _ refl refl refl (λ memory. memory)

quiet_sum : IsQuiet sum
quiet_sum = quiet_one _ _ _ refl refl refl (λ memory. memory)

rest_none : (n k : ℕ) → nth (replicate n no_word) k no_word ≡ no_word
rest_none zero k = refl
rest_none (suc n) zero = refl
rest_none (suc n) (suc k) = rest_none n k

-- each word of the image
quiet_words : (k : ℕ) → IsQuiet (nth increment.words k no_word)
quiet_words zero = quiet_fetch
quiet_words (suc zero) = quiet_one _ _ _ refl refl refl (λ memory. memory)
quiet_words (suc (suc zero)) = quiet_sum
quiet_words (suc (suc (suc zero))) = quiet_alone _ (λ memory. memory)
quiet_words (suc (suc (suc (suc k)))) = subst IsQuiet (sym (rest_none 12 k)) quiet_none

given_at : (micro : Microprogram) (z : Rows) (log : List Entry) (t u delay : ℕ)
    → delay ≡ 0
    → given micro z log (t - delay) (if nat_le delay t then issue_at micro (t - delay) u else None)
    ≡ given micro z log t (issue_at micro t u)
given_at micro z log t u delay is =
    let now : t - delay ≡ t = omega (arith, is) in
    let le : nat_le delay t ≡ true = grind (arith, is) in
    rw (le, now) refl

-- an issue ends in the cycle in which it begins
result_at : (words : List Word) (z : Rows) (t u : ℕ) (issue : Issue)
    → issue_at (micro_of words) t u ≡ Some issue
    → gives issue.op ≡ true
    → Result (micro_of words) z u t ≡ Some (value (micro_of words) z (Log (micro_of words) z t) t issue)
result_at words z t u issue is result =
    given_at (micro_of words) z (Log (micro_of words) z t) t u (delay_of (micro_of words) u)
    (omega (arith, latency_is words u))
    ∙ ap (given (micro_of words) z (Log (micro_of words) z t) t) is
    ∙ ap (λ b. if b then Some (value (micro_of words) z (Log (micro_of words) z t) t issue) else None) result

apart : true ≡ false → ⊥
apart h = absurd (cc)

-- a cycle of the image is clear where its word is quiet, whatever came before
clear_cycle : (words : List Word) (z : Rows) (t : ℕ)
    → IsQuiet (word_at (image_of words) t)
    → IsClear (micro_of words) z t
clear_cycle words z t quiet Busy u (here, (s, before, within, there)) =
    absurd (omega (arith, before, within, gap_is words u))
clear_cycle words z t quiet TwoDrivers b two = absurd (omega (arith, two, quiet.drives b))
clear_cycle words z t quiet FileTwice file two = absurd (omega (arith, two, quiet.fills file))
clear_cycle words z t quiet NoDriver b (taken, undriven) = absurd (omega (arith, quiet.driven b taken, undriven))
clear_cycle words z t quiet NoResult u (drives, none) =
    let found = quiet.resulting u drives in apart (subst IsNone (result_at words z t u found.0 found.1 found.2) none)
clear_cycle words z t quiet Address u (issue, is, memory, outside) = quiet.plain u issue is memory

-- no cycle of the image has a conflict, whatever the inputs
pub increment-clear : (z : Rows) (t : ℕ) → IsClear (microprogram_of increment) z t
increment-clear z t = clear_cycle increment.words z t (quiet_words (t % 16))

-- the image's run over three samples
pub increment-runs :
    IsRunOut (microprogram_of increment) ((pos 0 ∷ []) ∷ (pos 127 ∷ []) ∷ (negsuc 127 ∷ []) ∷ [])
    ((pos 1 ∷ []) ∷ (negsuc 127 ∷ []) ∷ (negsuc 126 ∷ []) ∷ [])
unfolding value entries_by wrap_of
increment-runs = record { clear = λ t below. increment-clear _ t; put = refl }

-- cycles 0 and 1 of the changed image are as they were
pub two_drivers-clear : (z : Rows) (t : ℕ) → t < 2 → IsClear (microprogram_of two_drivers) z t
two_drivers-clear z zero below = clear_cycle two_drivers.words z 0 quiet_fetch
two_drivers-clear z (suc zero) below = clear_cycle two_drivers.words z 1 (quiet_words 1)
two_drivers-clear z (suc (suc t)) below = absurd (omega (arith, below))

not_busy : (z : Rows) (kind : ConflictKind) (place : ℕ)
    → HasConflict kind (microprogram_of two_drivers) z 2 place
    → 1 ≤ rank kind
not_busy z Busy u (here, (s, before, within, there)) =
    absurd (omega (arith, before, within, gap_is two_drivers.words u))
not_busy z TwoDrivers place is = omega arith
not_busy z FileTwice place is = omega arith
not_busy z NoDriver place is = omega arith
not_busy z NoResult place is = omega arith
not_busy z Address place is = omega arith

-- cycle 2 has two units on bus 0
pub two_drivers-conflict : (z : Rows)
    → IsConflict (microprogram_of two_drivers) z (record { cycle = 2; kind = TwoDrivers; place = 0 })
two_drivers-conflict z = record { there = omega arith; least_kind = not_busy z; least_place = λ place is. omega arith }
