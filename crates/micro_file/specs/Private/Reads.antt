-- What a call that reads gives.
use Rattle.std.specs.Prelude.{◌≡◌, ℕ, List, Result, Ok, Err}
use Rattle.micro_file.specs.declared.misread.Misread.{Misread}
use Rattle.micro_file.specs.declared.misread.Unread.{Unread}
use Rattle.micro_file.specs.declared.misread.Unread.TheVariants as unread
use Rattle.micro_file.specs.Private.Fields.{Reading}

-- this is why nothing was read, or memory ran out
abbrev pub Fails : {Y : Type 0} → Unread → Result Y Misread → Type 0
Fails (unread.Misread misread) reading = reading ≡ Err misread
Fails unread.Memory reading = Unit {0}

-- what was returned is what there is to read, unless memory ran out
abbrev pub Gives : {X : Type 0} → Result X Unread → Result X Misread → Type 0
Gives (Ok x) reading = reading ≡ Ok x
Gives (Err unread) reading = Fails unread reading

-- what was returned is the field in front of the bytes before, and those after it are left, unless memory ran out
abbrev pub Reads : {X : Type 0} → (List ℕ → Reading X) → List ℕ → Result X Unread → List ℕ → Type 0
Reads field before (Ok x) after = field before ≡ Ok (x, after)
Reads field before (Err unread) after = Fails unread (field before)

-- the same of a field that has no value
abbrev pub Passes : (List ℕ → Result (List ℕ) Misread) → List ℕ → Result (Unit {0}) Unread → List ℕ → Type 0
Passes field before (Ok x) after = field before ≡ Ok after
Passes field before (Err unread) after = Fails unread (field before)

-- the same of a field whose value is what was put together
abbrev pub Extends : {X : Type 0} → (List ℕ → Reading X) → List ℕ → Result (Unit {0}) Unread → X → List ℕ → Type 0
Extends field before (Ok _) whole after = field before ≡ Ok (whole, after)
Extends field before (Err unread) whole after = Fails unread (field before)
