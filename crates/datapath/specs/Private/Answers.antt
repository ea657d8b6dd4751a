-- Answers that hold references, seen as the values that they refer to.
use Rattle.std.specs.Prelude.{◌≡◌, ◌≢◌, ℕ, map, List, Result, Ok, Err}
use denote.Ref.{Bor}
use Rattle.datapath.specs.declared.fault.Misfit.{Misfit}
use Rattle.datapath.specs.declared.fault.PathFault.{PathFault}
use Rattle.datapath.specs.declared.fault.PathFault.TheVariants as fault
use Rattle.datapath.specs.Reading.{Read}

-- the texts of a list of `&str`
abbrev pub texts : List (Bor (List ℕ)) → List (List ℕ)
texts names = map (λ name. name.now) names

-- the answer is what is read, unless memory ran out
abbrev pub GivesAs : {X A : Type 0} → (X → A) → Result X PathFault → Read A → Type 0
GivesAs view (Ok x) read = read ≡ Ok (view x)
GivesAs view (Err e) read = e ≢ fault.Memory → read ≡ Err e

-- a judgement
abbrev pub seen : {X A : Type 0} → (X → A) → Result X Misfit → Result A Misfit
seen view (Ok x) = Ok (view x)
seen view (Err e) = Err e
