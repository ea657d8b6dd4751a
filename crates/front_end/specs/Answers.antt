-- What `accept` and `accept_flat` answer for a source.
use Rattle.std.specs.Prelude.{◌≡◌, ◌⊎◌, ℕ, List, Result, Ok, Err}
use Rattle.silage_syntax.specs.Tree.{Program, view}
use Rattle.source_faults.specs.Faults.{IsFrontFault, IsOfSource}
use Rattle.source_faults.specs.declared.fault.FrontError.{FrontError}
use Rattle.source_faults.specs.declared.fault.FrontError.TheVariants.{Fault, Memory}
use Rattle.source_faults.specs.declared.fault.FrontFault.{FrontFault}
use Rattle.front_end.specs.declared.acceptance.Accepted.{Accepted}
use Rattle.front_end.specs.declared.acceptance.AcceptedFlat.{AcceptedFlat}
use Rattle.source_faults.specs.declared.rejection.Rejection.{Rejection}

-- the source has the fault of the error, or there was no memory
abbrev pub IsFrontError : List ℕ → FrontError → Type 0
IsFrontError source (Fault fault) = IsOfSource fault × IsFrontFault source fault
IsFrontError source Memory = Unit {0}

-- the call answers what is so described, or there is no memory
abbrev pub Answers : {A : Type 0} → (A → Type 0) → Result A Rejection → Type 0
Answers Is (Ok accepted) = Is accepted
Answers Is (Err rejection) = rejection.error ≡ Memory

-- the call answers this program, with its graph or its flat program, or there is no memory
abbrev pub AnswersProgram : Program → Result Accepted Rejection → Type 0
AnswersProgram program = Answers (λ (accepted : Accepted). view accepted.program ≡ program)

abbrev pub AnswersFlat : Program → Result AcceptedFlat Rejection → Type 0
AnswersFlat program = Answers (λ (accepted : AcceptedFlat). view accepted.program ≡ program)

-- the call answers this fault, or there is no memory
abbrev pub AnswersFault : {A : Type 0} → FrontFault → Result A Rejection → Type 0
AnswersFault fault (Ok accepted) = ⊥
AnswersFault fault (Err rejection) = (rejection.error ≡ Fault fault) ⊎ (rejection.error ≡ Memory)
