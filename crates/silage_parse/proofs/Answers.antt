-- What the run of the machine says of the tokens, as `parse` promises it.
use Rattle.std.proofs.Common.{refl, List, Result, Ok, Err, inl, inr}
use Rattle.std.specs.Prelude.{◌≢◌, IfOk, IfErr}
use Rattle.silage_lex.specs.declared.Token.{Token}
use Rattle.silage_syntax.specs.declared.tree.Program.{Program as RustProgram}
use Rattle.silage_syntax.specs.Tree.{Program, view}
use Rattle.silage_parse.specs.Answers.{IsWithin, HasFault, AnswersProgram, AnswersFault}
use Rattle.silage_parse.specs.Private.Parsed.{IsRun}
use Rattle.silage_parse.specs.declared.ParseFault.{ParseFault}
use Rattle.silage_parse.specs.declared.ParseFault.TheVariants.{Syntax, Deep, Memory}
use Rattle.silage_parse.proofs.Outcomes.{program_answer, fault_answer}
use Rattle.silage_parse.proofs.CompletePrograms.{reads_of}
use Rattle.silage_parse.proofs.SoundPrograms.{program_of}
use Rattle.silage_parse.proofs.OneAnswer.{one_fault, within_no_fault}

pub answers_program : (ts : List Token) (r : Result RustProgram ParseFault)
    → IsRun ts r
    → IfOk r (λ program. IsWithin ts (view program))
answers_program ts (Ok program) run = program_answer reads_of program_of ts (view program) run
answers_program ts (Err f) run = tt

pub answers_fault : (ts : List Token) (r : Result RustProgram ParseFault)
    → IsRun ts r
    → IfErr r (λ f. f ≢ Memory → HasFault ts f)
answers_fault ts (Ok program) run = tt
answers_fault ts (Err (Syntax k)) run = λ _. fault_answer reads_of program_of ts (Syntax k) run
answers_fault ts (Err (Deep k)) run = λ _. fault_answer reads_of program_of ts (Deep k) run
answers_fault ts (Err Memory) run = λ h. absurd (h refl)

pub answers_each_program : (ts : List Token) (r : Result RustProgram ParseFault)
    → IsRun ts r
    → (program : Program)
    → IsWithin ts program
    → AnswersProgram program r
answers_each_program ts (Ok found) run program w =
    w.is.only (view found) (program_answer reads_of program_of ts (view found) run).is.derives
answers_each_program ts (Err (Syntax k)) run program w =
    absurd (within_no_fault ts program (Syntax k) w (fault_answer reads_of program_of ts (Syntax k) run))
answers_each_program ts (Err (Deep k)) run program w =
    absurd (within_no_fault ts program (Deep k) w (fault_answer reads_of program_of ts (Deep k) run))
answers_each_program ts (Err Memory) run program w = refl

pub answers_each_fault : (ts : List Token) (r : Result RustProgram ParseFault)
    → IsRun ts r
    → (f : ParseFault)
    → HasFault ts f
    → AnswersFault f r
answers_each_fault ts (Ok found) run f h =
    within_no_fault ts (view found) f (program_answer reads_of program_of ts (view found) run) h
answers_each_fault ts (Err (Syntax k)) run f h =
    inl (one_fault ts (Syntax k) f (fault_answer reads_of program_of ts (Syntax k) run) h)
answers_each_fault ts (Err (Deep k)) run f h =
    inl (one_fault ts (Deep k) f (fault_answer reads_of program_of ts (Deep k) run) h)
answers_each_fault ts (Err Memory) run f h = inr refl
