-- What `parse` answers, said of the grammar and the limits alone.
use Rattle.std.specs.Prelude.{◌≡◌, ℕ, ◌+◌, ◌≤◌, ◌<◌, ◌⊎◌, List, length, Result, Ok, Err}
use Rattle.silage_lex.specs.declared.Token.{Token}
use Rattle.silage_syntax.specs.declared.tree.Program.{Program as RustProgram}
use Rattle.silage_syntax.specs.Tree.{Program, view}
use Rattle.silage_syntax.specs.Grammar.{Derives}
use Rattle.silage_syntax.specs.Limits.{Begins, IsDeep}
use Rattle.silage_parse.specs.declared.ParseFault.{ParseFault}
use Rattle.silage_parse.specs.declared.ParseFault.TheVariants.{Syntax, Deep, Memory}

-- the tokens are this program and no other
pub record IsOnly (ts : List Token) (program : Program) : Type 0 where
  pub derives : Derives ts program
  pub only : (other : Program) → Derives ts other → other ≡ program

-- no token before token k passes a limit
abbrev pub NoneDeepBelow : List Token → ℕ → Type 0
NoneDeepBelow ts k = (m : ℕ) → m < k → ¬ IsDeep ts m

-- the first k tokens begin a program; with token k none goes on, or there is none and they are no program
pub record IsSyntax (ts : List Token) (k : ℕ) : Type 0 where
  pub within : k ≤ length ts
  pub begins : Begins ts k
  pub ends : k < length ts → ¬ Begins ts (k + 1)
  pub no_program : k ≡ length ts → (program : Program) → ¬ Derives ts program

-- the fault of the tokens, at the least token that has one; a token that passes a limit ends a viable prefix
abbrev pub HasFault : List Token → ParseFault → Type 0
HasFault ts (Syntax k) = IsSyntax ts k × NoneDeepBelow ts k
HasFault ts (Deep k) = IsDeep ts k × NoneDeepBelow ts k
HasFault ts Memory = ⊥

-- the tokens are a program within the limits
pub record IsWithin (ts : List Token) (program : Program) : Type 0 where
  pub is : IsOnly ts program
  pub limits : NoneDeepBelow ts (length ts)

-- the call answers this program, or there is no memory
abbrev pub AnswersProgram : Program → Result RustProgram ParseFault → Type 0
AnswersProgram program (Ok found) = view found ≡ program
AnswersProgram program (Err fault) = fault ≡ Memory

-- the call answers this fault, or there is no memory
abbrev pub AnswersFault : ParseFault → Result RustProgram ParseFault → Type 0
AnswersFault fault (Ok found) = ⊥
AnswersFault fault (Err other) = (other ≡ fault) ⊎ (other ≡ Memory)
