-- The faults of a source: which one is the first over all phases, and when a source has a program. A phase's own faults
-- are defined in the crate of that phase.
use Rattle.std.specs.Prelude.{ℕ, ◌^◌, ◌≤◌, ◌<◌, List, length}
use Rattle.fault_order.specs.Ranked.{IsClear, IsFirst}
use Rattle.silage_lex.specs.Tokens.{HasTokens}
use Rattle.silage_lex.specs.Faults.{HasFault as HasLexFault}
use Rattle.silage_lex.specs.declared.Token.{Token}
use Rattle.silage_lex.specs.declared.LexFault.TheVariants as lex
use Rattle.silage_syntax.specs.Tree.{Program}
use Rattle.silage_meaning.specs.Rules.{HasNoDelaylessLoop}
use Rattle.silage_parse.specs.Answers.{IsWithin, HasFault as HasParseFault}
use Rattle.silage_parse.specs.declared.ParseFault.TheVariants as parse
use Rattle.name_rules.specs.NameFaults.{name_faults}
use Rattle.name_rules.specs.declared.fault.NameFault.TheVariants as name
use Rattle.element_rules.specs.ElementFaults.{element_faults}
use Rattle.element_rules.specs.declared.fault.DefFault.TheVariants as def
use Rattle.type_rules.specs.TypeFaults.{type_faults}
use Rattle.type_rules.specs.declared.fault.TypeFault.TheVariants as kind
use Rattle.source_faults.specs.Loops.{IsFirstLoop}
use Rattle.source_faults.specs.declared.fault.FrontFault.{FrontFault}
use Rattle.source_faults.specs.declared.fault.FrontFault.TheVariants.{TooLong, Lex, Parse, Name, Def, Kind, Loop}

-- the most bytes of a source
abbrev pub source_limit : ℕ
source_limit = 2 ^ 20

-- the source's tokens are the program, within the limits of the language
pub record IsRead (source : List ℕ) (program : Program) : Type 0 where
  pub size : length source ≤ source_limit
  pub tokens : List Token
  pub lexed : HasTokens source tokens
  pub parsed : IsWithin tokens program

-- the source has no fault, and is this program
pub record HasProgram (source : List ℕ) (program : Program) : Type 0 where
  pub read : IsRead source program
  pub names : IsClear (name_faults program)
  pub elements : IsClear (element_faults program)
  pub types : IsClear (type_faults program)
  pub loops : HasNoDelaylessLoop program

-- the first fault of the source: the first of a phase, where no phase before it has one
abbrev pub IsFrontFault : List ℕ → FrontFault → Type 0
IsFrontFault source TooLong = source_limit < length source
IsFrontFault source (Lex fault) = (length source ≤ source_limit) × HasLexFault source fault
IsFrontFault source (Parse fault) =
    (length source ≤ source_limit) × (tokens : List Token) × HasTokens source tokens × HasParseFault tokens fault
IsFrontFault source (Name fault) = (program : Program) × IsRead source program × IsFirst (name_faults program) fault
IsFrontFault source (Def fault) =
    (program : Program) × IsRead source program × IsClear (name_faults program) × IsFirst (element_faults program) fault
IsFrontFault source (Kind fault) =
    (program : Program) × IsRead source program × IsClear (name_faults program) × IsClear (element_faults program)
    × IsFirst (type_faults program) fault
IsFrontFault source (Loop elem) =
    (program : Program) × IsRead source program × IsClear (name_faults program) × IsClear (element_faults program)
    × IsClear (type_faults program) × IsFirstLoop program elem

-- the fault is one of a source; want of memory is an error of its own
abbrev pub IsOfSource : FrontFault → Type 0
IsOfSource (Lex lex.Memory) = ⊥
IsOfSource (Parse parse.Memory) = ⊥
IsOfSource (Name name.Memory) = ⊥
IsOfSource (Def def.Memory) = ⊥
IsOfSource (Kind kind.Memory) = ⊥
IsOfSource fault = Unit {0}
