-- The canonical text is read as its program, up to positions, and passes no nesting limit where the source passes none.
use Rattle.std.specs.Prelude.{◌≡◌, ℕ, List}
use Rattle.silage_lex.specs.Tokens.{HasTokens, TokenList}
use Rattle.silage_syntax.specs.Tree.{Program}
use Rattle.silage_syntax.specs.Grammar.{Role, HasRoles, Derives}
use Rattle.silage_syntax.specs.Limits.{AreWithin}
use Rattle.silage_syntax.specs.Positions.{unpositioned}
use Rattle.silage_print.specs.Text.{canonical}

abbrev pub ByteList : Type 0
ByteList = List ℕ

abbrev pub ProgramTree : Type 0
ProgramTree = Program

-- some source has the program
pub record HasSource (program : Program) : Type 0 where
  pub bytes : ByteList
  pub tokens : TokenList
  pub has_tokens : HasTokens bytes tokens
  pub derives : Derives tokens program

-- and none of its tokens passes a limit
pub record HasSourceWithin (program : Program) : Type 0 where
  pub bytes : ByteList
  pub tokens : TokenList
  pub roles : List Role
  pub has_tokens : HasTokens bytes tokens
  pub has_roles : HasRoles tokens program roles
  pub within : AreWithin roles

-- the canonical text has tokens, and they derive the program up to positions
pub record IsReadAgain (program : Program) : Type 0 where
  pub tokens : TokenList
  pub has_tokens : HasTokens (canonical program) tokens
  pub read : Program
  pub derives : Derives tokens read
  pub same : unpositioned read ≡ unpositioned program

-- and none of those tokens passes a limit
pub record IsReadWithin (program : Program) : Type 0 where
  pub again : IsReadAgain program
  pub roles : List Role
  pub has_roles : HasRoles again.tokens again.read roles
  pub within : AreWithin roles
