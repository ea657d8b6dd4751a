-- The canonical text of a program is parsed within the limits.
use Rattle.std.specs.Prelude.{◌≡◌}
use Rattle.silage_lex.specs.Tokens.{HasTokens, TokenList}
use Rattle.silage_syntax.specs.Tree.{Program}
use Rattle.silage_syntax.specs.Positions.{unpositioned}
use Rattle.silage_parse.specs.Answers.{IsWithin}
use Rattle.silage_print.specs.ReadAgain.{ByteList}
use Rattle.silage_print.specs.Text.{canonical}

-- some source has the program, within the limits
pub record HasParsedSource (program : Program) : Type 0 where
  pub bytes : ByteList
  pub tokens : TokenList
  pub has_tokens : HasTokens bytes tokens
  pub within : IsWithin tokens program

-- the canonical text has tokens that are the program within the limits, up to positions
pub record IsWithinAgain (program : Program) : Type 0 where
  pub tokens : TokenList
  pub has_tokens : HasTokens (canonical program) tokens
  pub read : Program
  pub within : IsWithin tokens read
  pub same : unpositioned read ≡ unpositioned program
