-- The text has tokens of the program's kinds, and those are read as the program, with roles that are lighter than
-- the source's.
use Rattle.silage_lex.specs.Tokens.{HasTokens, TokenList}
use Rattle.silage_syntax.specs.Tree.{Program}
use Rattle.silage_syntax.specs.Grammar.{Derives}
use Rattle.silage_print.specs.Text.{program_text, canonical}
use Rattle.silage_print.specs.ReadAgain.{ByteList, IsReadAgain}
use Rattle.silage_print.proofs.ReadPrograms.{good_program, ReadsProgram}
use Rattle.silage_print.proofs.Tokens.{tokens_written, spelled_tokens}
use Rattle.silage_print.proofs.printing.print_is_read.Goals as goal

record Again (program : Program) : Type 0 where
  tokens : TokenList
  has_tokens : HasTokens (canonical program) tokens
  reads : ReadsProgram tokens program

read_again : (bytes : ByteList) (tokens : TokenList) (program : Program)
    → HasTokens bytes tokens
    → Derives tokens program
    → Again program
read_again bytes tokens program has derives =
    let good = good_program tokens (tokens_written bytes tokens has) program derives in
    let spelled = spelled_tokens (program_text program) good.written in
    record { tokens = spelled.tokens; has_tokens = spelled.has; reads = good.reads spelled.tokens spelled.kinds_at }

abbrev is_read : {program : Program} → Again program → IsReadAgain program
is_read a = record {
  tokens = a.tokens;
  has_tokens = a.has_tokens;
  read = a.reads.tree;
  derives = (a.reads.roles, a.reads.is);
  same = a.reads.same;
}

pub returns-clause-again : goal.returns-clause-again
returns-clause-again c = λ program source.
    is_read (read_again source.bytes source.tokens program source.has_tokens source.derives)

pub returns-clause-within : goal.returns-clause-within
returns-clause-within c = λ program source.
    let a = read_again source.bytes source.tokens program source.has_tokens (source.roles, source.has_roles) in
    record {
      again = is_read a;
      roles = a.reads.roles;
      has_roles = a.reads.is;
      within = a.reads.within source.tokens source.roles source.has_roles source.within;
    }
