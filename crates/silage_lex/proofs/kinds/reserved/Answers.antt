use Rattle.std.proofs.Common.{sym}
use Rattle.silage_lex.proofs.Positions.{long_word}
use Rattle.silage_lex.proofs.kinds.reserved.Goals as goal

pub returns-in_default-49 : goal.returns-in_default-49
returns-in_default-49 c = sym (long_word c.args.word.now c.in_default.len_at_least)
