use Rattle.std.proofs.Common.{arith}
use Rattle.silage_lex.proofs.FewTokens.{few_tokens}
use Rattle.front_end.proofs.acceptance.read_program.Goals as goal

pub parse-requires : goal.parse-requires
parse-requires c = omega (arith, c.requires, few_tokens c.args.source.now c.in-Ok.tokens c.in-Ok.ensures.tokens)
