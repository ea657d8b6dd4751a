use Rattle.silage_parse.specs.Private.Parsed.{effect, block_end}
use Rattle.silage_parse.proofs.Steps.{[], start, stops_at, fault_is}
use Rattle.silage_parse.proofs.Loops.{block_ended}
use Rattle.silage_parse.proofs.parser.Parser.block_end.Goals as goal

pub returns-in_err-expect_reserved : goal.returns-in_err-expect_reserved
returns-in_err-expect_reserved c =
    rw (fault_is c.from_residual.result c.from_residual.ensures.1)
    (stops_at _ (start (block_end (effect c.args.effect)) c.args.self.now []) c.in_err-expect_reserved.ensures)

pub returns : goal.returns
returns c = block_ended _ _ c.expect_symbol.result c.in_ok-expect_reserved.ensures c.expect_symbol.ensures
