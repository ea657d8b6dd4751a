use Rattle.silage_parse.specs.Private.ParseTable.{Outside}
use Rattle.silage_parse.specs.Private.Parsed.{local_lines, item_list, block_end, function_body}
use Rattle.silage_parse.proofs.Steps.{[], start, matches, reads, stops, stops_at, fault_is}
use Rattle.silage_parse.proofs.parser.Parser.body.Goals as goal

pub returns-in_err-expect_symbol : goal.returns-in_err-expect_symbol
returns-in_err-expect_symbol c =
    rw (fault_is c.from_residual.result c.from_residual.ensures.1)
    (stops_at _ (start function_body c.args.self.now []) c.in_err-expect_symbol.ensures)

pub returns-in_err-expect_reserved : goal.returns-in_err-expect_reserved
returns-in_err-expect_reserved c =
    rw (fault_is c.from_residual-in_err-expect_reserved.result c.from_residual-in_err-expect_reserved.ensures.1)
    (stops_at _ (matches (start function_body c.args.self.now []) c.in_ok-expect_symbol.ensures)
    c.in_err-expect_reserved.ensures)

pub returns-in_err-locals : goal.returns-in_err-locals
returns-in_err-locals c =
    rw (fault_is c.from_residual-in_err-locals.result c.from_residual-in_err-locals.ensures.1)
    (stops local_lines _ [] _ _
    (matches (matches (start function_body c.args.self.now []) c.in_ok-expect_symbol.ensures)
    c.in_ok-expect_reserved.ensures) c.in_err-locals.ensures)

pub returns-in_err-items : goal.returns-in_err-items
returns-in_err-items c =
    rw (fault_is c.from_residual-in_err-items.result c.from_residual-in_err-items.ensures.1)
    (stops item_list _ [] _ _
    (reads local_lines [] _
    (matches (matches (start function_body c.args.self.now []) c.in_ok-expect_symbol.ensures)
    c.in_ok-expect_reserved.ensures) c.in_ok-locals.ensures) c.in_err-items.ensures)

pub returns-in_err-block_end : goal.returns-in_err-block_end
returns-in_err-block_end c =
    rw (fault_is c.from_residual-in_err-block_end.result c.from_residual-in_err-block_end.ensures.1)
    (stops (block_end Outside) _ [] _ _
    (reads item_list [] _
    (reads local_lines [] _
    (matches (matches (start function_body c.args.self.now []) c.in_ok-expect_symbol.ensures)
    c.in_ok-expect_reserved.ensures) c.in_ok-locals.ensures) c.in_ok-items.ensures) c.in_err-block_end.ensures)

pub returns : goal.returns
returns c =
    let equal = c.in_ok-expect_symbol.ensures in
    let opened = c.in_ok-expect_reserved.ensures in
    let end = c.in_ok-block_end.ensures in (
      equal.token,
      opened.token,
      end.0,
      end.1,
      reads (block_end Outside) [] _
          (reads item_list [] _
          (reads local_lines [] _ (matches (matches (start function_body c.args.self.now []) equal) opened)
          c.in_ok-locals.ensures) c.in_ok-items.ensures) end.2,
    )
