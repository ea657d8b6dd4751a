use Rattle.silage_parse.specs.Private.Parsed.{function_head}
use Rattle.silage_parse.specs.Private.ParseTable.{Results, close_decls}
use Rattle.silage_parse.specs.Private.CommaLists.{list_in_parentheses, decls, results}
use Rattle.silage_parse.proofs.Steps.{sym, ◌∙◌, [], taken_from, taken_name, start, matches, parses, reads, stops}
use Rattle.silage_parse.proofs.Steps.{stops_at, fault_is}
use Rattle.silage_parse.proofs.parser.Parser.head.Goals as goal

pub returns-in_err-name : goal.returns-in_err-name
returns-in_err-name c =
    rw (fault_is c.from_residual.result c.from_residual.ensures.1)
    (stops_at _ (start function_head c.args.self.now []) c.in_err-name.ensures)

pub returns-in_err-params : goal.returns-in_err-params
returns-in_err-params c =
    rw (fault_is c.from_residual-in_err-params.result c.from_residual-in_err-params.ensures.1)
    (stops (list_in_parentheses decls) _ [] _ _
    (matches (start function_head c.args.self.now []) c.in_ok-name.ensures.0) c.in_err-params.ensures)

pub returns-in_err-results : goal.returns-in_err-results
returns-in_err-results c =
    rw (fault_is c.from_residual-in_err-results.result c.from_residual-in_err-results.ensures.1)
    (stops_at _
    (reads (list_in_parentheses decls) [] _ (matches (start function_head c.args.self.now []) c.in_ok-name.ensures.0)
    c.in_ok-params.ensures.2) (c.in_err-results.ensures Results close_decls results))

pub returns : goal.returns
returns c =
    let name = c.in_ok-name.ensures in
    let params = c.in_ok-params.ensures in (
      name.0.token,
      params.0,
      params.1,
      taken_name name.0 name.1,
      sym (taken_from name.0) ∙ sym c.start-at.ensures,
      parses (reads (list_in_parentheses decls) [] _ (matches (start function_head c.args.self.now []) name.0) params.2)
          (c.in_ok-results.ensures Results close_decls results),
    )
