use Rattle.std.proofs.Common.{Some, arith, sym, ap, rules}
use Rattle.element_rules.proofs.SubscriptPlaces.{in_rows, only_picked}
use Rattle.element_rules.proofs.subscripts.in_rows.Goals as goal

pub returns-then-row-rows-clause-place : goal.returns-then-row-rows-clause-place
returns-then-row-rows-clause-place c = in_rows c.args.rows c.args.columns c.args.place (omega arith) (search rules)

pub returns-then-row-rows-clause-only : goal.returns-then-row-rows-clause-only
returns-then-row-rows-clause-only c subs h =
    let p = only_picked c.args.rows c.args.columns c.args.place subs h in
    ap Some (sym p.is)

pub returns-else-row-rows-clause-only : goal.returns-else-row-rows-clause-only
returns-else-row-rows-clause-only c subs h =
    let p = only_picked c.args.rows c.args.columns c.args.place subs h in
    absurd (omega (arith, p.less))
