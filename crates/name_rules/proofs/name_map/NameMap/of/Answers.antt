-- A name that is not kept yet is kept after the others; one that is kept already is a duplicate.
use Rattle.std.proofs.Common.{◌≡◌, ◌<◌, length, get_or, Some, ap, sym, ◌∙◌, arith, false, true}
use Rattle.std.proofs.lemmas.Bool.{not-true, not-false}
use Rattle.silage_syntax.specs.Tree.{view, view_top}
use Rattle.name_rules.specs.declared.fault.NameFault.TheVariants.{Twice}
use Rattle.name_rules.specs.Meanings.{is_among}
use Rattle.name_rules.specs.TopNames.{top_names}
use Rattle.name_rules.proofs.FirstPlaces.{kept_more, kept_all, kept_twice, top_stands, name_stands, names_length}
use Rattle.name_rules.proofs.name_map.NameMap.of.Goals as goal

pub loop-top-preserved : goal.loop-top-preserved
loop-top-preserved c =
    let tops = c.as_slice-top-items.ensures in
    let within : c.loop-top.top-index < length c.args.program.now.tops = let n = ap length tops in omega arith in
    let is : c.top-item.result ≡ get_or c.args.program.now.tops c.loop-top.top-index c.top-item.result =
    c.top-item.is ∙ ap (λ xs. get_or xs c.loop-top.top-index c.top-item.result) tops in
    let here =
    name_stands c.args.program.now.tops c.loop-top.top-index c.top-item.result within is
    ∙ ap Some (sym c.top_name.ensures) in
    let new : is_among c.loop-top.names c.top_name.result.now ≡ false =
    not-true _ (sym c.in_ok-insert.ensures.added ∙ c.if-not-branch.false) in
    kept_more (top_names (view c.args.program.now)) c.loop-top.top-index _ _ _ here new c.in_ok-insert.ensures.names
    c.loop-top.invariant

pub returns-clause-distinct : goal.returns-clause-distinct
returns-clause-distinct c =
    let n = ap length c.as_slice-top-items.ensures in
    let m = names_length c.args.program.now.tops in
    (kept_all (top_names (view c.args.program.now)) c.loop-top.top-index _
    (let f = c.loop-top-test.false in omega arith) c.loop-top.invariant).1

pub returns-clause-names : goal.returns-clause-names
returns-clause-names c =
    let n = ap length c.as_slice-top-items.ensures in
    let m = names_length c.args.program.now.tops in
    (kept_all (top_names (view c.args.program.now)) c.loop-top.top-index _
    (let f = c.loop-top-test.false in omega arith) c.loop-top.invariant).0

pub returns-then-not-branch-clause-twice : goal.returns-then-not-branch-clause-twice
returns-then-not-branch-clause-twice c = λ other.
    let tops = c.as_slice-top-items.ensures in
    let within : c.loop-top.top-index < length c.args.program.now.tops = let n = ap length tops in omega arith in
    let is : c.top-item.result ≡ get_or c.args.program.now.tops c.loop-top.top-index c.top-item.result =
    c.top-item.is ∙ ap (λ xs. get_or xs c.loop-top.top-index c.top-item.result) tops in
    let seen : is_among c.loop-top.names c.top_name.result.now ≡ true =
    not-false _ (sym c.in_ok-insert.ensures.added ∙ c.if-not-branch.true) in
    kept_twice (view c.args.program.now) c.loop-top.top-index (view_top c.top-item.result) _ _
    (top_stands c.args.program.now.tops c.loop-top.top-index c.top-item.result within is)
    (ap (is_among c.loop-top.names) (sym c.top_name.ensures) ∙ seen) (ap Twice c.top_at.ensures) c.loop-top.invariant
