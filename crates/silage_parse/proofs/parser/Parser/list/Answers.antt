use Rattle.silage_parse.specs.Private.CommaLists.{list_of}
use Rattle.silage_parse.proofs.Steps.{sym, [], start, matches, parses, does, first, other, stops_at, fault_is}
use Rattle.silage_parse.proofs.Steps.{with_effect}
use Rattle.silage_parse.proofs.parser.Parser.list.Goals as goal

pub returns-in_err-read : goal.returns-in_err-read
returns-in_err-read g c =
    rw (fault_is c.from_residual.result c.from_residual.ensures.1)
    (stops_at _ (start (list_of g.T.Element.listed) c.args.self.now []) c.in_err-read.ensures)

pub more-init : goal.more-init
more-init g c =
    let e = g.T.Element.listed in
    does (parses (start (list_of e) c.args.self.now []) c.in_ok-read.ensures)
    (λ under. rw (c.in_ok-push.ensures.ok, c.new-list.ensures) (e.begins _ under))

pub returns-in_err-advance : goal.returns-in_err-advance
returns-in_err-advance g c =
    let comma = sym c.more-test.ensures.value in
    rw (fault_is c.from_residual-in_err-advance.result c.from_residual-in_err-advance.ensures.1)
    (stops_at _ (first c.more.invariant g.T.Element.listed.goes_on comma)
    (rw c.requires (c.in_err-advance.ensures _ comma)))

pub returns-in_err-read-2 : goal.returns-in_err-read-2
returns-in_err-read-2 g c =
    let comma = sym c.more-test.ensures.value in
    rw (fault_is c.from_residual-in_err-read-2.result c.from_residual-in_err-read-2.ensures.1)
    (stops_at _
    (matches (first c.more.invariant g.T.Element.listed.goes_on comma)
    (with_effect c.requires (c.in_ok-advance.ensures.as_one_of _ comma))) c.in_err-read-2.ensures)

pub more-preserved : goal.more-preserved
more-preserved g c =
    let e = g.T.Element.listed in
    let comma = sym c.more-test.ensures.value in
    does (parses
    (matches (first c.more.invariant e.goes_on comma)
    (with_effect c.requires (c.in_ok-advance.ensures.as_one_of _ comma))) c.in_ok-read-2.ensures)
    (λ under. rw c.in_ok-push-2.ensures.ok (e.adds _ _ _ under))

pub returns : goal.returns
returns g c = other c.more.invariant g.T.Element.listed.goes_on (sym c.more-test.ensures.value)
