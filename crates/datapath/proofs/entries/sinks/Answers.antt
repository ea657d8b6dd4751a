use Rattle.std.proofs.Common.{List, ℕ, Bor, get_or, sym}
use Rattle.std.proofs.lemmas.List.{get_or_default}
use Rattle.std.proofs.lemmas.Result.{err_from_is_err_and}
use Rattle.datapath.specs.Names.{sink}
use Rattle.datapath.proofs.Turn.{turn_goes_on, turn_ends, turn_done, no_text}
use Rattle.datapath.proofs.entries.sinks.Goals as goal

abbrev text_of : Bor (List ℕ) → List ℕ
text_of name = name.now

pub returns-in_err-port : goal.returns-in_err-port
returns-in_err-port c =
    let p = err_from_is_err_and c.from_residual-in_err-port.result c.from_residual-in_err-port.ensures.1 in
    let names = c.args.names.now in
    let i = c.loop-name.name-index in
    let same = get_or_default names i no_text (get_or names i no_text) c.loop-name-test.true in
    rw (p.1, p.2)
    (turn_ends (sink c.args.section c.args.units.now) text_of names i (get_or names i no_text) c.in_err-port.field-0.0
    c.loop-name.sinks _ c.loop-name-test.true same (λ _. sym (rw c.as_slice.ensures at c.in_err-port.ensures))
    c.loop-name.invariant)

pub loop-name-preserved : goal.loop-name-preserved
loop-name-preserved c =
    let names = c.args.names.now in
    let i = c.loop-name.name-index in
    let same = get_or_default names i no_text (get_or names i no_text) c.loop-name-test.true in
    rw c.in_ok-push.ensures.ok
    (turn_goes_on (sink c.args.section c.args.units.now) text_of names i (get_or names i no_text) c.in_ok-port.port
    c.loop-name.sinks _ c.loop-name-test.true same (sym (rw c.as_slice.ensures at c.in_ok-port.ensures))
    c.loop-name.invariant)

pub returns : goal.returns
returns c = turn_done (sink c.args.section c.args.units.now) text_of c.args.names.now c.loop-name.name-index
    c.loop-name.sinks _ c.loop-name-test.false c.loop-name.invariant
