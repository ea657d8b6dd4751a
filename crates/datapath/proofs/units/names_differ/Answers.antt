use Rattle.std.proofs.Common.{sym, ◌∙◌}
use Rattle.datapath.proofs.Fresh.{names_go_on, names_end, names_done}
use Rattle.datapath.proofs.units.names_differ.Goals as goal

pub returns-then-has_name : goal.returns-then-has_name
returns-then-has_name c =
    λ _. names_end c.args.units.now c.loop-place.place c.index-units-place.result _ c.loop-place-test.true
    c.index-units-place.is (sym (rw c.as_slice.ensures at c.has_name.ensures) ∙ c.if-has_name.true)
    c.loop-place.invariant

pub loop-place-preserved : goal.loop-place-preserved
loop-place-preserved c =
    names_go_on c.args.units.now c.loop-place.place c.index-units-place.result _ c.loop-place-test.true
    c.index-units-place.is (sym (rw c.as_slice.ensures at c.has_name.ensures) ∙ c.if-has_name.false)
    c.loop-place.invariant

pub returns : goal.returns
returns c = names_done c.args.units.now c.loop-place.place _ c.loop-place-test.false c.loop-place.invariant
