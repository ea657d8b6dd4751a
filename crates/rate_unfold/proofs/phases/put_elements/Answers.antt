use Rattle.rate_unfold.proofs.PhaseElements.{element_within}
use Rattle.rate_unfold.proofs.phases.put_elements.Goals as goal

pub element_in_phase-requires-clause-element : goal.element_in_phase-requires-clause-element
element_in_phase-requires-clause-element c =
    element_within c.args.phase.now.elements c.args.elems.now c.loop-element.element-index c.element-item.result
    c.requires.elements c.loop-element-test.true c.element-item.is
