use Rattle.std.proofs.Common.{arith, sym, ◌∙◌, ◌+◌, ap}
use Rattle.elaboration_code.specs.Actions.{is_defined_at}
use Rattle.elaboration_run.specs.Private.States.{definitions_of}
use Rattle.elaboration_run.proofs.Each.{each_passes}
use Rattle.elaboration_run.proofs.definitions.check_signal.Goals as goal

pub loop-k-preserved : goal.loop-k-preserved
loop-k-preserved c =
    let definitions = definitions_of c.args.definitions.now in
    let signal = c.args.signal.now in
    each_passes (λ k _. is_defined_at definitions (signal.first + k) signal.at k) 0 c.loop-k.k signal.count
    (omega arith) tt _ c.loop-k.invariant
    c.loop-k.k (omega arith) tt
    (ap (λ n. is_defined_at definitions n signal.at c.loop-k.k) (sym c.element_at.ensures) ∙ sym c.check_defined.ensures
    ∙ c.in_ok-check_defined.was)
