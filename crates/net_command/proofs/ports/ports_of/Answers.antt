use Rattle.std.proofs.Common.{◌∙◌, ap}
use Rattle.net_command.specs.Ports.{program_ports}
use Rattle.net_command.proofs.PortTypes.{ports_are, no_ports}
use Rattle.signal_graph.specs.Flat as flat
use Rattle.silage_syntax.specs.Tree.{view}
use Rattle.statuses.specs.Faults.{of_front}
use Rattle.net_command.proofs.ports.ports_of.Goals as goal

pub returns-in_err-accepted-clause-each_program : goal.returns-in_err-accepted-clause-each_program
returns-in_err-accepted-clause-each_program c = λ program has.
    no_ports c.from_residual.result (of_front c.in_err-accepted.field-0.0.error) program c.from_residual.ensures.1
    (ap of_front (c.in_err-accepted.ensures.each_program program has))

pub returns-clause-each_program : goal.returns-clause-each_program
returns-clause-each_program c = λ program has.
    ports_are (view c.in_ok-accepted.accepted.program) (flat.view c.in_ok-accepted.accepted.flat)
    c.in_ok-ports_in.field-0 c.in_ok-accepted.ensures.flat c.in_ok-accepted.ensures.outputs
    c.in_ok-ports_in.ensures.inputs c.in_ok-ports_in.ensures.outs
    ∙ ap program_ports (c.in_ok-accepted.ensures.each_program program has)
