use Rattle.front_end.proofs.Graphs.{graph_keeps_program}
use Rattle.net_command.proofs.PortTypes.{ports_are}
use Rattle.signal_graph.specs.Flat as flat
use Rattle.silage_syntax.specs.Tree.{view}
use Rattle.net_command.proofs.processors.source_in.Goals as goal

pub returns-in-Ok-clause-ok : goal.returns-in-Ok-clause-ok
returns-in-Ok-clause-ok c =
    let program = view c.in_ok-accepted.accepted.program in
    let f = flat.view c.in_ok-accepted.accepted.flat in
    let has = c.in_ok-accepted.ensures.ok in
    record {
      program = program;
      source_is = λ s is. record {
        read = has.source_is s is;
        graph = record { expanded = f; flat_program = has.flat_of; graph = c.in-Ok.ensures.graph };
      };
      keeps = record {
        sound = c.in-Ok.ensures.sound;
        loopless = c.in-Ok.ensures.loopless;
        keeps =
            graph_keeps_program has.source program (has.source_is has.source has.is) f has.flat_of has.loopless
            c.in-Ok.graph c.in-Ok.ensures.graph;
      };
      typed = has.typed;
      ports_are =
          ports_are program f c.in_ok-ports.ports has.flat_of has.outs c.in_ok-ports.ensures.inputs
          c.in_ok-ports.ensures.outs;
    }
