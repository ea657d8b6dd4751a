-- The pruned graph of a flat program of a program keeps the program's solutions.
use Rattle.std.proofs.Common.{ℕ, List}
use Rattle.silage_syntax.specs.Tree.{Program}
use Rattle.signal_graph.specs.Flat as flat
use Rattle.signal_graph.specs.FlatSolves.{IsFlatLoopless}
use Rattle.signal_graph.specs.declared.graph.Graph.{Graph}
use Rattle.flow_graph.specs.PrunedGraph.{IsPrunedGraphOf}
use Rattle.loop_expand.specs.KeepsProgram.{KeepsProgramSolutions}
use Rattle.loop_expand.proofs.ProgramKeeps.{program_keeps}
use Rattle.source_faults.specs.Faults.{HasProgram}
use Rattle.front_end.specs.ProgramFlat.{IsProgramFlat}
use Rattle.front_end.proofs.Counts.{checked}

pub graph_keeps_program : (source : List ℕ) (p : Program)
    → HasProgram source p
    → (f : flat.Program)
    → IsProgramFlat p f
    → IsFlatLoopless f
    → (g : Graph)
    → IsPrunedGraphOf f g
    → KeepsProgramSolutions p g
graph_keeps_program source p has f flat_of loopless g graph_of =
    program_keeps p
    (checked source p has.read (record { names = has.names; elements = has.elements; types = has.types }))
    flat_of.elements flat_of.expansion f flat_of.flat_of loopless graph_of.whole graph_of.graph_of g graph_of.pruned
