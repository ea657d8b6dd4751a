-- The error that the fault of a phase comes to.
use Rattle.type_rules.specs.declared.fault.TypeFault.{TypeFault}
use Rattle.type_rules.specs.declared.fault.TypeFault.TheVariants as kind
use Rattle.flow_graph.specs.declared.fault.GraphFault.{GraphFault}
use Rattle.flow_graph.specs.declared.fault.GraphFault.TheVariants as graph
use Rattle.name_rules.specs.declared.fault.NameFault.{NameFault}
use Rattle.name_rules.specs.declared.fault.NameFault.TheVariants as name
use Rattle.silage_lex.specs.declared.LexFault.{LexFault}
use Rattle.silage_lex.specs.declared.LexFault.TheVariants as lex
use Rattle.silage_parse.specs.declared.ParseFault.{ParseFault}
use Rattle.silage_parse.specs.declared.ParseFault.TheVariants as parse
use Rattle.element_rules.specs.declared.fault.DefFault.{DefFault}
use Rattle.element_rules.specs.declared.fault.DefFault.TheVariants as def
use Rattle.source_faults.specs.declared.fault.FrontError.{FrontError}
use Rattle.source_faults.specs.declared.fault.FrontError.TheVariants.{Fault, Memory}
use Rattle.source_faults.specs.declared.fault.FrontFault.TheVariants.{Lex, Parse, Name, Def, Kind, Loop}

abbrev pub of_lex : LexFault → FrontError
of_lex lex.Memory = Memory
of_lex fault = Fault (Lex fault)

abbrev pub of_parse : ParseFault → FrontError
of_parse parse.Memory = Memory
of_parse fault = Fault (Parse fault)

abbrev pub of_names : NameFault → FrontError
of_names name.Memory = Memory
of_names fault = Fault (Name fault)

abbrev pub of_defs : DefFault → FrontError
of_defs def.Memory = Memory
of_defs fault = Fault (Def fault)

abbrev pub of_types : TypeFault → FrontError
of_types kind.Memory = Memory
of_types fault = Fault (Kind fault)

abbrev pub of_build : GraphFault → FrontError
of_build (graph.Loop elem) = Fault (Loop elem)
of_build graph.Memory = Memory
