-- A command of the code, as one of the definitions.
use Rattle.command_words.specs.Command.{Command, compile, schedule, list, sim, eval, run, demo, stages, pipe, frame}
use Rattle.command_words.specs.Command.{net}
use Rattle.command_words.specs.declared.forms.Command as code
use Rattle.command_words.specs.declared.forms.Command.TheVariants as code_is

abbrev pub named : code.Command → Command
named (code_is.Compile src datapath out) = compile src.now datapath.now out.now
named (code_is.Schedule src datapath) = schedule src.now datapath.now
named (code_is.List mic) = list mic.now
named (code_is.Sim mic samples out) = sim mic.now samples.now out.now
named (code_is.Eval src samples out) = eval src.now samples.now out.now
named (code_is.Run src datapath samples out) = run src.now datapath.now samples.now out.now
named (code_is.Demo sections samples) = demo sections samples
named (code_is.Stages src datapath overlap) = stages src.now datapath.now overlap
named (code_is.Pipe src datapath overlap samples out) = pipe src.now datapath.now overlap samples.now out.now
named (code_is.Frame src datapath phases down up out) =
    frame src.now datapath.now phases down.items up.items out.now
named (code_is.Net joins samples out) = net joins.now samples.now out.now
