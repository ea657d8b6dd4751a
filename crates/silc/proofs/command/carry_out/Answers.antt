use Rattle.std.proofs.Common.{sym, subst, ℕ, List}
use Rattle.command_words.specs.Named.{named}
use Rattle.command_words.specs.declared.forms.Command.{Command}
use Rattle.frame_command.specs.Frame.{IsFrameAnswer}
use Rattle.net_command.specs.Net.{IsNetDone, IsNetError}
use Rattle.net_command.proofs.NetAnswers.{net_not_done}
use Rattle.rate_unfold.specs.Frames.{rates}
use Rattle.run_command.specs.Run.{IsExecuted, IsRunError}
use Rattle.sample_commands.specs.Sim.{IsSimulated, IsSimError}
use Rattle.silc.specs.Endings.{IsEnding}
use Rattle.silc.specs.declared.kept.Kept.TheVariants.{One, Staged, Joined}
use Rattle.silc.proofs.Keeping.{kept_ending}
use Rattle.silc.proofs.command.carry_out.Goals as goal
use Rattle.stage_commands.specs.Pipe.{IsPiped, IsPipeError}

pub returns-in-Sim-clause-ending : goal.returns-in-Sim-clause-ending
returns-in-Sim-clause-ending g c =
    let old = g.D.Desk.view c.args.desk.now in
    let new = g.D.Desk.view c.sim.new.desk in
    let mic = c.in-Sim.microcode.now in
    let samples = c.in-Sim.samples.now in
    let out = c.in-Sim.output.now in
    let ended =
    kept_ending One (λ machine. IsSimulated mic samples out machine old new) (IsSimError mic samples out old new)
    c.sim.result c.keep.new.kept c.keep.result (λ never. never) c.keep.ensures.done c.keep.ensures.error
    c.sim.ensures.ok c.sim.ensures.err in
    subst (λ (command : Command). IsEnding (named command) old new c.keep.new.kept c.keep.result.status)
    (sym c.in-Sim.is) (ended.0, c.sim.ensures.only, ended.1)

pub returns-in-Run-clause-ending : goal.returns-in-Run-clause-ending
returns-in-Run-clause-ending g c =
    let old = g.D.Desk.view c.args.desk.now in
    let new = g.D.Desk.view c.run.new.desk in
    let src = c.in-Run.source.now in
    let datapath = c.in-Run.datapath.now in
    let samples = c.in-Run.samples.now in
    let out = c.in-Run.output.now in
    let ended =
    kept_ending One (λ machine. IsExecuted src datapath samples out machine old new)
    (IsRunError src datapath samples out old new) c.run.result c.keep-in-Run.new.kept c.keep-in-Run.result
    (λ never. never) c.keep-in-Run.ensures.done c.keep-in-Run.ensures.error c.run.ensures.ok c.run.ensures.err in
    subst (λ (command : Command). IsEnding (named command) old new c.keep-in-Run.new.kept c.keep-in-Run.result.status)
    (sym c.in-Run.is) (ended.0, c.run.ensures.only, ended.1)

pub returns-in-Pipe-clause-ending : goal.returns-in-Pipe-clause-ending
returns-in-Pipe-clause-ending g c =
    let old = g.D.Desk.view c.args.desk.now in
    let new = g.D.Desk.view c.pipe.new.desk in
    let src = c.in-Pipe.source.now in
    let datapath = c.in-Pipe.datapath.now in
    let count = c.in-Pipe.count in
    let samples = c.in-Pipe.samples.now in
    let out = c.in-Pipe.output.now in
    let ended =
    kept_ending Staged (λ machine. IsPiped count src datapath samples out machine old new)
    (IsPipeError count src datapath samples out old new) c.pipe.result c.keep_staged.new.kept c.keep_staged.result
    (λ never. never) c.keep_staged.ensures.done c.keep_staged.ensures.error c.pipe.ensures.ok c.pipe.ensures.err in
    subst (λ (command : Command). IsEnding (named command) old new c.keep_staged.new.kept c.keep_staged.result.status)
    (sym c.in-Pipe.is) (ended.0, c.pipe.ensures.only, ended.1)

pub returns-in-Stages-clause-ending : goal.returns-in-Stages-clause-ending
returns-in-Stages-clause-ending g c =
    subst (λ (command : Command).
    IsEnding (named command) (g.D.Desk.view c.args.desk.now) (g.D.Desk.view c.stages.new.desk) c.args.kept.now
    c.stages.result.status) (sym c.in-Stages.is) (c.stages.ensures.answer, c.stages.ensures.only, c.requires.empty)

pub returns-in-Frame-clause-ending : goal.returns-in-Frame-clause-ending
returns-in-Frame-clause-ending g c =
    let old = g.D.Desk.view c.args.desk.now in
    let new = g.D.Desk.view c.frame.new.desk in
    let src = c.in-Frame.source.now in
    let datapath = c.in-Frame.datapath.now in
    let out = c.in-Frame.output.now in
    let status = c.frame.result.status in
    let answer =
    subst (λ (down : List ℕ).
    IsFrameAnswer (rates c.in-Frame.phases down c.in-Frame.up.items) src datapath out old new status) c.deref.ensures.0
    (subst (λ (up : List ℕ).
    IsFrameAnswer (rates c.in-Frame.phases c.deref.result.now up) src datapath out old new status)
    c.deref-in-Frame.ensures.0 c.frame.ensures.answer) in
    subst (λ (command : Command). IsEnding (named command) old new c.args.kept.now status) (sym c.in-Frame.is)
    (answer, c.frame.ensures.only, c.requires.empty)

pub returns-in-Net-clause-ending : goal.returns-in-Net-clause-ending
returns-in-Net-clause-ending g c =
    let old = g.D.Desk.view c.args.desk.now in
    let new = g.D.Desk.view c.net.new.desk in
    let joins = c.in-Net.joins.now in
    let samples = c.in-Net.samples.now in
    let out = c.in-Net.output.now in
    let ended =
    kept_ending Joined (λ joined. IsNetDone joins samples out joined old new) (IsNetError joins samples out old new)
    c.net.result c.keep_joined.new.kept c.keep_joined.result (net_not_done joins samples out old new)
    c.keep_joined.ensures.done c.keep_joined.ensures.error c.net.ensures.ok c.net.ensures.err in
    subst (λ (command : Command). IsEnding (named command) old new c.keep_joined.new.kept c.keep_joined.result.status)
    (sym c.in-Net.is) (ended.0, c.net.ensures.only, ended.1)
