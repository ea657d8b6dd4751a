use Rattle.std.proofs.Common.{sym, ap, ◌∙◌, subst}
use Rattle.rate_unfold.specs.Frames.{rates}
use Rattle.frame_command.specs.Planning.{IsNoFrameSource}
use Rattle.frame_command.proofs.Framing.{frame_source, frame_fault}
use Rattle.signal_graph.specs.Flat as flat
use Rattle.silage_syntax.specs.Tree.{view}
use Rattle.statuses.specs.declared.status.Ending.{Ending}
use Rattle.frame_command.proofs.planning.frame_graph_in.Goals as goal

pub returns-in-Ok-clause-ok : goal.returns-in-Ok-clause-ok
returns-in-Ok-clause-ok c =
    frame_source (rates c.args.phases c.args.down.now c.args.up.now) c.args.input.now
    (view c.in_ok-accepted.accepted.program) (flat.view c.in_ok-accepted.accepted.flat) c.in_ok-accepted.ensures.ok
    c.in-Ok.graph c.in-Ok.ensures.graph c.in-Ok.ensures.sound c.in-Ok.ensures.loopless c.in-Ok.ensures.keeps

pub returns-clause-err : goal.returns-clause-err
returns-clause-err c =
    subst (IsNoFrameSource (rates c.args.phases c.args.down.now c.args.up.now) c.args.input.now)
    (sym (ap (λ (e : Ending). e.status) c.from-in-Err.ensures ∙ c.from.ensures))
    (frame_fault (rates c.args.phases c.args.down.now c.args.up.now) c.args.input.now
    (view c.in_ok-accepted.accepted.program) (flat.view c.in_ok-accepted.accepted.flat) c.in_ok-accepted.ensures.ok
    c.in-Err.fault c.in-Err.ensures.fault)
