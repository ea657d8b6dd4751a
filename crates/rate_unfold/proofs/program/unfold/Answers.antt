use Rattle.std.proofs.Common.{◌∙◌, ap, sym, subst}
use Rattle.signal_graph.specs.Flat.{Program, view}
use Rattle.signal_graph.specs.FlatRules.{IsFlat}
use Rattle.signal_graph.specs.FlatSolves.{IsFlatLoopless}
use Rattle.rate_unfold.specs.Frames.{Rates}
use Rattle.rate_unfold.specs.Unfolded.{IsUnfolded}
use Rattle.rate_unfold.specs.Solutions.{KeepsFrames}
use Rattle.rate_unfold.specs.Private.Unfolding.{unfolded}
use Rattle.rate_unfold.proofs.KeepsFrames.{keeps_frames}
use Rattle.rate_unfold.proofs.OnePhase.{one_rates, same_program}
use Rattle.rate_unfold.proofs.UnfoldedElements.{is_unfolded}
use Rattle.rate_unfold.proofs.UnfoldedLoops.{unfolded_loopless}
use Rattle.rate_unfold.proofs.UnfoldedSound.{unfolded_sound}
use Rattle.rate_unfold.proofs.program.unfold.Goals as goal

pub returns-clause-unfolded : goal.returns-clause-unfolded
returns-clause-unfolded c =
    let rates : Rates = record { phases = c.args.m; down = c.args.down.now; up = c.args.up.now } in
    let f = view c.args.f.now in
    subst (IsUnfolded rates f) (sym c.in_ok-unfolded.ensures) (is_unfolded rates f)

pub returns-clause-sound : goal.returns-clause-sound
returns-clause-sound c =
    let rates : Rates = record { phases = c.args.m; down = c.args.down.now; up = c.args.up.now } in
    let f = view c.args.f.now in
    subst IsFlat (sym c.in_ok-unfolded.ensures)
    (unfolded_sound rates f c.requires.sound c.requires.rates.phases.0 c.in_ok-check.ensures.clear)

pub returns-clause-loops : goal.returns-clause-loops
returns-clause-loops c loopless =
    let rates : Rates = record { phases = c.args.m; down = c.args.down.now; up = c.args.up.now } in
    let f = view c.args.f.now in
    subst (λ (g : Program). IsFlatLoopless g) (sym c.in_ok-unfolded.ensures)
    (unfolded_loopless rates f c.requires.sound loopless)

pub returns-clause-keeps : goal.returns-clause-keeps
returns-clause-keeps c =
    let rates : Rates = record { phases = c.args.m; down = c.args.down.now; up = c.args.up.now } in
    let f = view c.args.f.now in
    subst (KeepsFrames rates f) (sym c.in_ok-unfolded.ensures)
    (keeps_frames rates f c.requires.sound c.requires.rates.phases.0)

pub returns-clause-same : goal.returns-clause-same
returns-clause-same c one down up =
    let rates : Rates = record { phases = c.args.m; down = c.args.down.now; up = c.args.up.now } in
    let f = view c.args.f.now in
    c.in_ok-unfolded.ensures ∙ ap (λ (r : Rates). unfolded r f) (one_rates rates one down up) ∙ same_program f
