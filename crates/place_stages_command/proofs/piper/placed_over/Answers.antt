use Rattle.std.proofs.Common.{◌≡◌, ◌⊎◌, sym, subst, List}
use Rattle.placed_plan.specs.declared.place.Place.{Place}
use Rattle.placed_stages.specs.StageFaults.{IsStagePlaceFault}
use Rattle.placed_stages.specs.declared.fault.StagePlaceFault.TheVariants.{Memory}
use Rattle.silc_files.proofs.Results.{at_error}
use Rattle.place_stages_command.specs.Private.Placing.{IsRefusedFor, IsUnplacedIn}
use Rattle.place_stages_command.specs.declared.ending.PipeEnding.{PipeEnding}
use Rattle.place_stages_command.proofs.Refusing.{no_places, has_line, not_placed}
use Rattle.place_stages_command.proofs.piper.placed_over.Goals as goal

pub misplaced-requires : goal.misplaced-requires
misplaced-requires c =
    has_line c.args.stages c.args.graph.now c.args.path c.requires.sound c.in_ok-given.given c.in-Err.fault
    (subst (λ (places : List Place).
    (c.in-Err.fault ≡ Memory) ⊎ IsStagePlaceFault c.args.graph.now c.args.path c.args.stages places c.in-Err.fault)
    c.as_slice.ensures c.in-Err.ensures.fault)
    c.in_ok-given.ensures.gives.gives.count

pub returns-in-Err-clause-err : goal.returns-in-Err-clause-err
returns-in-Err-clause-err c =
    subst (λ (ending : PipeEnding).
    IsRefusedFor (IsUnplacedIn c.args.stages c.args.graph.now c.args.path c.args.text.now) ending)
    (sym c.misplaced.ensures)
    (not_placed c.args.stages c.args.graph.now c.args.path c.requires.sound c.in_ok-given.given c.args.text.now
    c.in_ok-given.ensures.gives c.in-Err.fault
    (subst (λ (places : List Place).
    (c.in-Err.fault ≡ Memory) ⊎ IsStagePlaceFault c.args.graph.now c.args.path c.args.stages places c.in-Err.fault)
    c.as_slice.ensures c.in-Err.ensures.fault))

pub returns-in_err-given-clause-err : goal.returns-in_err-given-clause-err
returns-in_err-given-clause-err c =
    at_error c.from_residual.result c.in_err-given.field-0.0 c.from_residual.ensures.1
    (IsRefusedFor (IsUnplacedIn c.args.stages c.args.graph.now c.args.path c.args.text.now))
    (no_places c.args.stages c.args.graph.now c.args.path c.args.text.now c.in_err-given.field-0.0
    c.in_err-given.ensures.err)
