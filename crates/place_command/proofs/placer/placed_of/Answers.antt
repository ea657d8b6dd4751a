use Rattle.std.proofs.Common.{None}
use Rattle.lists.proofs.Results.{if_err}
use Rattle.silage_syntax.specs.Tree.{view}
use Rattle.silc_files.proofs.Results.{at_error}
use Rattle.place_command.specs.Private.Endings.{IsNoInputPlacing}
use Rattle.place_command.specs.declared.ending.PlaceEnding.TheVariants.{Told}
use Rattle.place_command.proofs.Made.{input_placing}
use Rattle.place_command.proofs.Refusing.{no_source, no_path, no_placing}
use Rattle.place_command.proofs.placer.placed_of.Goals as goal

pub returns-clause-ok : goal.returns-clause-ok
returns-clause-ok c =
    input_placing c.args.inputs.now c.args.text.now (view c.in_ok-accepted.accepted.program)
    c.in_ok-accepted.accepted.graph c.in_ok-accepted.ensures.ok c.in_ok-accepted.ensures.graph c.in_ok-path.path
    c.in_ok-path.ensures.ok c.in_ok-path.ensures.allowed c.placed_over.result c.placed_over.ensures.path
    c.placed_over.ensures.plan c.placed_over.ensures.gives c.placed_over.ensures.registers

pub returns-in_err-accepted-clause-err : goal.returns-in_err-accepted-clause-err
returns-in_err-accepted-clause-err c =
    at_error c.from_residual.result (Told c.in_err-accepted.field-0.0) c.from_residual.ensures.1
    (IsNoInputPlacing c.args.inputs.now c.args.text.now)
    (no_source c.args.inputs.now.source c.args.inputs.now.datapath c.in_err-accepted.field-0.0.status
    c.in_err-accepted.ensures.err)

pub returns-in_err-path-clause-err : goal.returns-in_err-path-clause-err
returns-in_err-path-clause-err c =
    at_error c.from_residual-in_err-path.result
    (Told (record { status = c.in_err-path.field-0.0; line = None; element = None; path = None }))
    c.from_residual-in_err-path.ensures.1 (IsNoInputPlacing c.args.inputs.now c.args.text.now)
    (no_path c.args.inputs.now.source c.args.inputs.now.datapath (view c.in_ok-accepted.accepted.program)
    c.in_ok-accepted.accepted.graph c.in_ok-accepted.ensures.ok c.in_err-path.field-0.0 c.in_err-path.ensures.err)

pub returns-clause-err : goal.returns-clause-err
returns-clause-err c =
    if_err c.placed_over.result _ _
    (no_placing c.args.inputs.now c.args.text.now (view c.in_ok-accepted.accepted.program)
    c.in_ok-accepted.accepted.graph c.in_ok-accepted.ensures.ok c.in_ok-path.path c.in_ok-path.ensures.ok)
    c.placed_over.ensures.err
