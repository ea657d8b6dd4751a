use Rattle.std.proofs.Common.{[], ◌∷◌, None}
use Rattle.silc_files.proofs.Endings.{reads_more}
use Rattle.silc_files.proofs.Results.{at_error}
use Rattle.place_command.specs.Private.Endings.{IsNotMade}
use Rattle.place_command.specs.declared.ending.PlaceEnding.TheVariants.{Told}
use Rattle.place_command.proofs.Made.{assemblable, made}
use Rattle.place_command.proofs.Refusing.{inputs_unread, plan_unread, not_placed, no_memory}
use Rattle.place_command.proofs.placer.make.Goals as goal

pub microcode_of-requires-clause-plan : goal.microcode_of-requires-clause-plan
microcode_of-requires-clause-plan g c =
    assemblable c.in_ok-inputs.inputs c.in_ok-text.text c.in_ok-placed.placed c.in_ok-placed.ensures.ok

pub returns-clause-ok : goal.returns-clause-ok
returns-clause-ok g c =
    made c.args.source.now c.args.datapath.now c.args.plan.now (g.D.Desk.view c.args.desk.now)
    (g.D.Desk.view c.read_inputs.new.desk) (g.D.Desk.view c.read_input.new.desk) c.in_ok-inputs.inputs
    c.in_ok-inputs.ensures.ok c.in_ok-inputs.ensures.reads c.in_ok-text.text c.in_ok-text.ensures.ok
    c.in_ok-text.ensures.through c.in_ok-placed.placed c.in_ok-placed.ensures.ok c.in_ok-microcode_of.field-0
    c.in_ok-microcode_of.ensures.ok

pub returns-clause-reads : goal.returns-clause-reads
returns-clause-reads g c =
    reads_more (c.args.source.now ∷ c.args.datapath.now ∷ []) (c.args.plan.now ∷ []) (g.D.Desk.view c.args.desk.now)
    (g.D.Desk.view c.read_inputs.new.desk) (g.D.Desk.view c.read_input.new.desk) c.in_ok-inputs.ensures.reads
    c.in_ok-text.ensures.reads

pub returns-in_err-inputs-clause-err : goal.returns-in_err-inputs-clause-err
returns-in_err-inputs-clause-err g c =
    at_error c.from_residual.result
    (Told (record { status = c.in_err-inputs.field-0.0; line = None; element = None; path = None }))
    c.from_residual.ensures.1
    (IsNotMade c.args.source.now c.args.datapath.now c.args.plan.now (g.D.Desk.view c.args.desk.now)
    (g.D.Desk.view c.read_inputs.new.desk))
    (inputs_unread c.args.source.now c.args.datapath.now c.args.plan.now (g.D.Desk.view c.args.desk.now)
    (g.D.Desk.view c.read_inputs.new.desk) (g.D.Desk.view c.read_inputs.new.desk) c.in_err-inputs.field-0.0
    c.in_err-inputs.ensures.err)

pub returns-in_err-text-clause-err : goal.returns-in_err-text-clause-err
returns-in_err-text-clause-err g c =
    at_error c.from_residual-in_err-text.result
    (Told (record { status = c.in_err-text.field-0.0; line = None; element = None; path = None }))
    c.from_residual-in_err-text.ensures.1
    (IsNotMade c.args.source.now c.args.datapath.now c.args.plan.now (g.D.Desk.view c.args.desk.now)
    (g.D.Desk.view c.read_input.new.desk))
    (plan_unread c.args.source.now c.args.datapath.now c.args.plan.now (g.D.Desk.view c.args.desk.now)
    (g.D.Desk.view c.read_inputs.new.desk) (g.D.Desk.view c.read_input.new.desk) c.in_ok-inputs.ensures.reads
    c.in_err-text.ensures.reads c.in_err-text.field-0.0 c.in_err-text.ensures.err)

pub returns-in_err-placed-clause-err : goal.returns-in_err-placed-clause-err
returns-in_err-placed-clause-err g c =
    at_error c.from_residual-in_err-placed.result c.in_err-placed.field-0.0 c.from_residual-in_err-placed.ensures.1
    (IsNotMade c.args.source.now c.args.datapath.now c.args.plan.now (g.D.Desk.view c.args.desk.now)
    (g.D.Desk.view c.read_input.new.desk))
    (not_placed c.args.source.now c.args.datapath.now c.args.plan.now (g.D.Desk.view c.args.desk.now)
    (g.D.Desk.view c.read_inputs.new.desk) (g.D.Desk.view c.read_input.new.desk) c.in_ok-inputs.ensures.reads
    c.in_ok-text.ensures.reads c.in_ok-inputs.inputs c.in_ok-inputs.ensures.ok c.in_ok-text.text c.in_ok-text.ensures.ok
    c.in_ok-text.ensures.through c.in_err-placed.field-0.0 c.in_err-placed.ensures.err)

pub returns-in_err-microcode_of-clause-err : goal.returns-in_err-microcode_of-clause-err
returns-in_err-microcode_of-clause-err g c =
    at_error c.from_residual-in_err-microcode_of.result
    (Told (record { status = c.in_err-microcode_of.field-0.0; line = None; element = None; path = None }))
    c.from_residual-in_err-microcode_of.ensures.1
    (IsNotMade c.args.source.now c.args.datapath.now c.args.plan.now (g.D.Desk.view c.args.desk.now)
    (g.D.Desk.view c.read_input.new.desk))
    (no_memory c.args.source.now c.args.datapath.now c.args.plan.now (g.D.Desk.view c.args.desk.now)
    (g.D.Desk.view c.read_inputs.new.desk) (g.D.Desk.view c.read_input.new.desk) c.in_ok-inputs.ensures.reads
    c.in_ok-text.ensures.reads c.in_err-microcode_of.field-0.0 c.in_err-microcode_of.ensures.err)

pub returns-in_err-microcode_of-clause-reads : goal.returns-in_err-microcode_of-clause-reads
returns-in_err-microcode_of-clause-reads g c =
    reads_more (c.args.source.now ∷ c.args.datapath.now ∷ []) (c.args.plan.now ∷ []) (g.D.Desk.view c.args.desk.now)
    (g.D.Desk.view c.read_inputs.new.desk) (g.D.Desk.view c.read_input.new.desk) c.in_ok-inputs.ensures.reads
    c.in_ok-text.ensures.reads
