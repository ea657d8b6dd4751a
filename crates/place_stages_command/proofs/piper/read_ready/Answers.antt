use Rattle.std.proofs.Common.{inl, inr, [], ◌∷◌}
use Rattle.silc_files.specs.Endings.{IsAmong}
use Rattle.silc_files.proofs.Endings.{among_first, reads_wider, reads_more}
use Rattle.silc_files.proofs.Results.{at_error}
use Rattle.place_stages_command.specs.Endings.{told}
use Rattle.place_stages_command.specs.Private.Placing.{IsUnready}
use Rattle.place_stages_command.proofs.Made.{guardable, guarded_machine}
use Rattle.place_stages_command.proofs.Refusing.{inputs_later, inputs_unread, plan_unread, unready}
use Rattle.place_stages_command.proofs.piper.read_ready.Goals as goal

pub ready_for-requires-clause-plan : goal.ready_for-requires-clause-plan
ready_for-requires-clause-plan g c =
    guardable c.args.stages c.in_ok-inputs.inputs c.in_ok-text.text c.in_ok-placed.placed c.requires.0 c.requires.1
    c.in_ok-placed.ensures.ok

pub returns-clause-reads : goal.returns-clause-reads
returns-clause-reads g c =
    reads_more (c.args.plan.now ∷ []) (c.args.source.now ∷ c.args.datapath.now ∷ []) (g.D.Desk.view c.args.desk.now)
    (g.D.Desk.view c.read_input.new.desk) (g.D.Desk.view c.read_inputs.new.desk) c.in_ok-text.ensures.reads
    c.in_ok-inputs.ensures.reads

pub returns-clause-machine : goal.returns-clause-machine
returns-clause-machine g c =
    guarded_machine c.args.stages c.requires.0 c.args.source.now c.args.datapath.now c.args.plan.now
    (g.D.Desk.view c.args.desk.now) (g.D.Desk.view c.read_inputs.new.desk) c.in_ok-text.text
    c.in_ok-text.ensures.ok c.in_ok-inputs.inputs
    (inputs_later c.args.source.now c.args.datapath.now c.args.plan.now (g.D.Desk.view c.args.desk.now)
    (g.D.Desk.view c.read_input.new.desk) (g.D.Desk.view c.read_inputs.new.desk) c.in_ok-text.ensures.reads
    c.in_ok-inputs.inputs c.in_ok-inputs.ensures.ok)
    c.in_ok-placed.placed c.in_ok-placed.ensures.ok c.in_ok-ready_for.field-0.machine
    c.in_ok-ready_for.ensures.machine

pub returns-in_err-text-clause-reads : goal.returns-in_err-text-clause-reads
returns-in_err-text-clause-reads g c =
    reads_wider (IsAmong (c.args.plan.now ∷ []))
    (IsAmong (c.args.plan.now ∷ c.args.source.now ∷ c.args.datapath.now ∷ [])) (g.D.Desk.view c.args.desk.now)
    (g.D.Desk.view c.read_input.new.desk)
    (among_first (c.args.plan.now ∷ []) (c.args.source.now ∷ c.args.datapath.now ∷ [])) c.in_err-text.ensures.reads

pub returns-in_err-text-clause-err : goal.returns-in_err-text-clause-err
returns-in_err-text-clause-err g c =
    at_error c.from_residual.result (told c.in_err-text.field-0.0) c.from_residual.ensures.1
    (IsUnready c.args.stages c.args.source.now c.args.datapath.now c.args.plan.now (g.D.Desk.view c.args.desk.now)
    (g.D.Desk.view c.read_input.new.desk))
    (plan_unread c.args.stages c.args.source.now c.args.datapath.now c.args.plan.now (g.D.Desk.view c.args.desk.now)
    (g.D.Desk.view c.read_input.new.desk) c.in_err-text.ensures.reads c.in_err-text.field-0.0
    c.in_err-text.ensures.err)

pub returns-in_err-inputs-clause-reads : goal.returns-in_err-inputs-clause-reads
returns-in_err-inputs-clause-reads g c =
    reads_more (c.args.plan.now ∷ []) (c.args.source.now ∷ c.args.datapath.now ∷ []) (g.D.Desk.view c.args.desk.now)
    (g.D.Desk.view c.read_input.new.desk) (g.D.Desk.view c.read_inputs.new.desk) c.in_ok-text.ensures.reads
    c.in_err-inputs.ensures.reads

pub returns-in_err-inputs-clause-err : goal.returns-in_err-inputs-clause-err
returns-in_err-inputs-clause-err g c =
    at_error c.from_residual-in_err-inputs.result (told c.in_err-inputs.field-0.0)
    c.from_residual-in_err-inputs.ensures.1
    (IsUnready c.args.stages c.args.source.now c.args.datapath.now c.args.plan.now (g.D.Desk.view c.args.desk.now)
    (g.D.Desk.view c.read_inputs.new.desk))
    (inputs_unread c.args.source.now c.args.datapath.now c.args.plan.now (g.D.Desk.view c.args.desk.now)
    (g.D.Desk.view c.read_input.new.desk) (g.D.Desk.view c.read_inputs.new.desk) c.in_ok-text.ensures.reads
    c.args.stages c.in_err-inputs.field-0.0 c.in_err-inputs.ensures.err)

pub returns-in_err-placed-clause-err : goal.returns-in_err-placed-clause-err
returns-in_err-placed-clause-err g c =
    let reads =
    reads_more (c.args.plan.now ∷ []) (c.args.source.now ∷ c.args.datapath.now ∷ []) (g.D.Desk.view c.args.desk.now)
    (g.D.Desk.view c.read_input.new.desk) (g.D.Desk.view c.read_inputs.new.desk) c.in_ok-text.ensures.reads
    c.in_ok-inputs.ensures.reads in
    at_error c.from_residual-in_err-placed.result c.in_err-placed.field-0.0 c.from_residual-in_err-placed.ensures.1
    (IsUnready c.args.stages c.args.source.now c.args.datapath.now c.args.plan.now (g.D.Desk.view c.args.desk.now)
    (g.D.Desk.view c.read_inputs.new.desk))
    (unready c.args.stages c.args.source.now c.args.datapath.now c.args.plan.now (g.D.Desk.view c.args.desk.now)
    (g.D.Desk.view c.read_inputs.new.desk) c.in_ok-inputs.inputs c.in_ok-text.text reads.unchanged
    (inputs_later c.args.source.now c.args.datapath.now c.args.plan.now (g.D.Desk.view c.args.desk.now)
    (g.D.Desk.view c.read_input.new.desk) (g.D.Desk.view c.read_inputs.new.desk) c.in_ok-text.ensures.reads
    c.in_ok-inputs.inputs c.in_ok-inputs.ensures.ok)
    c.in_ok-text.ensures.ok c.in_err-placed.field-0.0 c.in_err-placed.ensures.err)

pub returns-in_err-ready_for-clause-reads : goal.returns-in_err-ready_for-clause-reads
returns-in_err-ready_for-clause-reads g c =
    reads_more (c.args.plan.now ∷ []) (c.args.source.now ∷ c.args.datapath.now ∷ []) (g.D.Desk.view c.args.desk.now)
    (g.D.Desk.view c.read_input.new.desk) (g.D.Desk.view c.read_inputs.new.desk) c.in_ok-text.ensures.reads
    c.in_ok-inputs.ensures.reads

pub returns-in_err-ready_for-clause-err : goal.returns-in_err-ready_for-clause-err
returns-in_err-ready_for-clause-err g c =
    let reads =
    reads_more (c.args.plan.now ∷ []) (c.args.source.now ∷ c.args.datapath.now ∷ []) (g.D.Desk.view c.args.desk.now)
    (g.D.Desk.view c.read_input.new.desk) (g.D.Desk.view c.read_inputs.new.desk) c.in_ok-text.ensures.reads
    c.in_ok-inputs.ensures.reads in
    at_error c.from_residual-in_err-ready_for.result (told c.in_err-ready_for.field-0.0)
    c.from_residual-in_err-ready_for.ensures.1
    (IsUnready c.args.stages c.args.source.now c.args.datapath.now c.args.plan.now (g.D.Desk.view c.args.desk.now)
    (g.D.Desk.view c.read_inputs.new.desk))
    (inr (inl (c.in_err-ready_for.ensures.err, reads.unchanged)))
