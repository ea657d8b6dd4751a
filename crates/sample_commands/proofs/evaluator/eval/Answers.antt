use Rattle.std.proofs.Common.{refl, sym, ap, subst, inl, inr, [], ◌∷◌}
use Rattle.silc_files.specs.Endings.{IsAmong}
use Rattle.silc_files.proofs.Endings.{among_first, reads_wider, uses_none}
use Rattle.sample_commands.proofs.Opening.{streams_use}
use Rattle.sample_commands.specs.Eval.{IsEvalAnswer}
use Rattle.statuses.specs.declared.status.Ending.{Ending}
use Rattle.sample_commands.proofs.Solving.{eval_answer, source_error}
use Rattle.sample_commands.proofs.evaluator.eval.Goals as goal

pub returns-in-Ok-clause-answer : goal.returns-in-Ok-clause-answer
returns-in-Ok-clause-answer g c =
    subst (IsEvalAnswer c.args.source.now c.args.samples.now c.args.output.now (g.D.Desk.view c.args.desk.now)
    (g.D.Desk.view c.eval_ready.new.desk))
    (sym (ap (λ (e : Ending). e.status) c.from.ensures))
    (eval_answer c.args.source.now c.args.samples.now c.args.output.now (g.D.Desk.view c.args.desk.now)
    (g.D.Desk.view c.read_ready.new.desk) (g.D.Desk.view c.eval_ready.new.desk)
    c.in-Ok.ready.evaluator c.in-Ok.ensures.reads c.in-Ok.ensures.evaluator c.eval_ready.result
    c.eval_ready.ensures.over)

pub returns-in-Ok-clause-only : goal.returns-in-Ok-clause-only
returns-in-Ok-clause-only g c =
    streams_use (IsAmong (c.args.source.now ∷ [])) (IsAmong (c.args.source.now ∷ c.args.samples.now ∷ []))
    c.args.samples.now c.args.output.now (g.D.Desk.view c.args.desk.now) (g.D.Desk.view c.read_ready.new.desk)
    (g.D.Desk.view c.eval_ready.new.desk) (among_first (c.args.source.now ∷ []) (c.args.samples.now ∷ []))
    (inr (inl refl)) c.in-Ok.ensures.reads c.eval_ready.ensures.only

pub returns-in-Err-clause-answer : goal.returns-in-Err-clause-answer
returns-in-Err-clause-answer g c =
    source_error c.args.source.now c.args.samples.now c.args.output.now (g.D.Desk.view c.args.desk.now)
    (g.D.Desk.view c.read_ready.new.desk)
    c.in-Err.ensures.reads c.in-Err.ending.status c.in-Err.ensures.err

pub returns-in-Err-clause-only : goal.returns-in-Err-clause-only
returns-in-Err-clause-only g c =
    uses_none (IsAmong (c.args.source.now ∷ c.args.samples.now ∷ [])) c.args.output.now
    (g.D.Desk.view c.args.desk.now) (g.D.Desk.view c.read_ready.new.desk)
    (reads_wider (IsAmong (c.args.source.now ∷ [])) (IsAmong (c.args.source.now ∷ c.args.samples.now ∷ []))
    (g.D.Desk.view c.args.desk.now) (g.D.Desk.view c.read_ready.new.desk)
    (among_first (c.args.source.now ∷ []) (c.args.samples.now ∷ [])) c.in-Err.ensures.reads)
