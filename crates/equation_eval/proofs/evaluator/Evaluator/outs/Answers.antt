use Rattle.std.proofs.Common.{◌≡◌, ◌∙◌, subst}
use Rattle.equation_eval.specs.Evaluation.{Evaluation}
use Rattle.equation_eval.proofs.Evaluations.{outs_are}
use Rattle.equation_eval.proofs.evaluator.Evaluator.outs.Goals as goal

pub returns-clause-count : goal.returns-clause-count
returns-clause-count c =
    subst (λ (e : Evaluation). c.len.result ≡ e.graph.outs) c.self.view_is
    (c.len.ensures ∙ outs_are c.self.inside.graph.value c.self.inside.ran c.self.inside c.self.invariant)
