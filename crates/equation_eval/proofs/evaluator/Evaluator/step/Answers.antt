use Rattle.std.proofs.Common.{◌≡◌, ◌∙◌, sym, ap, subst, List, [], ◌∷◌, ◌++◌, length, map, ℤ}
use Rattle.std.specs.List.{AllZip}
use Rattle.signal_graph.specs.Rules.{IsInType}
use Rattle.equation_eval.specs.Evaluation.{Evaluation, IsOutputRow}
use Rattle.equation_eval.specs.Private.Program.{read_of}
use Rattle.equation_eval.proofs.Evaluations.{returned, returned_value, returned_size, row_fits, outs_are}
use Rattle.equation_eval.proofs.Evaluations.{stands_after, put_row}
use Rattle.equation_eval.proofs.evaluator.Evaluator.step.Goals as goal

pub run-requires-clause-row : goal.run-requires-clause-row
run-requires-clause-row c =
    row_fits c.self.inside.graph.value c.self.inside.ran c.self.inside c.self.invariant c.args.row.now
    (subst (λ (e : Evaluation). AllZip IsInType e.graph.inputs c.args.row.now) (sym c.self.view_is) c.requires.row)

pub put_outputs-requires-clause-put : goal.put_outputs-requires-clause-put
put_outputs-requires-clause-put c =
    subst (λ (e : Evaluation). length c.args.put.now ≡ e.graph.outs) (sym c.self.view_is) c.requires.put
    ∙ sym (outs_are c.self.inside.graph.value c.self.inside.ran c.self.inside c.self.invariant)

pub invariant_of-self : goal.invariant_of-self
invariant_of-self c =
    stands_after c.self.inside.graph.value c.self.inside.ran c.self.inside c.self.invariant c.args.row.now
    (returned c.args.row.now c.self.inside.phase c.self.inside.program c.self.inside.memory c.deref_mut.result.now
    c.run.new.memory c.deref_mut.ensures.value c.run.ensures.value c.run.ensures.len)
    (returned_value c.args.row.now c.self.inside.phase c.self.inside.program c.self.inside.memory
    c.deref_mut.result.now c.run.new.memory c.deref_mut.ensures.value c.run.ensures.value c.run.ensures.len)
    (returned_size c.args.row.now c.self.inside.phase c.self.inside.program c.self.inside.memory
    c.deref_mut.result.now c.run.new.memory c.deref_mut.ensures.value c.run.ensures.value c.run.ensures.len)
    c.next_phase-self-inside.result c.next_phase-self-inside.ensures c.push-2.new.self
    (c.push-2.ensures ∙ ap (λ (row : List ℤ). c.self.inside.ran ++ row ∷ []) c.past_of.ensures)

pub returns-clause-puts : goal.returns-clause-puts
returns-clause-puts c =
    subst (λ (e : Evaluation). IsOutputRow e c.args.row.now c.put_outputs.new.put) c.self.view_is
    (put_row c.self.inside.graph.value c.self.inside.ran c.self.inside c.self.invariant c.args.row.now
    (returned c.args.row.now c.self.inside.phase c.self.inside.program c.self.inside.memory c.deref_mut.result.now
    c.run.new.memory c.deref_mut.ensures.value c.run.ensures.value c.run.ensures.len)
    (returned_value c.args.row.now c.self.inside.phase c.self.inside.program c.self.inside.memory
    c.deref_mut.result.now c.run.new.memory c.deref_mut.ensures.value c.run.ensures.value c.run.ensures.len)
    c.put_outputs.new.put
    (c.put_outputs.ensures
    ∙ ap (λ (m : List ℤ). map (read_of m c.self.inside.phase) c.self.inside.outputs) c.deref.ensures))
