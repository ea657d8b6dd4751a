use Rattle.std.proofs.Common.{◌≡◌, rules, sym, subst, arith, ℕ, ◌<◌, ◌+◌, IsTrue}
use Rattle.signal_graph.specs.declared.graph.Node.{Node}
use Rattle.overlap_plan.specs.Lines.{IsOfLine, IsBehind, op_at}
use Rattle.overlap_plan.specs.Staged.{IsEndUpTo}
use Rattle.fix_word.specs.declared.operation.Op.TheVariants as op
use Rattle.overlap_plan.proofs.BeforeLoads.{ends_at_other, ends_at_all, goes_on_after_address, goes_on_after_load}
use Rattle.overlap_plan.proofs.staged.Staged.before_loads.Goals as goal
use Rattle.overlap_plan.proofs.staged.Staged.before_loads.Goals.{then-eq+then-read-from, then-eq+else-read-from}
use Rattle.overlap_plan.proofs.staged.Staged.before_loads.Goals.{else-eq}

pub returns-then-not-is_of_line : goal.returns-then-not-is_of_line
returns-then-not-is_of_line c =
    ends_at_other c.args.self.now.problem.datapath.now c.args.self.now.problem.assigned.now c.args.slots.now c.args.v
    c.args.latest c.loop-x.x c.loop-x.end c.loop-x.invariant (omega arith)
    (λ line.
    let is = c.is_of_line.ensures.1 (subst (λ (n : Node). IsOfLine n.op) (sym c.node.ensures) line) in search rules)

pub overflow_cast-end : goal.overflow_cast-end
overflow_cast-end c =
    let upto = (c.loop-x.invariant.to c.loop-x.end (omega arith)).0 in
    let less = c.if-read-from.true in
    search rules

pub loop-x-preserved : goal.loop-x-preserved
loop-x-preserved c =
    let is : IsTrue c.is_of_line.result = search rules in
    let line = subst (λ (n : Node). IsOfLine n.op) c.node.ensures (c.is_of_line.ensures.0 is) in
    let behind : op_at c.args.self.now.problem.assigned.now.lowered.nodes c.loop-x.x ≡ op.Load
    → IsBehind c.args.self.now.problem.assigned.now.lowered.nodes c.args.v c.loop-x.x =
    λ load. record {
      store = c.requires.store;
      load = load;
      there = omega arith;
      behind = omega arith;
      between = c.loop-x.invariant.between;
    } in
    elim c.if-eq.branch [
      | then-eq+then-read-from w ↦
          goes_on_after_load c.args.self.now.problem.datapath.now c.args.self.now.problem.assigned.now c.args.slots.now
          c.args.v c.args.latest
          c.loop-x.x c.loop-x.end c.loop-x.invariant line
          (c.requires.staged.cells c.args.v c.loop-x.x (behind (search rules)))
          (behind (search rules)) w.read_cycle-read.result w.read_cycle-read.ensures c.if-eq.end
          (λ e. (λ upto. (omega arith, omega arith), λ both. omega (arith, both.0, both.1)))
      | then-eq+else-read-from w ↦
          goes_on_after_load c.args.self.now.problem.datapath.now c.args.self.now.problem.assigned.now c.args.slots.now
          c.args.v c.args.latest
          c.loop-x.x c.loop-x.end c.loop-x.invariant line
          (c.requires.staged.cells c.args.v c.loop-x.x (behind (search rules)))
          (behind (search rules)) w.read_cycle-read.result w.read_cycle-read.ensures c.if-eq.end
          (λ e. (λ upto. (omega arith, omega arith), λ both. omega (arith, both.0, both.1)))
      | else-eq w ↦
          subst (λ (n : ℕ).
          IsEndUpTo c.args.self.now.problem.datapath.now c.args.self.now.problem.assigned.now c.args.slots.now
          c.args.v c.args.latest (c.loop-x.x + 1) n)
          (sym w.end-is)
          (goes_on_after_address c.args.self.now.problem.datapath.now c.args.self.now.problem.assigned.now
          c.args.slots.now c.args.v c.args.latest
          c.loop-x.x c.loop-x.end c.loop-x.invariant line (λ load. search rules))
    ]

pub returns : goal.returns
returns c =
    ends_at_all c.args.self.now.problem.datapath.now c.args.self.now.problem.assigned.now c.args.slots.now c.args.v
    c.args.latest c.loop-x.x c.loop-x.end c.loop-x.invariant (omega arith)
