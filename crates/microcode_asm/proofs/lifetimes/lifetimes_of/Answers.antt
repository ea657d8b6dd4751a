use Rattle.std.proofs.Common.{◌≡◌, ℕ, ◌-◌, ◌∙◌, ap, arith, length}
use Rattle.plan_core.specs.Arcs.{no_arc, arc_of}
use Rattle.plan_core.specs.declared.registers.Arc.{Arc}
use Rattle.bucket_sort.proofs.Linked.{one_linked}
use Rattle.microcode_asm.proofs.IssueSteps.{read_at}
use Rattle.microcode_asm.proofs.lifetimes.lifetimes_of.Goals as goal

pub put_first-requires-clause-bucket : goal.put_first-requires-clause-bucket
put_first-requires-clause-bucket c =
    let arcs = c.args.arcs.now in
    let k = c.loop-k.k - 1 in
    let is : c.index-arc.result.now ≡ arc_of arcs k =
    read_at arcs k c.index-arc.result.now no_arc (omega arith) c.index-arc.ensures in
    omega (
      arith,
      ap (λ (a : Arc). a.node) is,
      (c.requires k no_arc (omega arith)).0,
      c.loop-k.invariant.kept.first_count,
    )

pub put_first-requires-in-loop-k-clause-bucket : goal.put_first-requires-in-loop-k-clause-bucket
put_first-requires-in-loop-k-clause-bucket c =
    let arcs = c.args.arcs.now in
    let k = c.loop-k.k - 1 in
    let is : c.index-arc.result.now ≡ arc_of arcs k =
    read_at arcs k c.index-arc.result.now no_arc (omega arith) c.index-arc.ensures in
    omega (
      arith,
      c.from-in-loop-k.ensures ∙ ap (λ (a : Arc). a.w) is,
      (c.requires k no_arc (omega arith)).1,
      c.loop-k.invariant.written.first_count,
    )

pub loop-k-preserved : goal.loop-k-preserved
loop-k-preserved c =
    let arcs = c.args.arcs.now in
    let k = c.loop-k.k - 1 in
    let is : c.index-arc.result.now ≡ arc_of arcs k =
    read_at arcs k c.index-arc.result.now no_arc (omega arith) c.index-arc.ensures in
    let in' = c.requires k no_arc (omega arith) in
    record {
      kept = one_linked (λ (j : ℕ). (arc_of arcs j).node) c.args.nodes (length arcs) k c.loop-k.k
          c.index-arc.result.now.node c.loop-k.kept c.put_first.new.self (omega arith) (omega arith)
          (ap (λ (a : Arc). a.node) is) in'.0 c.put_first.ensures.first c.put_first.ensures.next
          c.loop-k.invariant.kept;
      written = one_linked (λ (j : ℕ). (arc_of arcs j).w) c.args.period (length arcs) k c.loop-k.k
          c.from-in-loop-k.result c.loop-k.written c.put_first-in-loop-k.new.self (omega arith) (omega arith)
          (c.from-in-loop-k.ensures ∙ ap (λ (a : Arc). a.w) is) in'.1 c.put_first-in-loop-k.ensures.first
          c.put_first-in-loop-k.ensures.next c.loop-k.invariant.written;
    }
