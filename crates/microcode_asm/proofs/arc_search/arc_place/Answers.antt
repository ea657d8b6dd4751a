use Rattle.std.proofs.Common.{◌≡◌, ◌∙◌, sym, subst, rules, ℕ, true, false, ◌<◌, List, length}
use Rattle.std.specs.List.Sorted.{IsPartitionedBy, IsPartitionPoint}
use Rattle.std.proofs.lemmas.List.Sorted.{IsPartitionPoint-from_clause}
use Rattle.plan_core.specs.declared.registers.Arc.{Arc}
use Rattle.microcode_asm.specs.Private.Shown.{is_before}
use Rattle.microcode_asm.proofs.ArcSearch.{parted, found, first_for}
use Rattle.microcode_asm.proofs.arc_search.arc_place.Goals as goal

pub returns : goal.returns
returns c =
    let printed = c.args.printed.now in
    let d = printed.datapath.now in
    let a = printed.assigned.now in
    let s = printed.schedule.now in
    let xs = printed.arcs.now in
    let r = printed.registers.now in
    let v = c.args.v in
    let there = c.requires.node in
    let port = c.args.port in
    let arcs = c.requires.printable.lifetimes in
    let has = c.requires.arc in
    let before = is_before port c.written-w.result v in
    let parts : IsPartitionedBy before c.as_slice.result.now =
    subst (λ (l : List Arc). IsPartitionedBy before l) (sym c.as_slice.ensures)
    (subst (λ (w : ℕ). IsPartitionedBy (is_before port w v) xs) (sym c.written-w.ensures)
    (parted d a s xs r arcs v there port)) in
    let point =
    IsPartitionPoint-from_clause before _ _ c.partition_point.ensures.partitioned parts (λ a r q k. search rules) in
    let split : IsPartitionPoint (λ y. before y ≡ true) (λ y. before y ≡ false) xs c.partition_point.result =
    subst
    (λ (l : List Arc). IsPartitionPoint (λ y. before y ≡ true) (λ y. before y ≡ false) l c.partition_point.result)
    c.as_slice.ensures point in
    let at =
    found d a s xs r arcs v there port has c.partition_point.result
    (subst
    (λ (w : ℕ). IsPartitionPoint (λ y. is_before port w v y ≡ true) (λ y. is_before port w v y ≡ false) xs
    c.partition_point.result)
    c.written-w.ensures split) in
    record {
      place = at ∙ first_for d a s xs r arcs v there port has;
      there = subst (λ (n : ℕ). n < length xs) (sym at) has.there;
    }
