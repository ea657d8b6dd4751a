use Rattle.std.proofs.Common.{◌∙◌, ◌<◌, ℕ, sym, ap, subst, List, length}
use Rattle.std.specs.Prelude.{map, All}
use Rattle.plan_core.specs.ListSchedule.{ends}
use Rattle.plan_core.specs.Arcs.{IsArcs}
use Rattle.plan_core.specs.declared.registers.Arc.{Arc}
use Rattle.cyclic_life.specs.Private.Placed.{read_in}
use Rattle.cyclic_life.specs.Private.Reads.{arc_to, lasts}
use Rattle.cyclic_life.specs.declared.read.Read.{Read}
use Rattle.cyclic_life.proofs.Placements.{placement}
use Rattle.cyclic_life.proofs.ArcsOfReads.{reads_written, reads_low, reads_moved, arcs_are, in_period, in_samples}
use Rattle.cyclic_life.proofs.life.arcs.Goals as goal

pub reads-requires : goal.reads-requires
reads-requires c =
    placement c.args.datapath.now c.args.assigned.now c.args.schedule.now c.requires.datapath c.requires.held
    c.requires.schedule

pub sorted-requires : goal.sorted-requires
sorted-requires c =
    let d = c.args.datapath.now in
    let a = c.args.assigned.now in
    let s = c.args.schedule.now in
    reads_low d a s (placement d a s c.requires.datapath c.requires.held c.requires.schedule)
    c.in_ok-reads.reads.items c.in_ok-reads.ensures

pub lifetimes-requires-clause-w : goal.lifetimes-requires-clause-w
lifetimes-requires-clause-w c =
    let d = c.args.datapath.now in
    let a = c.args.assigned.now in
    let s = c.args.schedule.now in
    let sorted = c.in_ok-sorted.sorted.items in
    let placed = placement d a s c.requires.datapath c.requires.held c.requires.schedule in
    let ended = c.requires.schedule.ends in
    subst (λ (reads : List Read). All (λ (read : Read). read.w < 4096) reads) (sym c.as_slice.ensures.value)
    (reads_written (ends d a s) (read_in d a s) d a (in_period d a s placed ended) (in_samples d a s placed ended)
    sorted
    (reads_moved (ends d a s) (read_in d a s) a c.in_ok-reads.reads.items sorted c.in_ok-sorted.ensures.same
    c.in_ok-reads.ensures))

pub returns : goal.returns
returns c =
    let d = c.args.datapath.now in
    let a = c.args.assigned.now in
    let s = c.args.schedule.now in
    let sorted = c.in_ok-sorted.sorted.items in
    let placed = placement d a s c.requires.datapath c.requires.held c.requires.schedule in
    let ended = c.requires.schedule.ends in
    subst (λ (arcs : List Arc). IsArcs d a s arcs)
    (sym (c.in_ok-lifetimes.ensures
    ∙ ap (λ (reads : List Read). map (arc_to d.period) (lasts reads)) c.as_slice.ensures.value))
    (arcs_are (ends d a s) (read_in d a s) d a (in_period d a s placed ended) (in_samples d a s placed ended) sorted
    (reads_moved (ends d a s) (read_in d a s) a c.in_ok-reads.reads.items sorted c.in_ok-sorted.ensures.same
    c.in_ok-reads.ensures) c.in_ok-sorted.ensures.order)
