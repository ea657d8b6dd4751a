use Rattle.std.proofs.Common.{◌∙◌, ◌+◌, ◌*◌, ◌<◌, ◌≤◌, ℕ, sym, ap, subst, arith, List, length}
use Rattle.std.specs.Prelude.{map, All}
use Rattle.plan_core.specs.Operands.{delay_at, Reads}
use Rattle.plan_core.specs.Stages.{written_around, read_around, AreStageArcs}
use Rattle.plan_core.specs.declared.registers.Arc.{Arc}
use Rattle.cyclic_life.specs.Private.Reads.{arc_to, lasts}
use Rattle.cyclic_life.specs.declared.read.Read.{Read}
use Rattle.cyclic_life.proofs.Around.{over_stages, read_later, in_period, in_samples}
use Rattle.cyclic_life.proofs.ArcsOfReads.{reads_written, reads_low, reads_moved, arcs_are}
use Rattle.cyclic_life.proofs.life.stage_arcs.Goals as goal

pub reads_around-requires-clause-placed : goal.reads_around-requires-clause-placed
reads_around-requires-clause-placed c =
    over_stages c.args.datapath.now c.args.assigned.now c.args.schedule.now c.requires.datapath c.requires.held
    c.requires.schedule

pub reads_around-requires-clause-some : goal.reads_around-requires-clause-some
reads_around-requires-clause-some c = omega (arith, c.requires.datapath.period.0)

pub reads_around-requires-clause-later : goal.reads_around-requires-clause-later
reads_around-requires-clause-later c =
    read_later c.args.datapath.now c.args.assigned.now c.args.schedule.now c.requires.datapath c.requires.held
    c.requires.now c.requires.schedule

pub sorted-requires : goal.sorted-requires
sorted-requires c =
    let d = c.args.datapath.now in
    let a = c.args.assigned.now in
    let s = c.args.schedule.now in
    reads_low d a s (over_stages d a s c.requires.datapath c.requires.held c.requires.schedule)
    c.in_ok-reads.reads.items c.in_ok-reads.ensures

pub lifetimes-requires-clause-w : goal.lifetimes-requires-clause-w
lifetimes-requires-clause-w c =
    let d = c.args.datapath.now in
    let a = c.args.assigned.now in
    let s = c.args.schedule.now in
    let sorted = c.in_ok-sorted.sorted.items in
    let w = written_around d a s in
    let r = read_around d a s in
    subst (λ (reads : List Read). All (λ (read : Read). read.w < 4096) reads) (sym c.as_slice.ensures.value)
    (reads_written w r d a (in_period d a s c.requires.datapath c.requires.held c.requires.now c.requires.schedule)
    (in_samples d a s c.requires.datapath c.requires.held c.requires.now c.requires.schedule) sorted
    (reads_moved w r a c.in_ok-reads.reads.items sorted c.in_ok-sorted.ensures.same c.in_ok-reads.ensures))

pub returns : goal.returns
returns c =
    let d = c.args.datapath.now in
    let a = c.args.assigned.now in
    let s = c.args.schedule.now in
    let sorted = c.in_ok-sorted.sorted.items in
    let w = written_around d a s in
    let r = read_around d a s in
    subst (λ (arcs : List Arc). AreStageArcs d a s arcs)
    (sym (c.in_ok-lifetimes.ensures
    ∙ ap (λ (reads : List Read). map (arc_to d.period) (lasts reads)) c.as_slice.ensures.value))
    (arcs_are w r d a (in_period d a s c.requires.datapath c.requires.held c.requires.now c.requires.schedule)
    (in_samples d a s c.requires.datapath c.requires.held c.requires.now c.requires.schedule) sorted
    (reads_moved w r a c.in_ok-reads.reads.items sorted c.in_ok-sorted.ensures.same c.in_ok-reads.ensures)
    c.in_ok-sorted.ensures.order)
