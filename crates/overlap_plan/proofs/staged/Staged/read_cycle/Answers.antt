use Rattle.std.proofs.Common.{◌≡◌, ◌∙◌, ap, arith, ℕ, ◌<◌, length}
use Rattle.std.proofs.lemmas.Int.{ints}
use Rattle.std.proofs.lemmas.List.{get_or_default}
use Rattle.plan_core.specs.ListSchedule.{no_slot}
use Rattle.plan_core.specs.declared.schedule.Slot.{Slot}
use Rattle.overlap_plan.proofs.StagedCycles.{fits_product, fits_sum}
use Rattle.overlap_plan.proofs.staged.Staged.read_cycle.Goals as goal

pub overflow_sub-ago : goal.overflow_sub-ago
overflow_sub-ago c =
    let cells = (c.requires.staged.cells c.args.v c.args.x c.requires.behind).1 in
    let older = c.address.ensures ∙ cells.older in
    let newest = c.address-2.ensures ∙ cells.newest in
    let most = cells.most in
    let cell = cells.cell in
    omega (arith, ints)

pub overflow_cast-ago : goal.overflow_cast-ago
overflow_cast-ago c =
    let cells = (c.requires.staged.cells c.args.v c.args.x c.requires.behind).1 in
    let older = c.address.ensures ∙ cells.older in
    let newest = c.address-2.ensures ∙ cells.newest in
    let most = cells.most in
    let cell = cells.cell in
    (omega (arith, ints), omega (arith, ints))

pub overflow_mul-result : goal.overflow_mul-result
overflow_mul-result c =
    let cells = (c.requires.staged.cells c.args.v c.args.x c.requires.behind).1 in
    let older = c.address.ensures ∙ cells.older in
    let newest = c.address-2.ensures ∙ cells.newest in
    let most = cells.most in
    let cell = cells.cell in
    fits_product _ _ (omega (arith, ints)) (omega arith)

pub overflow_add-result : goal.overflow_add-result
overflow_add-result c =
    let cells = (c.requires.staged.cells c.args.v c.args.x c.requires.behind).1 in
    let older = c.address.ensures ∙ cells.older in
    let newest = c.address-2.ensures ∙ cells.newest in
    let most = cells.most in
    let cell = cells.cell in
    let early = c.requires.early c.args.x in
    let there : c.args.x < length c.args.slots.now = (let behind = c.requires.behind.there in omega arith) in
    let slot = c.index.ensures ∙ get_or_default c.args.slots.now c.args.x _ no_slot there in
    let cycle = c.from.ensures ∙ ap (λ (it : Slot). it.cycle) slot in
    fits_sum _ _ _ (omega (arith, early, cycle)) (omega (arith, ints)) (omega arith)
