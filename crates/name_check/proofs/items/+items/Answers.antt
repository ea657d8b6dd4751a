use Rattle.name_check.specs.Private.Views.{context_of}
use Rattle.name_check.proofs.TreeRows.{head_passes}
use Rattle.name_check.proofs.items.+items.Goals as goal

pub check_item-returns-in-Call : goal.check_item-returns-in-Call
check_item-returns-in-Call t c =
    rw (c.in-Call.is, ← c.deref.ensures.value, ← c.deref-in-Call.ensures.value) c.check_call.ensures

pub check_item-returns-in_ok-check_head-in-Loop : goal.check_item-returns-in_ok-check_head-in-Loop
check_item-returns-in_ok-check_head-in-Loop t c =
    head_passes (context_of c.args.context.now) c.args.item.now c.in-Loop.index c.in-Loop.lo c.in-Loop.hi
    c.in-Loop.items c.in-Loop.at c.in-Loop.is
    c.deref-in-Loop.result.now _ c.deref-in-Loop.ensures.value c.in_ok-check_head-in-Loop.ensures c.check_items.ensures
