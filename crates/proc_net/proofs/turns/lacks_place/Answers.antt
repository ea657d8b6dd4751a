use Rattle.std.proofs.Common.{sym, ◌∙◌}
use Rattle.std.proofs.lemmas.Bool.{and_left}
use Rattle.proc_net.proofs.Queues.{both, not_second, place_lacks, place_free}
use Rattle.proc_net.proofs.turns.lacks_place.Goals as goal
use Rattle.proc_net.proofs.turns.lacks_place.Goals.{else-queued-capacity-via-then-queued-capacity+else-reads}
use Rattle.proc_net.proofs.turns.lacks_place.Goals.{else-queued-capacity-via-else-queued-capacity}

pub returns-then-reads : goal.returns-then-reads
returns-then-reads c =
    place_lacks c.args.processors.now c.args.capacity c.args.samples c.args.own c.loop-number.number
    c.index-processors-number.result c.loop-number-test.true (sym c.index-processors-number.is)
    (both _ _ _ c.queued.result (sym c.reads.ensures ∙ c.if-reads.true) c.if-queued-capacity.true c.queued.ensures)

pub loop-number-preserved : goal.loop-number-preserved
loop-number-preserved c =
    elim c.else-queued-capacity.branch [
      | else-queued-capacity-via-then-queued-capacity+else-reads w ↦
          place_free c.args.processors.now c.args.capacity c.args.samples c.args.own c.loop-number.number
          c.index-processors-number.result c.loop-number-test.true (sym c.index-processors-number.is)
          c.loop-number.invariant (and_left _ _ (sym w.reads.ensures ∙ w.if-reads.false))
      | else-queued-capacity-via-else-queued-capacity w ↦
          place_free c.args.processors.now c.args.capacity c.args.samples c.args.own c.loop-number.number
          c.index-processors-number.result c.loop-number-test.true (sym c.index-processors-number.is)
          c.loop-number.invariant (not_second _ _ _ c.queued.result w.if-queued-capacity.false c.queued.ensures)
    ]
