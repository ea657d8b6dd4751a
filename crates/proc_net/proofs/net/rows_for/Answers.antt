use Rattle.proc_net.proofs.Loading.{rows_step}
use Rattle.proc_net.proofs.net.rows_for.Goals as goal

pub loop-processor-preserved : goal.loop-processor-preserved
loop-processor-preserved c =
    rows_step c.args.processors.now c.loop-processor.rows c.push.new.self c.loop-processor.processor-index c.len.result
    c.processor-item.result c.in_ok-zeros.field-0 c.loop-processor-test.true c.processor-item.is
    c.loop-processor.invariant
    c.len.ensures c.in_ok-zeros.ensures c.in_ok-push.ensures.ok
