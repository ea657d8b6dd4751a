use Rattle.std.proofs.Common.{◌≡◌, ◌<◌, arith, length}
use Rattle.delay_memory.proofs.ReadSteps.{risen_step, risen_all}
use Rattle.delay_memory.proofs.Counts.{delays_few, all_rise}
use Rattle.delay_memory.proofs.delays.delays_of.Goals as goal

pub loop-v-preserved : goal.loop-v-preserved
loop-v-preserved c =
    let there : c.loop-v.v < length c.args.graph.now.nodes = omega arith in
    risen_step c.args.graph.now c.args.hold c.loop-v.v c.replace.result c.in_ok-rising.field-0 c.new.result
    c.loop-v.reads
    c.replace.new.self c.loop-v.delays c.push.new.self there c.loop-v.invariant c.replace.ensures.before c.new.ensures
    c.replace.ensures.after c.in_ok-push.ensures.ok c.in_ok-rising.ensures.rise c.in_ok-rising.ensures.same

pub returns-clause-delays : goal.returns-clause-delays
returns-clause-delays c =
    let all : c.loop-v.v ≡ length c.args.graph.now.nodes = omega arith in
    risen_all c.args.graph.now c.args.hold c.loop-v.v c.loop-v.reads c.loop-v.delays all c.loop-v.invariant

pub returns-clause-few : goal.returns-clause-few
returns-clause-few c =
    delays_few c.args.graph.now c.requires c.args.hold c.loop-v.delays (returns-clause-delays c)

pub returns-clause-rise : goal.returns-clause-rise
returns-clause-rise c =
    all_rise c.args.graph.now c.requires c.args.hold c.loop-v.delays (returns-clause-delays c)
