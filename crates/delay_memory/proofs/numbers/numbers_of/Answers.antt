use Rattle.std.proofs.Common.{◌+◌, ◌<◌, sym, subst, arith, ap, List, [], ℕ, length}
use Rattle.plan_core.specs.Lowered.{origins_of}
use Rattle.std.proofs.lemmas.List.{get_or_read}
use Rattle.delay_memory.specs.Private.Numbers.{AreNumbers}
use Rattle.delay_memory.proofs.NumberSteps.{piece_few, numbers_more, first_more}
use Rattle.delay_memory.proofs.numbers.numbers_of.Goals as goal

pub overflow_add-next : goal.overflow_add-next
overflow_add-next c =
    let there : c.loop-v.v < length c.args.delays.now = omega arith in
    let at = get_or_read c.args.delays.now c.loop-v.v c.index.result.now there c.index.ensures [] in
    let few = piece_few c.args.delays.now c.requires c.loop-v.v in
    let piece = c.node_count-next.ensures c.loop-v.v in
    let same = ap (λ (ds : List ℕ). length (origins_of c.loop-v.v ds)) at in
    let small = c.loop-v.invariant.small in
    let count = c.requires.count in
    omega (arith, there, few, piece, same, small, count)

pub loop-v-preserved : goal.loop-v-preserved
loop-v-preserved c =
    let there : c.loop-v.v < length c.args.delays.now = omega arith in
    let at = get_or_read c.args.delays.now c.loop-v.v c.index.result.now there c.index.ensures [] in
    let few = piece_few c.args.delays.now c.requires c.loop-v.v in
    let piece = c.node_count-next.ensures c.loop-v.v in
    let same = ap (λ (ds : List ℕ). length (origins_of c.loop-v.v ds)) at in
    let small = c.loop-v.invariant.small in
    let first = first_more c.args.delays.now c.loop-v.v there in
    let next = c.loop-v.invariant.next in
    record {
      numbers = subst (AreNumbers c.args.delays.now (c.loop-v.v + 1)) (sym c.in_ok-push.ensures.ok)
          (numbers_more c.args.delays.now c.loop-v.v c.loop-v.next c.loop-v.numbers there
          c.loop-v.invariant.numbers next);
      next = omega (arith, piece, same, first, next);
      small = omega (arith, few, piece, same, small);
    }
