use Rattle.std.proofs.Common.{arith}
use Rattle.std.proofs.lemmas.Nat.{mul-le}
use Rattle.rate_unfold.proofs.FrameRows.{place_below}
use Rattle.rate_unfold.proofs.phases.word_in_phase.Goals as goal

pub overflow_add-result : goal.overflow_add-result
overflow_add-result c =
    let phase = c.args.phase.now in
    let below = place_below phase.phases phase.up.now c.args.word c.requires.phase.first in
    let most = mul-le c.args.word phase.phases 16 8 (omega arith) c.requires.phase.last in
    omega (arith, below, most, c.place.ensures, c.requires.phase.number, c.requires.phase.last)
