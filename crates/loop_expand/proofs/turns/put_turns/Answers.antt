use Rattle.std.proofs.Common.{◌≡◌, ◌<◌, ◌+ℤ◌, pos, ap, arith, rules, w32}
use mir.Val.{SFits}
use Rattle.std.proofs.lemmas.Int.{to_z-of_z}
use Rattle.element_rules.specs.ElementRules.{count_up}
use Rattle.loop_expand.specs.Private.Turns.{inner_at}
use Rattle.loop_expand.proofs.TurnRows.{turns_more}
use Rattle.loop_expand.proofs.turns.put_turns.Goals as goal

pub loop-k-preserved : goal.loop-k-preserved
loop-k-preserved c =
    let lo = c.args.lo in
    let hi = c.args.hi in
    let fits_lo : SFits w32 lo = search rules in
    let fits_hi : SFits w32 hi = search rules in
    let fits : SFits w32 c.turn_at.result = search rules in
    let end : c.turn_count-k-end.result ≡ count_up lo hi =
    simp (to_z-of_z, fits_lo, fits_hi) at c.turn_count-k-end.ensures in
    let at_k : c.turn_at.result ≡ lo +ℤ pos c.loop-k.k = simp (to_z-of_z, fits_lo) at c.turn_at.ensures in
    let less : c.loop-k.k < count_up lo hi = omega (arith, end) in
    let so_far = simp (to_z-of_z, fits_lo, fits_hi) at c.loop-k.invariant in
    let pushed = simp (to_z-of_z, fits) at c.in_ok-push.ensures.items in
    simp (to_z-of_z, fits_lo, fits_hi)
    (turns_more c.args.outer lo (count_up lo hi) c.loop-k.k c.loop-k.inner.items c.push.new.self.items _
    (inner_at c.args.outer c.turn_at.result) less (ap (inner_at c.args.outer) at_k) pushed so_far)
