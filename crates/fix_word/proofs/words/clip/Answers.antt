use Rattle.std.proofs.Common.{arith, ◌^◌, ◌-◌, ◌≤◌, ◌<ℤ◌, ◌≤ℤ◌}
use Rattle.std.proofs.lemmas.Int.{ints}
use Rattle.std.proofs.Math.Pow.{pow_mono}
use Rattle.fix_word.specs.Words.{lowest_word, highest_word}
use Rattle.fix_word.proofs.Clips.{clip_is}
use Rattle.fix_word.proofs.words.clip.Goals as goal

pub returns-then-q-half : goal.returns-then-q-half
returns-then-q-half c =
    let small : 2 ^ (c.args.w - 1) ≤ 2 ^ 39 = pow_mono {j = 39} (omega (arith, c.requires.width.widest)) in
    let below : c.args.q <ℤ lowest_word c.args.w = omega (arith, ints, small) in
    omega (arith, ints, small, (clip_is c.args.q c.args.w).below below)

pub returns-then-half-q : goal.returns-then-half-q
returns-then-half-q c =
    let small : 2 ^ (c.args.w - 1) ≤ 2 ^ 39 = pow_mono {j = 39} (omega (arith, c.requires.width.widest)) in
    let above : highest_word c.args.w <ℤ c.args.q = omega (arith, ints, small) in
    omega (arith, ints, small, (clip_is c.args.q c.args.w).above above)

pub returns-else-half-q : goal.returns-else-half-q
returns-else-half-q c =
    let small : 2 ^ (c.args.w - 1) ≤ 2 ^ 39 = pow_mono {j = 39} (omega (arith, c.requires.width.widest)) in
    let low : lowest_word c.args.w ≤ℤ c.args.q = omega (arith, ints, small) in
    let high : c.args.q ≤ℤ highest_word c.args.w = omega (arith, ints, small) in
    let same = (clip_is c.args.q c.args.w).inside
    (record { low = omega (arith, ints, low); high = omega (arith, ints, high) }) in
    omega (arith, ints, small, same)
