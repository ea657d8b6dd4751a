use Rattle.std.proofs.Common.{arith, ◌≡◌, ◌∙◌, refl, ◌^◌, ◌-◌, ◌*◌, ◌%◌, ◌<◌, ◌≤◌, ℕ, to_z, of_z}
use Rattle.std.specs.Int.{w64, int_shr}
use Rattle.std.proofs.lemmas.Int.{ints, to_z-of_z}
use Rattle.std.proofs.Math.Nat.{mod-lt}
use Rattle.std.proofs.Math.Pow.{pow_mono}
use Rattle.fix_word.specs.Values.{wrap_of}
use Rattle.fix_word.proofs.Wraps.{wrap_word}
use Rattle.fix_word.proofs.Shifts.{sign_extends, unsigned_of, signed_of}
use Rattle.fix_word.proofs.words.sign_extended.Goals as goal

pub returns : goal.returns
returns c =
    let above : ℕ = 64 - c.args.w in
    let top : ℕ = of_z w64 c.args.bits * 2 ^ above % 2 ^ 64 in
    let few : top < 2 ^ 64 = mod-lt (of_z w64 c.args.bits * 2 ^ above) (omega arith) in
    let up = unsigned_of c.args.bits (omega (arith, ints)) in
    let moved = signed_of top few in
    let back : int_shr (to_z w64 top) above ≡ wrap_of c.args.bits c.args.w =
    sign_extends c.args.bits (to_z w64 top) (of_z w64 c.args.bits) top c.args.w above moved.0 up.0
    c.requires.width.narrowest (omega (arith, c.requires.width.widest)) up.1 refl moved.1 (omega (arith, ints))
    (omega (arith, ints)) in
    let word = wrap_word c.args.bits c.args.w c.requires.width.narrowest in
    let small : 2 ^ (c.args.w - 1) ≤ 2 ^ 39 = pow_mono {j = 39} (omega (arith, c.requires.width.widest)) in
    to_z-of_z w64 (int_shr (to_z w64 top) above) (omega (arith, ints, back, word.low, word.high, small)) ∙ back
