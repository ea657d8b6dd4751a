use Rattle.std.proofs.Common.{◌≡◌, sym, ap, rules, arith, w32, pos, to_z, of_z}
use mir.Val.{SFits}
use Rattle.std.proofs.lemmas.Int.{ints}
use Rattle.loop_expand.specs.Private.Facts.{at_least_0}
use Rattle.loop_expand.proofs.amounts.natural.Goals as goal

pub overflow_cast-result : goal.overflow_cast-result
overflow_cast-result c =
    let (k, value) = c.requires in
    let is : c.in-Ok.value ≡ pos k = cc ((c.in-Ok.ensures.value (pos k)).1 value) in
    let fits : SFits w32 c.in-Ok.value = search rules in
    let same : to_z w32 (of_z w32 c.in-Ok.value) ≡ pos k = omega (arith, ints, is) in
    rw same (tt, omega (arith, ints, is, fits))

pub unreachable-requires : goal.unreachable-requires
unreachable-requires c = let (k, value) = c.requires in cc ((c.in-Err.ensures.value (pos k)).1 value)

pub returns : goal.returns
returns c =
    let (k, value) = c.requires in
    let is : c.in-Ok.value ≡ pos k = cc ((c.in-Ok.ensures.value (pos k)).1 value) in
    let same : to_z w32 (of_z w32 c.in-Ok.value) ≡ pos k = omega (arith, ints, is) in
    rw same (sym (ap at_least_0 value))
