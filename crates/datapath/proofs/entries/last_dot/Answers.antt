use Rattle.std.proofs.Common.{◌≡◌, ◌+◌, ◌-◌, drop, None, refl, arith}
use Rattle.datapath.specs.Names.{last_dot}
use Rattle.datapath.proofs.Dots.{last_dot_here}
use Rattle.datapath.proofs.entries.last_dot.Goals as goal

pub returns-then-text-place-eq46 : goal.returns-then-text-place-eq46
returns-then-text-place-eq46 c =
    let whole : c.loop-place.place - 1 + 1 ≡ c.loop-place.place = omega arith in
    let after : last_dot (drop (c.loop-place.place - 1 + 1) c.args.text.now) ≡ None = rw whole
    c.loop-place.invariant.1 in
    last_dot_here c.args.text.now (c.loop-place.place - 1) (c.loop-place.place - 1 + 1) refl (omega arith)
    c.if-text-place-eq46.true after
