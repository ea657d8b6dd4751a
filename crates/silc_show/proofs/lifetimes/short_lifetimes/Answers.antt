use Rattle.std.proofs.Common.{ℕ, ◌+◌, ◌*◌, ◌≤◌, subst, sym, arith, inr}
use Rattle.datapath.specs.Allowed.{IsPort}
use Rattle.silc_show.proofs.ShortLifetimes.{AreShort, short_pushed}
use Rattle.silc_show.proofs.lifetimes.short_lifetimes.Goals as goal

pub loop-node-preserved : goal.loop-node-preserved
loop-node-preserved c =
    let arc = c.short_lifetime.ensures in
    let period = c.requires.path.period in
    let end = c.loop-node-test.true in
    let write = arc.write in
    let read = arc.read in
    subst (AreShort c.args.path.now c.args.port (c.loop-node.node + 1)) (sym c.in_ok-push.ensures.ok)
    (short_pushed c.args.path.now c.args.port c.loop-node.node c.loop-node.arcs c.short_lifetime.result
    c.loop-node.invariant
    (record {
      port = subst (IsPort c.args.path.now.units) (sym arc.port) c.requires.port;
      count = inr (inr arc.copies);
      start = omega (arith, period, end, write);
      later = omega (arith, write, read);
      covered = subst
          (λ (n : ℕ). c.short_lifetime.result.r ≤ c.short_lifetime.result.w + n * c.args.path.now.period)
          (sym arc.copies) (omega (arith, write, read, period));
    })
    arc.node arc.write arc.port)
