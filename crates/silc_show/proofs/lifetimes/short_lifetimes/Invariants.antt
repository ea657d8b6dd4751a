use Rattle.silc_show.proofs.ShortLifetimes.{AreShort}
use Rattle.silc_show.proofs.lifetimes.short_lifetimes.Given as goal

abbrev pub invariant-loop-node : goal.invariant-loop-node
invariant-loop-node l = AreShort l.path l.port l.node l.arcs
