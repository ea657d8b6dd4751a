use Rattle.place_file.specs.Private.Entries.{AreFirst}
use Rattle.place_file.proofs.given.given_of.Given as goal

abbrev pub invariant-loop-v : goal.invariant-loop-v
invariant-loop-v l = AreFirst l.entries l.keys l.v l.places l.lines
