use Rattle.std.proofs.Common.{◌≡◌, sym, subst}
use Rattle.std.specs.List.{dedup}
use Rattle.std.specs.List.Sorted.{IsStrictlyIncreasing}
use Rattle.std.proofs.Math.Dec.{eqb}
use Rattle.std.proofs.lemmas.Map.Keys.{IsStrictlyIncreasing-dedup}
use Rattle.delay_memory.proofs.ReadSteps.{risen_is, risen_same}
use Rattle.delay_memory.proofs.delays.rising.Goals as goal

pub returns-clause-rise : goal.returns-clause-rise
returns-clause-rise c =
    let sorted = c.sort.new.self.items in
    let is : c.from_vec.result ≡ dedup eqb sorted =
    risen_is c.args.numbers c.into_vec-numbers.result.items sorted c.dedup.new.self.items c.from_vec.result
    c.into_vec-numbers.ensures c.sort.ensures.permutation c.dedup.ensures.filtered c.from_vec.ensures in
    subst IsStrictlyIncreasing (sym is) (IsStrictlyIncreasing-dedup sorted c.in_ok-sort.ensures.sorted)

pub returns-clause-same : goal.returns-clause-same
returns-clause-same c =
    let sorted = c.sort.new.self.items in
    let is : c.from_vec.result ≡ dedup eqb sorted =
    risen_is c.args.numbers c.into_vec-numbers.result.items sorted c.dedup.new.self.items c.from_vec.result
    c.into_vec-numbers.ensures c.sort.ensures.permutation c.dedup.ensures.filtered c.from_vec.ensures in
    risen_same c.args.numbers c.into_vec-numbers.result.items sorted c.from_vec.result c.into_vec-numbers.ensures
    c.sort.ensures.permutation is
