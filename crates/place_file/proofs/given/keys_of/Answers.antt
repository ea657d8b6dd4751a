use Rattle.std.proofs.Common.{ℕ, arith, subst}
use Rattle.std.proofs.lemmas.List.Sorted.{IsNonDecreasingBy-from_sort}
use Rattle.place_file.proofs.Keys.{AreMade, sorted_keys}
use Rattle.place_file.proofs.given.keys_of.Goals as goal

pub returns-clause-keys : goal.returns-clause-keys
returns-clause-keys c =
    sorted_keys c.args.entries.now c.loop-k.keys.items c.sort_unstable.new.self.items c.requires
    (subst (λ (n : ℕ). AreMade c.args.entries.now n c.loop-k.keys.items)
    (omega (arith, c.loop-k.auto.k-end, c.loop-k-test.false)) c.loop-k.invariant)
    c.sort_unstable.ensures.permutation
    (IsNonDecreasingBy-from_sort (λ (x : ℕ). x) c.sort_unstable.new.self.items c.sort_unstable.ensures.sorted)
