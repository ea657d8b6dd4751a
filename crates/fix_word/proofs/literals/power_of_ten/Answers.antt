use Rattle.std.proofs.Common.{arith, ◌^◌, ◌≤◌}
use Rattle.std.proofs.Math.Nat.{pow-le-pow_right, one-le-pow}
use Rattle.std.proofs.lemmas.Int.{ints}
use Rattle.fix_word.proofs.literals.power_of_ten.Goals as goal

pub returns-clause-most : goal.returns-clause-most
returns-clause-most c =
    let small : 10 ^ c.args.k ≤ 10 ^ 17 = pow-le-pow_right {n = 10} (omega arith) {j = 17} c.requires in
    omega (arith, ints)

pub returns-clause-least : goal.returns-clause-least
returns-clause-least c =
    let least : 1 ≤ 10 ^ c.args.k = one-le-pow c.args.k 10 (omega arith) in
    omega (arith, ints)
