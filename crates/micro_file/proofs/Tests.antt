-- Tests of numbers that a field may have.
use Rattle.std.proofs.Common.{◌≡◌, ℕ, ◌<◌, ◌≤◌, true, ltb, leb, arith}
use Rattle.std.proofs.lemmas.Bool.Decides.{nat_tests}
use Rattle.micro_file.proofs.Readers.{IsTestOf}

below_limit : (limit n : ℕ) → ltb n limit ≡ true → n < limit
below_limit limit n e = grind (arith, nat_tests)

to_limit : (limit n : ℕ) → n < limit → ltb n limit ≡ true
to_limit limit n h = grind (arith, nat_tests)

-- a number below a limit
pub below_test : (limit : ℕ) → IsTestOf (λ n. ltb n limit) (λ n. n < limit)
below_test limit = record {
  sound = λ n e. below_limit limit n e;
  whole = λ n h. to_limit limit n h;
}

upto_limit : (limit n : ℕ) → leb n limit ≡ true → n ≤ limit
upto_limit limit n e = grind (arith, nat_tests)

to_upto : (limit n : ℕ) → n ≤ limit → leb n limit ≡ true
to_upto limit n h = grind (arith, nat_tests)

-- a number up to a limit
pub upto_test : (limit : ℕ) → IsTestOf (λ n. leb n limit) (λ n. n ≤ limit)
upto_test limit = record {
  sound = λ n e. upto_limit limit n e;
  whole = λ n h. to_upto limit n h;
}
