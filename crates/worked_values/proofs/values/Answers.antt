-- Each value by the clauses of `IsValue`, from the values of the parts.
use Rattle.std.proofs.Common.{◌≡◌, ◌≤◌, refl, arith, ℕ, ℤ, pos, negsuc, ◌-ℤ◌, ◌≤ℤ◌, Bool, true, false, inl, inr}
use Rattle.std.proofs.Common.{[], codes, Some, ⊎_elim}
use Rattle.std.proofs.lemmas.Int.{ints}
use Rattle.fix_word.specs.Operations.{IsTruth, IsSet}
use Rattle.fix_word.specs.Values.{wrap_of, clip_of, fit_of, form_of, nearest_of}
use Rattle.fix_word.specs.Words.{IsShape, IsWord}
use Rattle.fix_word.specs.declared.types.Mode.{Mode}
use Rattle.fix_word.specs.declared.types.Mode.TheVariants.{Trunc, Round, Sat}
use Rattle.fix_word.specs.declared.types.SigType.TheVariants as sig
use Rattle.fix_word.proofs.Forms.{form_is, fit_is}
use Rattle.fix_word.proofs.Nearest.{nearest_is}
use Rattle.silage_syntax.specs.declared.tree.BinOp.TheVariants as op
use Rattle.silage_syntax.specs.Manifests.{in_range, IsAmount, no_delay, delay}
use Rattle.silage_syntax.specs.Tree.{whole, binary}
use Rattle.silage_meaning.specs.Value.{IsFitted, IsShifted, IsConverted, signal, number}
use Rattle.worked_values.specs.Trees.{fix_type, fix, declaration}
use Rattle.worked_values.specs.Trees as tree
use Rattle.worked_values.specs.Values.{fixed, Has, a, b, c, hundred}
use Rattle.worked_values.proofs.values.Goals as goal

shape : (f : ℕ) → f ≤ 8 → IsShape (record { w = 8; f = f })
shape f within = record { width = record { narrowest = omega arith; widest = omega arith }; places = within }

fitted : (q v : ℤ) → fit_of q 8 Trunc ≡ v → IsFitted (fix_type 8 4 Trunc) q v
fitted q v e = record { shape = shape 4 (omega arith); fitted = rw e at (fit_is q 8 Trunc (omega arith)) }

shifted : (q : ℤ) (k : ℕ) (v : ℤ)
    → form_of q (record { shift = pos k; mode = Trunc; width = 8 }) ≡ v
    → IsShifted (fix_type 8 4 Trunc) q k v
shifted q k v e = record {
  shape = shape 4 (omega arith);
  form =
      rw e
      at (form_is q (record { shift = pos k; mode = Trunc; width = 8 })
      (record { narrowest = omega arith; widest = omega arith }));
}

converted : (f : ℕ) (mode : Mode) (q : ℤ) (places : ℕ) (v : ℤ)
    → f ≤ 8
    → form_of q (record { shift = pos places -ℤ pos f; mode = mode; width = 8 }) ≡ v
    → IsConverted (fix_type 8 f mode) q places v
converted f mode q places v within e = record {
  shape = shape f within;
  conv =
      rw e
      at (form_is q (record { shift = pos places -ℤ pos f; mode = mode; width = 8 })
      (record { narrowest = omega arith; widest = omega arith }));
}

-- a number of the type
literal_is : (negative : Bool) (digits places : ℕ) (v : ℤ)
    → nearest_of negative digits places 4 ≡ v
    → IsWord 8 v
    → Has (tree.number negative digits places) fixed v
literal_is negative digits places v e word =
    record { nearest = rw e at (nearest_is negative digits places 4); word = word }

a_is : Has a fixed (pos 24)
a_is = signal 0 0 0 (declaration _ [] fixed) (record { named = refl; placed = refl }) no_delay refl refl

b_is : Has b fixed (negsuc 7)
b_is = signal 1 0 0 (declaration _ [] fixed) (record { named = refl; placed = refl }) no_delay refl refl

c_is : Has c sig.Bool (pos 1)
c_is = signal 2 0 0 (declaration _ [] sig.Bool) (record { named = refl; placed = refl }) no_delay tt refl

-- the word is one of 8 bits
small : (v : ℤ) → (negsuc 127 ≤ℤ v) × (v ≤ℤ pos 127) → IsWord 8 v
small v (low, high) = record { low = omega (arith, ints, low); high = omega (arith, ints, high) }

before_is : Has (tree.ago (codes "a") 1) fixed (negsuc 39)
before_is =
    signal 0 0 1 (declaration _ [] fixed) (record { named = refl; placed = refl }) (delay refl (omega arith)) refl refl

pub returns-clause-leaves : goal.returns-clause-leaves
returns-clause-leaves _ = (
  literal_is false 15 1 (pos 24) refl (small (pos 24) (omega (arith, ints), omega (arith, ints))),
  literal_is false 3 1 (pos 5) refl (small (pos 5) (omega (arith, ints), omega (arith, ints))),
  refl,
  refl,
  a_is,
  before_is,
  c_is,
  number 1 _ refl refl (1, 0, refl, omega arith, refl, refl) refl
      (record {
        shape = refl;
        number = tree.decimal_number false 3 0;
        entry = refl;
        word = literal_is false 3 0 (pos 48) refl (small (pos 48) (omega (arith, ints), omega (arith, ints)));
      }),
)

pub returns-clause-sums : goal.returns-clause-sums
unfolding wrap_of
returns-clause-sums _ = (
  (pos 24, negsuc 7, a_is, b_is, fitted (pos 16) (pos 16) refl),
  (pos 24, negsuc 7, a_is, b_is, fitted (pos 32) (pos 32) refl),
  (pos 24, negsuc 7, a_is, b_is, converted 4 Trunc (negsuc 191) 8 (negsuc 11) (omega arith) refl),
  (
    pos 24,
    pos 5,
    a_is,
    literal_is false 3 1 (pos 5) refl (small (pos 5) (omega (arith, ints), omega (arith, ints))),
    converted 4 Trunc (pos 120) 8 (pos 7) (omega arith) refl,
  ),
  (pos 24, a_is, fitted (negsuc 23) (negsuc 23) refl),
  (negsuc 39, pos 24, before_is, a_is, converted 4 Trunc (negsuc 959) 8 (negsuc 59) (omega arith) refl),
  (
    pos 120,
    pos 24,
    literal_is false 75 1 (pos 120) refl (small (pos 120) (omega (arith, ints), omega (arith, ints))),
    a_is,
    converted 4 Trunc (pos 2880) 8 (negsuc 75) (omega arith) refl,
  ),
)

amount : (k : ℕ) → in_range (pos k) ≡ Some (pos k) → k ≤ 31 → IsAmount [] (whole k 0) k
amount k e most = record { value = e; most = most }

pub returns-clause-shifts : goal.returns-clause-shifts
unfolding wrap_of
returns-clause-shifts _ = (
  (pos 24, 1, a_is, amount 1 refl (omega arith), fitted (pos 48) (pos 48) refl),
  (pos 24, 3, a_is, amount 3 refl (omega arith), fitted (pos 192) (negsuc 63) refl),
  (negsuc 7, 1, b_is, amount 1 refl (omega arith), shifted (negsuc 7) 1 (negsuc 3) refl),
  (pos 24, 4, a_is, amount 4 refl (omega arith), shifted (pos 24) 4 (pos 1) refl),
)

pub returns-clause-casts : goal.returns-clause-casts
unfolding wrap_of
returns-clause-casts _ = (
  (refl, (pos 24, a_is, converted 0 Trunc (pos 24) 4 (pos 1) (omega arith) refl)),
  (refl, (pos 24, a_is, converted 0 Round (pos 24) 4 (pos 2) (omega arith) refl)),
  (
    refl,
    record {
      nearest = record { below = omega (arith, ints); above = omega (arith, ints) };
      word = record { low = omega (arith, ints); high = omega (arith, ints) };
    },
  ),
)

yes : {P : Type 0} → P → IsTruth P (pos 1)
yes p = inl (p, refl)

nay : {P : Type 0} → (P → ⊥) → IsTruth P (pos 0)
nay f = inr (f, refl)

pub returns-clause-comparisons : goal.returns-clause-comparisons
returns-clause-comparisons _ = (
  (
    (negsuc 7, pos 24, b_is, a_is, yes (omega (arith, ints))),
    (pos 24, pos 24, a_is, a_is, nay (λ h. omega (arith, ints, h))),
    (pos 24, negsuc 7, a_is, b_is, nay (λ h. omega (arith, ints, h))),
  ),
  (
    (negsuc 7, pos 24, b_is, a_is, yes (omega (arith, ints))),
    (pos 24, pos 24, a_is, a_is, yes (omega (arith, ints))),
    (pos 24, negsuc 7, a_is, b_is, nay (λ h. omega (arith, ints, h))),
  ),
  (
    (negsuc 7, pos 24, b_is, a_is, nay (λ h. absurd (cc))),
    (pos 24, pos 24, a_is, a_is, yes refl),
    (pos 24, negsuc 7, a_is, b_is, nay (λ h. absurd (cc))),
  ),
  (
    (negsuc 7, pos 24, b_is, a_is, yes (λ h. absurd (cc))),
    (pos 24, pos 24, a_is, a_is, nay (λ h. h refl)),
    (pos 24, negsuc 7, a_is, b_is, yes (λ h. absurd (cc))),
  ),
  (
    (negsuc 7, pos 24, b_is, a_is, nay (λ h. omega (arith, ints, h))),
    (pos 24, pos 24, a_is, a_is, nay (λ h. omega (arith, ints, h))),
    (pos 24, negsuc 7, a_is, b_is, yes (omega (arith, ints))),
  ),
  (
    (negsuc 7, pos 24, b_is, a_is, nay (λ h. omega (arith, ints, h))),
    (pos 24, pos 24, a_is, a_is, yes (omega (arith, ints))),
    (pos 24, negsuc 7, a_is, b_is, yes (omega (arith, ints))),
  ),
)

set : IsSet (pos 1)
set e = absurd (cc)

pub returns-clause-truths : goal.returns-clause-truths
returns-clause-truths _ = (
  (pos 1, pos 1, c_is, c_is, yes (set, set)),
  (pos 1, pos 0, c_is, refl, nay (λ h. h.1 refl)),
  (pos 0, pos 1, refl, c_is, nay (λ h. h.0 refl)),
  (pos 1, pos 0, c_is, refl, yes (inl set)),
  (pos 0, pos 1, refl, c_is, yes (inr set)),
  (pos 0, pos 0, refl, refl, nay (λ h. ⊎_elim (λ s. s refl) (λ s. s refl) h)),
  (pos 1, c_is, nay (λ h. absurd (cc))),
  (pos 0, refl, yes refl),
)

one_is : Has (tree.number false 1 0) fixed (pos 16)
one_is = literal_is false 1 0 (pos 16) refl (small (pos 16) (omega (arith, ints), omega (arith, ints)))

not_less : Has (binary 0 op.Lt a b) sig.Bool (pos 0)
not_less = (pos 24, negsuc 7, a_is, b_is, nay (λ h. omega (arith, ints, h)))

pub returns-clause-choices : goal.returns-clause-choices
returns-clause-choices _ = (
  (
    pos 24,
    a_is,
    (
      pos 0,
      pos 16,
      negsuc 7,
      not_less,
      one_is,
      (pos 1, negsuc 7, pos 24, c_is, b_is, refl, inl (set, refl)),
      inr (refl, refl),
    ),
  ),
  (pos 24, a_is, (pos 0, pos 16, pos 24, not_less, one_is, refl, inr (refl, refl))),
  (
    pos 16,
    one_is,
    (
      pos 1,
      pos 24,
      negsuc 7,
      c_is,
      a_is,
      (pos 1, negsuc 7, pos 16, c_is, b_is, refl, inl (set, refl)),
      inl (set, refl),
    ),
  ),
)

-- a whole number of fix<8,0>, and what a sum of such words comes to
whole_is : (negative : Bool) (digits places : ℕ) (mode : Mode) (v : ℤ)
    → nearest_of negative digits places 0 ≡ v
    → IsWord 8 v
    → Has (tree.number negative digits places) (fix 8 0 mode) v
whole_is negative digits places mode v e word =
    record { nearest = rw e at (nearest_is negative digits places 0); word = word }

fitted_in : (mode : Mode) (q v : ℤ) → fit_of q 8 mode ≡ v → IsFitted (fix_type 8 0 mode) q v
fitted_in mode q v e = record { shape = shape 0 (omega arith); fitted = rw e at (fit_is q 8 mode (omega arith)) }

hundred_is : (mode : Mode) → Has hundred (fix 8 0 mode) (pos 100)
hundred_is mode = whole_is false 100 0 mode (pos 100) refl (small (pos 100) (omega (arith, ints), omega (arith, ints)))

pub returns-clause-parts : goal.returns-clause-parts
unfolding wrap_of clip_of
returns-clause-parts _ = (
  (
    pos 127,
    pos 100,
    (pos 100, pos 100, hundred_is Sat, hundred_is Sat, fitted_in Sat (pos 200) (pos 127) refl),
    hundred_is Sat,
    fitted_in Sat (pos 27) (pos 27) refl,
  ),
  (
    negsuc 55,
    pos 100,
    (pos 100, pos 100, hundred_is Trunc, hundred_is Trunc, fitted_in Trunc (pos 200) (negsuc 55) refl),
    hundred_is Trunc,
    fitted_in Trunc (negsuc 155) (pos 100) refl,
  ),
  whole_is true 25 1 Trunc (negsuc 1) refl (small (negsuc 1) (omega (arith, ints), omega (arith, ints))),
  (
    pos 3,
    whole_is false 25 1 Trunc (pos 3) refl (small (pos 3) (omega (arith, ints), omega (arith, ints))),
    fitted_in Trunc (negsuc 2) (negsuc 2) refl,
  ),
)
