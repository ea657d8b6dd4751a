-- What a turn that runs has at the first cycle of a sample.
use Rattle.std.proofs.Common.{◌≡◌, ℕ, ◌+◌, ◌-◌, ◌<◌, Bool, true, false, ◌&&◌, ◌||◌, ◌==◌, nat_le, List, length}
use Rattle.std.proofs.Common.{inl, inr, arith, sym, ◌∙◌, zero-add}
use Rattle.std.specs.List.{list_any, Contains}
use Rattle.std.proofs.lemmas.Bool.{false≢true, cases_Bool, or_parts, eq-eqb}
use Rattle.std.proofs.lemmas.Bool.Decides.{nat_tests}
use Rattle.std.proofs.lemmas.List.Folds.{list_any_at}
use Rattle.std.proofs.lemmas.List.FromFn.{length-range_with_len, get_or-range_with_len}
use Rattle.net_core.specs.declared.types.Wire.TheVariants.{From}
use Rattle.net_turns.specs.Turns.{NetShape, Point, point_of, feed_of, processors, is_from, reads}
use Rattle.net_turns.specs.Turns.{is_full, is_dry, lacks_input, lacks_row, lacks_place, lacks}

not_second : (a b : Bool) → (a && b) ≡ false → a ≡ true → b ≡ false
not_second true b h is = h
not_second false b h is = absurd (cc)

-- no element passes a test that none passes
pub none_passes : {A : Type 0} (test : A → Bool) (xs : List A) (x : A)
    → list_any test xs ≡ false
    → Contains xs x
    → test x ≡ false
none_passes test xs x none (k, within, is) =
    elim (cases_Bool (test x)) [
      | inl passes ↦ absurd (false≢true (sym none ∙ list_any_at test xs k x within (rw is passes)))
      | inr fails ↦ fails
    ]

pub in_processors : (shape : NetShape) (r : ℕ) → r < length shape.feeds → Contains (processors shape) r
in_processors shape r h = (
  r,
  rw (length-range_with_len 0 (length shape.feeds)) h,
  get_or-range_with_len 0 (length shape.feeds) r r h ∙ zero-add r,
)

nat_le-false : (m n : ℕ) → nat_le m n ≡ false → n < m
nat_le-false m n h = grind (arith, nat_tests)

reads_wire : (shape : NetShape) (r p j : ℕ) → Contains (feed_of shape r) (From p j) → reads shape r p ≡ true
reads_wire shape r p j (k, within, is) = list_any_at (is_from p) (feed_of shape r) k (From p j) within
    (rw is (let same : (p == p) ≡ true = grind (arith, nat_tests) in same))

-- what p has at the first cycle of a sample, where it lacks nothing
pub record HasAll (shape : NetShape) (points : List Point) (p : ℕ) : Type 0 where
  pub input : (point_of points p).taken < shape.samples
  pub rows : (q j : ℕ) → Contains (feed_of shape p) (From q j) → (point_of points p).taken < (point_of points q).ran
  pub places : (r j : ℕ)
      → r < length shape.feeds
      → Contains (feed_of shape r) (From p j)
      → (point_of points p).ran < (point_of points r).taken + shape.capacity

some-left : (m n : ℕ) → (m - n == 0) ≡ false → n < m
some-left m n h = let other : m - n ≡ 0 → ⊥ = (λ e. false≢true (sym h ∙ eq-eqb (m - n) 0 e)) in omega (arith, other)

module _ (shape : NetShape) (points : List Point) (p : ℕ) where
  has_all-from : (lacks_input shape points p || (lacks_row shape points p || lacks_place shape points p)) ≡ false
      → HasAll shape points p
  has_all-from none =
      let (input, others) = or_parts (lacks_input shape points p) _ none in
      let (row, place) = or_parts (lacks_row shape points p) (lacks_place shape points p) others in
      record {
        input = nat_le-false shape.samples (point_of points p).taken input;
        rows = λ q j wire. some-left _ _ (none_passes (is_dry points p) (feed_of shape p) (From q j) row wire);
        places = λ r j within wire.
            (let free : (point_of points p).ran - (point_of points r).taken < shape.capacity =
            nat_le-false _ _
            (not_second (reads shape r p) (is_full shape points p r)
            (none_passes (λ s. reads shape s p && is_full shape points p s) (processors shape) r place
            (in_processors shape r within))
            (reads_wire shape r p j wire)) in omega (arith, free));
      }

  pub has_all : lacks shape points p ≡ false → (point_of points p).cycle ≡ 0 → HasAll shape points p
  unfolding lacks
  has_all none first =
      has_all-from (not_second ((point_of points p).cycle == 0) _ none (eq-eqb (point_of points p).cycle 0 first))
