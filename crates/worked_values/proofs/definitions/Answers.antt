-- Each way by its rule, from where the item stands.
use Rattle.std.proofs.Common.{◌≡◌, refl, arith, ℕ, inl, inr, codes, [], ◌∷◌, Some, pos}
use Rattle.std.proofs.lemmas.Int.{ints}
use Rattle.std.proofs.lemmas.Option.{same_Some}
use Rattle.silage_syntax.specs.Names.{IsOffset}
use Rattle.silage_syntax.specs.Tree.{whole, counter}
use Rattle.silage_meaning.specs.Instances.{main_is, Call}
use Rattle.silage_meaning.specs.Solves.{input, equated, argument, array, table, result, array_result}
use Rattle.worked_values.specs.Trees.{declaration, bare, entry_of, now}
use Rattle.worked_values.specs.Definitions.{byte, called, calls, in_main}
use Rattle.worked_values.proofs.definitions.Goals as goal

abbrev the_call : Call calls in_main
the_call = record {
  places = bare (codes "y") ∷ bare (codes "u") ∷ [];
  name = codes "f";
  args = now (codes "a") ∷ now (codes "k") ∷ now (codes "b") ∷ [];
  at = 7;
  callee = called;
  found = record { instance = main_is refl; occurs = inl (refl, refl) };
  named = refl;
}

pub returns-clause-sources : goal.returns-clause-sources
returns-clause-sources _ = (
  input refl,
  input refl,
  array in_main the_call 0 0 1 (declaration (codes "v") (2 ∷ []) byte) (declaration (codes "a") (2 ∷ []) byte)
      (bare (codes "a")) (record { parameter = refl; argument = refl })
      (record { some = λ e. absurd (cc); bare = refl; named = refl; same_dims = refl }) (omega arith) refl,
  table in_main the_call 1 (declaration (codes "w") (2 ∷ []) byte) (bare (codes "k"))
      (record { parameter = refl; argument = refl })
      (record { some = λ e. absurd (cc); bare = refl; undeclared = refl; named = refl; same_dims = refl })
      (omega arith) refl,
  argument the_call 2 (declaration (codes "s") [] byte) (record { parameter = refl; argument = refl }) refl refl,
  array_result in_main the_call 0 2 1 (declaration (codes "z") (2 ∷ []) byte) (declaration (codes "y") (2 ∷ []) byte)
      (bare (codes "y")) (record { result = refl; taken = refl })
      (record { some = λ e. absurd (cc); bare = refl; named = refl; same_dims = refl }) (omega arith) refl,
  result in_main the_call 1 3 0 (declaration (codes "t") [] byte) (declaration (codes "u") [] byte) (bare (codes "u"))
      (record { result = refl; taken = refl }) refl (record { named = refl; placed = refl }) refl,
  equated (entry_of (codes "p") (counter (codes "i") 0)) 4 1 (declaration (codes "p") (2 ∷ []) byte)
      (record {
        instance = main_is refl;
        occurs =
            inr (inl (
              pos 1,
              record {
                first = pos 0;
                last = pos 1;
                from = refl;
                to = refl;
                begun = omega (arith, ints);
                ended = omega (arith, ints);
              },
              inl (refl, refl),
            ));
      })
      (record { named = refl; placed = (1, 0, refl, omega arith, refl, refl) }) refl,
)

pub returns-clause-order : goal.returns-clause-order
returns-clause-order _ = (refl, refl)

pub returns-clause-turns : goal.returns-clause-turns
returns-clause-turns _ = λ turn. (
  record {
    first = pos 0;
    last = pos 1;
    from = refl;
    to = refl;
    begun = omega (arith, ints);
    ended = omega (arith, ints);
  },
  record {
    first = pos 0;
    last = pos 1;
    from = refl;
    to = refl;
    begun = omega (arith, ints);
    ended = omega (arith, ints);
  },
  λ h. let last_is : pos 1 ≡ h.last = same_Some _ _ h.to in omega (arith, ints, last_is, h.ended),
  λ h.
      let first_is : pos 1 ≡ h.first = same_Some _ _ h.from in
      let last_is : pos 0 ≡ h.last = same_Some _ _ h.to in
      omega (arith, ints, first_is, last_is, h.begun, h.ended),
)

number_once : (i j : ℕ) → Some (pos i) ≡ Some (pos j) → i ≡ j
number_once i j e = cc

outside : (k : ℕ) → IsOffset [] (2 ∷ 3 ∷ []) (whole 1 0 ∷ whole 3 0 ∷ []) k → ⊥
outside k (i, rest, is, below, (j, last, js, under, end, e), f) =
    let three : 3 ≡ j = number_once 3 j js in
    omega (arith, three, under)

pub returns-clause-subscripts : goal.returns-clause-subscripts
returns-clause-subscripts _ = λ k. (
  (1, 2, refl, omega arith, (2, 0, refl, omega arith, refl, refl), refl),
  outside k,
  refl,
  refl,
  refl,
)
