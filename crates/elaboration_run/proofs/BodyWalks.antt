-- The walk over instances, with nothing walked before.
use Rattle.std.proofs.Common.{◌≡◌, ◌≢◌, ◌∙◌, ℕ, List, [], Option, Result, Ok, Err, IsErrAnd, sym, ap}
use Rattle.element_rules.specs.declared.fault.PlacedFault.{PlacedFault}
use Rattle.element_rules.specs.declared.fault.PlacedFault.TheVariants.{Memory}
use Rattle.element_rules.specs.declared.elements.Elements.{Elements}
use Rattle.element_rules.specs.ElementRules.{max_nested}
use Rattle.elaboration_code.specs.Actions.{Body, Walked, GivesValue, HasMeaning, run_instance, ◌>>=◌}
use Rattle.elaboration_code.specs.ItemActions.{nothing_walked, elements_walked, run_bodies}

value_err : {A : Type 0} (e : PlacedFault) (r run : Result A PlacedFault)
    → IsErrAnd r (λ f. f ≡ e)
    → (e ≢ Memory → run ≡ Err e)
    → GivesValue r run
value_err e (Ok x) run h fails = absurd h
value_err e (Err f) run h fails = λ n. fails (λ m. n (h ∙ m)) ∙ ap Err (sym h)

module _ (functions : List (Option Body)) (main : ℕ) (start : Walked) (none : start ≡ nothing_walked) where
  abbrev from_main : Result Walked PlacedFault
  from_main = run_instance functions max_nested 0 main 0 [] start

  map_of_map : run_bodies functions main ≡ from_main >>= λ walked. Ok (elements_walked walked)
  map_of_map =
      ap (λ start. run_instance functions max_nested 0 main 0 [] start >>= λ walked. Ok (elements_walked walked))
      (sym none)

  pub walk_ok : (walked : Walked) → from_main ≡ Ok walked → run_bodies functions main ≡ Ok (elements_walked walked)
  walk_ok walked ok =
      map_of_map ∙ ap (λ (r : Result Walked PlacedFault). r >>= λ walked. Ok (elements_walked walked)) ok

  pub walk_err : (fault : PlacedFault) (r : Result Elements PlacedFault)
      → IsErrAnd r (λ f. f ≡ fault)
      → (fault ≢ Memory → from_main ≡ Err fault)
      → GivesValue r (run_bodies functions main)
  walk_err fault r err fails =
      value_err fault r (run_bodies functions main) err
      (λ n. map_of_map ∙ ap (λ (r : Result Walked PlacedFault). r >>= λ walked. Ok (elements_walked walked)) (fails n))

  -- where the walk has a meaning, it has one from main on
  pub walk_meant : HasMeaning (run_bodies functions main) → HasMeaning from_main
  walk_meant h e =
      h (map_of_map ∙ ap (λ (r : Result Walked PlacedFault). r >>= λ walked. Ok (elements_walked walked)) e)
