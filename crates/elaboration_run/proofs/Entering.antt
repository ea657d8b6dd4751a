-- What an instance comes to, by its parts.
use Rattle.std.proofs.Common.{◌≡◌, ◌≢◌, ◌<◌, ◌-◌, ◌∙◌, ℕ, zero, suc, ℤ, List, [], map, length, slice_get, Option, None}
use Rattle.std.proofs.Common.{option_map, option_and_then, Some, Result, Ok, Err, IsErrAnd, refl, sym, ap, arith}
use Rattle.std.proofs.lemmas.Option.{slice_get-map}
use Rattle.elaboration_run.specs.declared.function.Function.{Function}
use Rattle.element_rules.specs.declared.fault.PlacedFault.{PlacedFault}
use Rattle.element_rules.specs.declared.fault.PlacedFault.TheVariants.{Memory}
use Rattle.elaboration_code.specs.Actions.{Body, Definitions, Walked, State, Gives, HasMeaning, at_first, entered_in}
use Rattle.elaboration_code.specs.Actions.{run_actions, run_body, run_some, function_at, run_instance, all_defined}
use Rattle.elaboration_code.specs.Actions.{◌>>=◌}
use Rattle.elaboration_run.specs.Private.Functions.{view_function, view_of_top}
use Rattle.elaboration_run.proofs.Each.{gives_err}

module _ (inside : (parent func at : ℕ) → List ℤ → Walked → Result Walked PlacedFault) (body : Body)
    (func parent at : ℕ) (turns : List ℤ) (walked entered : Walked) (definitions : Definitions) (number : ℕ)
    (e : entered_in body func parent at turns walked ≡ Ok entered) (n : number ≡ length walked.instances)
    (k : definitions ≡ at_first body.given) where
  abbrev begun : State
  begun = record { definitions = definitions; walked = entered }

  abbrev rest : State → Result Walked PlacedFault
  rest s = all_defined s.definitions body.signals >>= λ _. Ok s.walked

  body_is : run_body inside body func parent at turns walked
      ≡ run_actions (inside number) [] body.actions begun >>= rest
  body_is =
      ap (λ r.
      r
      >>= λ entered.
      run_actions (inside (length walked.instances)) [] body.actions
      (record { definitions = at_first body.given; walked = entered }) >>= rest)
      e
      ∙ ap (λ m.
      run_actions (inside m) [] body.actions (record { definitions = at_first body.given; walked = entered })
      >>= rest)
      (sym n)
      ∙ ap (λ definitions.
      run_actions (inside number) [] body.actions (record { definitions = definitions; walked = entered }) >>= rest)
      (sym k)

  pub body_err : (x : Walked) (fault : PlacedFault) (r : Result (Unit {0}) PlacedFault)
      → IsErrAnd r (λ f. f ≡ fault)
      → (fault ≢ Memory → run_actions (inside number) [] body.actions begun ≡ Err fault)
      → Gives x r (run_body inside body func parent at turns walked)
  body_err x fault r err fails = gives_err x fault r _ err (λ m. body_is ∙ ap (λ r. r >>= rest) (fails m))

  -- where an instance has a meaning, its actions have one
  pub body_meant : HasMeaning (run_body inside body func parent at turns walked)
      → HasMeaning (run_actions (inside number) [] body.actions begun)
  body_meant h e = h (body_is ∙ ap (λ r. r >>= rest) e)

  checked : (x : Walked) (r : Result (Unit {0}) PlacedFault) → Gives x r (r >>= λ _. Ok x)
  checked x (Ok u) = refl
  checked x (Err f) = λ m. refl

  pub body_ok : (s : State) (r : Result (Unit {0}) PlacedFault)
      → run_actions (inside number) [] body.actions begun ≡ Ok s
      → r ≡ all_defined s.definitions body.signals
      → Gives s.walked r (run_body inside body func parent at turns walked)
  body_ok s r ok is = rw (body_is ∙ ap (λ r. r >>= rest) ok, ← is) (checked s.walked r)

-- the function at a position, as the walk sees it
function_viewed : (functions : List (Option Function)) (func : ℕ) (f : Function)
    → function_at functions func ≡ Some f
    → function_at (map view_of_top functions) func ≡ Some (view_function f)
function_viewed functions func f e =
    ap (option_and_then (λ o. o)) (slice_get-map view_of_top functions func) ∙ by (slice_get functions func) e
  where
    by : (o : Option (Option Function))
        → option_and_then (λ o. o) o ≡ Some f
        → option_and_then (λ o. o) (option_map view_of_top o) ≡ Some (view_function f)
    by None e = absurd (cc)
    by (Some None) e = absurd (cc)
    by (Some (Some g)) e = ap (option_map view_function) e

-- an instance that may be entered comes to its body
pub enter_is :
    (functions : List (Option Function)) (calls number func at : ℕ) (turns : List ℤ) (walked : Walked) (f : Function)
    → 0 < calls
    → function_at functions func ≡ Some f
    → run_instance (map view_of_top functions) calls number func at turns walked
    ≡ run_body (run_instance (map view_of_top functions) (calls - 1)) (view_function f) func number at turns walked
enter_is functions zero number func at turns walked f some e = absurd (omega arith)
enter_is functions (suc calls) number func at turns walked f some e =
    let less : suc calls - 1 ≡ calls = omega arith in
    rw less (ap
    (λ o. run_some (suc calls) (run_instance (map view_of_top functions) calls) o func number at turns walked)
    (function_viewed functions func f e))
