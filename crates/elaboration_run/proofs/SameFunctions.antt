-- A walk by what is done of the actions of each function is the walk by all of them.
use Rattle.std.proofs.Common.{◌≡◌, ◌∙◌, ℕ, zero, suc, ℤ, List, [], ◌∷◌, map, length, Option, Some, None, option_map}
use Rattle.std.proofs.Common.{Result, Ok, Err, refl, ap, arith}
use Rattle.std.specs.List.{All}
use Rattle.elaboration_code.specs.declared.body.Body.{Body as RustBody}
use Rattle.elaboration_run.specs.declared.function.Function.{Function}
use Rattle.element_rules.specs.declared.fault.PlacedFault.{PlacedFault}
use Rattle.element_rules.specs.ElementRules.{max_nested}
use Rattle.elaboration_code.specs.Actions.{Body, Instances, Walked, at_first, entered_in, run_body, run_some}
use Rattle.elaboration_code.specs.Actions.{function_at, run_instance, all_defined, ◌>>=◌}
use Rattle.elaboration_code.specs.Bodies.{view_body}
use Rattle.elaboration_run.specs.Private.Functions.{view_function, view_of_top, IsLookedAt, IsTopLookedAt}
use Rattle.elaboration_code.specs.ItemActions.{nothing_walked, elements_walked, run_bodies}
use Rattle.elaboration_code.proofs.ActionRows.{map_of_map}

then_same : {A B : Type 0} (r : Result A PlacedFault) (f g : A → Result B PlacedFault)
    → ((x : A) → f x ≡ g x)
    → r >>= f ≡ r >>= g
then_same (Ok x) f g e = e x
then_same (Err e) f g h = refl

abbrev whole : Function → Body
whole f = view_body f.body.now

abbrev all_of : Option Function → Option Body
all_of looked_at = option_map view_body (option_map (λ (f : Function). f.body.now) looked_at)

body_same : (f : Function)
    → IsLookedAt f
    → (inside : Instances) (func parent at : ℕ) (turns : List ℤ) (walked : Walked)
    → run_body inside (view_function f) func parent at turns walked
    ≡ run_body inside (whole f) func parent at turns walked
body_same f looked inside func parent at turns walked =
    then_same (entered_in (whole f) func parent at turns walked) _ _ (λ entered.
    ap (λ r. r >>= λ s. all_defined s.definitions (whole f).signals >>= λ _. Ok s.walked)
    (looked (inside (length walked.instances)) (record { definitions = at_first (whole f).given; walked = entered })))

some_same : (fs : List (Option Function))
    → All IsTopLookedAt fs
    → (calls : ℕ) (inside : Instances) (k func parent at : ℕ) (turns : List ℤ) (walked : Walked)
    → run_some calls inside (function_at (map view_of_top fs) k) func parent at turns walked
    ≡ run_some calls inside (function_at (map all_of fs) k) func parent at turns walked
some_same [] looked calls inside k func parent at turns walked = refl
some_same (None ∷ fs) looked calls inside zero func parent at turns walked = refl
some_same (Some f ∷ fs) looked zero inside zero func parent at turns walked = refl
some_same (Some f ∷ fs) looked (suc calls) inside zero func parent at turns walked =
    body_same f (looked 0 (Some f) (omega arith)) inside func parent at turns walked
some_same (f ∷ fs) looked calls inside (suc k) func parent at turns walked =
    some_same fs (λ j d less. looked (suc j) d (omega (arith, less))) calls inside k func parent at turns walked

instances_same : (fs : List (Option Function))
    → All IsTopLookedAt fs
    → (calls : ℕ)
    → run_instance (map view_of_top fs) calls ≡ run_instance (map all_of fs) calls
instances_same fs looked zero = λ i parent func at turns walked.
    some_same fs looked zero (λ parent func at turns walked. Ok walked) func func parent at turns walked i
instances_same fs looked (suc calls) = λ i parent func at turns walked. (
    some_same fs looked (suc calls) (run_instance (map view_of_top fs) calls) func func parent at turns walked
    ∙ ap (λ (inside : Instances).
    run_some (suc calls) inside (function_at (map all_of fs) func) func parent at turns walked)
    (instances_same fs looked calls)
    ) i

pub functions_same : (main : ℕ) (fs : List (Option Function)) (bodies : List (Option RustBody))
    → All IsTopLookedAt fs
    → map (option_map (λ (f : Function). f.body.now)) fs ≡ bodies
    → run_bodies (map view_of_top fs) main ≡ run_bodies (map (option_map view_body) bodies) main
functions_same main fs bodies looked is =
    ap (λ (instances : Instances). instances 0 main 0 [] nothing_walked >>= λ walked. Ok (elements_walked walked))
    (instances_same fs looked max_nested)
    ∙ ap (λ functions. run_bodies functions main)
    (map_of_map (option_map view_body) (option_map (λ (f : Function). f.body.now)) fs
    ∙ ap (map (option_map view_body)) is)
