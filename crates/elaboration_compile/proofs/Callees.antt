-- What look-ups find.
use Rattle.std.proofs.Common.{◌≡◌, ◌∙◌, ◌<◌, ◌+◌, ℕ, zero, suc, List, [], ◌∷◌, take, ◌++◌, length, slice_get}
use Rattle.std.proofs.Common.{slice_index_or, Some, option_map, refl, ap, arith}
use Rattle.std.proofs.lemmas.Grind.{common_steps}
use Rattle.std.proofs.lemmas.List.Sums.{sum_by-cons}
use Rattle.silage_syntax.specs.declared.tree.Decl.{Decl}
use Rattle.silage_syntax.specs.Tree.{Func, Program}
use Rattle.silage_syntax.specs.Names.{function_named, element_count}
use Rattle.name_rules.specs.TopNames.{position_of}
use Rattle.element_rules.specs.ElementRules.{elements_of}
use Rattle.elaboration_code.specs.ItemActions.{signals_from, callee_of}
use Rattle.elaboration_code.specs.declared.actions.Signal.{Signal}

-- the function of a name and its position are what is called
pub callee_is : (p : Program) (name : List ℕ) (k : ℕ) (g : Func)
    → k ≡ position_of p name
    → Some g ≡ function_named p name
    → Some (k, g) ≡ callee_of p name
callee_is p name k g at named = ap (λ j. Some (j, g)) at ∙ ap (option_map (λ (g : Func). (position_of p name, g))) named

pub length-signals_from : (n : ℕ) (ds : List Decl) → length (signals_from n ds) ≡ length ds
length-signals_from n [] = refl
length-signals_from n (d ∷ ds) = ap suc (length-signals_from (n + element_count d.dims) ds)

pub within : {A : Type 0} (xs : List A) (k : ℕ) (x : A) → slice_get xs k ≡ Some x → k < length xs
within [] k x e = absurd (cc)
within (y ∷ xs) zero x e = omega arith
within (y ∷ xs) (suc k) x e = let more = within xs k x e in omega arith

-- the first element of a declaration has the number of those in front of it
pub first_signal : (n : ℕ) (ds : List Decl) (k : ℕ) (x : Decl) (other : Signal)
    → slice_get ds k ≡ Some x
    → (slice_index_or (signals_from n ds) k other).first ≡ n + elements_of (take k ds)
first_signal n [] k x other e = absurd (cc)
first_signal n (d ∷ ds) zero x other e = omega arith
first_signal n (d ∷ ds) (suc k) x other e =
    first_signal (n + element_count d.dims) ds k x other e ∙ grind (arith, common_steps)

pub signals_from-append : (n : ℕ) (xs ys : List Decl)
    → signals_from n (xs ++ ys) ≡ signals_from n xs ++ signals_from (n + elements_of xs) ys
signals_from-append n [] ys = ap (λ m. signals_from m ys) (omega arith)
signals_from-append n (x ∷ xs) ys =
    let more = signals_from-append (n + element_count x.dims) xs ys in
    let same : n + element_count x.dims + elements_of xs ≡ n + elements_of (x ∷ xs) =
    omega (arith, sum_by-cons (λ (d : Decl). element_count d.dims) x xs) in
    ap (λ l. record { at = x.at; first = n; count = element_count x.dims } ∷ l)
    (more ∙ ap (λ m. signals_from (n + element_count x.dims) xs ++ signals_from m ys) same)
