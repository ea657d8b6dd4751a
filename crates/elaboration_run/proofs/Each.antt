-- Loops that do something for each number of a range.
use Rattle.std.proofs.Common.{◌≡◌, ◌≢◌, ◌<◌, ◌+◌, ◌-◌, ◌∙◌, ℕ, Result, Ok, Err, IsErrAnd, sym, ap}
use Rattle.std.specs.List.{range_with_len}
use Rattle.lists.proofs.Ranges.{range_next}
use Rattle.elaboration_code.specs.Actions.{for_each, ◌>>=◌, Gives, HasMeaning}
use Rattle.element_rules.specs.declared.fault.PlacedFault.{PlacedFault}
use Rattle.element_rules.specs.declared.fault.PlacedFault.TheVariants.{Memory}

pub gives_err : {A : Type 0} (x : A) (e : PlacedFault) (r : Result (Unit {0}) PlacedFault) (run : Result A PlacedFault)
    → IsErrAnd r (λ f. f ≡ e)
    → (e ≢ Memory → run ≡ Err e)
    → Gives x r run
gives_err x e (Ok u) run h g = absurd h
gives_err x e (Err f) run h g = λ n. g (λ m. n (h ∙ m)) ∙ ap Err (sym h)

module _ {S : Type 0} (f : ℕ → S → Result S PlacedFault) (a k n : ℕ) (lt : k < n) (s : S) (whole : Result S PlacedFault)
    (so_far : for_each f (range_with_len (a + k) (n - k)) s ≡ whole) where
  next : f (a + k) s >>= for_each f (range_with_len (a + (k + 1)) (n - (k + 1))) ≡ whole
  next = sym (ap (λ l. for_each f l s) (range_next a k n lt)) ∙ so_far

  pub each_passes : (m : ℕ)
      → m ≡ a + k
      → (t : S)
      → f m s ≡ Ok t
      → for_each f (range_with_len (a + (k + 1)) (n - (k + 1))) t ≡ whole
  each_passes m is t ok =
      sym (ap (λ r. r >>= for_each f (range_with_len (a + (k + 1)) (n - (k + 1)))) (sym (ap (λ j. f j s) is) ∙ ok))
      ∙ next

  each_fails : (e : PlacedFault) → f (a + k) s ≡ Err e → whole ≡ Err e
  each_fails e err = sym next ∙ ap (λ r. r >>= for_each f (range_with_len (a + (k + 1)) (n - (k + 1)))) err

  pub each_gives : (x : S) (m : ℕ)
      → m ≡ a + k
      → (e : PlacedFault) (r : Result (Unit {0}) PlacedFault)
      → IsErrAnd r (λ g. g ≡ e)
      → (e ≢ Memory → f m s ≡ Err e)
      → Gives x r whole
  each_gives x m is e r err fails = gives_err x e r whole err (λ n. each_fails e (sym (ap (λ j. f j s) is) ∙ fails n))

  -- what is done for the next number of a walk that has a meaning has one
  pub each_meant : HasMeaning whole → (m : ℕ) → m ≡ a + k → HasMeaning (f m s)
  each_meant h m is e = h (each_fails Memory (sym (ap (λ j. f j s) is) ∙ e))
