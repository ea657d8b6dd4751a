-- What holds of a result, from what else holds of it.
use Rattle.std.proofs.Common.{◌≡◌, refl, sym, ap, subst, ◌∙◌, Result, Ok, Err, IfOk, IfErr}
use Rattle.std.specs.Prelude.{IsErrAnd}
use Rattle.std.proofs.lemmas.Result.{err_from_is_err_and}

pub if_ok : {T E : Type 0} (r : Result T E) (P Q : T → Type 0) → ((x : T) → P x → Q x) → IfOk r P → IfOk r Q
if_ok (Ok x) P Q f h = f x h
if_ok (Err e) P Q f h = tt

-- where the call answers an error
module _ {A E : Type 0} (r : Result A E) (told : E) (is : IsErrAnd r (λ (error : E). error ≡ told)) where
  pub error_is : (error : E) → told ≡ error → r ≡ Err error
  error_is error e = let x = err_from_is_err_and r is in x.1 ∙ ap (λ (other : E). Err other) (x.2 ∙ e)

  pub at_error : (P : E → Type 0) → P told → IfErr r P
  at_error P h = subst (λ (x : Result A E). IfErr x P) (sym (error_is told refl)) h
