-- What an answer says, said less sharply.
use Rattle.std.proofs.Common.{Result, Ok, Err}
use Rattle.std.specs.Prelude.{OnOk, IfErr}

module _ {A E : Type 0} (r : Result A E) where
  pub on_ok : (P Q : Type 0) → (P → Q) → OnOk r P → OnOk r Q
  on_ok P Q f h = by r h
    where
      by : (r : Result A E) → OnOk r P → OnOk r Q
      by (Ok x) h = f h
      by (Err e) h = tt

  pub if_err : (P Q : E → Type 0) → ((e : E) → P e → Q e) → IfErr r P → IfErr r Q
  if_err P Q f h = by r h
    where
      by : (r : Result A E) → IfErr r P → IfErr r Q
      by (Ok x) h = tt
      by (Err e) h = f e h
