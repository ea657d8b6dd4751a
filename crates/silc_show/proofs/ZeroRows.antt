-- A row of zeros is in the range of each type.
use Rattle.std.proofs.Common.{◌≡◌, sym, subst, arith, List, [], ◌∷◌, length, ℤ, pos}
use Rattle.std.specs.List.{All, AllZip}
use Rattle.std.proofs.lemmas.List.Elements.{All-head, All-tail}
use Rattle.fix_word.specs.declared.types.SigType.{SigType}
use Rattle.signal_graph.specs.Rules.{IsInType}
use Rattle.loop_expand.proofs.TypedSolutions.{zero_in_type}

pub zeros_fit : (types : List SigType) (row : List ℤ)
    → length row ≡ length types
    → All (λ (z : ℤ). z ≡ pos 0) row
    → AllZip IsInType types row
zeros_fit [] [] count zeros = tt
zeros_fit [] (z ∷ row) count zeros = absurd (omega (arith, count))
zeros_fit (ty ∷ types) [] count zeros = absurd (omega (arith, count))
zeros_fit (ty ∷ types) (z ∷ row) count zeros = (
  subst (λ (x : ℤ). IsInType ty x) (sym (All-head (λ (x : ℤ). x ≡ pos 0) z row zeros)) (zero_in_type ty),
  zeros_fit types row (omega (arith, count)) (All-tail (λ (x : ℤ). x ≡ pos 0) z row zeros),
)
