-- The greater of two numbers.
use Rattle.std.proofs.Common.{◌≡◌, ◌∙◌, refl, ap, arith, ℕ, ◌<◌, ◌≤◌, ⊎_elim, max, Bool, true, false, eqb}
use Rattle.std.specs.Prelude.{if◌then◌else◌}
use Rattle.std.specs.Ordering.{nat_cmp, ord_max, is_lt}
use Rattle.std.specs.declared.cmp.Ordering.TheVariants.{Less, Equal, Greater}
use Rattle.std.proofs.lemmas.Bool.{cases_lt, le-ltb, lt-ltb}

not_lt : (b : Bool) → is_lt (if b then Equal else Greater) ≡ false
not_lt true = refl
not_lt false = refl

not_less : (x y : ℕ) → y ≤ x → is_lt (nat_cmp x y) ≡ false
not_less x y le = ap (λ (b : Bool). is_lt (if b then Less else (if eqb x y then Equal else Greater))) (le-ltb x y le)
    ∙ not_lt (eqb x y)

is_less : (x y : ℕ) → x < y → is_lt (nat_cmp x y) ≡ true
is_less x y less = ap (λ (b : Bool). is_lt (if b then Less else (if eqb x y then Equal else Greater))) (lt-ltb x y less)

-- the greater of two numbers, as the code has it
pub greater : (x y : ℕ) → ord_max nat_cmp x y ≡ max x y
greater x y =
    ⊎_elim
    (λ (less : y < x).
    let e : ord_max nat_cmp x y ≡ x = ap (λ (b : Bool). if b then x else y) (is_less y x less) in omega arith)
    (λ (not : x ≤ y).
    let e : ord_max nat_cmp x y ≡ y = ap (λ (b : Bool). if b then x else y) (not_less y x not) in omega arith)
    (cases_lt y x)
