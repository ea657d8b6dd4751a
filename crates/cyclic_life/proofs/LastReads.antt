-- The last read of each lifetime, of reads in order.
use Rattle.std.proofs.Common.{◌≡◌, ℕ, suc, ◌+◌, ◌<◌, ◌≤◌, Bool, true, false, drop, ap, ◌∙◌, ◌++◌, append_assoc, length}
use Rattle.std.proofs.Common.{List, [], ◌∷◌, get_or, refl, sym, arith}
use Rattle.std.specs.Prelude.{if◌then◌else◌, nat_le, map}
use Rattle.std.specs.List.{All, AllPairs, Contains}
use Rattle.std.proofs.lemmas.Bool.Decides.{nat_tests}
use Rattle.std.proofs.lemmas.List.{drop_more, drop_all}
use Rattle.std.proofs.lemmas.List.Elements.{All-cons, All-tail, All-head, All-weaker}
use Rattle.std.proofs.lemmas.List.Kept.{AllPairs-cons}
use Rattle.cyclic_life.specs.Private.Reads.{is_alike, IsLifeBefore, IsUpTo, later, lasts_from, lasts}
use Rattle.cyclic_life.specs.declared.read.Read.{Read}

-- a choice has what both of its sides have
chosen : {A : Type 0} (P : A → Type 0) (b : Bool) (u v : A)
    → (b ≡ true → P u)
    → (b ≡ false → P v)
    → P (if b then u else v)
chosen P true u v at_true _ = at_true refl
chosen P false u v _ at_false = at_false refl

pub one_of : (P : Read → Type 0) (x y : Read) → P x → P y → P (later x y)
one_of P x y of_x of_y = chosen P (nat_le x.r y.r) y x (λ _. of_y) (λ _. of_x)

alike_itself : (x : Read) → is_alike x x ≡ true
alike_itself x = grind (arith, nat_tests)

alike_chain : (x y z : Read) → is_alike x y ≡ true → is_alike y z ≡ true → is_alike x z ≡ true
alike_chain x y z p q = grind (arith, nat_tests)

alike_back : (x y : Read) → is_alike x y ≡ true → is_alike y x ≡ true
alike_back x y p = grind (arith, nat_tests)

before_unlike : (x y : Read) → IsUpTo x y → is_alike x y ≡ false → IsLifeBefore x y
before_unlike x y upto unlike = grind (arith, nat_tests)

before_chain : (x y z : Read) → IsLifeBefore x y → IsUpTo y z → IsLifeBefore x z
before_chain x y z before upto = grind (arith, nat_tests)

not_back : (x y : Read) → IsLifeBefore x y → is_alike y x ≡ true → ⊥
not_back x y before alike = grind (arith, nat_tests)

x_not_later : (x y : Read) → x.r ≤ (later x y).r
x_not_later x y = grind (arith, nat_tests)

y_not_later : (x y : Read) → y.r ≤ (later x y).r
y_not_later x y = grind (arith, nat_tests)

rest_in_order : (x : Read) (xs : List Read) → AllPairs IsUpTo (x ∷ xs) → AllPairs IsUpTo xs
rest_in_order x xs order i j d below there = order (suc i) (suc j) d (omega arith) (omega arith)

up_to_rest : (x : Read) (xs : List Read) → AllPairs IsUpTo (x ∷ xs) → All (IsUpTo x) xs
up_to_rest x xs order k d there = order 0 (suc k) d (omega arith) (omega arith)

-- one of the first two stands for both
merged_order : (x y : Read) (ys : List Read) → AllPairs IsUpTo (x ∷ y ∷ ys) → AllPairs IsUpTo (later x y ∷ ys)
merged_order x y ys order =
    let from_x = All-tail (IsUpTo x) y ys (up_to_rest x (y ∷ ys) order) in
    let from_y = up_to_rest y ys (rest_in_order x (y ∷ ys) order) in
    AllPairs-cons IsUpTo (later x y) ys (one_of (λ (z : Read). All (IsUpTo z) ys) x y from_x from_y)
    (rest_in_order y ys (rest_in_order x (y ∷ ys) order))

-- what each read has, each last read has
pub lasts_from_keep : (P : Read → Type 0) (x : Read) (xs : List Read) → P x → All P xs → All P (lasts_from x xs)
lasts_from_keep P x [] of_x all = All-cons P x [] of_x all
lasts_from_keep P x (y ∷ ys) of_x all =
    let of_y = All-head P y ys all in
    let of_ys = All-tail P y ys all in
    chosen (All P) (is_alike x y) (lasts_from (later x y) ys) (x ∷ lasts_from y ys)
    (λ _. lasts_from_keep P (later x y) ys (one_of P x y of_x of_y) of_ys)
    (λ _. All-cons P x (lasts_from y ys) of_x (lasts_from_keep P y ys of_y of_ys))

-- the lifetimes of the last reads are in order
lasts_from_in_order : (x : Read) (xs : List Read) → AllPairs IsUpTo (x ∷ xs) → AllPairs IsLifeBefore (lasts_from x xs)
lasts_from_in_order x [] order = λ i j d below there. absurd (omega arith)
lasts_from_in_order x (y ∷ ys) order =
    let to_y = All-head (IsUpTo x) y ys (up_to_rest x (y ∷ ys) order) in
    let rest = rest_in_order x (y ∷ ys) order in
    chosen (AllPairs IsLifeBefore) (is_alike x y) (lasts_from (later x y) ys) (x ∷ lasts_from y ys)
    (λ _. lasts_from_in_order (later x y) ys (merged_order x y ys order))
    (λ unlike.
    let first : IsLifeBefore x y = before_unlike x y to_y unlike in
    AllPairs-cons IsLifeBefore x (lasts_from y ys)
    (lasts_from_keep (IsLifeBefore x) y ys first
    (All-weaker (IsUpTo y) (IsLifeBefore x) (λ z up. before_chain x y z first up) ys (up_to_rest y ys rest)))
    (lasts_from_in_order y ys rest))

-- no read of its lifetime is later than the last read
abbrev pub IsGreatest : List Read → Read → Type 0
IsGreatest xs z = All (λ (y : Read). is_alike y z ≡ true → y.r ≤ z.r) xs

-- what stands for two is not later than a last read, so neither is one of the two
greatest_of_two : (x y : Read) (ys : List Read) (z : Read)
    → is_alike x y ≡ true
    → IsGreatest (later x y ∷ ys) z
    → IsGreatest (x ∷ y ∷ ys) z
greatest_of_two x y ys z alike greatest =
    let both = All-head (λ (u : Read). is_alike u z ≡ true → u.r ≤ z.r) (later x y) ys greatest in
    let x_with : is_alike x z ≡ true → is_alike (later x y) z ≡ true =
    λ x_z. one_of (λ (u : Read). is_alike u z ≡ true) x y x_z (alike_chain y x z (alike_back x y alike) x_z) in
    let y_with : is_alike y z ≡ true → is_alike (later x y) z ≡ true =
    λ y_z. one_of (λ (u : Read). is_alike u z ≡ true) x y (alike_chain x y z alike y_z) y_z in
    All-cons (λ (u : Read). is_alike u z ≡ true → u.r ≤ z.r) x (y ∷ ys)
    (λ x_z. let most = both (x_with x_z) in let up = x_not_later x y in omega (arith, most, up))
    (All-cons (λ (u : Read). is_alike u z ≡ true → u.r ≤ z.r) y ys
    (λ y_z. let most = both (y_with y_z) in let up = y_not_later x y in omega (arith, most, up))
    (All-tail (λ (u : Read). is_alike u z ≡ true → u.r ≤ z.r) (later x y) ys greatest))

pub lasts_from_greatest : (x : Read) (xs : List Read)
    → AllPairs IsUpTo (x ∷ xs)
    → All (IsGreatest (x ∷ xs)) (lasts_from x xs)
lasts_from_greatest x [] order =
    All-cons (IsGreatest (x ∷ [])) x []
    (All-cons (λ (y : Read). is_alike y x ≡ true → y.r ≤ x.r) x [] (λ _. omega arith)
    (λ k d there. absurd (omega arith)))
    (λ k d there. absurd (omega arith))
lasts_from_greatest x (y ∷ ys) order =
    let from_x = up_to_rest x (y ∷ ys) order in
    let order_y = rest_in_order x (y ∷ ys) order in
    let from_y = up_to_rest y ys order_y in
    chosen (All (IsGreatest (x ∷ y ∷ ys))) (is_alike x y) (lasts_from (later x y) ys) (x ∷ lasts_from y ys)
    (λ alike.
    All-weaker (IsGreatest (later x y ∷ ys)) (IsGreatest (x ∷ y ∷ ys)) (λ z. greatest_of_two x y ys z alike)
    (lasts_from (later x y) ys) (lasts_from_greatest (later x y) ys (merged_order x y ys order)))
    (λ unlike.
    let first : IsLifeBefore x y = before_unlike x y (All-head (IsUpTo x) y ys from_x) unlike in
    let beyond : All (IsLifeBefore x) (lasts_from y ys) =
    lasts_from_keep (IsLifeBefore x) y ys first
    (All-weaker (IsUpTo y) (IsLifeBefore x) (λ z up. before_chain x y z first up) ys from_y)
    in
    All-cons (IsGreatest (x ∷ y ∷ ys)) x (lasts_from y ys)
    (All-cons (λ (u : Read). is_alike u x ≡ true → u.r ≤ x.r) x (y ∷ ys) (λ _. omega arith)
    (All-cons (λ (u : Read). is_alike u x ≡ true → u.r ≤ x.r) y ys (λ alike. absurd (not_back x y first alike))
    (λ k d there alike. absurd
    (not_back x (get_or ys k d) (before_chain x y (get_or ys k d) first (from_y k d there)) alike))))
    (λ k d there.
    let z : Read = get_or (lasts_from y ys) k d in
    All-cons (λ (u : Read). is_alike u z ≡ true → u.r ≤ z.r) x (y ∷ ys)
    (λ alike. absurd (not_back x z (beyond k d there) (alike_back x z alike)))
    (lasts_from_greatest y ys order_y k d there)))

-- some last read has the lifetime of the read
pub record HasLast (zs : List Read) (y : Read) : Type 0 where
  pub last : Read
  pub there : Contains zs last
  pub alike : is_alike y last ≡ true

in_front : (x : Read) (xs : List Read) (z : Read) → Contains xs z → Contains (x ∷ xs) z
in_front x xs z in_xs = (suc in_xs.0, omega (arith, in_xs.1), in_xs.2)

has_alike : (zs : List Read) (x y : Read) → is_alike x y ≡ true → HasLast zs y → HasLast zs x
has_alike zs x y alike has = record {
  last = has.last;
  there = has.there;
  alike = alike_chain x y has.last alike has.alike;
}

has_more : (x : Read) (zs : List Read) (y : Read) → HasLast zs y → HasLast (x ∷ zs) y
has_more x zs y has = record { last = has.last; there = in_front x zs has.last has.there; alike = has.alike }

its_own : (x : Read) (zs : List Read) → HasLast (x ∷ zs) x
its_own x zs = record { last = x; there = (0, omega arith, refl); alike = alike_itself x }

pub lasts_from_every : (x : Read) (xs : List Read) → All (HasLast (lasts_from x xs)) (x ∷ xs)
lasts_from_every x [] = All-cons (HasLast (x ∷ [])) x [] (its_own x []) (λ k d there. absurd (omega arith))
lasts_from_every x (y ∷ ys) =
    chosen (λ (zs : List Read). All (HasLast zs) (x ∷ y ∷ ys)) (is_alike x y) (lasts_from (later x y) ys)
    (x ∷ lasts_from y ys)
    (λ alike.
    let rest = lasts_from_every (later x y) ys in
    let first = All-head (HasLast (lasts_from (later x y) ys)) (later x y) ys rest in
    let x_with : is_alike x (later x y) ≡ true =
    one_of (λ (u : Read). is_alike x u ≡ true) x y (alike_itself x) alike in
    let y_with : is_alike y (later x y) ≡ true =
    one_of (λ (u : Read). is_alike y u ≡ true) x y (alike_back x y alike) (alike_itself y) in
    All-cons (HasLast (lasts_from (later x y) ys)) x (y ∷ ys)
    (has_alike (lasts_from (later x y) ys) x (later x y) x_with first)
    (All-cons (HasLast (lasts_from (later x y) ys)) y ys
    (has_alike (lasts_from (later x y) ys) y (later x y) y_with first)
    (All-tail (HasLast (lasts_from (later x y) ys)) (later x y) ys rest)))
    (λ _. All-cons (HasLast (x ∷ lasts_from y ys)) x (y ∷ ys) (its_own x (lasts_from y ys))
    (All-weaker (HasLast (lasts_from y ys)) (HasLast (x ∷ lasts_from y ys)) (has_more x (lasts_from y ys)) (y ∷ ys)
    (lasts_from_every y ys)))

pub lasts_keep : (P : Read → Type 0) (xs : List Read) → All P xs → All P (lasts xs)
lasts_keep P [] all = all
lasts_keep P (x ∷ xs) all = lasts_from_keep P x xs (All-head P x xs all) (All-tail P x xs all)

pub lasts_in_order : (xs : List Read) → AllPairs IsUpTo xs → AllPairs IsLifeBefore (lasts xs)
lasts_in_order [] order = λ i j d below there. absurd (omega arith)
lasts_in_order (x ∷ xs) order = lasts_from_in_order x xs order

pub lasts_greatest : (xs : List Read) → AllPairs IsUpTo xs → All (IsGreatest xs) (lasts xs)
lasts_greatest [] order = λ k d there. absurd (omega arith)
lasts_greatest (x ∷ xs) order = lasts_from_greatest x xs order

pub lasts_every : (xs : List Read) → All (HasLast (lasts xs)) xs
lasts_every [] = λ k d there. absurd (omega arith)
lasts_every (x ∷ xs) = lasts_from_every x xs

merged : (x y : Read) (ys : List Read) → is_alike x y ≡ true → lasts_from x (y ∷ ys) ≡ lasts_from (later x y) ys
merged x y ys alike = rw alike

parted : (x y : Read) (ys : List Read) → is_alike x y ≡ false → lasts_from x (y ∷ ys) ≡ x ∷ lasts_from y ys
parted x y ys unlike = rw unlike

module _ {A : Type 0} (f : Read → A) (last : Read) (xs : List Read) (i : ℕ) (done all : List A)
    (kept : done ++ map f (lasts_from last (drop i xs)) ≡ all) where
  module _ (d : Read) (there : i < length xs) where
    -- the next read is of the same lifetime
    pub taken_in : is_alike last (get_or xs i d) ≡ true
        → done ++ map f (lasts_from (later last (get_or xs i d)) (drop (i + 1) xs)) ≡ all
    taken_in alike =
        ap (λ (l : List Read). done ++ map f l)
        (sym (ap (λ (l : List Read). lasts_from last l) (drop_more xs i d there)
        ∙ merged last (get_or xs i d) (drop (i + 1) xs) alike))
        ∙ kept

    -- it is of another lifetime, and that of the last one goes to those before it
    pub given_out : (new : List A)
        → is_alike last (get_or xs i d) ≡ false
        → new ≡ done ++ f last ∷ []
        → new ++ map f (lasts_from (get_or xs i d) (drop (i + 1) xs)) ≡ all
    given_out new unlike is =
        rw (is, append_assoc)
        (ap (λ (l : List Read). done ++ map f l)
        (sym (ap (λ (l : List Read). lasts_from last l) (drop_more xs i d there)
        ∙ parted last (get_or xs i d) (drop (i + 1) xs) unlike))
        ∙ kept)

  -- no read is left
  pub given_last : length xs ≤ i → done ++ f last ∷ [] ≡ all
  given_last past =
      ap (λ (l : List Read). done ++ map f (lasts_from last l)) (sym (drop_all i xs past)) ∙ kept
