-- Lists that grow behind, one element of another list after another.
use Rattle.std.proofs.Common.{◌≡◌, ℕ, ◌+◌, ◌<◌, ◌≤◌, List, [], ◌∷◌, ◌++◌, length, get_or, take, sym, ap, ◌∙◌, map}
use Rattle.std.proofs.Common.{Result, Ok, Err}
use Rattle.std.specs.Prelude.{IfOk}
use Rattle.std.specs.List.{flat_map}
use Rattle.std.proofs.lemmas.Grind.{flat_map-append}
use Rattle.std.proofs.lemmas.List.{append-nil, take_more, take_all, map-append}
use mathlib.Core.List.{append_assoc}

-- the list has grown by these
pub record Adds {A : Type 0} (old added new : List A) : Type 0 where
  pub is : new ≡ old ++ added

pub adds_none : {A : Type 0} (old : List A) → Adds old [] old
adds_none old = record { is = sym (append-nil old) }

module _ {X A : Type 0} (f : X → List A) where
  pub adds_one : (old mid new : List A) (xs : List X) (i : ℕ) (x : X)
      → i < length xs
      → x ≡ get_or xs i x
      → Adds old (flat_map f (take i xs)) mid
      → new ≡ mid ++ f x
      → Adds old (flat_map f (take (i + 1) xs)) new
  adds_one old mid new xs i x within is h e =
      let one : flat_map f (take i xs) ++ f x ≡ flat_map f (take (i + 1) xs) =
      ap (λ ys. flat_map f (take i xs) ++ ys) (sym (append-nil (f x))) ∙ sym (flat_map-append f (take i xs) (x ∷ []))
      ∙ ap (λ y. flat_map f (take i xs ++ y ∷ [])) is ∙ ap (flat_map f) (sym (take_more xs i x within)) in
      record {
        is =
            e ∙ ap (λ ys. ys ++ f x) h.is ∙ append_assoc old (flat_map f (take i xs)) (f x) ∙ ap (λ ys. old ++ ys) one;
      }

  pub adds_all : (old new : List A) (xs : List X) (i : ℕ)
      → length xs ≤ i
      → Adds old (flat_map f (take i xs)) new
      → new ≡ old ++ flat_map f xs
  adds_all old new xs i past h = h.is ∙ ap (λ ys. old ++ flat_map f ys) (take_all i xs past)

-- an element more, and all
module _ {X Y : Type 0} (f : X → Y) where
  pub mapped_more : (ys ys' : List Y) (y : Y) (xs : List X) (i : ℕ) (x : X)
      → i < length xs
      → x ≡ get_or xs i x
      → y ≡ f x
      → ys' ≡ ys ++ y ∷ []
      → ys ≡ map f (take i xs)
      → ys' ≡ map f (take (i + 1) xs)
  mapped_more ys ys' y xs i x within is one push h =
      let more : take (i + 1) xs ≡ take i xs ++ x ∷ [] =
      take_more xs i x within ∙ ap (λ z. take i xs ++ z ∷ []) (sym is) in
      push ∙ ap (λ zs. zs ++ y ∷ []) h ∙ ap (λ z. map f (take i xs) ++ z ∷ []) one
      ∙ sym (map-append f (take i xs) (x ∷ []))
      ∙ ap (map f) (sym more)

  pub mapped_all : (ys : List Y) (xs : List X) (i : ℕ) → length xs ≤ i → ys ≡ map f (take i xs) → ys ≡ map f xs
  mapped_all ys xs i past h = h ∙ ap (map f) (take_all i xs past)

pub if_ok : {T E : Type 0} (P Q : T → Type 0) → ((x : T) → P x → Q x) → (r : Result T E) → IfOk r P → IfOk r Q
if_ok P Q f (Ok x) h = f x h
if_ok P Q f (Err e) h = tt
