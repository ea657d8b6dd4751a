-- Going over the entries of an array.
use Rattle.std.proofs.Common.{◌≡◌, ℕ, ◌+◌, ◌<◌, take-append-drop, Bool, true, false, List, [], ◌∷◌, ◌++◌, length, take}
use Rattle.std.proofs.Common.{drop, get_or, Result, Ok, Err, refl, ap, ◌∙◌}
use Rattle.std.proofs.lemmas.List.{take_more}
use Rattle.toml.specs.Data.{Data, Items, no_items, item, push_item}
use Rattle.toml.specs.declared.value.Value.{Value}
use Rattle.toml.specs.View.{view, items_view}
use Rattle.toml.proofs.Views.{items_view-push}
use Rattle.toml_rows.specs.declared.misfit.Misfit.{Misfit}
use Rattle.toml_rows.specs.declared.misfit.Misfit.TheVariants.{WrongKind, Range}
use Rattle.toml_rows.specs.Values.{join, entries}

-- the entries so far, and one more
abbrev pub and_then : {A : Type 0} → Result (List A) Misfit → Result A Misfit → Result (List A) Misfit
and_then (Err WrongKind) r = Err WrongKind
and_then (Ok xs) (Ok x) = Ok (xs ++ x ∷ [])
and_then (Ok xs) (Err e) = Err e
and_then (Err Range) (Ok x) = Err Range
and_then (Err Range) (Err e) = Err e

join-and_then : {A : Type 0} (first : Result A Misfit) (rest : Result (List A) Misfit) (last : Result A Misfit)
    → join first (and_then rest last) ≡ and_then (join first rest) last
join-and_then (Err WrongKind) rest last = refl
join-and_then (Ok x) (Err WrongKind) last = refl
join-and_then (Ok x) (Err Range) (Ok y) = refl
join-and_then (Ok x) (Err Range) (Err e) = refl
join-and_then (Ok x) (Ok xs) (Ok y) = refl
join-and_then (Ok x) (Ok xs) (Err e) = refl
join-and_then (Err Range) (Err WrongKind) last = refl
join-and_then (Err Range) (Err Range) (Ok y) = refl
join-and_then (Err Range) (Err Range) (Err e) = refl
join-and_then (Err Range) (Ok xs) (Ok y) = refl
join-and_then (Err Range) (Ok xs) (Err e) = refl

one : {A : Type 0} (r : Result A Misfit) → join r (Ok []) ≡ and_then (Ok []) r
one (Ok x) = refl
one (Err WrongKind) = refl
one (Err Range) = refl

entries-push : {A : Type 0} (judge : Data → Result A Misfit) (ds : Items) (d : Data)
    → entries judge (push_item ds d) ≡ and_then (entries judge ds) (judge d)
entries-push judge no_items d = one (judge d)
entries-push judge (item e ds) d = ap (join (judge e)) (entries-push judge ds d) ∙ join-and_then (judge e)
    (entries judge ds) (judge d)

-- one more entry of a `Vec` of values
pub entries-more : {A : Type 0} (judge : Data → Result A Misfit) (vs : List Value) (i : ℕ) (d : Value)
    → i < length vs
    → entries judge (items_view (take (i + 1) vs))
    ≡ and_then (entries judge (items_view (take i vs))) (judge (view (get_or vs i d)))
entries-more judge vs i d h = rw (take_more vs i d h)
    (rw (items_view-push (take i vs) (get_or vs i d))
    (entries-push judge (items_view (take i vs)) (view (get_or vs i d))))

join-WrongKind : {A : Type 0} (r : Result A Misfit) (rest more : Result (List A) Misfit)
    → join r rest ≡ Err WrongKind
    → (rest ≡ Err WrongKind → more ≡ Err WrongKind)
    → join r more ≡ Err WrongKind
join-WrongKind (Err WrongKind) rest more h ih = refl
join-WrongKind (Ok x) (Ok xs) more h ih = absurd (cc)
join-WrongKind (Ok x) (Err e) more h ih = rw (ih h)
join-WrongKind (Err Range) (Ok xs) more h ih = absurd (cc)
join-WrongKind (Err Range) (Err e) more h ih = rw (ih h)

-- an entry of another kind decides, whatever follows
pub entries_stop : {A : Type 0} (judge : Data → Result A Misfit) (xs ys : List Value)
    → entries judge (items_view xs) ≡ Err WrongKind
    → entries judge (items_view (xs ++ ys)) ≡ Err WrongKind
entries_stop judge [] ys h = absurd (cc)
entries_stop judge (x ∷ xs) ys h = join-WrongKind (judge (view x)) (entries judge (items_view xs))
    (entries judge (items_view (xs ++ ys))) h (entries_stop judge xs ys)

and_then-WrongKind : {A : Type 0} (r : Result (List A) Misfit) → and_then r (Err WrongKind) ≡ Err WrongKind
and_then-WrongKind (Ok xs) = refl
and_then-WrongKind (Err WrongKind) = refl
and_then-WrongKind (Err Range) = refl

-- a step of a loop over an array's values
pub goes_on :
    {A : Type 0} (judge : Data → Result A Misfit) (vs : List Value) (i : ℕ) (x : Value)
    (before after : Result (List A) Misfit)
    → i < length vs
    → x ≡ get_or vs i x
    → entries judge (items_view (take i vs)) ≡ before
    → and_then before (judge (view x)) ≡ after
    → entries judge (items_view (take (i + 1) vs)) ≡ after
goes_on judge vs i x before after lt is so_far next =
    entries-more judge vs i x lt ∙ rw (so_far, ← is) next

-- an exit at a value of another kind
pub stops : {A : Type 0} (judge : Data → Result A Misfit) (vs : List Value) (i : ℕ) (x : Value)
    → i < length vs
    → x ≡ get_or vs i x
    → judge (view x) ≡ Err WrongKind
    → entries judge (items_view vs) ≡ Err WrongKind
stops judge vs i x lt is bad =
    let here : entries judge (items_view (take (i + 1) vs)) ≡ Err WrongKind = goes_on judge vs i x _ _ lt is refl
    (rw bad (and_then-WrongKind _)) in
    rw (← take-append-drop (i + 1) vs) (entries_stop judge (take (i + 1) vs) (drop (i + 1) vs) here)

-- what stands for the entries so far, in a loop that keeps whether all were in range
abbrev pub so_far : {A : Type 0} → Bool → List A → Result (List A) Misfit
so_far true xs = Ok xs
so_far false xs = Err Range

pub so_far-Ok : {A : Type 0} (b : Bool) (xs : List A) (x : A) → and_then (so_far b xs) (Ok x) ≡ so_far b (xs ++ x ∷ [])
so_far-Ok true xs x = refl
so_far-Ok false xs x = refl

pub so_far-Range : {A : Type 0} (b : Bool) (xs : List A) → and_then (so_far b xs) (Err Range) ≡ Err Range
so_far-Range true xs = refl
so_far-Range false xs = refl
