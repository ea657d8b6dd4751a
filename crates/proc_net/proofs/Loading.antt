-- Processors that are loaded one after another, and a row for each.
use Rattle.std.proofs.Common.{◌≡◌, ℕ, zero, suc, ◌+◌, ◌<◌, ◌==◌, max, List, [], ◌∷◌, ◌++◌, length, get_or, map, take}
use Rattle.std.proofs.Common.{drop, Some, refl, ap, sym, ◌∙◌}
use Rattle.std.proofs.Common.{subst, arith, add-one, inl, inr, ℤ, pos, replicate, true, false}
use Rattle.std.specs.Prelude.{slice_get}
use Rattle.std.specs.List.{All}
use Rattle.std.proofs.lemmas.Bool.Decides.{nat_tests}
use Rattle.std.proofs.lemmas.List.{take_more, length_push, length-replicate, get_or-map}
use Rattle.lists.proofs.Places.{at_push}
use Rattle.lists.proofs.Zips.{zip_push}
use Rattle.micro_image.specs.declared.image.Image.{Image}
use Rattle.micro_image.specs.Valid.{IsValid}
use Rattle.net_core.specs.declared.types.NetProc.{NetProc}
use Rattle.net_core.specs.declared.types.Wire.{Wire}
use Rattle.proc_net.specs.declared.processor.Processor.{Processor}
use Rattle.net_solution.specs.Solutions.{no_image}
use Rattle.proc_net.specs.Private.States.{places_of, IsFresh, AreFresh, AreRowsFor}

pub rows_more : (processors : List Processor) (rows : List (List ℤ)) (i : ℕ) (processor : Processor) (row : List ℤ)
    → i < length processors
    → get_or processors i processor ≡ processor
    → AreRowsFor (take i processors) rows
    → length row ≡ length processor.feed
    → AreRowsFor (take (i + 1) processors) (rows ++ row ∷ [])
rows_more processors rows i processor row h is before here =
    subst (λ (front : List Processor). AreRowsFor front (rows ++ row ∷ []))
    (sym (take_more processors i processor h ∙ ap (λ (x : Processor). take i processors ++ x ∷ []) is))
    (zip_push (λ (x : Processor) (r : List ℤ). length r ≡ length x.feed) (take i processors) rows processor row before
    here)

drop_suc : {A : Type 0} (n : ℕ) (xs : List A) (x d : A) (rest : List A)
    → drop n xs ≡ x ∷ rest
    → (n < length xs) × (get_or xs n d ≡ x) × (drop (suc n) xs ≡ rest)
drop_suc zero [] x d rest e = absurd (cc)
drop_suc zero (y ∷ ys) x d rest e = (omega arith, (cc), (cc))
drop_suc (suc n) [] x d rest e = absurd (cc)
drop_suc (suc n) (y ∷ ys) x d rest e = let h = drop_suc n ys x d rest e in (omega (arith, h.0), h.1, h.2)

-- the first of those that are left
pub drop_first : {A : Type 0} (n : ℕ) (xs : List A) (x d : A) (rest : List A)
    → drop n xs ≡ x ∷ rest
    → (n < length xs) × (get_or xs n d ≡ x) × (drop (n + 1) xs ≡ rest)
drop_first n xs x d rest e =
    let h = drop_suc n xs x d rest e in (h.0, h.1, ap (λ (k : ℕ). drop k xs) (add-one n) ∙ h.2)

pub valid_first : (n : ℕ) (images : List Image) (image : Image) (rest : List Image)
    → All IsValid images
    → drop n images ≡ image ∷ rest
    → IsValid image
valid_first n images image rest valid e =
    let h = drop_first n images image no_image rest e in subst IsValid h.1 (valid n no_image h.0)

pub fresh_more :
    (images : List Image) (feeds : List (List Wire)) (capacity samples : ℕ) (processors : List Processor)
    (image : Image) (rest : List Image) (feed : List Wire) (places : ℕ) (made : Processor)
    → AreFresh images feeds capacity samples processors
    → drop (length processors) images ≡ image ∷ rest
    → get_or feeds (length processors) [] ≡ feed
    → places ≡ places_of (length images) capacity samples (length processors)
    → IsFresh image feed places made
    → AreFresh images feeds capacity samples (processors ++ made ∷ [])
fresh_more images feeds capacity samples processors image rest feed places made fresh first feed_is places_is is =
    record { count = omega (arith, here.0, length_push processors made); each = each }
  where
    here : (length processors < length images)
        × (get_or images (length processors) no_image ≡ image)
        × (drop (length processors + 1) images ≡ rest)
    here = drop_first (length processors) images image no_image rest first

    last : (p : ℕ)
        → p ≡ length processors
        → IsFresh (get_or images p no_image) (get_or feeds p []) (places_of (length images) capacity samples p) made
    last p at = rw (at, here.1, feed_is, ← places_is) is

    each : (p : ℕ) (processor : Processor)
        → slice_get (processors ++ made ∷ []) p ≡ Some processor
        → IsFresh (get_or images p no_image) (get_or feeds p []) (places_of (length images) capacity samples p)
        processor
    each p processor there =
        elim (at_push processors made p processor there) [
          | inl before ↦ fresh.each p processor before
          | inr end ↦
              subst
              (λ (x : Processor). IsFresh (get_or images p no_image) (get_or feeds p [])
              (places_of (length images) capacity samples p) x) end.1 (last p end.0)
        ]

-- places by whether it is the last
pub places_last : (count capacity samples number most places : ℕ)
    → number + 1 ≡ count
    → most ≡ max samples 1
    → places ≡ most
    → places ≡ places_of count capacity samples number
places_last count capacity samples number most places last most_is is =
    is ∙ most_is ∙ (let test : (number + 1 == count) ≡ true = grind (arith, nat_tests) in rw test refl)

pub places_other : (count capacity samples number places : ℕ)
    → (number + 1 ≡ count → ⊥)
    → places ≡ capacity
    → places ≡ places_of count capacity samples number
places_other count capacity samples number places other is =
    is ∙ (let test : (number + 1 == count) ≡ false = grind (arith, nat_tests) in rw test refl)

-- one more is loaded
pub loaded_more :
    (images : List Image) (procs : List NetProc) (capacity samples : ℕ) (processors new : List Processor)
    (image : Image) (rest : List Image) (number : ℕ) (proc : NetProc) (feed : List Wire) (places : ℕ) (made : Processor)
    → AreFresh images (map (λ proc. proc.feed) procs) capacity samples processors
    → length procs ≡ length images
    → drop (length processors) images ≡ image ∷ rest
    → number ≡ length processors
    → feed ≡ (get_or procs number proc).feed
    → places ≡ places_of (length images) capacity samples number
    → IsFresh image feed places made
    → new ≡ processors ++ made ∷ []
    → (rest ≡ drop (length new) images) × AreFresh images (map (λ proc. proc.feed) procs) capacity samples new
loaded_more images procs capacity samples processors new image rest number proc feed places made fresh count first
    number_is
    feed_is places_is is new_is = (
      sym here.2
          ∙ ap (λ (n : ℕ). drop n images)
          (sym (ap (λ (l : List Processor). length l) new_is ∙ length_push processors made)),
      subst (AreFresh images (map (λ proc. proc.feed) procs) capacity samples) (sym new_is)
          (fresh_more images (map (λ proc. proc.feed) procs) capacity samples processors image rest feed places made
          fresh first
          feed_at (places_is ∙ ap (λ (n : ℕ). places_of (length images) capacity samples n) number_is) is),
    )
  where
    here : (length processors < length images)
        × (get_or images (length processors) no_image ≡ image)
        × (drop (length processors + 1) images ≡ rest)
    here = drop_first (length processors) images image no_image rest first

    feed_at : get_or (map (λ proc. proc.feed) procs) (length processors) [] ≡ feed
    feed_at =
        get_or-map (λ (x : NetProc). x.feed) procs (length processors) proc [] (omega (arith, here.0, count))
        ∙ ap (λ (n : ℕ). (get_or procs n proc).feed) (sym number_is)
        ∙ sym feed_is

-- so many images are left
pub left_after : (items rest : List Image) (image : Image) (n m : ℕ)
    → items ≡ image ∷ rest
    → n + 1 ≡ m
    → m ≡ length items
    → n ≡ length rest
left_after items rest image n m first one is =
    let same : length items ≡ length rest + 1 = ap (λ (l : List Image). length l) first ∙ omega arith in
    omega (arith, one, is, same)

-- one more row
pub rows_step :
    (processors : List Processor) (rows new : List (List ℤ)) (i count : ℕ) (processor : Processor) (row : List ℤ)
    → i < length processors
    → processor ≡ get_or processors i processor
    → AreRowsFor (take i processors) rows
    → count ≡ length processor.feed
    → row ≡ replicate count (pos 0)
    → new ≡ rows ++ row ∷ []
    → AreRowsFor (take (i + 1) processors) new
rows_step processors rows new i count processor row h is before count_is row_is new_is =
    subst (λ (rs : List (List ℤ)). AreRowsFor (take (i + 1) processors) rs) (sym new_is)
    (rows_more processors rows i processor row h (sym is) before
    (ap (λ (r : List ℤ). length r) row_is ∙ length-replicate count (pos 0) ∙ count_is))
