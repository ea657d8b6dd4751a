-- A row that is put: a part of the list is written, and the rest stays.
use Rattle.std.proofs.Common.{◌≡◌, ℕ, zero, suc, ◌+◌, ◌*◌, ◌<◌, ◌≤◌, List, [], ◌∷◌, ◌++◌, length, take, drop, Some, ℤ}
use Rattle.std.proofs.Common.{refl, ap, ◌∙◌}
use Rattle.std.proofs.Common.{subst, arith}
use Rattle.std.specs.Prelude.{slice_get, slice_set}
use Rattle.std.proofs.Math.ListN.{set}
use Rattle.std.proofs.lemmas.List.{take_at, length-take-le, length-drop}
use Rattle.lists.proofs.Places.{some_is}
use Rattle.net_solution.specs.declared.row_list.RowList.{RowList}
use Rattle.net_solution.proofs.RowListLaws.{length-written, written_other, rows_apart, row_within}
use Rattle.proc_net.specs.Private.Reading.{HasRoom}
use Rattle.proc_net.specs.Private.Runs.{IsWritten}

-- what is there may be put again
pub set_own : {A : Type 0} (xs : List A) (i : ℕ) (x : A) → slice_get xs i ≡ Some x → xs ≡ slice_set xs i x
set_own [] i x e = absurd (cc)
set_own (y ∷ xs) zero x e = ap (λ z. z ∷ xs) (some_is y x e)
set_own (y ∷ xs) (suc i) x e = ap (λ l. y ∷ l) (set_own xs i x e)

pub is_written : (old : RowList) (new words latches : List ℤ) (places place width : ℕ)
    → HasRoom old places
    → place < places
    → width ≡ old.width
    → length latches ≡ width
    → words ≡ old.words
    → new ≡ take (place * width) words ++ latches ++ drop (place * width + width) words
    → IsWritten old (record { width = old.width; words = take (length old.words) (new ++ drop (length new) old.words) })
    places place
is_written old new words latches places place width room below width_is count words_is new_is =
    let first : new ≡ take (place * width) old.words ++ latches ++ drop (place * width + width) old.words =
    subst (λ (w : List ℤ). new ≡ take (place * width) w ++ latches ++ drop (place * width + width) w) words_is new_is in
    let whole : new ≡ take (place * old.width) old.words ++ latches ++ drop (place * old.width + old.width) old.words =
    subst (λ (n : ℕ). new ≡ take (place * n) old.words ++ latches ++ drop (place * n + n) old.words) width_is first in
    let count_is : length latches ≡ old.width = count ∙ width_is in
    let fits : place * old.width + old.width ≤ length old.words =
    omega (arith, row_within old.width place places below, room.words) in
    let long : length new ≡ length old.words =
    ap (λ (l : List ℤ). length l) whole
    ∙ length-written (place * old.width) old.width old.words latches count_is fits in
    let back : take (length old.words) (new ++ drop (length new) old.words)
    ≡ take (place * old.width) old.words ++ latches ++ drop (place * old.width + old.width) old.words =
    take_at new (drop (length new) old.words) (length old.words) long ∙ whole in
    record {
      width = refl;
      words = ap (λ (l : List ℤ). length l) back
          ∙ length-written (place * old.width) old.width old.words latches count_is fits;
      others = λ k h apart.
          ap (λ (l : List ℤ). take old.width (drop (k * old.width) l)) back
          ∙ written_other (place * old.width) old.width old.words latches count_is fits (k * old.width)
          (omega (arith, row_within old.width k places h, room.words)) (rows_apart old.width k place apart);
    }

-- a row that is written has so many words
pub count_written : (old : RowList) (words new : List ℤ) (places place width : ℕ)
    → HasRoom old places
    → place < places
    → width ≡ old.width
    → words ≡ old.words
    → length new ≡ length words
    → length (take width (drop (place * width) new)) ≡ width
count_written old words new places place width room below width_is words_is long =
    let fits : place * width + width ≤ length new =
    omega (
      arith,
      row_within width place places below,
      room.words,
      ap (λ (w : ℕ). places * w) width_is,
      long,
      ap (λ (l : List ℤ). length l) words_is,
    ) in
    length-take-le width (drop (place * width) new) (omega (arith, fits, length-drop (place * width) new))
