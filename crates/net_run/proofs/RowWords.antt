-- Rows from the words of rows, row after row.
use Rattle.std.proofs.Common.{◌≡◌, ℕ, zero, suc, ◌+◌, ◌*◌, ◌/◌, ◌%◌, ◌<◌, List, [], ◌∷◌, ◌++◌, length, take, drop, ℤ}
use Rattle.std.proofs.Common.{get_or, sym, ap, ◌∙◌, arith}
use Rattle.std.specs.List.{All}
use Rattle.std.proofs.Math.Nat.{mul-div_cancel, mul-mod_left}
use Rattle.std.proofs.lemmas.List.{length-append, ext_get_or, drop_at, drop-drop, take_at}
use Rattle.std.proofs.lemmas.List.Elements.{All-head, All-tail}
use Rattle.std.proofs.lemmas.List.FromFn.{length-map-range_with_len, get_or-map-range_with_len}
use Rattle.lists.specs.Rows.{Rows}
use Rattle.net_solution.specs.RowLists.{row_in, count_in, rows_of, IsRowList}
use Rattle.net_solution.specs.declared.row_list.RowList.{RowList}
use Rattle.whole_samples.specs.Reading.{words_of}

module _ (width : ℕ) (some : 0 < width) where
  abbrev IsWide : List ℤ → Type 0
  IsWide row = length row ≡ width

  abbrev pub list_of : Rows → RowList
  list_of rows = record { width = width; words = words_of rows }

  length-words : (rows : Rows) → All IsWide rows → length (words_of rows) ≡ length rows * width
  length-words [] all = omega arith
  length-words (row ∷ rows) all =
      length-append row (words_of rows)
      ∙ omega (arith, All-head IsWide row rows all, length-words rows (All-tail IsWide row rows all))

  row-words : (rows : Rows) (n : ℕ)
      → All IsWide rows
      → n < length rows
      → take width (drop (n * width) (words_of rows)) ≡ get_or rows n []
  row-words [] n all h = absurd (omega arith)
  row-words (row ∷ rows) zero all h =
      let none : zero * width ≡ 0 = omega arith in
      ap (λ k. take width (drop k (row ++ words_of rows))) none
      ∙ take_at row (words_of rows) width (All-head IsWide row rows all)
  row-words (row ∷ rows) (suc n) all h =
      let wide : length row ≡ width = All-head IsWide row rows all in
      let more : suc n * width ≡ width + n * width = omega arith in
      ap (λ k. take width (drop k (row ++ words_of rows))) more
      ∙ ap (take width) (sym (drop-drop (n * width) width (row ++ words_of rows)))
      ∙ ap (λ ws. take width (drop (n * width) ws)) (drop_at row (words_of rows) width wide)
      ∙ row-words rows n (All-tail IsWide row rows all) (omega arith)

  count-words : (rows : Rows) → All IsWide rows → count_in (list_of rows) ≡ length rows
  count-words rows all = ap (λ n. n / width) (length-words rows all) ∙ mul-div_cancel (length rows) some

  pub rows_of-words : (rows : Rows) → All IsWide rows → rows_of (list_of rows) ≡ rows
  rows_of-words rows all =
      let count = count-words rows all in
      let list = list_of rows in
      let long : length (rows_of list) ≡ length rows =
      length-map-range_with_len (row_in list) 0 (count_in list) ∙ count in
      ext_get_or [] (rows_of list) rows long
      (λ n h.
      get_or-map-range_with_len (row_in list) 0 (count_in list) n n [] (omega (arith, h, long, count)) (omega arith)
      ∙ row-words rows n all (omega (arith, h, long)))

  pub words_are : (rows : Rows) → All IsWide rows → IsRowList (list_of rows)
  words_are rows all =
      record { width = some; whole = ap (λ n. n % width) (length-words rows all) ∙ mul-mod_left (length rows) width }
