-- Runs of bytes in a source, and texts that stand in it.
use Rattle.std.proofs.Common.{◌≡◌, ℕ, ◌+◌, ◌-◌, ◌≤◌, ◌<◌, Bool, true, false, List, [], ◌∷◌, length, take, drop, refl}
use Rattle.std.proofs.Common.{sym, ap, ◌∙◌, arith, inl, inr}
use Rattle.std.specs.Prelude.{slice_index, slice_index_or, slice_range, Contains}
use Rattle.std.specs.List.{list_all}
use Rattle.std.specs.Bool.{Decides}
use Rattle.std.proofs.lemmas.Bool.{and_from}
use Rattle.std.proofs.lemmas.Bool.Decides.{leb_tells, Decides-eqb}
use Rattle.std.proofs.lemmas.List.{get_or_past, get_or_default}
use Rattle.std.proofs.lemmas.List.Edits.{between_more}
use Rattle.std.proofs.lemmas.List.Folds.{list_all-append}
use Rattle.std.proofs.lemmas.Slice.Eq.{slice_eq-Decides}
use Rattle.silage_lex.specs.Bytes.{opens_comment}
use Rattle.silage_lex.specs.Scan.{stands_at}

-- a byte that passes a test which 0 does not pass lies within the source
pub inside_by : (bytes : List ℕ) (at : ℕ) (test : ℕ → Bool)
    → test 0 ≡ false
    → test (slice_index bytes at) ≡ true
    → at < length bytes
inside_by bytes at test z h =
    elim (leb_tells (length bytes) at) [
      | inl past ↦ let e = ap test (get_or_past bytes at 0 past.1) in absurd (cc)
      | inr within ↦ within.1
    ]

-- a run of bytes that pass grows by one
pub run_more : (test : ℕ → Bool) (bytes : List ℕ) (from end : ℕ)
    → from ≤ end
    → end < length bytes
    → list_all test (slice_range bytes from end) ≡ true
    → test (slice_index bytes end) ≡ true
    → list_all test (slice_range bytes from (end + 1)) ≡ true
run_more test bytes from end order within run passes =
    ap (list_all test) (between_more bytes from end 0 order within)
    ∙ list_all-append test (slice_range bytes from end) (slice_index bytes end ∷ [])
    ∙ and_from _ _ run (and_from _ _ passes refl)

-- a text stands at a place just where the source's bytes there are the text
pub stands_Decides : (bytes : List ℕ) (at : ℕ) (text : List ℕ)
    → Decides (stands_at bytes at text) (slice_range bytes at (at + length text) ≡ text)
stands_Decides bytes at text =
    let size : at + length text - at ≡ length text = omega arith in
    let shorter = ap (λ n. take n (drop at bytes)) size in
    let decides =
    slice_eq-Decides Decides-eqb text (take (length text) (drop at bytes)) (stands_at bytes at text) refl in
    (λ e. shorter ∙ sym (decides.0 e), λ stands. decides.1 (sym (sym shorter ∙ stands)))

-- a text that is no row of a table is not in it
pub not_contained : (table : List (List ℕ)) (text : List ℕ) (n : ℕ)
    → length table ≤ n
    → ((m : ℕ) → m < n → ¬ (slice_index_or table m [] ≡ text))
    → ¬ Contains table text
not_contained table text n all none = λ has. none has.0 (omega arith) (get_or_default table has.0 [] text has.1 ∙ has.2)

pub opened_by : (bytes : List ℕ) (at : ℕ)
    → slice_index bytes at ≡ 47
    → slice_index bytes (at + 1) ≡ 42
    → opens_comment bytes at ≡ true
opened_by bytes at slash star = rw (slash, star) refl
