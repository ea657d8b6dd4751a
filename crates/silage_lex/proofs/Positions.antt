-- What the position of a text in a table tells, and which symbol stands at a place.
use Rattle.std.proofs.Common.{◌≡◌, cond, ℕ, zero, suc, ◌+◌, ◌-◌, ◌≤◌, ◌<◌, Bool, true, false, inl, inr, ◌⊎◌, List, []}
use Rattle.std.proofs.Common.{◌∷◌, ◌++◌, length, refl, sym, ap, ◌∙◌, arith, Option, Some, None, not, ◌||◌, nat_eq}
use Rattle.std.proofs.Common.{nat_le, nat_lt}
use Rattle.std.specs.Prelude.{slice_index, slice_index_or, slice_get, slice_range, Contains}
use Rattle.std.specs.Cmp.Lexicographic.{pointwise}
use Rattle.std.specs.List.{list_all, position_from}
use Rattle.std.proofs.lemmas.Bool.{both_ways, cases_lt, leb-true}
use Rattle.std.proofs.lemmas.Bool.Decides.{Decides-eqb}
use Rattle.std.proofs.lemmas.Iterator.Adapters.{position_from-zero}
use Rattle.std.proofs.lemmas.List.{nil_from_length}
use Rattle.std.proofs.lemmas.Option.{slice_get-get_or}
use Rattle.std.proofs.lemmas.List.Edits.{between_more, length-between}
use Rattle.std.proofs.lemmas.List.Quantifiers.{position-Some}
use Rattle.std.proofs.lemmas.Slice.Eq.{slice_eq-Decides}
use Rattle.silage_lex.specs.Texts.{symbols, reserved_words}
use Rattle.silage_lex.specs.Scan.{position_of, stands_at, NoneBefore, IsFirstAt}
use Rattle.silage_lex.proofs.Pieces.{stands_Decides, inside_by, not_contained}
use Rattle.silage_lex.proofs.TextLemmas.{symbol_row, row_passes}
use Rattle.silage_lex.proofs.Longest.{symbol_there, falling_sizes}

same_text : (row text : List ℕ) → pointwise nat_eq row text ≡ true → row ≡ text
same_text row text h = (slice_eq-Decides Decides-eqb row text (pointwise nat_eq row text) refl).0 h

text_same : (row text : List ℕ) → row ≡ text → pointwise nat_eq row text ≡ true
text_same row text h = (slice_eq-Decides Decides-eqb row text (pointwise nat_eq row text) refl).1 h

-- where there is no position, no row is the text
none_passes : (test : List ℕ → Bool) (rows : List (List ℕ)) (i : ℕ)
    → position_from test i rows ≡ None
    → (m : ℕ)
    → m < length rows
    → test (slice_index_or rows m []) ≡ false
none_passes test [] i h m lt = absurd (omega arith)
none_passes test (row ∷ rows) i h zero lt =
    elim (test row) as (λ v. cond v (Some i) (position_from test (i + 1) rows) ≡ None → v ≡ false)
    [ true ↦ λ e. cc | false ↦ λ e. refl ] h
none_passes test (row ∷ rows) i h (suc m) lt =
    none_passes test rows (i + 1)
    (elim (test row) as
    (λ v. cond v (Some i) (position_from test (i + 1) rows) ≡ None → position_from test (i + 1) rows ≡ None)
    [ true ↦ λ e. cc | false ↦ λ e. e ] h) m (omega arith)

pub no_row : (table : List (List ℕ)) (text : List ℕ)
    → position_of table text ≡ None
    → (m : ℕ)
    → m < length table
    → ¬ (slice_index_or table m [] ≡ text)
no_row table text h m lt = λ same.
    let no = none_passes (λ row. pointwise nat_eq row text) table 0 h m lt in
    let yes = text_same (slice_index_or table m []) text same in
    both_ways _ no yes

-- the row at the position is the text, and none before it is
pub record IsRow (table : List (List ℕ)) (text : List ℕ) (n : ℕ) : Type 0 where
  pub listed : n < length table
  pub same : slice_index_or table n [] ≡ text
  pub first : (m : ℕ) → m < n → ¬ (slice_index_or table m [] ≡ text)

pub row_of : (table : List (List ℕ)) (text : List ℕ) (n : ℕ) → position_of table text ≡ Some n → IsRow table text n
row_of table text n h =
    let test : List ℕ → Bool = λ row. pointwise nat_eq row text in
    let found = position-Some test table n [] (position_from-zero test table ∙ h) in
    record {
      listed = found.0;
      same = same_text (slice_index_or table n []) text found.1;
      first = λ m lt same. both_ways _ (found.2 m lt) (text_same (slice_index_or table m []) text same);
    }

pub listed : (table : List (List ℕ)) (text : List ℕ) (n : ℕ)
    → position_of table text ≡ Some n
    → slice_get table n ≡ Some text
listed table text n h =
    let row = row_of table text n h in
    slice_get-get_or table n [] row.listed ∙ ap Some row.same

pub not_listed : (table : List (List ℕ)) (text : List ℕ) → position_of table text ≡ None → ¬ Contains table text
not_listed table text h = not_contained table text (length table) (omega arith) (no_row table text h)

not_true : (b : Bool) → ¬ (b ≡ true) → b ≡ false
not_true true = λ no. absurd (no refl)
not_true false = λ no. refl

no_position : (test : List ℕ → Bool) (rows : List (List ℕ)) (i : ℕ)
    → ((m : ℕ) → m < length rows → test (slice_index_or rows m []) ≡ false)
    → position_from test i rows ≡ None
no_position test [] i none = refl
no_position test (row ∷ rows) i none =
    rw (none zero (omega arith)) (no_position test rows (i + 1) (λ m lt. none (suc m) (omega arith)))

-- no reserved word has more than five bytes
pub long_word : (word : List ℕ) → 6 ≤ length word → position_of reserved_words word ≡ None
long_word word long =
    no_position (λ row. pointwise nat_eq row word) reserved_words 0 (λ m lt. not_true _ (λ yes.
    let same = ap length (same_text (slice_index_or reserved_words m []) word yes) in
    let short = leb-true _ _ (row_passes (λ row. nat_le (length row) 5) reserved_words refl m lt) in
    omega arith))

-- the first byte, and the first two bytes, from a place on
one_byte : (bytes : List ℕ) (at : ℕ) → at < length bytes → slice_range bytes at (at + 1) ≡ slice_index bytes at ∷ []
one_byte bytes at within =
    let empty : slice_range bytes at at ≡ [] =
    nil_from_length _ (length-between bytes at at (omega arith) ∙ omega arith) in
    between_more bytes at at 0 (omega arith) within ∙ ap (λ xs. xs ++ slice_index bytes at ∷ []) empty

two_bytes : (bytes : List ℕ) (at : ℕ)
    → at + 1 < length bytes
    → slice_range bytes at (at + 2) ≡ slice_index bytes at ∷ slice_index bytes (at + 1) ∷ []
two_bytes bytes at within =
    let next : at + 2 ≡ at + 1 + 1 = omega arith in
    ap (slice_range bytes at) next ∙ between_more bytes at (at + 1) 0 (omega arith) within
    ∙ ap (λ xs. xs ++ slice_index bytes (at + 1) ∷ []) (one_byte bytes at (omega arith))

-- a symbol that stands at a place is the byte there, or the two bytes there
stands_as : (bytes : List ℕ) (at m : ℕ)
    → at < length bytes
    → m < length symbols
    → stands_at bytes at (slice_index_or symbols m []) ≡ true
    → (slice_index_or symbols m [] ≡ slice_index bytes at ∷ [])
    ⊎ (slice_index_or symbols m [] ≡ slice_index bytes at ∷ slice_index bytes (at + 1) ∷ [])
stands_as bytes at m within lt stands =
    let is_symbol = symbol_row m lt in
    let some = is_symbol.some in
    let there = symbol_there bytes at (slice_index_or symbols m []) is_symbol (omega arith) stands in
    let inside = there.within in
    let short = leb-true _ _ (row_passes (λ row. nat_le (length row) 2) symbols refl m lt) in
    let read = sym there.text in
    elim (cases_lt 1 (length (slice_index_or symbols m []))) [
      | inl two ↦
          let end : at + length (slice_index_or symbols m []) ≡ at + 2 = omega arith in
          inr (read ∙ ap (slice_range bytes at) end ∙ two_bytes bytes at (omega arith))
      | inr one ↦
          let end : at + length (slice_index_or symbols m []) ≡ at + 1 = omega arith in
          inl (read ∙ ap (slice_range bytes at) end ∙ one_byte bytes at within)
    ]

-- a byte behind the first of a symbol
second_some : (first second n : ℕ) → IsRow symbols (first ∷ second ∷ []) n → nat_eq second 0 ≡ false
second_some first second n row =
    let passes : List ℕ → Bool = λ text. nat_lt (length text) 2 || not (nat_eq (slice_index text 1) 0) in
    let here = row_passes passes symbols refl n row.listed in
    not_false (nat_eq second 0) (sym (ap passes row.same) ∙ here)
  where
    not_false : (b : Bool) → not b ≡ true → b ≡ false
    not_false true h = cc
    not_false false h = refl

-- What `symbol_at` answers.
pub double_at : (bytes : List ℕ) (at n : ℕ)
    → at < length bytes
    → position_of symbols (slice_index bytes at ∷ slice_index bytes (at + 1) ∷ []) ≡ Some n
    → IsFirstAt bytes at n × (at + 2 ≡ at + length (slice_index_or symbols n []))
double_at bytes at n within h =
    let row = row_of symbols (slice_index bytes at ∷ slice_index bytes (at + 1) ∷ []) n h in
    let test : ℕ → Bool = λ b. not (nat_eq b 0) in
    let more = inside_by bytes (at + 1) test refl (ap not (second_some _ _ n row)) in
    let size = ap length row.same in
    let listed = row.listed in (
      record {
        listed = listed;
        stands =
            ap (stands_at bytes at) row.same
            ∙ (stands_Decides bytes at (slice_index bytes at ∷ slice_index bytes (at + 1) ∷ [])).1
            (two_bytes bytes at more);
        first = λ m lt. not_true _ (λ yes. elim (stands_as bytes at m within (omega arith) yes) [
          | inl one ↦
              let falling = falling_sizes symbols refl m n (omega arith) listed in
              let short = ap length one in
              omega arith
          | inr two ↦ row.first m lt two
        ]);
      },
      omega arith,
    )

pub single_at : (bytes : List ℕ) (at n : ℕ)
    → at < length bytes
    → position_of symbols (slice_index bytes at ∷ slice_index bytes (at + 1) ∷ []) ≡ None
    → position_of symbols (slice_index bytes at ∷ []) ≡ Some n
    → IsFirstAt bytes at n × (at + 1 ≡ at + length (slice_index_or symbols n []))
single_at bytes at n within none h =
    let row = row_of symbols (slice_index bytes at ∷ []) n h in
    let size = ap length row.same in
    let listed = row.listed in (
      record {
        listed = listed;
        stands =
            ap (stands_at bytes at) row.same
            ∙ (stands_Decides bytes at (slice_index bytes at ∷ [])).1 (one_byte bytes at within);
        first = λ m lt. not_true _ (λ yes. elim (stands_as bytes at m within (omega arith) yes) [
          | inl one ↦ row.first m lt one
          | inr two ↦ no_row symbols _ none m (omega arith) two
        ]);
      },
      omega arith,
    )

pub none_at : (bytes : List ℕ) (at : ℕ)
    → at < length bytes
    → position_of symbols (slice_index bytes at ∷ slice_index bytes (at + 1) ∷ []) ≡ None
    → position_of symbols (slice_index bytes at ∷ []) ≡ None
    → NoneBefore bytes at (length symbols)
none_at bytes at within double single = λ m lt. not_true _ (λ yes. elim (stands_as bytes at m within lt yes) [
  | inl one ↦ no_row symbols _ single m lt one
  | inr two ↦ no_row symbols _ double m lt two
])
