-- A text has one kind.
use Rattle.std.proofs.Common.{◌≡◌, ℕ, zero, suc, Bool, true, false, not, ◌&&◌, inl, inr, List, [], ◌∷◌, ◌++◌, length}
use Rattle.std.proofs.Common.{take, refl, sym, ap, ◌∙◌, arith, Some}
use Rattle.std.specs.Prelude.{slice_index, slice_get, Contains}
use Rattle.std.specs.List.{list_all}
use Rattle.std.specs.Str.{bytes_eq}
use Rattle.std.proofs.lemmas.Bool.{and_parts, both_ways, cases_order, false_from_ne_true, not-true}
use Rattle.std.proofs.lemmas.List.{take_at, append_cancel_left}
use Rattle.std.proofs.lemmas.Option.{get_or_from_slice_get, slice_get_within, none-some, same_Some}
use Rattle.std.proofs.lemmas.Slice.Eq.{bytes_eq-Decides}
use Rattle.silage_lex.specs.Bytes.{is_digit, is_letter, is_name_byte}
use Rattle.silage_lex.specs.Texts.{is_word, decimal, IsPointed, IsWhole, IsPoint, IsText, IsTokenText, symbols}
use Rattle.silage_lex.specs.Texts.{reserved_words}
use Rattle.silage_lex.specs.declared.TokenKind.{TokenKind}
use Rattle.silage_lex.specs.declared.TokenKind.TheVariants.{Name, Whole, Point, Reserved, Symbol}
use Rattle.silage_lex.proofs.TextLemmas.{letter_is_name_byte, digit_is_name_byte, letter_no_digit, point_no_digit}
use Rattle.silage_lex.proofs.TextLemmas.{word_head, digits_some, digits_byte, point_place, symbol_text, row_passes}

-- a row of a table is in it
row_contained : (table : List (List ℕ)) (n : ℕ) (text : List ℕ) → slice_get table n ≡ Some text → Contains table text
row_contained table n text h = (n, slice_get_within table n text h, get_or_from_slice_get table n text text h)

reserved_is_word : (n : ℕ) (text : List ℕ) → slice_get reserved_words n ≡ Some text → is_word text ≡ true
reserved_is_word n text h =
    ap is_word (sym (get_or_from_slice_get reserved_words n text [] h))
    ∙ row_passes is_word reserved_words refl n (slice_get_within reserved_words n text h)

-- the text of a kind is a token text
pub token_text : (kind : TokenKind) (text : List ℕ) → IsText kind text → IsTokenText text
token_text (Name name) text h = inl h.word
token_text (Whole value) text h = inr (inl (inl h.digits))
token_text (Point digits places) text h = inr (inl (inr (h.whole, h.fraction, h.pointed)))
token_text (Reserved n) text h = inl (reserved_is_word n text h)
token_text (Symbol n) text h = inr (inr (row_contained symbols n text h))

-- the first byte of a text is a letter, a digit or neither, by its kind
abbrev pub begins_with_letter : TokenKind → Bool
begins_with_letter (Name _) = true
begins_with_letter (Reserved _) = true
begins_with_letter (Whole _) = false
begins_with_letter (Point _ _) = false
begins_with_letter (Symbol _) = false

abbrev pub begins_with_digit : TokenKind → Bool
begins_with_digit (Name _) = false
begins_with_digit (Reserved _) = false
begins_with_digit (Whole _) = true
begins_with_digit (Point _ _) = true
begins_with_digit (Symbol _) = false

by_letter : (b : ℕ) → is_letter b ≡ true → (is_letter b ≡ true) × (is_digit b ≡ false)
by_letter b h = (h, false_from_ne_true _ (letter_no_digit b h))

by_digit : (b : ℕ) → is_digit b ≡ true → (is_letter b ≡ false) × (is_digit b ≡ true)
by_digit b h = (false_from_ne_true _ (λ letter. letter_no_digit b letter h), h)

by_neither : (b : ℕ) → is_name_byte b ≡ false → (is_letter b ≡ false) × (is_digit b ≡ false)
by_neither b h = (
  false_from_ne_true _ (λ letter. both_ways _ h (letter_is_name_byte b letter)),
  false_from_ne_true _ (λ digit. both_ways _ h (digit_is_name_byte b digit)),
)

pub first_of_kind : (kind : TokenKind) (text : List ℕ)
    → IsText kind text
    → (is_letter (slice_index text 0) ≡ begins_with_letter kind)
    × (is_digit (slice_index text 0) ≡ begins_with_digit kind)
first_of_kind (Name name) text h = by_letter (slice_index text 0) (word_head text h.word)
first_of_kind (Reserved n) text h = by_letter (slice_index text 0) (word_head text (reserved_is_word n text h))
first_of_kind (Whole value) text h =
    by_digit (slice_index text 0) (digits_byte text h.digits 0 (digits_some text h.digits))
first_of_kind (Point digits places) text h =
    let place = point_place h.whole h.fraction text h.pointed in
    by_digit (slice_index text 0) (place.whole 0 place.before)
first_of_kind (Symbol n) text h =
    let symbol = symbol_text text (row_contained symbols n text h) in
    by_neither (slice_index text 0) symbol.no_name_byte

-- no text stands twice in a table
abbrev distinct : List (List ℕ) → Bool
distinct [] = true
distinct (x ∷ xs) = list_all (λ y. not (bytes_eq x y)) xs && distinct xs

row_differs : (x : List ℕ) (xs : List (List ℕ)) (m : ℕ) (text : List ℕ)
    → list_all (λ y. not (bytes_eq x y)) xs ≡ true
    → slice_get xs m ≡ Some text
    → x ≡ text
    → ⊥
row_differs x xs m text h at same =
    let row = row_passes (λ y. not (bytes_eq x y)) xs h m (slice_get_within xs m text at) in
    let other = ap (λ y. not (bytes_eq x y)) (get_or_from_slice_get xs m text [] at) in
    both_ways (bytes_eq x text) (not-true _ (sym other ∙ row)) ((bytes_eq-Decides x text).1 same)

row_once : (table : List (List ℕ))
    → distinct table ≡ true
    → (n m : ℕ) (text : List ℕ)
    → slice_get table n ≡ Some text
    → slice_get table m ≡ Some text
    → n ≡ m
row_once [] h n m text at other = absurd (none-some text at)
row_once (x ∷ xs) h zero zero text at other = refl
row_once (x ∷ xs) h zero (suc m) text at other =
    absurd (row_differs x xs m text (and_parts (list_all (λ y. not (bytes_eq x y)) xs) (distinct xs) h).0 other
    (same_Some x text at))
row_once (x ∷ xs) h (suc n) zero text at other =
    absurd (row_differs x xs n text (and_parts (list_all (λ y. not (bytes_eq x y)) xs) (distinct xs) h).0 at
    (same_Some x text other))
row_once (x ∷ xs) h (suc n) (suc m) text at other =
    ap suc (row_once xs (and_parts (list_all (λ y. not (bytes_eq x y)) xs) (distinct xs) h).1 n m text at other)

-- a text that is a number has its point at one place
point_once : (text whole fraction other rest : List ℕ)
    → IsPointed whole fraction text
    → IsPointed other rest text
    → (whole ≡ other) × (fraction ≡ rest)
point_once text whole fraction other rest h k =
    let place = point_place whole fraction text h in
    let place_other = point_place other rest text k in
    let behind = place.behind in
    let behind_other = place_other.behind in
    let same : length whole ≡ length other =
    elim (cases_order (length whole) (length other)) [
      | inl e ↦ e
      | inr (inl before) ↦ absurd (point_no_digit _ place.is_point (place_other.whole (length whole) before))
      | inr (inr after) ↦ absurd (point_no_digit _ place_other.is_point (place.whole (length other) after))
    ] in
    let front : whole ≡ other =
    sym (take_at whole (46 ∷ fraction) (length whole) refl) ∙ ap (take (length whole)) (sym h.shape ∙ k.shape)
    ∙ ap (λ n. take n (other ++ 46 ∷ rest)) same ∙ take_at other (46 ∷ rest) (length other) refl in
    let back : 46 ∷ fraction ≡ 46 ∷ rest =
    append_cancel_left other (46 ∷ fraction) (46 ∷ rest)
    (ap (λ xs. xs ++ 46 ∷ fraction) (sym front) ∙ sym h.shape ∙ k.shape) in
    (front, cc)

same_point : (text : List ℕ) (d p e q : ℕ) → IsPoint d p text → IsPoint e q text → Point d p ≡ Point e q
same_point text d p e q h k =
    let once = point_once text h.whole h.fraction k.whole k.fraction h.pointed k.pointed in
    let digits : d ≡ e =
    h.digits_are ∙ ap (λ xs. decimal (xs ++ h.fraction)) once.0 ∙ ap (λ xs. decimal (k.whole ++ xs)) once.1
    ∙ sym k.digits_are in
    let places : p ≡ q = h.places_are ∙ ap (length {A = ℕ}) once.1 ∙ sym k.places_are in
    ap (λ x. Point x p) digits ∙ ap (λ x. Point e x) places

whole_no_point : (text : List ℕ) (v d p : ℕ) → IsWhole v text → IsPoint d p text → ⊥
whole_no_point text v d p h k =
    let place = point_place k.whole k.fraction text k.pointed in
    let behind = place.behind in
    point_no_digit _ place.is_point (digits_byte text h.digits (length k.whole) (omega arith))

by_first : (kind other : TokenKind) (text : List ℕ)
    → IsText kind text
    → IsText other text
    → begins_with_letter kind ≡ begins_with_letter other
    → begins_with_digit kind ≡ begins_with_digit other
    → kind ≡ other
by_first (Name name) (Name other) text h k letter digit = ap Name (h.same ∙ sym k.same)
by_first (Name name) (Reserved n) text h k letter digit = absurd (h.free (row_contained reserved_words n text k))
by_first (Reserved n) (Name name) text h k letter digit = absurd (k.free (row_contained reserved_words n text h))
by_first (Reserved n) (Reserved m) text h k letter digit = ap Reserved (row_once reserved_words refl n m text h k)
by_first (Whole v) (Whole w) text h k letter digit = ap Whole (h.value_is ∙ sym k.value_is)
by_first (Whole v) (Point d p) text h k letter digit = absurd (whole_no_point text v d p h k)
by_first (Point d p) (Whole v) text h k letter digit = absurd (whole_no_point text v d p k h)
by_first (Point d p) (Point e q) text h k letter digit = same_point text d p e q h k
by_first (Symbol n) (Symbol m) text h k letter digit = ap Symbol (row_once symbols refl n m text h k)
by_first _ _ text h k letter digit = absurd (cc)

pub one_kind : (kind other : TokenKind) (text : List ℕ) → IsText kind text → IsText other text → kind ≡ other
one_kind kind other text h k =
    let first = first_of_kind kind text h in
    let second = first_of_kind other text k in
    by_first kind other text h k (sym first.0 ∙ second.0) (sym first.1 ∙ second.1)
