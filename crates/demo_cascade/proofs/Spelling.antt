-- The tokens of a text that is spelled token by token.
use Rattle.std.proofs.Common.{◌≡◌, refl, sym, ap, ap₂, subst, ◌∙◌, arith, ℕ, ◌+◌, ◌-◌, ◌<◌, ◌≤◌, Bool, true, false, not}
use Rattle.std.proofs.Common.{◌&&◌, List, [], ◌∷◌, ◌++◌, length, take, drop, nat_eq, nat_lt}
use Rattle.std.specs.Prelude.{slice_index, slice_index_or, slice_range, Contains, bytes_eq, nat_le}
use Rattle.std.specs.List.{list_all, starts_with}
use Rattle.std.proofs.lemmas.Bool.{and_parts, ltb-true, leb-true, eqb-true, not-true, both_ways, false_from_ne_true}
use Rattle.std.proofs.lemmas.List.{append_assoc, append-nil, length-append, length-take, get_or-append-add, get_or-take}
use Rattle.std.proofs.lemmas.List.{get_or_default}
use Rattle.std.proofs.lemmas.Option.{slice_get-get_or}
use Rattle.std.proofs.lemmas.Slice.Eq.{bytes_eq-Decides}
use Rattle.std.proofs.lemmas.List.Sums.{AllPass-from_list_all}
use Rattle.lists.proofs.Places.{drop_front, take_front}
use Rattle.silage_lex.specs.Bytes.{is_blank, is_digit, is_letter, is_name_byte, begins_fraction}
use Rattle.silage_lex.specs.Scan.{stands_at, IsFirstAt}
use Rattle.silage_lex.specs.Texts.{symbols, reserved_words, is_word, is_digits, digit_count, decimal, IsText}
use Rattle.silage_lex.specs.Tokens.{IsLongest, CanEndAt, IsSpan, line_at, Gap, none, blank, Spaced, HasTokens}
use Rattle.silage_lex.specs.declared.Token.{Token}
use Rattle.silage_lex.specs.declared.TokenKind.{TokenKind}
use Rattle.silage_lex.specs.declared.TokenKind.TheVariants.{Name, Whole, Point, Reserved, Symbol}
use Rattle.silage_lex.proofs.Longest.{span_first, word_longest, digits_longest, pointed_longest, symbol_longest}
use Rattle.silage_lex.proofs.Longest.{token_text_some}
use Rattle.silage_lex.proofs.OneKind.{token_text}
use Rattle.silage_lex.proofs.Pieces.{stands_Decides}
use Rattle.silage_lex.proofs.TextLemmas.{HasPointAt, digit_is_name_byte, word_head, point_place}

-- how a token is spelled
pub data Spelling : Type 0 where
  a_name : (name : List ℕ) → Spelling
  a_word : (n : ℕ) → Spelling
  a_symbol : (n : ℕ) → Spelling
  a_whole : (value : ℕ) (digits : List ℕ) → Spelling
  a_point : (whole fraction : List ℕ) → Spelling

abbrev pub kind_of : Spelling → TokenKind
kind_of (a_name name) = Name name
kind_of (a_word n) = Reserved n
kind_of (a_symbol n) = Symbol n
kind_of (a_whole value digits) = Whole value
kind_of (a_point whole fraction) = Point (decimal (whole ++ fraction)) (length fraction)

abbrev pub text_of : Spelling → List ℕ
text_of (a_name name) = name
text_of (a_word n) = slice_index_or reserved_words n []
text_of (a_symbol n) = slice_index_or symbols n []
text_of (a_whole value digits) = digits
text_of (a_point whole fraction) = whole ++ 46 ∷ fraction

-- no row of the table begins the bytes
abbrev pub begins_none : List (List ℕ) → List ℕ → Bool
begins_none table bytes = list_all (λ row. not (starts_with nat_eq bytes row)) table

-- what comes behind the token's text does not go on with it
abbrev pub IsApart : TokenKind → List ℕ → List ℕ → Type 0
IsApart (Name name) text rest = (is_word text ≡ true) × (is_name_byte (slice_index rest 0) ≡ false)
IsApart (Reserved n) text rest = (is_word text ≡ true) × (is_name_byte (slice_index rest 0) ≡ false)
IsApart (Whole value) text rest =
    (is_digits text ≡ true) × (is_name_byte (slice_index rest 0) ≡ false) × (begins_fraction rest 0 ≡ false)
IsApart (Point digits places) text rest = is_name_byte (slice_index rest 0) ≡ false
IsApart (Symbol n) text rest =
    (nat_lt n (length symbols) ≡ true) × (text ≡ slice_index_or symbols n [])
    × (begins_none (take n symbols) (text ++ rest) ≡ true)

no_digit : (b : ℕ) → is_name_byte b ≡ false → is_digit b ≡ false
no_digit b other =
    false_from_ne_true (is_digit b) (λ digit. both_ways (is_name_byte b) other (digit_is_name_byte b digit))

-- a text in the bytes, with what comes before it and behind it
module _ (bytes front text rest : List ℕ) (from : ℕ) (at : from ≡ length front)
    (e : bytes ≡ front ++ (text ++ rest)) where
  text_there : slice_range bytes from (from + length text) ≡ text
  text_there =
      let size : length front + length text - length front ≡ length text = omega arith in
      rw (e, at) (ap (λ n. take n (drop (length front) (front ++ (text ++ rest)))) size
      ∙ ap (take (length text)) (drop_front front (text ++ rest)) ∙ take_front text rest)

  behind : (k : ℕ) → slice_index bytes (from + length text + k) ≡ slice_index rest k
  behind k =
      let size : from + length text + k ≡ length (front ++ text) + k = omega (arith, at, length-append front text) in
      ap₂ (λ bs n. slice_index bs n) (e ∙ sym (append_assoc front text rest)) size
      ∙ get_or-append-add (front ++ text) rest k 0

  next : slice_index bytes (from + length text) ≡ slice_index rest 0
  next = let same : from + length text ≡ from + length text + 0 = omega arith in ap (slice_index bytes) same ∙ behind 0

  within : from + length text ≤ length bytes
  within = omega (arith, at, ap length e, length-append front (text ++ rest), length-append text rest)

  first : 0 < length text → slice_index bytes from ≡ slice_index text 0
  first some =
      sym (span_first bytes from (from + length text) (omega (arith, some))) ∙ ap (λ t. slice_index t 0) text_there

  fraction_behind : begins_fraction rest 0 ≡ false → begins_fraction bytes (from + length text) ≡ false
  fraction_behind whole = ap₂ (λ a b. nat_eq a 46 && is_digit b) next (behind 1) ∙ whole

  first_symbol : (n : ℕ)
      → nat_lt n (length symbols) ≡ true
      → text ≡ slice_index_or symbols n []
      → begins_none (take n symbols) (text ++ rest) ≡ true
      → IsFirstAt bytes from n
  first_symbol n listed is others = record {
    listed = ltb-true n (length symbols) listed;
    stands = ap (stands_at bytes from) (sym is) ∙ (stands_Decides bytes from text).1 text_there;
    first = λ m below.
        let passes =
        AllPass-from_list_all (λ row. not (starts_with nat_eq (text ++ rest) row)) (take n symbols) others m []
        (omega (arith, below, ltb-true n (length symbols) listed, length-take n symbols)) in
        let row : slice_index_or (take n symbols) m [] ≡ slice_index_or symbols m [] =
        get_or-take n symbols m [] below in
        let there : drop from bytes ≡ text ++ rest = ap₂ (λ n bs. drop n bs) at e ∙ drop_front front (text ++ rest) in
        ap (λ bs. starts_with nat_eq bs (slice_index_or symbols m [])) there
        ∙ ap (starts_with nat_eq (text ++ rest)) (sym row) ∙ not-true _ passes;
  }

  longest : (k : TokenKind)
      → IsText k text
      → IsApart k text rest
      → 0 < length text
      → IsLongest bytes from (from + length text)
  longest (Name name) is apart some =
      word_longest bytes from (from + length text) (omega (arith, some))
      (ap is_letter (first some) ∙ word_head text apart.0) (ap is_name_byte next ∙ apart.1)
  longest (Reserved n) is apart some =
      word_longest bytes from (from + length text) (omega (arith, some))
      (ap is_letter (first some) ∙ word_head text apart.0) (ap is_name_byte next ∙ apart.1)
  longest (Whole value) is apart some =
      digits_longest bytes from (from + length text) (omega (arith, some)) (ap is_digits text_there ∙ apart.0) within
      (ap is_digit next ∙ no_digit (slice_index rest 0) apart.1) (fraction_behind apart.2)
  longest (Point digits places) is apart some =
      pointed_longest bytes from (from + length text) (length is.whole) (omega (arith, some)) within
      (subst (λ t. HasPointAt t (length is.whole)) (sym text_there) (point_place is.whole is.fraction text is.pointed))
      (ap is_digit next ∙ no_digit (slice_index rest 0) apart)
  longest (Symbol n) is apart some =
      subst (λ t. IsLongest bytes from (from + length t)) (sym apart.1)
      (symbol_longest bytes from n (omega (arith, within)) (first_symbol n apart.0 apart.1 apart.2))

  can_end : (k : TokenKind) → IsApart k text rest → CanEndAt bytes k (from + length text)
  can_end (Name name) apart = tt
  can_end (Reserved n) apart = tt
  can_end (Whole value) apart = (ap is_name_byte next ∙ apart.1, fraction_behind apart.2)
  can_end (Point digits places) apart = ap is_name_byte next ∙ apart
  can_end (Symbol n) apart = tt

  span : (k : TokenKind) → IsText k text → IsApart k text rest → IsSpan bytes k from (from + length text)
  span k is apart =
      let some = token_text_some text (token_text k text is) in
      record {
        rises = omega (arith, some);
        within = within;
        text = subst (IsText k) (sym text_there) is;
        longest = longest k is apart some;
        ends = can_end k apart;
      }

-- the tests of a piece
abbrev ends_word : List ℕ → List ℕ → Bool
ends_word text rest = is_word text && not (is_name_byte (slice_index rest 0))

abbrev pub is_apart : Spelling → List ℕ → Bool
is_apart (a_name name) rest = list_all (λ row. not (bytes_eq row name)) reserved_words && ends_word name rest
is_apart (a_word n) rest = nat_lt n (length reserved_words) && ends_word (slice_index_or reserved_words n []) rest
is_apart (a_symbol n) rest =
    nat_lt n (length symbols) && begins_none (take n symbols) (slice_index_or symbols n [] ++ rest)
is_apart (a_whole value digits) rest =
    (is_digits digits && (nat_le (digit_count digits) 18 && nat_eq value (decimal digits)))
    && (not (is_name_byte (slice_index rest 0)) && not (begins_fraction rest 0))
is_apart (a_point whole fraction) rest =
    (is_digits whole && (is_digits fraction && nat_le (digit_count (whole ++ 46 ∷ fraction)) 18))
    && not (is_name_byte (slice_index rest 0))

-- a text that equals no row of a table is not in it
not_in : (table : List (List ℕ)) (text : List ℕ)
    → list_all (λ row. not (bytes_eq row text)) table ≡ true
    → ¬ Contains table text
not_in table text others = λ has.
    let row : slice_index_or table has.0 [] ≡ text = get_or_default table has.0 [] text has.1 ∙ has.2 in
    both_ways (bytes_eq (slice_index_or table has.0 []) text)
    (not-true _ (AllPass-from_list_all (λ row. not (bytes_eq row text)) table others has.0 [] has.1))
    (ap (λ r. bytes_eq r text) row ∙ (bytes_eq-Decides text text).1 refl)

text_is : (s : Spelling) (rest : List ℕ) → is_apart s rest ≡ true → IsText (kind_of s) (text_of s)
text_is (a_name name) rest h =
    let parts = and_parts (list_all (λ row. not (bytes_eq row name)) reserved_words) _ h in
    record { same = refl; word = (and_parts (is_word name) _ parts.1).0; free = not_in reserved_words name parts.0 }
text_is (a_word n) rest h =
    slice_get-get_or reserved_words n [] (ltb-true n _ (and_parts (nat_lt n (length reserved_words)) _ h).0)
text_is (a_symbol n) rest h = slice_get-get_or symbols n [] (ltb-true n _ (and_parts (nat_lt n (length symbols)) _ h).0)
text_is (a_whole value digits) rest h =
    let parts =
    and_parts (is_digits digits) _
    (and_parts (is_digits digits && (nat_le (digit_count digits) 18 && nat_eq value (decimal digits))) _ h).0 in
    let more = and_parts (nat_le (digit_count digits) 18) _ parts.1 in
    record { digits = parts.0; short = leb-true _ _ more.0; value_is = eqb-true _ _ more.1 }
text_is (a_point whole fraction) rest h =
    let parts =
    and_parts (is_digits whole) _
    (and_parts (is_digits whole && (is_digits fraction && nat_le (digit_count (whole ++ 46 ∷ fraction)) 18)) _
    h).0 in
    let more = and_parts (is_digits fraction) _ parts.1 in
    record {
      whole = whole;
      fraction = fraction;
      pointed = record { shape = refl; whole_digits = parts.0; fraction_digits = more.0 };
      short = leb-true _ _ more.1;
      digits_are = refl;
      places_are = refl;
    }

apart_is : (s : Spelling) (rest : List ℕ) → is_apart s rest ≡ true → IsApart (kind_of s) (text_of s) rest
apart_is (a_name name) rest h =
    let parts =
    and_parts (is_word name) _ (and_parts (list_all (λ row. not (bytes_eq row name)) reserved_words) _ h).1 in
    (parts.0, not-true _ parts.1)
apart_is (a_word n) rest h =
    let parts =
    and_parts (is_word (slice_index_or reserved_words n [])) _
    (and_parts (nat_lt n (length reserved_words)) _ h).1 in
    (parts.0, not-true _ parts.1)
apart_is (a_symbol n) rest h =
    let parts = and_parts (nat_lt n (length symbols)) _ h in
    (parts.0, refl, parts.1)
apart_is (a_whole value digits) rest h =
    let parts = and_parts (is_digits digits && (nat_le (digit_count digits) 18 && nat_eq value (decimal digits))) _ h in
    let behind = and_parts (not (is_name_byte (slice_index rest 0))) _ parts.1 in
    ((and_parts (is_digits digits) _ parts.0).0, not-true _ behind.0, not-true _ behind.1)
apart_is (a_point whole fraction) rest h =
    not-true _
    (and_parts (is_digits whole && (is_digits fraction && nat_le (digit_count (whole ++ 46 ∷ fraction)) 18)) _ h).1

-- a token with the blanks before it
pub record Piece : Type 0 where
  pub blanks : List ℕ
  pub token : Spelling

-- a token behind another one, behind a blank, and on a new line
abbrev pub joined : Spelling → Piece
joined token = record { blanks = []; token = token }

abbrev pub spaced : Spelling → Piece
spaced token = record { blanks = 32 ∷ []; token = token }

abbrev pub on_line : Spelling → Piece
on_line token = record { blanks = 10 ∷ []; token = token }

-- the text of the pieces, with blanks at its end
abbrev pub spelled : List Piece → List ℕ → List ℕ
spelled [] tail = tail
spelled (p ∷ ps) tail = p.blanks ++ (text_of p.token ++ spelled ps tail)

-- the tests of the first piece, with what comes behind it
abbrev passes : Piece → List ℕ → Bool
passes p rest = list_all is_blank p.blanks && is_apart p.token rest

-- each piece passes its tests
abbrev pub ArePieces : List Piece → List ℕ → Type 0
ArePieces [] tail = list_all is_blank tail ≡ true
ArePieces (p ∷ ps) tail = (passes p (spelled ps tail) ≡ true) × ArePieces ps tail

-- all of them, with what comes behind the last
abbrev pub pass : List Piece → List ℕ → Bool
pass [] rest = true
pass (p ∷ ps) rest = passes p (spelled ps rest) && pass ps rest

spelled-append : (front ps : List Piece) (tail : List ℕ) → spelled (front ++ ps) tail ≡ spelled front (spelled ps tail)
spelled-append [] ps tail = refl
spelled-append (p ∷ front) ps tail = ap (λ rest. p.blanks ++ (text_of p.token ++ rest)) (spelled-append front ps tail)

pub pieces_front : (front ps : List Piece) (tail : List ℕ)
    → pass front (spelled ps tail) ≡ true
    → ArePieces ps tail
    → ArePieces (front ++ ps) tail
pieces_front [] ps tail h all = all
pieces_front (p ∷ front) ps tail h all =
    let parts = and_parts (passes p (spelled front (spelled ps tail))) (pass front (spelled ps tail)) h in
    (ap (passes p) (spelled-append front ps tail) ∙ parts.0, pieces_front front ps tail parts.1 all)

-- the tokens of the pieces, from a place on
abbrev pub laid : List ℕ → ℕ → List Piece → List Token
laid bytes at [] = []
laid bytes at (p ∷ ps) =
    record {
      kind = kind_of p.token;
      from = at + length p.blanks;
      to = at + length p.blanks + length (text_of p.token);
      line = line_at bytes (at + length p.blanks);
    }
    ∷ laid bytes (at + length p.blanks + length (text_of p.token)) ps

blanks_gap : (bytes front blanks rest : List ℕ) (from to : ℕ)
    → from ≡ length front
    → to ≡ from + length blanks
    → bytes ≡ front ++ (blanks ++ rest)
    → list_all is_blank blanks ≡ true
    → Gap bytes from to
blanks_gap bytes front [] rest from to at end e all =
    let same : from ≡ to = omega (arith, end) in subst (Gap bytes from) same none
blanks_gap bytes front (b ∷ bs) rest from to at end e all =
    let parts = and_parts (is_blank b) (list_all is_blank bs) all in
    let here : slice_index bytes from ≡ b =
    ap₂ (λ xs n. slice_index xs n) e (let plus : from ≡ length front + 0 = omega (arith, at) in plus)
    ∙ get_or-append-add front (b ∷ (bs ++ rest)) 0 0 in
    blank (ap is_blank here ∙ parts.0)
    (blanks_gap bytes (front ++ b ∷ []) bs rest (from + 1) to (omega (arith, at, length-append front (b ∷ [])))
    (omega (arith, end))
    (e ∙ sym (append_assoc front (b ∷ []) (bs ++ rest))) parts.1)

spaced_laid : (bytes front : List ℕ) (ps : List Piece) (tail : List ℕ) (at : ℕ)
    → at ≡ length front
    → bytes ≡ front ++ spelled ps tail
    → ArePieces ps tail
    → Spaced bytes at (laid bytes at ps) (length bytes)
spaced_laid bytes front [] tail at is e all =
    blanks_gap bytes front tail [] at (length bytes) is (omega (arith, is, ap length e, length-append front tail))
    (e ∙ ap (λ t. front ++ t) (sym (append-nil tail))) all
spaced_laid bytes front (p ∷ ps) tail at is e all =
    let rest = spelled ps tail in
    let tests = and_parts (list_all is_blank p.blanks) (is_apart p.token rest) all.0 in
    let from : at + length p.blanks ≡ length (front ++ p.blanks) = omega (arith, is, length-append front p.blanks) in
    let inner : bytes ≡ (front ++ p.blanks) ++ (text_of p.token ++ rest) =
    e ∙ sym (append_assoc front p.blanks (text_of p.token ++ rest)) in
    let behind : bytes ≡ ((front ++ p.blanks) ++ text_of p.token) ++ rest =
    inner ∙ sym (append_assoc (front ++ p.blanks) (text_of p.token) rest) in
    let to : at + length p.blanks + length (text_of p.token) ≡ length ((front ++ p.blanks) ++ text_of p.token) =
    omega (arith, from, length-append (front ++ p.blanks) (text_of p.token)) in (
      blanks_gap bytes front p.blanks (text_of p.token ++ rest) at (at + length p.blanks) is refl e tests.0,
      record {
        span =
            span bytes (front ++ p.blanks) (text_of p.token) rest (at + length p.blanks) from inner (kind_of p.token)
            (text_is p.token rest tests.1) (apart_is p.token rest tests.1);
        line = refl;
      },
      spaced_laid bytes ((front ++ p.blanks) ++ text_of p.token) ps tail
          (at + length p.blanks + length (text_of p.token)) to behind all.1,
    )

-- the text has the tokens of its pieces
pub spelled_tokens : (ps : List Piece) (tail : List ℕ)
    → ArePieces ps tail
    → HasTokens (spelled ps tail) (laid (spelled ps tail) 0 ps)
spelled_tokens ps tail all = spaced_laid (spelled ps tail) [] ps tail 0 refl refl all
