-- A source has one reading: one list of tokens or one fault, and never both.
use Rattle.std.proofs.Common.{◌≡◌, ℕ, ◌≤◌, ◌<◌, true, false, ◌⊎◌, inl, inr, List, [], ◌∷◌, length, refl, sym, ap, ◌∙◌}
use Rattle.std.proofs.Common.{subst, arith, nat_eq}
use Rattle.std.specs.Prelude.{slice_index, slice_range}
use Rattle.std.proofs.lemmas.Bool.{cases_order, both_ways, false_from_ne_true}
use Rattle.std.proofs.lemmas.Bool.Decides.{nat_tests}
use Rattle.std.proofs.lemmas.List.{get_or_past}
use Rattle.silage_lex.specs.Bytes.{is_blank, is_digit, is_letter, is_name_byte, opens_comment}
use Rattle.silage_lex.specs.Texts.{IsText, IsTokenText, IsNumber, digit_count}
use Rattle.silage_lex.specs.Tokens.{IsLongest, CanEndAt, line_at, IsToken, IsSpan, IsComment, Gap, none, blank, comment}
use Rattle.silage_lex.specs.Tokens.{Spaced, HasTokens, TokenList}
use Rattle.silage_lex.specs.Faults.{IsBadByte, IsBadNumber, IsOpenComment, StandsAt, HasFault}
use Rattle.silage_lex.specs.Scan.{StartsToken}
use Rattle.silage_lex.specs.declared.TokenKind.{TokenKind}
use Rattle.silage_lex.specs.declared.TokenKind.TheVariants.{Name, Whole, Point, Reserved, Symbol}
use Rattle.silage_lex.specs.declared.Token.{Token}
use Rattle.silage_lex.specs.declared.LexFault.{LexFault}
use Rattle.silage_lex.specs.declared.LexFault.TheVariants.{BadByte, BadNumber, OpenComment, Memory}
use Rattle.silage_lex.proofs.Pieces.{inside_by}
use Rattle.silage_lex.proofs.TextLemmas.{letter_is_name_byte, digit_is_name_byte, word_head, number_head, symbol_text}
use Rattle.silage_lex.proofs.Longest.{span_first}
use Rattle.silage_lex.proofs.OneKind.{token_text, one_kind, first_of_kind}

blank_opens : (bytes : List ℕ) (at : ℕ) → is_blank (slice_index bytes at) ≡ true → opens_comment bytes at ≡ true → ⊥
blank_opens bytes at h opens = grind (arith, nat_tests)

opens_slash : (bytes : List ℕ) (at : ℕ) → opens_comment bytes at ≡ true → nat_eq (slice_index bytes at) 47 ≡ true
opens_slash bytes at opens = grind (arith, nat_tests)

-- a byte that begins a word or a number begins no blank and no comment
name_byte_starts : (bytes : List ℕ) (at : ℕ) → is_name_byte (slice_index bytes at) ≡ true → StartsToken bytes at
name_byte_starts bytes at h =
    record { no_blank = false_from_ne_true _ no_blank; no_comment = false_from_ne_true _ no_comment }
  where
    no_blank : is_blank (slice_index bytes at) ≡ true → ⊥
    no_blank b = grind (arith, nat_tests)

    no_comment : opens_comment bytes at ≡ true → ⊥
    no_comment o = grind (arith, nat_tests)

token_starts : (bytes : List ℕ) (from to : ℕ)
    → from < to
    → IsTokenText (slice_range bytes from to)
    → StartsToken bytes from
token_starts bytes from to rises text =
    let first = span_first bytes from to rises in
    elim text [
      | inl word ↦
          name_byte_starts bytes from
          (letter_is_name_byte (slice_index bytes from)
          (ap is_letter (sym first) ∙ word_head (slice_range bytes from to) word))
      | inr (inl number) ↦
          name_byte_starts bytes from
          (digit_is_name_byte (slice_index bytes from)
          (ap is_digit (sym first) ∙ number_head (slice_range bytes from to) number))
      | inr (inr symbol) ↦
          let head = symbol_text (slice_range bytes from to) symbol in
          let slash = ap (λ b. nat_eq b 47) (sym first) ∙ head.no_slash in
          record {
            no_blank = ap is_blank (sym first) ∙ head.no_blank;
            no_comment = false_from_ne_true _ (λ o. both_ways _ slash (opens_slash bytes from o));
          }
    ]

-- no blank and no whole comment begins at the place
record IsHead (bytes : List ℕ) (at : ℕ) : Type 0 where
  no_blank : is_blank (slice_index bytes at) ≡ false
  no_comment : (to : ℕ) → ¬ IsComment bytes at to

starts_head : (bytes : List ℕ) (at : ℕ) → StartsToken bytes at → IsHead bytes at
starts_head bytes at h = record { no_blank = h.no_blank; no_comment = λ to c. both_ways _ h.no_comment c.opened }

comment_once : {bytes : List ℕ} {i j k : ℕ} → IsComment bytes i j → IsComment bytes i k → j ≡ k
comment_once c d =
    let c_ends = c.ends in
    let d_ends = d.ends in
    elim (cases_order c.close d.close) [
      | inl same ↦ omega arith
      | inr (inl before) ↦ absurd (both_ways _ (d.next c.close c.behind before) c.closed)
      | inr (inr after) ↦ absurd (both_ways _ (c.next d.close d.behind after) d.closed)
    ]

-- blanks and comments that end where neither begins end at one place
gap_once : {bytes : List ℕ} {i j k : ℕ} → Gap bytes i j → Gap bytes i k → IsHead bytes j → IsHead bytes k → j ≡ k
gap_once none none h l = refl
gap_once none (blank b g) h l = absurd (both_ways _ h.no_blank b)
gap_once none (comment c g) h l = absurd (h.no_comment _ c)
gap_once (blank b g) none h l = absurd (both_ways _ l.no_blank b)
gap_once (blank b g) (blank c f) h l = gap_once g f h l
gap_once {bytes} {i} (blank b g) (comment c f) h l = absurd (blank_opens bytes i b c.opened)
gap_once (comment c g) none h l = absurd (l.no_comment _ c)
gap_once {bytes} {i} (comment c g) (blank b f) h l = absurd (blank_opens bytes i b c.opened)
gap_once {bytes} {i} {j} {k} (comment {j = m} c g) (comment {j = n} d f) h l =
    let same : n ≡ m = comment_once d c in
    let P : ℕ → Type 0 = λ at. Gap bytes at k in
    gap_once g (subst P same f) h l

-- two texts that are as long as they can be and begin at one byte end at one byte
same_end : (bytes : List ℕ) (from to end : ℕ)
    → to ≤ length bytes
    → end ≤ length bytes
    → IsTokenText (slice_range bytes from to)
    → IsTokenText (slice_range bytes from end)
    → IsLongest bytes from to
    → IsLongest bytes from end
    → to ≡ end
same_end bytes from to end within inside text other longest longest_other =
    elim (cases_order to end) [
      | inl same ↦ same
      | inr (inl before) ↦ absurd (longest end before inside other)
      | inr (inr after) ↦ absurd (longest_other to after within text)
    ]

abbrev made : TokenKind → ℕ → ℕ → ℕ → Token
made kind from to line = record { kind = kind; from = from; to = to; line = line }

-- two tokens that begin at one byte are one
one_token : (bytes : List ℕ) (t u : Token) → IsToken bytes t → IsToken bytes u → t.from ≡ u.from → t ≡ u
one_token bytes t u h k from =
    let P : ℕ → Type 0 = λ at. IsSpan bytes u.kind at u.to in
    let other : IsSpan bytes u.kind t.from u.to = subst P (sym from) k.span in
    let to : t.to ≡ u.to =
    same_end bytes t.from t.to u.to h.span.within other.within (token_text t.kind _ h.span.text)
    (token_text u.kind _ other.text) h.span.longest other.longest in
    let Q : ℕ → Type 0 = λ end. IsText u.kind (slice_range bytes t.from end) in
    let kind : t.kind ≡ u.kind =
    one_kind t.kind u.kind (slice_range bytes t.from t.to) h.span.text (subst Q (sym to) other.text) in
    let line : t.line ≡ u.line = h.line ∙ ap (line_at bytes) from ∙ sym k.line in
    ap (λ x. made x t.from t.to t.line) kind ∙ ap (λ n. made u.kind n t.to t.line) from
    ∙ ap (λ n. made u.kind u.from n t.line) to ∙ ap (made u.kind u.from u.to) line

-- no token, no blank and no whole comment begins at the place
record IsStop (bytes : List ℕ) (at : ℕ) : Type 0 where
  head : IsHead bytes at
  no_token : (kind : TokenKind) (to : ℕ) → ¬ IsSpan bytes kind at to

not_at_stop : (bytes : List ℕ) (at : ℕ) (token : Token) → IsStop bytes at → IsToken bytes token → at ≡ token.from → ⊥
not_at_stop bytes at token stop h same =
    let P : ℕ → Type 0 = λ from. IsSpan bytes token.kind from token.to in
    stop.no_token token.kind token.to (subst P (sym same) h.span)

token_is_head : (bytes : List ℕ) (token : Token) → IsToken bytes token → IsHead bytes token.from
token_is_head bytes token h =
    starts_head bytes token.from
    (token_starts bytes token.from token.to h.span.rises (token_text token.kind _ h.span.text))

-- what is read up to a stop is one list of tokens, and there is one stop
one_scan : (bytes : List ℕ) (i j k m : ℕ) (ts us : List Token)
    → i ≡ j
    → Spaced bytes i ts k
    → Spaced bytes j us m
    → IsStop bytes k
    → IsStop bytes m
    → (ts ≡ us) × (k ≡ m)
one_scan bytes i j k m [] [] e s r a b =
    let P : ℕ → Type 0 = λ at. Gap bytes at m in (refl, gap_once s (subst P (sym e) r) a.head b.head)
one_scan bytes i j k m [] (u ∷ us) e s r a b =
    let P : ℕ → Type 0 = λ at. Gap bytes at u.from in
    absurd (not_at_stop bytes k u a r.1 (gap_once s (subst P (sym e) r.0) a.head (token_is_head bytes u r.1)))
one_scan bytes i j k m (t ∷ ts) [] e s r a b =
    let P : ℕ → Type 0 = λ at. Gap bytes at m in
    absurd (not_at_stop bytes m t b s.1 (gap_once (subst P (sym e) r) s.0 b.head (token_is_head bytes t s.1)))
one_scan bytes i j k m (t ∷ ts) (u ∷ us) e s r a b =
    let P : ℕ → Type 0 = λ at. Gap bytes at u.from in
    let from = gap_once s.0 (subst P (sym e) r.0) (token_is_head bytes t s.1) (token_is_head bytes u r.1) in
    let token = one_token bytes t u s.1 r.1 from in
    let rest = one_scan bytes t.to u.to k m ts us (ap (λ x. x.to) token) s.2 r.2 a b in
    (ap (λ x. x ∷ ts) token ∙ ap (λ xs. u ∷ xs) rest.0, rest.1)

-- the end of the source is a stop, and so is the place of each fault
end_stop : (bytes : List ℕ) → IsStop bytes (length bytes)
end_stop bytes = record {
  head = starts_head bytes (length bytes) starts;
  no_token = λ kind to h. let rises = h.rises in let within = h.within in omega arith;
}
  where
    zero_there : slice_index bytes (length bytes) ≡ 0
    zero_there = get_or_past bytes (length bytes) 0 (omega arith)

    starts : StartsToken bytes (length bytes)
    starts = record {
      no_blank = ap is_blank zero_there;
      no_comment =
          false_from_ne_true _
          (λ o. let slash = opens_slash bytes (length bytes) o in let no = ap (λ b. nat_eq b 47) zero_there in cc);
    }

byte_stop : (bytes : List ℕ) (at : ℕ) → IsBadByte bytes at → IsStop bytes at
byte_stop bytes at h = record {
  head = starts_head bytes at (record { no_blank = h.no_blank; no_comment = h.no_comment });
  no_token = λ kind to k. h.no_token to k.within (token_text kind _ k.text);
}

-- a number that is forbidden is no token's text
not_forbidden : (bytes : List ℕ) (kind : TokenKind) (at end : ℕ)
    → (number : IsNumber (slice_range bytes at end))
    → (18 < digit_count (slice_range bytes at end)) ⊎ (is_letter (slice_index bytes end) ≡ true)
    → IsText kind (slice_range bytes at end)
    → CanEndAt bytes kind end
    → ⊥
not_forbidden bytes (Name name) at end number why text ends =
    both_ways _ (first_of_kind (Name name) _ text).1 (number_head _ number)
not_forbidden bytes (Reserved n) at end number why text ends =
    both_ways _ (first_of_kind (Reserved n) _ text).1 (number_head _ number)
not_forbidden bytes (Symbol n) at end number why text ends =
    both_ways _ (first_of_kind (Symbol n) _ text).1 (number_head _ number)
not_forbidden bytes (Whole value) at end number why text ends =
    let short = text.short in
    elim why
    [ inl long ↦ omega arith | inr letter ↦ both_ways _ ends.0 (letter_is_name_byte (slice_index bytes end) letter) ]
not_forbidden bytes (Point digits places) at end number why text ends =
    let short = text.short in
    elim why
    [ inl long ↦ omega arith | inr letter ↦ both_ways _ ends (letter_is_name_byte (slice_index bytes end) letter) ]

number_stop : (bytes : List ℕ) (at : ℕ) → IsBadNumber bytes at → IsStop bytes at
number_stop bytes at h = record {
  head = starts_head bytes at (token_starts bytes at h.end h.number.rises (inr (inl h.number.number)));
  no_token = λ kind to k.
      let same : h.end ≡ to =
      same_end bytes at h.end to h.number.within k.within (inr (inl h.number.number)) (token_text kind _ k.text)
      h.number.longest k.longest in
      let P : ℕ → Type 0 = λ end. IsText kind (slice_range bytes at end) × CanEndAt bytes kind end in
      let ends = subst P (sym same) (k.text, k.ends) in
      not_forbidden bytes kind at h.end h.number.number h.forbidden ends.0 ends.1;
}

comment_stop : (bytes : List ℕ) (at : ℕ) → IsOpenComment bytes at → IsStop bytes at
comment_stop bytes at h = record {
  head = record {
    no_blank = false_from_ne_true _ (λ b. blank_opens bytes at b h.opened);
    no_comment = λ to c. both_ways _ (h.open_ended c.close c.behind) c.closed;
  };
  no_token = λ kind to k.
      let starts = token_starts bytes at to k.rises (token_text kind _ k.text) in
      both_ways _ starts.no_comment h.opened;
}

fault_stop : (bytes : List ℕ) (at : ℕ) (fault : LexFault) → StandsAt bytes at fault → IsStop bytes at
fault_stop bytes at (BadByte place) h = byte_stop bytes at h.1
fault_stop bytes at (BadNumber place) h = number_stop bytes at h.1
fault_stop bytes at (OpenComment place) h = comment_stop bytes at h.1
fault_stop bytes at Memory h = absurd h

fault_within : (bytes : List ℕ) (at : ℕ) (fault : LexFault) → StandsAt bytes at fault → at < length bytes
fault_within bytes at (BadByte place) h = h.1.within
fault_within bytes at (BadNumber place) h =
    let rises = h.1.number.rises in let within = h.1.number.within in omega arith
fault_within bytes at (OpenComment place) h =
    inside_by bytes at (λ b. nat_eq b 47) refl (opens_slash bytes at h.1.opened)
fault_within bytes at Memory h = absurd h

number_no_comment : (bytes : List ℕ) (at : ℕ) → IsBadNumber bytes at → IsOpenComment bytes at → ⊥
number_no_comment bytes at h k =
    let starts = token_starts bytes at h.end h.number.rises (inr (inl h.number.number)) in
    both_ways _ starts.no_comment k.opened

-- at one place stands one fault
one_fault : (bytes : List ℕ) (at : ℕ) (f g : LexFault) → StandsAt bytes at f → StandsAt bytes at g → f ≡ g
one_fault bytes at (BadByte p) (BadByte q) h k = ap BadByte (h.0 ∙ sym k.0)
one_fault bytes at (BadByte p) (BadNumber q) h k =
    absurd (h.1.no_token k.1.end k.1.number.within (inr (inl k.1.number.number)))
one_fault bytes at (BadByte p) (OpenComment q) h k = absurd (both_ways _ h.1.no_comment k.1.opened)
one_fault bytes at (BadNumber p) (BadByte q) h k =
    absurd (k.1.no_token h.1.end h.1.number.within (inr (inl h.1.number.number)))
one_fault bytes at (BadNumber p) (BadNumber q) h k = ap BadNumber (h.0 ∙ sym k.0)
one_fault bytes at (BadNumber p) (OpenComment q) h k = absurd (number_no_comment bytes at h.1 k.1)
one_fault bytes at (OpenComment p) (BadByte q) h k = absurd (both_ways _ k.1.no_comment h.1.opened)
one_fault bytes at (OpenComment p) (BadNumber q) h k = absurd (number_no_comment bytes at k.1 h.1)
one_fault bytes at (OpenComment p) (OpenComment q) h k = ap OpenComment (h.0 ∙ sym k.0)
one_fault bytes at Memory g h k = absurd h
one_fault bytes at f Memory h k = absurd k

-- a source has one list of tokens
pub tokens_once : (bytes : List ℕ) (ts us : TokenList) → HasTokens bytes ts → HasTokens bytes us → ts ≡ us
tokens_once bytes ts us s r =
    (one_scan bytes 0 0 (length bytes) (length bytes) ts us refl s r (end_stop bytes) (end_stop bytes)).0

-- a source with tokens has no fault
pub tokens_no_fault : (bytes : List ℕ) (ts : TokenList) (fault : LexFault)
    → HasTokens bytes ts
    → HasFault bytes fault
    → ⊥
tokens_no_fault bytes ts fault s h =
    let place =
    (one_scan bytes 0 0 h.place (length bytes) h.before ts refl h.read s (fault_stop bytes h.place fault h.stands)
    (end_stop bytes)).1 in
    let within = fault_within bytes h.place fault h.stands in
    omega arith

-- a source has one fault
pub fault_once : (bytes : List ℕ) (f g : LexFault) → HasFault bytes f → HasFault bytes g → f ≡ g
fault_once bytes f g h k =
    let place =
    (one_scan bytes 0 0 h.place k.place h.before k.before refl h.read k.read (fault_stop bytes h.place f h.stands)
    (fault_stop bytes k.place g k.stands)).1 in
    let P : ℕ → Type 0 = λ at. StandsAt bytes at g in
    one_fault bytes h.place f g h.stands (subst P (sym place) k.stands)
