-- What a token is: from the grammar's facts to the table's, and back.
use Rattle.std.proofs.Common.{◌≡◌, ℕ, true, false, List, [], ◌∷◌, Option, Some, None, slice_get, refl, sym, ap, ◌∙◌}
use Rattle.std.proofs.Common.{eq-eqb}
use Rattle.silage_lex.specs.declared.Token.{Token}
use Rattle.silage_lex.specs.declared.TokenKind.{TokenKind}
use Rattle.silage_lex.specs.declared.TokenKind.TheVariants as kind
use Rattle.silage_syntax.specs.Grammar.{kind_of, kind_at, from_of, from_at, IsPunctuation, IsKeyword, IsName, IsWhole}
use Rattle.silage_syntax.specs.Grammar.{number_of, weight_role, Plain}
use Rattle.silage_parse.specs.Private.ParseTable.{Terminal, Punctuation, Keyword, AName, AWhole, is_one}
use Rattle.silage_parse.specs.Private.Machine.{name_text, whole_value, or_else}
use Rattle.silage_parse.proofs.Tables.{IsTable, tells, keyword_known, punctuation_known}

-- the token at i, of which a value is known
pub record Known
    (us : List Token) (ks : List Terminal) (i : ℕ) {A : Type 0} (f : Option TokenKind → A) (a : A)
    : Type 0 where
  pub tok : Token
  pub there : slice_get us i ≡ Some tok
  pub fits : is_one ks (Some tok.kind) ≡ true
  pub tells : f (Some tok.kind) ≡ a
  pub from : from_at us i ≡ tok.from

known_in :
    (us : List Token) (ks : List Terminal) (i : ℕ) {A : Type 0} (f : Option TokenKind → A) (a : A) (o : Option Token)
    → slice_get us i ≡ o
    → is_one ks (kind_of o) ≡ true
    → is_one ks None ≡ false
    → f (kind_of o) ≡ a
    → Known us ks i f a
known_in us ks i f a None e h n v = let c : true ≡ false = sym h ∙ n in cc
known_in us ks i f a (Some t) e h n v = record { tok = t; there = e; fits = h; tells = v; from = ap from_of e }

pub known : (us : List Token) (ks : List Terminal) (i : ℕ) {A : Type 0} (f : Option TokenKind → A) (a : A)
    → is_one ks None ≡ false
    → is_one ks (kind_at us i) ≡ true
    → f (kind_at us i) ≡ a
    → Known us ks i f a
known us ks i f a n h v = known_in us ks i f a (slice_get us i) refl h n v

-- the token at i is of this kind
abbrev pub IsOf : List Token → List Terminal → ℕ → TokenKind → Type 0
IsOf us ks i k = Known us ks i (λ x. x) (Some k)

one_mark : (n : ℕ) (k : Option TokenKind) → k ≡ Some (kind.Symbol n) → is_one (Punctuation n ∷ []) k ≡ true
one_mark n k h = let e = eq-eqb n n refl in rw (h, e) refl

one_word : (n : ℕ) (k : Option TokenKind) → k ≡ Some (kind.Reserved n) → is_one (Keyword n ∷ []) k ≡ true
one_word n k h = let e = eq-eqb n n refl in rw (h, e) refl

pub mark_there : (us : List Token) (i n : ℕ) → IsPunctuation us i n → IsOf us (Punctuation n ∷ []) i (kind.Symbol n)
mark_there us i n h = known us (Punctuation n ∷ []) i (λ x. x) (Some (kind.Symbol n)) refl (one_mark n _ h) h

pub word_there : (us : List Token) (i n : ℕ) → IsKeyword us i n → IsOf us (Keyword n ∷ []) i (kind.Reserved n)
word_there us i n h = known us (Keyword n ∷ []) i (λ x. x) (Some (kind.Reserved n)) refl (one_word n _ h) h

text_known : (t : Token) (name : List ℕ) → Some t.kind ≡ Some (kind.Name name) → name_text t ≡ name
text_known t name h = let e : t.kind ≡ kind.Name name = cc in rw e refl

value_known : (t : Token) (n : ℕ) → Some t.kind ≡ Some (kind.Whole n) → whole_value t ≡ n
value_known t n h = let e : t.kind ≡ kind.Whole n = cc in rw e refl

-- a name, a whole, a number, by what the machine takes of them
pub record NameKnown (us : List Token) (i : ℕ) (name : List ℕ) : Type 0 where
  pub tok : Token
  pub there : slice_get us i ≡ Some tok
  pub fits : is_one (AName ∷ []) (Some tok.kind) ≡ true
  pub tells : name_text tok ≡ name
  pub from : from_at us i ≡ tok.from
  pub weight : weight_role tok ≡ Plain

pub name_weight : (t : Token) (name : List ℕ) → t.kind ≡ kind.Name name → weight_role t ≡ Plain
name_weight t name e = rw e refl

pub name_there : (us : List Token) (i : ℕ) (name : List ℕ) → IsName us i name → NameKnown us i name
name_there us i name h =
    let k = known us (AName ∷ []) i (λ x. x) (Some (kind.Name name)) refl (rw h refl) h in
    let e = k.tells in
    record {
      tok = k.tok;
      there = k.there;
      fits = k.fits;
      tells = text_known k.tok name k.tells;
      from = k.from;
      weight = name_weight k.tok name (cc);
    }

pub record WholeKnown (us : List Token) (i : ℕ) (n : ℕ) : Type 0 where
  pub tok : Token
  pub there : slice_get us i ≡ Some tok
  pub fits : is_one (AWhole ∷ []) (Some tok.kind) ≡ true
  pub tells : whole_value tok ≡ n
  pub from : from_at us i ≡ tok.from

pub whole_there : (us : List Token) (i n : ℕ) → IsWhole us i n → WholeKnown us i n
whole_there us i n h =
    let k = known us (AWhole ∷ []) i (λ x. x) (Some (kind.Whole n)) refl (rw h refl) h in
    record { tok = k.tok; there = k.there; fits = k.fits; tells = value_known k.tok n k.tells; from = k.from }

-- a token of a table, by what the table has for it
pub known_by : {A : Type 0} {test : Option TokenKind → Option A} {ks : List Terminal}
    → IsTable test ks
    → (us : List Token) (i : ℕ) {a : A}
    → test (kind_at us i) ≡ Some a
    → Known us ks i test (Some a)
known_by {test = test} {ks} is_table us i {a} h = known us ks i test (Some a) is_table.no_end (is_table.some _ h) h

-- Back: what a token that was taken is.
pub kind_seen : (us : List Token) (i : ℕ) {t : Token} → slice_get us i ≡ Some t → kind_at us i ≡ Some t.kind
kind_seen us i h = ap kind_of h

pub from_seen : (us : List Token) (i : ℕ) {t : Token} → slice_get us i ≡ Some t → from_at us i ≡ t.from
from_seen us i h = ap from_of h

pub mark_seen : (us : List Token) (i n : ℕ) {t : Token}
    → slice_get us i ≡ Some t
    → is_one (Punctuation n ∷ []) (Some t.kind) ≡ true
    → IsPunctuation us i n
mark_seen us i n {t} e h = kind_seen us i e ∙ punctuation_known n (Some t.kind) h

pub word_seen : (us : List Token) (i n : ℕ) {t : Token}
    → slice_get us i ≡ Some t
    → is_one (Keyword n ∷ []) (Some t.kind) ≡ true
    → IsKeyword us i n
word_seen us i n {t} e h = kind_seen us i e ∙ keyword_known n (Some t.kind) h

is_name : (t : Token) (k : TokenKind)
    → t.kind ≡ k
    → is_one (AName ∷ []) (Some k) ≡ true
    → t.kind ≡ kind.Name (name_text t)
is_name t (kind.Name n) e h = rw e refl
is_name t _ e h = cc

pub name_seen : (us : List Token) (i : ℕ) {t : Token}
    → slice_get us i ≡ Some t
    → is_one (AName ∷ []) (Some t.kind) ≡ true
    → IsName us i (name_text t)
name_seen us i {t} e h = kind_seen us i e ∙ ap Some (is_name t t.kind refl h)

is_whole : (t : Token) (k : TokenKind)
    → t.kind ≡ k
    → is_one (AWhole ∷ []) (Some k) ≡ true
    → t.kind ≡ kind.Whole (whole_value t)
is_whole t (kind.Whole n) e h = rw e refl
is_whole t _ e h = cc

pub whole_seen : (us : List Token) (i : ℕ) {t : Token}
    → slice_get us i ≡ Some t
    → is_one (AWhole ∷ []) (Some t.kind) ≡ true
    → IsWhole us i (whole_value t)
whole_seen us i {t} e h = kind_seen us i e ∙ ap Some (is_whole t t.kind refl h)

-- the digits and places that the machine takes
abbrev pub digits_of : Token → ℕ × ℕ
digits_of t = or_else (0, 0) (number_of (Some t.kind))

pub seen_by : {A : Type 0} {test : Option TokenKind → Option A} {ks : List Terminal}
    → IsTable test ks
    → (a : A) (us : List Token) (i : ℕ) {t : Token}
    → slice_get us i ≡ Some t
    → is_one ks (Some t.kind) ≡ true
    → test (kind_at us i) ≡ Some (or_else a (test (Some t.kind)))
seen_by {test = test} is_table a us i {t} e h = ap test (kind_seen us i e) ∙ tells is_table a (Some t.kind) h

-- a fact of a token, at an equal place
pub kind_moved : (us : List Token) {a b : ℕ} {o : Option TokenKind} → kind_at us a ≡ o → a ≡ b → kind_at us b ≡ o
kind_moved us h q = ap (kind_at us) (sym q) ∙ h
