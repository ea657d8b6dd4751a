-- What a token that was read says.
use Rattle.std.proofs.Common.{◌≡◌, ℕ, List, [], ◌∷◌, Option, Some, None, refl, sym, ap, ◌∙◌, true, false, Bool}
use Rattle.silage_lex.specs.declared.TokenKind.{TokenKind}
use Rattle.silage_lex.specs.declared.TokenKind.TheVariants as kind
use Rattle.silage_syntax.specs.Grammar.{kind_of, from_of}
use Rattle.silage_parse.specs.declared.parser.Parser.{Parser}
use Rattle.silage_parse.specs.Private.ParseTable.{Terminal, AName, AWhole, Effect, is_one}
use Rattle.silage_parse.specs.Private.Machine.{name_text, whole_value}
use Rattle.silage_parse.specs.Private.Parsed.{next, later, start_of, name_of, whole_of, Matches}

pub taken_from : {ks : List Terminal} {e : Effect} {from to : Parser} (t : Matches ks e from to)
    → start_of from ≡ t.token.from
taken_from t = ap from_of t.there

-- what a test of the next token says of the token that is read
pub taken_as :
    {A : Type 0} (test : Option TokenKind → A) {ks : List Terminal} {e : Effect} {from to : Parser}
    (t : Matches ks e from to) {a : A}
    → test (next from) ≡ a
    → test (Some t.token.kind) ≡ a
taken_as test t h = sym (ap test (ap kind_of t.there)) ∙ h

taken_kind : {ks : List Terminal} {e : Effect} {from to : Parser} {k : TokenKind} (t : Matches ks e from to)
    → next from ≡ Some k
    → t.token.kind ≡ k
taken_kind t same = let here = ap kind_of t.there in cc

pub taken_name : {ks : List Terminal} {e : Effect} {from to : Parser} {name : List ℕ} (t : Matches ks e from to)
    → next from ≡ Some (kind.Name name)
    → name_text t.token ≡ name
taken_name t same = rw (taken_kind t same) refl

pub taken_whole : {ks : List Terminal} {e : Effect} {from to : Parser} {n : ℕ} (t : Matches ks e from to)
    → next from ≡ Some (kind.Whole n)
    → whole_value t.token ≡ n
taken_whole t same = rw (taken_kind t same) refl

-- what is known of the second token ahead is known of the next one once a token is read
pub then_next : {ks : List Terminal} {e : Effect} {from to : Parser} {b : Bool} (ls : List Terminal)
    → Matches ks e from to
    → is_one ls (later from) ≡ b
    → is_one ls (next to) ≡ b
then_next ls t h = rw (t.same, t.one) h

-- WHAT THE TESTS OF A TOKEN SAY

pub is_a_name : (k : Option TokenKind) {name : List ℕ} → name_of k ≡ Some name → is_one (AName ∷ []) k ≡ true
is_a_name (Some (kind.Name name)) h = refl
is_a_name _ h = cc

pub no_name : (k : Option TokenKind) → name_of k ≡ None → is_one (AName ∷ []) k ≡ false
no_name (Some (kind.Name name)) h = cc
no_name _ h = refl

pub name_known : (k : Option TokenKind) {name : List ℕ} → name_of k ≡ Some name → k ≡ Some (kind.Name name)
name_known (Some (kind.Name name)) h = cc
name_known _ h = cc

pub is_a_whole : (k : Option TokenKind) {n : ℕ} → whole_of k ≡ Some n → is_one (AWhole ∷ []) k ≡ true
is_a_whole (Some (kind.Whole n)) h = refl
is_a_whole _ h = cc

pub no_whole : (k : Option TokenKind) → whole_of k ≡ None → is_one (AWhole ∷ []) k ≡ false
no_whole (Some (kind.Whole n)) h = cc
no_whole _ h = refl

pub whole_known : (k : Option TokenKind) {n : ℕ} → whole_of k ≡ Some n → k ≡ Some (kind.Whole n)
whole_known (Some (kind.Whole n)) h = cc
whole_known _ h = cc
