-- Sets of terminals as lists, and the one terminal that a token is.
use Rattle.std.proofs.Common.{◌≡◌, Bool, true, false, not, ◌&&◌, ◌||◌, List, [], ◌∷◌, ◌++◌, Option, Some, None, nat_eq}
use Rattle.std.proofs.Common.{inl, inr, ◌⊎◌, refl, sym, ap, ap₂, ◌∙◌}
use Rattle.std.proofs.lemmas.Bool.{and_parts, or_cases, or_left, or_right, or_from, not-true, eqb-true}
use Rattle.silage_lex.specs.declared.TokenKind.{TokenKind}
use Rattle.silage_lex.specs.declared.TokenKind.TheVariants as kind
use Rattle.silage_parse.specs.Private.ParseTable.{Terminal, Punctuation, Keyword, AName, AWhole, APoint, End, is}
use Rattle.silage_parse.specs.Private.ParseTable.{is_one}

abbrev pub terminal_of : Option TokenKind → Terminal
terminal_of (Some (kind.Symbol n)) = Punctuation n
terminal_of (Some (kind.Reserved n)) = Keyword n
terminal_of (Some (kind.Name name)) = AName
terminal_of (Some (kind.Whole n)) = AWhole
terminal_of (Some (kind.Point digits places)) = APoint
terminal_of None = End

abbrev pub same : Terminal → Terminal → Bool
same (Punctuation n) (Punctuation m) = nat_eq n m
same (Keyword n) (Keyword m) = nat_eq n m
same AName AName = true
same AWhole AWhole = true
same APoint APoint = true
same End End = true
same _ _ = false

same_from : (t u : Terminal) → same t u ≡ true → t ≡ u
same_from (Punctuation n) (Punctuation m) h = ap Punctuation (eqb-true n m h)
same_from (Keyword n) (Keyword m) h = ap Keyword (eqb-true n m h)
same_from AName AName h = refl
same_from AWhole AWhole h = refl
same_from APoint APoint h = refl
same_from End End h = refl
same_from _ _ h = cc

is_same : (t : Terminal) (k : Option TokenKind) → is t k ≡ same t (terminal_of k)
is_same (Punctuation n) (Some (kind.Symbol m)) = refl
is_same (Keyword n) (Some (kind.Reserved m)) = refl
is_same AName (Some (kind.Name name)) = refl
is_same AWhole (Some (kind.Whole n)) = refl
is_same APoint (Some (kind.Point digits places)) = refl
is_same End None = refl
is_same End (Some (kind.Symbol m)) = refl
is_same End (Some (kind.Reserved m)) = refl
is_same End (Some (kind.Name name)) = refl
is_same End (Some (kind.Whole n)) = refl
is_same End (Some (kind.Point digits places)) = refl
is_same _ _ = refl

abbrev pub has : List Terminal → Terminal → Bool
has [] t = false
has (x ∷ xs) t = same x t || has xs t

pub is_one_has : (ts : List Terminal) (k : Option TokenKind) → is_one ts k ≡ has ts (terminal_of k)
is_one_has [] k = refl
is_one_has (t ∷ ts) k = ap₂ ◌||◌ (is_same t k) (is_one_has ts k)

pub has_left : (xs ys : List Terminal) (t : Terminal) → has xs t ≡ true → has (xs ++ ys) t ≡ true
has_left [] ys t h = cc
has_left (x ∷ xs) ys t h =
    elim (or_cases (same x t) (has xs t) h) [
      | inl p ↦ or_left (same x t) (has (xs ++ ys) t) p
      | inr p ↦ or_right (same x t) (has (xs ++ ys) t) (has_left xs ys t p)
    ]

pub has_right : (xs ys : List Terminal) (t : Terminal) → has ys t ≡ true → has (xs ++ ys) t ≡ true
has_right [] ys t h = h
has_right (x ∷ xs) ys t h = or_right (same x t) (has (xs ++ ys) t) (has_right xs ys t h)

pub has_either : (xs ys : List Terminal) (t : Terminal)
    → has (xs ++ ys) t ≡ true
    → (has xs t ≡ true) ⊎ (has ys t ≡ true)
has_either [] ys t h = inr h
has_either (x ∷ xs) ys t h =
    elim (or_cases (same x t) (has (xs ++ ys) t) h) [
      | inl p ↦ inl (or_left (same x t) (has xs t) p)
      | inr p ↦
          elim (has_either xs ys t p) [
            | inl q ↦ inl (or_right (same x t) (has xs t) q)
            | inr q ↦ inr q
          ]
    ]

-- every terminal of the first is one of the second
abbrev pub within : List Terminal → List Terminal → Bool
within [] ys = true
within (x ∷ xs) ys = has ys x && within xs ys

pub within_has : (xs ys : List Terminal) (t : Terminal) → within xs ys ≡ true → has xs t ≡ true → has ys t ≡ true
within_has [] ys t h p = cc
within_has (x ∷ xs) ys t h p =
    let q = and_parts (has ys x) (within xs ys) h in
    elim (or_cases (same x t) (has xs t) p) [
      | inl e ↦ ap (has ys) (sym (same_from x t e)) ∙ q.0
      | inr e ↦ within_has xs ys t q.1 e
    ]

-- no terminal of the first is one of the second
abbrev pub apart : List Terminal → List Terminal → Bool
apart [] ys = true
apart (x ∷ xs) ys = not (has ys x) && apart xs ys

pub apart_lacks : (xs ys : List Terminal) (t : Terminal) → apart xs ys ≡ true → has ys t ≡ true → has xs t ≡ false
apart_lacks [] ys t h p = refl
apart_lacks (x ∷ xs) ys t h p =
    let q = and_parts (not (has ys x)) (apart xs ys) h in
    or_from (same x t) (has xs t) (differs x ys t (not-true (has ys x) q.0) p) (apart_lacks xs ys t q.1 p)
  where
    differs : (x : Terminal) (ys : List Terminal) (t : Terminal) → has ys x ≡ false → has ys t ≡ true → same x t ≡ false
    differs x ys t a b = false_unless (same x t) (λ e. let s = ap (has ys) (same_from x t e) in cc)
      where
        false_unless : (b : Bool) → (b ≡ true → ⊥) → b ≡ false
        false_unless true h = absurd (h refl)
        false_unless false h = refl
