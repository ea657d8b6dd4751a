-- The texts of numbers, types and places are read as what they are texts of, up to positions.
use Rattle.std.proofs.Common.{◌≡◌, ℕ, zero, suc, ◌+◌, ◌≤◌, Bool, true, false, List, [], ◌∷◌, ◌++◌, Option, Some, None}
use Rattle.std.proofs.Common.{map, refl, sym, ap, ◌∙◌, subst, arith, lit≤}
use Rattle.std.specs.Prelude.{nat_eq, if◌then◌else◌}
use Rattle.std.proofs.lemmas.Bool.Decides.{nat_tests}
use Rattle.fix_word.specs.declared.types.FixType.{FixType}
use Rattle.fix_word.specs.declared.types.Mode.{Mode}
use Rattle.fix_word.specs.declared.types.Mode.TheVariants.{Trunc, Round, Sat, RoundSat}
use Rattle.silage_lex.specs.declared.Token.{Token}
use Rattle.silage_lex.specs.declared.TokenKind.{TokenKind}
use Rattle.silage_lex.specs.declared.TokenKind.TheVariants as kind
use Rattle.silage_lex.specs.declared.punctuation.TheConstants as punctuation
use Rattle.silage_lex.specs.declared.keywords.TheConstants as keyword
use Rattle.silage_syntax.specs.declared.tree.Lit.{Lit}
use Rattle.silage_syntax.specs.declared.tree.Lit.TheVariants.{Number}
use Rattle.silage_syntax.specs.Tree.{Manifest}
use Rattle.silage_syntax.specs.Positions.{unpositioned_lit, unpositioned_manifest, unpositioned_delay}
use Rattle.silage_syntax.specs.Grammar.{kind_at, from_at, number_of, IsPunctuation, IsNumber, IsSigned, positive}
use Rattle.silage_syntax.specs.Grammar.{negative, size, fix_type, IsMode, trunc, round, round_sat, sat, IsFix}
use Rattle.silage_syntax.specs.Grammar.{no_mode, with_mode, truth_of}
use Rattle.silage_syntax.specs.Grammar.{IsManifest, Manifest_, IsSubscripts, no_sub, one_sub, two_subs, IsDelay}
use Rattle.silage_syntax.specs.Grammar.{no_delay, delay}
use Rattle.silage_print.specs.Text.{symbol, word, number, bracketed, lit_text, truth_word, mode_text, fix_text}
use Rattle.silage_print.specs.Text.{manifest_text, subscripts_text, delay_text}
use Rattle.silage_print.proofs.Numbers.{whole_written, point_has_places}
use Rattle.silage_print.proofs.KindsAt.{AreAt, split, moved, IsWritten, AreWritten, no_kind, one_kind, joined}
use Rattle.silage_print.proofs.KindsAt.{enclosed_written, TokensWritten}
use Rattle.silage_print.proofs.ReadManifests.{ReadsManifest, GoodManifest, placed, as_manifest, good_manifest}
use Rattle.silage_print.proofs.ReadManifests.{good_amount}

-- Numbers.
number_is : (x : Option TokenKind) (d p : ℕ)
    → number_of x ≡ Some (d, p)
    → ((k : TokenKind) → x ≡ Some k → IsWritten k)
    → IsWritten (number d p)
number_is None d p e w = cc
number_is (Some (kind.Whole n)) d p e w =
    let pair : (n, 0) ≡ (d, p) = cc in
    let P : ℕ × ℕ → Type 0 = λ q. IsWritten (number q.0 q.1) in
    subst P pair (w (kind.Whole n) refl)
number_is (Some (kind.Point digits places)) d p e w =
    let pair : (digits, places) ≡ (d, p) = cc in
    let P : ℕ × ℕ → Type 0 = λ q. IsWritten (number q.0 q.1) in
    subst P pair (point_has_places digits places (w (kind.Point digits places) refl))
number_is (Some (kind.Name name)) d p e w = cc
number_is (Some (kind.Reserved n)) d p e w = cc
number_is (Some (kind.Symbol n)) d p e w = cc

pub number_written : (ts : List Token) → TokensWritten ts → (i d p : ℕ) → IsNumber ts i d p → IsWritten (number d p)
number_written ts w i d p e = number_is (kind_at ts i) d p e (λ k. w i k)

number_back : (d p : ℕ) (b : Bool) → nat_eq p 0 ≡ b → number_of (Some (number d p)) ≡ Some (d, p)
number_back d zero b e = refl
number_back d (suc p) true e = absurd (grind (arith, nat_tests))
number_back d (suc p) false e = ap (λ t. number_of (Some (if t then kind.Whole d else kind.Point d (suc p)))) e

pub number_read : (us : List Token) (i d p : ℕ) → kind_at us i ≡ Some (number d p) → IsNumber us i d p
number_read us i d p h = ap number_of h ∙ number_back d p (nat_eq p 0) refl

pub truth_read : {x : Option TokenKind} (b : Bool) → x ≡ Some (word (truth_word b)) → truth_of x ≡ Some b
truth_read true h = ap truth_of h
truth_read false h = ap truth_of h

pub truth_written : (b : Bool) → IsWritten (word (truth_word b))
truth_written true = refl
truth_written false = refl

-- a literal with a sign, that its tokens are read as
pub record GoodSigned (l : Lit) : Type 0 where
  pub written : AreWritten (lit_text l)
  pub reads : (us : List Token) (i j : ℕ)
      → AreAt us i (lit_text l) j
      → (m : Lit) × (unpositioned_lit m ≡ unpositioned_lit l) × IsSigned us i m j

signed_end : (us : List Token) (l : Lit) (i j k : ℕ)
    → j ≡ k
    → (m : Lit) × (unpositioned_lit m ≡ unpositioned_lit l) × IsSigned us i m j
    → (m : Lit) × (unpositioned_lit m ≡ unpositioned_lit l) × IsSigned us i m k
signed_end us l i j k e h =
    let P : ℕ → Type 0 = λ n. (m : Lit) × (unpositioned_lit m ≡ unpositioned_lit l) × IsSigned us i m n in subst P e h

pub good_signed : (ts : List Token) → TokensWritten ts → {i j : ℕ} {l : Lit} → IsSigned ts i l j → GoodSigned l
good_signed ts w (positive {i = i} {d = d} {p = p} e) = record {
  written = one_kind (number_written ts w i d p e) no_kind;
  reads = λ us k j s.
      signed_end us (Number false d p (from_at ts i)) k (k + 1) j s.1
      (Number false d p (from_at us k), refl, positive (number_read us k d p s.0));
}
good_signed ts w (negative {i = i} {d = d} {p = p} m e) = record {
  written = one_kind refl (one_kind (number_written ts w (i + 1) d p e) no_kind);
  reads = λ us k j s.
      let end = s.1.1 in
      signed_end us (Number true d p (from_at ts i)) k (k + 2) j (omega arith)
      (Number true d p (from_at us k), refl, negative s.0 (number_read us (k + 1) d p s.1.0));
}

-- Types.
pub record GoodFix (ty : FixType) : Type 0 where
  pub w : ty.shape.w ≤ 255
  pub f : ty.shape.f ≤ 255

good_fix_type : (w f : ℕ) (m : Mode) → GoodFix (fix_type w f m)
good_fix_type w f m = record { w = grind arith; f = grind arith }

pub good_fix : {ts : List Token} {i j : ℕ} {ty : FixType} → IsFix ts i ty j → GoodFix ty
good_fix (no_mode {w = w} {f = f} a b c d e g) = good_fix_type w f Trunc
good_fix (with_mode {w = w} {f = f} {m = m} a b c d e g h k) = good_fix_type w f m

mode_end : {us : List Token} {i j k : ℕ} {m : Mode} → j ≡ k → IsMode us i m j → IsMode us i m k
mode_end {us} {i} {m = m} e h = let P : ℕ → Type 0 = λ l. IsMode us i m l in subst P e h

mode_read : (us : List Token) (m : Mode) (i j : ℕ) → AreAt us i (mode_text m) j → IsMode us i m j
mode_read us Trunc i j s = mode_end s.1 (trunc s.0)
mode_read us Round i j s = mode_end s.1 (round s.0)
mode_read us Sat i j s = mode_end s.1 (sat s.0)
mode_read us RoundSat i j s =
    let last = moved us (i + 1 + 1) (i + 2) (Some (word keyword.SAT)) (omega arith) s.1.1.0 in
    let end : i + 3 ≡ j = let e = s.1.1.1 in omega arith in
    mode_end end (round_sat s.0 s.1.0 last)

mode_written : (m : Mode) → AreWritten (mode_text m)
mode_written Trunc = one_kind refl no_kind
mode_written Round = one_kind refl no_kind
mode_written Sat = one_kind refl no_kind
mode_written RoundSat = one_kind refl (one_kind refl (one_kind refl no_kind))

pub fix_written : (ty : FixType) → GoodFix ty → AreWritten (fix_text ty)
fix_written ty good =
    let w = good.w in
    let f = good.f in
    one_kind refl
    (one_kind refl
    (one_kind (whole_written ty.shape.w (omega arith))
    (one_kind refl (one_kind (whole_written ty.shape.f (omega arith)) (one_kind refl
    (joined (mode_written ty.mode) (one_kind refl no_kind)))))))

same_size : (n : ℕ) → n ≤ 255 → size n ≡ n
same_size n h = grind arith

pub fix_read : (us : List Token) (ty : FixType) → GoodFix ty → (i j : ℕ) → AreAt us i (fix_text ty) j → IsFix us i ty j
fix_read us ty good i j s =
    let w : size ty.shape.w ≡ ty.shape.w = same_size ty.shape.w good.w in
    let f : size ty.shape.f ≡ ty.shape.f = same_size ty.shape.f good.f in
    let type : fix_type ty.shape.w ty.shape.f ty.mode ≡ ty =
    ap (λ n. record { shape = record { w = n; f = size ty.shape.f }; mode = ty.mode }) w
    ∙ ap (λ n. record { shape = record { w = ty.shape.w; f = n }; mode = ty.mode }) f in
    let P : FixType → Type 0 = λ t. IsFix us i t j in
    let Q : ℕ → Type 0 = λ k. IsFix us i (fix_type ty.shape.w ty.shape.f ty.mode) k in
    let R : ℕ → Type 0 = λ k. AreAt us k (mode_text ty.mode ++ symbol punctuation.GREATER ∷ []) j in
    let t2 = s.1.1 in
    let t4 = t2.1.1 in
    let six : i + 1 + 1 + 1 + 1 + 1 + 1 ≡ i + 6 = omega arith in
    let t6 = subst R six t4.1.1 in
    let r = split us (mode_text ty.mode) (symbol punctuation.GREATER ∷ []) (i + 6) j t6 in
    let first = moved us (i + 1 + 1) (i + 2) (Some (kind.Whole ty.shape.w)) (omega arith) t2.0 in
    let comma = moved us (i + 1 + 1 + 1) (i + 3) (Some (symbol punctuation.COMMA)) (omega arith) t2.1.0 in
    let second = moved us (i + 1 + 1 + 1 + 1) (i + 4) (Some (kind.Whole ty.shape.f)) (omega arith) t4.0 in
    let comma_too = moved us (i + 1 + 1 + 1 + 1 + 1) (i + 5) (Some (symbol punctuation.COMMA)) (omega arith) t4.1.0 in
    let mode = mode_read us ty.mode (i + 6) r.0 r.1 in
    subst P type (subst Q r.2.1 (with_mode s.0 s.1.0 first comma second comma_too mode r.2.0))

-- Subscripts, delays.
pub data GoodSubs : List Manifest → Type 0 where
  scalar : GoodSubs []
  vector : {m : Manifest} → GoodManifest m → GoodSubs (m ∷ [])
  matrix : {m n : Manifest} → GoodManifest m → GoodManifest n → GoodSubs (m ∷ n ∷ [])

bracketed_written : {m : Manifest} → GoodManifest m → AreWritten (bracketed (manifest_text m))
bracketed_written g = one_kind refl (joined g.written (one_kind refl no_kind))

pub subs_written : {ms : List Manifest} → GoodSubs ms → AreWritten (subscripts_text ms)
subs_written scalar = no_kind
subs_written (vector g) = joined (bracketed_written g) no_kind
subs_written (matrix g h) = joined (bracketed_written g) (joined (bracketed_written h) no_kind)

-- a number in brackets
pub record ReadsBracketed (us : List Token) (m : Manifest) (i j : ℕ) : Type 0 where
  pub end : ℕ
  pub opens : IsPunctuation us i punctuation.LEFT_BRACKET
  pub kinds_at : AreAt us (i + 1) (manifest_text m) end
  pub inside : ReadsManifest us Manifest_ m (i + 1) end
  pub closes : IsPunctuation us end punctuation.RIGHT_BRACKET
  pub ends : end + 1 ≡ j

pub read_bracketed : (us : List Token) (m : Manifest)
    → GoodManifest m
    → (i j : ℕ)
    → AreAt us i (bracketed (manifest_text m)) j
    → ReadsBracketed us m i j
read_bracketed us m good i j s =
    let r = split us (manifest_text m) (symbol punctuation.RIGHT_BRACKET ∷ []) (i + 1) j s.1 in
    record {
      end = r.0;
      opens = s.0;
      kinds_at = r.1;
      inside = as_manifest m good us (i + 1) r.0 r.1;
      closes = r.2.0;
      ends = r.2.1;
    }

-- the second of two numbers in brackets begins where the first ends
pub record ReadsTwo (us : List Token) (m n : Manifest) (i j : ℕ) : Type 0 where
  pub middle : ℕ
  pub first : ReadsBracketed us m i middle
  pub second : ReadsBracketed us n (first.end + 1) j

pub read_two : (us : List Token) (m n : Manifest)
    → GoodManifest m
    → GoodManifest n
    → (i j : ℕ)
    → AreAt us i (subscripts_text (m ∷ n ∷ [])) j
    → ReadsTwo us m n i j
read_two us m n g h i j s =
    let r = split us (bracketed (manifest_text m)) (subscripts_text (n ∷ [])) i j s in
    let x = read_bracketed us m g i r.0 r.1 in
    let P : ℕ → Type 0 = λ l. AreAt us l (subscripts_text (n ∷ [])) j in
    let q = split us (bracketed (manifest_text n)) [] (x.end + 1) j (subst P (sym x.ends) r.2) in
    let Q : ℕ → Type 0 = λ l. ReadsBracketed us n (x.end + 1) l in
    record { middle = r.0; first = x; second = subst Q q.2 (read_bracketed us n h (x.end + 1) q.0 q.1) }

pub read_one : (us : List Token) (m : Manifest)
    → GoodManifest m
    → (i j : ℕ)
    → AreAt us i (subscripts_text (m ∷ [])) j
    → ReadsBracketed us m i j
read_one us m g i j s =
    let r = split us (bracketed (manifest_text m)) [] i j s in
    let Q : ℕ → Type 0 = λ l. ReadsBracketed us m i l in
    subst Q r.2 (read_bracketed us m g i r.0 r.1)

pub record ReadsSubs (us : List Token) (ms : List Manifest) (i j : ℕ) : Type 0 where
  pub trees : List Manifest
  pub same : map unpositioned_manifest trees ≡ map unpositioned_manifest ms
  pub reads : IsSubscripts us i trees j

subs_end : {us : List Token} {ms : List Manifest} {i j k : ℕ} → j ≡ k → ReadsSubs us ms i j → ReadsSubs us ms i k
subs_end {us} {ms} {i} {j} {k} e h = let P : ℕ → Type 0 = λ l. ReadsSubs us ms i l in subst P e h

pub subs_read : (us : List Token) (ms : List Manifest)
    → GoodSubs ms
    → (i j : ℕ)
    → AreAt us i (subscripts_text ms) j
    → ReadsSubs us ms i j
subs_read us ms scalar i j s = subs_end s (record { trees = []; same = refl; reads = no_sub })
subs_read us ms (vector {m = m} g) i j s =
    let x = read_one us m g i j s in
    subs_end x.ends
    (record {
      trees = x.inside.tree ∷ [];
      same = ap (λ t. t ∷ []) x.inside.same;
      reads = one_sub x.opens x.inside.reads x.closes;
    })
subs_read us ms (matrix {m = m} {n = n} g h) i j s =
    let r = read_two us m n g h i j s in
    let x = r.first in
    let y = r.second in
    let P : ℕ → Type 0 = λ l. IsManifest us Manifest_ l y.inside.tree y.end in
    let second : IsManifest us Manifest_ (x.end + 2) y.inside.tree y.end = subst P (omega arith) y.inside.reads in
    subs_end y.ends (record {
      trees = x.inside.tree ∷ y.inside.tree ∷ [];
      same =
          ap (λ t. t ∷ unpositioned_manifest y.inside.tree ∷ []) x.inside.same
          ∙ ap (λ t. unpositioned_manifest m ∷ t ∷ []) y.inside.same;
      reads = two_subs x.opens x.inside.reads x.closes y.opens second y.closes;
    })

pub good_subs : (ts : List Token)
    → TokensWritten ts
    → {i j : ℕ} {ms : List Manifest}
    → IsSubscripts ts i ms j
    → GoodSubs ms
good_subs ts w no_sub = scalar
good_subs ts w (one_sub a d b) = vector (good_manifest ts w d)
good_subs ts w (two_subs a d b c e f) = matrix (good_manifest ts w d) (good_manifest ts w e)

pub data GoodDelay : Option Manifest → Type 0 where
  now : GoodDelay None
  earlier : {m : Manifest} → GoodManifest m → GoodDelay (Some m)

pub good_delay : (ts : List Token) → TokensWritten ts → {i j : ℕ} {d : Option Manifest} → IsDelay ts i d j → GoodDelay d
good_delay ts w no_delay = now
good_delay ts w (delay m d) = earlier (good_amount ts w d)

pub delay_written : {d : Option Manifest} → GoodDelay d → AreWritten (delay_text d)
delay_written now = no_kind
delay_written (earlier g) = one_kind refl (enclosed_written _ g.written)

pub record ReadsDelay (us : List Token) (d : Option Manifest) (i j : ℕ) : Type 0 where
  pub tree : Option Manifest
  pub same : unpositioned_delay tree ≡ unpositioned_delay d
  pub reads : IsDelay us i tree j

pub delay_read : (us : List Token) (d : Option Manifest)
    → GoodDelay d
    → (i j : ℕ)
    → AreAt us i (delay_text d) j
    → ReadsDelay us d i j
delay_read us d now i j s =
    let P : ℕ → Type 0 = λ l. ReadsDelay us None i l in
    subst P s (record { tree = None; same = refl; reads = no_delay })
delay_read us d (earlier {m = m} g) i j s =
    let x = placed m g 7 (lit≤ tt) us (i + 1) j s.1 in
    record { tree = Some x.tree; same = ap (λ t. Some t) x.same; reads = delay s.0 x.reads }
