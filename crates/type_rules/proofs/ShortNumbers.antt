-- A program that was read from a source has numbers of at most 18 digits, of which one is before the point.
use Rattle.std.proofs.Common.{◌≡◌, ◌∙◌, refl, sym, ap, arith, ℕ, zero, suc, ◌+◌, ◌-◌, ◌*◌, ◌^◌, ◌≤◌, ◌<◌, true, false}
use Rattle.std.proofs.Common.{List, [], ◌∷◌, ◌++◌, length, slice_get, Option, Some}
use Rattle.std.specs.Prelude.{All, Bool, ◌&&◌, nat_le}
use Rattle.std.specs.List.{list_all}
use Rattle.std.proofs.Math.Nat.{mul-le-mul_right, mul_comm, mul_assoc, pow-suc}
use Rattle.std.proofs.lemmas.Bool.{leb-true}
use Rattle.std.proofs.lemmas.List.{length-append}
use Rattle.std.proofs.lemmas.List.Elements.{All-cons, All-nil}
use Rattle.lists.proofs.Bools.{both_true}
use Rattle.lists.proofs.Places.{some_once}
use Rattle.silage_lex.specs.Bytes.{is_digit}
use Rattle.silage_lex.specs.Texts.{IsText, IsWhole, IsPoint, decimal, decimal_after}
use Rattle.silage_lex.specs.Tokens.{Spaced, HasTokens}
use Rattle.silage_lex.specs.declared.Token.{Token}
use Rattle.silage_lex.specs.declared.TokenKind.{TokenKind}
use Rattle.silage_lex.specs.declared.TokenKind.TheVariants as kind
use Rattle.silage_lex.proofs.Numbers.{room_for, room_after, decimal-append}
use Rattle.silage_lex.proofs.TextLemmas.{digits_all, digit_count-digits, digit_count-pointed, digits_some}
use Rattle.silage_syntax.specs.declared.tree.Lit.{Lit}
use Rattle.silage_syntax.specs.Grammar as g
use Rattle.silage_syntax.specs.Grammar.{kind_of, number_of, ExprRule, Chain, Rest, Comparison, Shift, Shifts, Unary}
use Rattle.silage_syntax.specs.Grammar.{Primary, Arms, Level, Or, And, Sum, Product, part, IsList, IsSigned, IsExpr}
use Rattle.silage_syntax.specs.Grammar.{IsArguments, IsInitialValue, IsItem, IsItems, IsWords, IsTop, IsTops, Role}
use Rattle.silage_syntax.specs.Grammar.{Derives}
use Rattle.silage_syntax.specs.Tree.{Expr, Item, Items, Top, Program}
use Rattle.type_rules.specs.Numbers.{IsShort, HasShortNumbers, IsItemShort, AreItemsShort, IsTopShort}
use Rattle.type_rules.specs.Numbers.{AreNumbersShort}

grows : (n m k v : ℕ) → m + 1 ≤ (n + 1) * 10 → v ≤ (m + 1) * 10 ^ k → v ≤ (n + 1) * 10 ^ suc k
grows n m k v h g =
    let step : (m + 1) * 10 ^ k ≤ (n + 1) * 10 * 10 ^ k = mul-le-mul_right (10 ^ k) h in
    let same : (n + 1) * 10 ^ suc k ≡ (n + 1) * 10 * 10 ^ k =
    ap (λ (x : ℕ). (n + 1) * x) (pow-suc 10 k ∙ mul_comm (10 ^ k) 10) ∙ sym (mul_assoc (n + 1) 10 (10 ^ k)) in
    omega (arith, step, same)

-- so many digits behind a number
digits_bound : (n : ℕ) (ds : List ℕ) → list_all is_digit ds ≡ true → decimal_after n ds + 1 ≤ (n + 1) * 10 ^ length ds
digits_bound n [] h = omega arith
digits_bound n (b ∷ bs) h =
    let both = both_true (is_digit b) (list_all is_digit bs) h in
    let low : b ≤ 57 = leb-true _ _ (both_true (nat_le 48 b) (nat_le b 57) both.0).1 in
    grows n (10 * n + (b - 48)) (length bs) (decimal_after (10 * n + (b - 48)) bs + 1) (omega arith)
    (digits_bound (10 * n + (b - 48)) bs both.1)

abbrev IsShortNumber : ℕ → ℕ → Type 0
IsShortNumber digits places = (digits < 10 ^ 18) × (places ≤ 17)

whole_short : (value : ℕ) (text : List ℕ) → IsWhole value text → value < 10 ^ 18
whole_short value text h =
    let all = digits_all text h.digits in
    let size = digit_count-digits text all in
    let short = h.short in
    let few : length text ≤ 18 = omega arith in
    let bound = digits_bound 0 text all in
    let room = room_for (length text) few in
    let is = h.value_is in
    omega (arith, bound, room, is)

point_short : (digits places : ℕ) (text : List ℕ) → IsPoint digits places text → IsShortNumber digits places
point_short digits places text h =
    let whole_all = digits_all h.whole h.pointed.whole_digits in
    let fraction_all = digits_all h.fraction h.pointed.fraction_digits in
    let count = digit_count-pointed h.whole h.fraction text h.pointed in
    let sizes = length-append h.whole (46 ∷ h.fraction) in
    let size : length text ≡ length (h.whole ++ 46 ∷ h.fraction) = ap (length {A = ℕ}) h.pointed.shape in
    let short = h.short in
    let some = digits_some h.whole h.pointed.whole_digits in
    let few : length h.whole + length h.fraction ≤ 18 = omega (arith, count, sizes, size, short) in
    let front = digits_bound 0 h.whole whole_all in
    let back = digits_bound (decimal h.whole) h.fraction fraction_all in
    let room = room_after (decimal h.whole) (length h.whole) (length h.fraction) front few in
    let value = decimal-append (decimal h.whole) h.whole h.fraction refl in
    let is = h.digits_are in
    let places_are = h.places_are in
    (omega (arith, back, room, value, is), omega (arith, few, some, places_are))

pair_first : (a b c d : ℕ) → ◌≡◌ {A = Option (ℕ × ℕ)} (Some (a, b)) (Some (c, d)) → a ≡ c
pair_first a b c d e = ap (λ (x : ℕ × ℕ). x.0) (some_once refl e)

pair_second : (a b c d : ℕ) → ◌≡◌ {A = Option (ℕ × ℕ)} (Some (a, b)) (Some (c, d)) → b ≡ d
pair_second a b c d e = ap (λ (x : ℕ × ℕ). x.1) (some_once refl e)

kind_short : (k : TokenKind) (text : List ℕ)
    → IsText k text
    → (d p : ℕ)
    → number_of (Some k) ≡ Some (d, p)
    → IsShortNumber d p
kind_short (kind.Name name) text h d p e = absurd (cc)
kind_short (kind.Whole value) text h d p e =
    let low = whole_short value text h in
    let first = pair_first value 0 d p e in
    let second = pair_second value 0 d p e in
    (omega (arith, low, first), omega (arith, second))
kind_short (kind.Point digits places) text h d p e =
    let low = point_short digits places text h in
    let first = pair_first digits places d p e in
    let second = pair_second digits places d p e in
    (omega (arith, low.0, first), omega (arith, low.1, second))
kind_short (kind.Reserved n) text h d p e = absurd (cc)
kind_short (kind.Symbol n) text h d p e = absurd (cc)

-- each number among the tokens is short
abbrev AreShortTokens : List Token → Type 0
AreShortTokens ts = (i d p : ℕ) → number_of (kind_of (slice_get ts i)) ≡ Some (d, p) → IsShortNumber d p

spaced_short : (bytes : List ℕ) (from : ℕ) (ts : List Token) (to : ℕ) → Spaced bytes from ts to → AreShortTokens ts
spaced_short bytes from [] to h i d p e = absurd (cc)
spaced_short bytes from (t ∷ ts) to (gap, is, rest) zero d p e = kind_short t.kind _ is.span.text d p e
spaced_short bytes from (t ∷ ts) to (gap, is, rest) (suc i) d p e = spaced_short bytes t.to ts to rest i d p e

module _ (ts : List Token) (short : AreShortTokens ts) where
  signed_short : (i : ℕ) (l : Lit) (j : ℕ) → IsSigned ts i l j → IsShort l
  signed_short i l j (g.positive {d = d} {p = p} a) = short i d p a
  signed_short i l j (g.negative {d = d} {p = p} a b) = short (i + 1) d p b

  -- what a chain continues from is short
  abbrev Before : ExprRule → Type 0
  Before (Rest l a) = HasShortNumbers a
  Before (Shifts a) = HasShortNumbers a
  Before _ = Unit {0}

  before_part : (l : Level) → Before (part l)
  before_part Or = tt
  before_part And = tt
  before_part Sum = tt
  before_part Product = tt

  expr_short : (r : ExprRule) (i : ℕ) (e : Expr) (j : ℕ) → IsExpr ts r i e j → Before r → HasShortNumbers e
  expr_short r i e j (g.chain {l = l} a b) h = expr_short _ _ _ _ b (expr_short _ _ _ _ a (before_part l))
  expr_short r i e j g.no_more h = h
  expr_short r i e j (g.one_more {l = l} o a b) h = expr_short _ _ _ _ b (h, expr_short _ _ _ _ a (before_part l))
  expr_short r i e j (g.no_comparison a) h = expr_short _ _ _ _ a tt
  expr_short r i e j (g.comparison_of a o b) h = (expr_short _ _ _ _ a tt, expr_short _ _ _ _ b tt)
  expr_short r i e j (g.shifts a b) h = expr_short _ _ _ _ b (expr_short _ _ _ _ a tt)
  expr_short r i e j g.no_shift h = h
  expr_short r i e j (g.one_shift o m a) h = expr_short _ _ _ _ a h
  expr_short r i e j (g.negative_number {d = d} {p = p} a b) h = short _ d p b
  expr_short r i e j (g.negated o n a) h = expr_short _ _ _ _ a tt
  expr_short r i e j (g.denied o a) h = expr_short _ _ _ _ a tt
  expr_short r i e j (g.primary a) h = expr_short _ _ _ _ a tt
  expr_short r i e j (g.number {d = d} {p = p} a) h = short _ d p a
  expr_short r i e j (g.truth a) h = tt
  expr_short r i e j (g.place n s d) h = tt
  expr_short r i e j (g.cast_of f o a c) h = expr_short _ _ _ _ a tt
  expr_short r i e j (g.paren o a c) h = expr_short _ _ _ _ a tt
  expr_short r i e j (g.choice o a b c d) h =
      let rest = expr_short _ _ _ _ d tt in
      ((expr_short _ _ _ _ a tt, expr_short _ _ _ _ c tt, rest.0), rest.1)
  expr_short r i e j (g.one_arm o a b c d) h =
      let rest = expr_short _ _ _ _ d tt in
      ((expr_short _ _ _ _ a tt, expr_short _ _ _ _ c tt, rest.0), rest.1)
  expr_short r i e j (g.last_arm o a c) h = (tt, expr_short _ _ _ _ a tt)

  args_short : (i : ℕ) (es : List Expr) (rs : List Role) (j : ℕ) → IsArguments ts i es rs j → All HasShortNumbers es
  args_short i es rs j (g.last_arg a) =
      All-cons HasShortNumbers _ [] (expr_short _ _ _ _ a tt) (All-nil HasShortNumbers)
  args_short i es rs j (g.more_args a c b) =
      All-cons HasShortNumbers _ _ (expr_short _ _ _ _ a tt) (args_short _ _ _ _ b)

  initial_short : (i : ℕ) (l : Lit) (j : ℕ) → IsInitialValue ts i l j → IsShort l
  initial_short i l j (g.signed a) = signed_short _ _ _ a
  initial_short i l j (g.truth_value a) = tt

  mutual
    item_short : (i : ℕ) (x : Item) (rs : List Role) (j : ℕ) → IsItem ts i x rs j → IsItemShort x
    item_short i x rs j (g.is_equation p d e s) = expr_short _ _ _ _ e tt
    item_short i x rs j (g.is_call p d n o a c s) = args_short _ _ _ _ a
    item_short i x rs j (g.is_calls o p c d n u a v s) = args_short _ _ _ _ a
    item_short i x rs j (g.is_loop o n c lo t hi u v b xs e s) = items_short _ _ _ _ xs
    item_short i x rs j (g.is_initial p o a d v s) = initial_short _ _ _ v

    items_short : (i : ℕ) (xs : Items) (rs : List Role) (j : ℕ) → IsItems ts i xs rs j → AreItemsShort xs
    items_short i xs rs j g.no_items = tt
    items_short i xs rs j (g.one_item a b) = (item_short _ _ _ _ a, items_short _ _ _ _ b)

  list_short : (i : ℕ) (ls : List Lit) (j : ℕ) → IsList ts Lit (IsSigned ts) i ls j → All IsShort ls
  list_short i ls j (g.last a) = All-cons IsShort _ [] (signed_short _ _ _ a) (All-nil IsShort)
  list_short i ls j (g.more a c rest) = All-cons IsShort _ _ (signed_short _ _ _ a) (list_short _ _ _ rest)

  words_short : (i : ℕ) (ls : List Lit) (j : ℕ) → IsWords ts i ls j → All IsShort ls
  words_short i ls j (g.one_word a) = All-cons IsShort _ [] (signed_short _ _ _ a) (All-nil IsShort)
  words_short i ls j (g.words a b c) = list_short _ _ _ b

  top_short : (i : ℕ) (t : Top) (rs : List Role) (j : ℕ) → IsTop ts i t rs j → IsTopShort t
  top_short i t rs j (g.is_table a b c d e h k) = words_short _ _ _ h
  top_short i t rs j (g.is_function a b c d e h k l m n o p) = items_short _ _ _ _ n

  tops_short : (i : ℕ) (tops : List Top) (rs : List Role) (j : ℕ) → IsTops ts i tops rs j → All IsTopShort tops
  tops_short i tops rs j g.no_tops = All-nil IsTopShort
  tops_short i tops rs j (g.one_top a rest) = All-cons IsTopShort _ _ (top_short _ _ _ _ a) (tops_short _ _ _ _ rest)

-- the numbers of each program that a source is are short
pub short_numbers : (bytes : List ℕ) (ts : List Token) (program : Program)
    → HasTokens bytes ts
    → Derives ts program
    → AreNumbersShort program
short_numbers bytes ts program tokens (roles, h) =
    tops_short ts (spaced_short bytes 0 ts (length bytes) tokens) 0 program.tops roles (length ts) h
