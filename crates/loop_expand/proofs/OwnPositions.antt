-- In a program that was read from a source, each call has a position of its own.
use Rattle.std.proofs.Common.{◌≡◌, refl, sym, subst, ◌∙◌, ap, arith, ℕ, zero, suc, ◌+◌, ◌<◌, ◌≤◌, inl, inr, List, []}
use Rattle.std.proofs.Common.{◌∷◌, ◌++◌, length, slice_get, Option, Some, None}
use Rattle.lists.proofs.Places.{some_once, at_append}
use Rattle.silage_lex.specs.Tokens.{HasTokens}
use Rattle.silage_lex.specs.declared.Token.{Token}
use Rattle.silage_lex.specs.declared.TokenKind.TheVariants as kind
use Rattle.silage_syntax.specs.Grammar as g
use Rattle.silage_syntax.specs.Grammar.{kind_of, from_of, from_at, IsName, Role, IsItem, IsItems, IsTops, Derives}
use Rattle.silage_syntax.specs.Tree.{Item, Items, no_item, Func, Top, table, function, Program}
use Rattle.silage_syntax.proofs.Rising.{target_rises, targets_rise, args_rise, manifest_rises, item_rises, items_rise}
use Rattle.silage_meaning.proofs.Apart.{AreRising, tokens_rise}
use Rattle.element_rules.specs.CallPositions.{calls_of, calls_in, AreDistinct, HasOwnPositions}

abbrev top_items : Top → Items
top_items (table c) = no_item
top_items (function h) = h.items

module _ (ts : List Token) where
  -- a position at which one of the tokens i to j - 1 begins
  record IsWithin (i j at : ℕ) : Type 0 where
    number : ℕ
    token : Token
    low : i ≤ number
    high : number < j
    found : slice_get ts number ≡ Some token
    begins : at ≡ token.from

  name_within : (i k j : ℕ) (f : List ℕ) → IsName ts k f → i ≤ k → k < j → IsWithin i j (from_at ts k)
  name_within i k j f named low high = go (slice_get ts k) refl
    where
      go : (o : Option Token) → slice_get ts k ≡ o → IsWithin i j (from_at ts k)
      go None h = let none : None ≡ Some (kind.Name f) = ap kind_of (sym h) ∙ named in absurd (cc none)
      go (Some t) h = record { number = k; token = t; low = low; high = high; found = h; begins = ap from_of h }

  wider : (i j k m at : ℕ) → k ≤ i → j ≤ m → IsWithin i j at → IsWithin k m at
  wider i j k m at a b is = record {
    number = is.number;
    token = is.token;
    low = omega (arith, is.low);
    high = omega (arith, is.high);
    found = is.found;
    begins = is.begins;
  }

  -- positions of tokens from i up to j, of which no two are the same
  record Spread (i j : ℕ) (xs : List ℕ) : Type 0 where
    within : (n x : ℕ) → slice_get xs n ≡ Some x → IsWithin i j x
    distinct : AreDistinct xs

  none_spread : (i j : ℕ) → Spread i j []
  none_spread i j = record { within = λ n x e. absurd (cc e); distinct = λ n m x e f. absurd (cc e) }

  one_spread : (i j x : ℕ) → IsWithin i j x → Spread i j (x ∷ [])
  one_spread i j x is = record { within = within; distinct = distinct }
    where
      within : (n y : ℕ) → slice_get (x ∷ []) n ≡ Some y → IsWithin i j y
      within zero y e = subst (IsWithin i j) (some_once refl e) is
      within (suc n) y e = absurd (cc e)

      distinct : AreDistinct (x ∷ [])
      distinct zero zero y e f = refl
      distinct zero (suc m) y e f = absurd (cc f)
      distinct (suc n) m y e f = absurd (cc e)

  module _ (rising : AreRising ts) where
    apart : (i j k at : ℕ) → IsWithin i j at → IsWithin j k at → ⊥
    apart i j k at x y =
        let less : x.token.from < y.token.from =
        rising x.number y.number x.token y.token x.found y.found (omega (arith, x.high, y.low)) in
        omega (arith, less, x.begins, y.begins)

    both_spread : (i j k : ℕ) (xs ys : List ℕ) → i ≤ j → j ≤ k → Spread i j xs → Spread j k ys → Spread i k (xs ++ ys)
    both_spread i j k xs ys low high a b = record { within = within; distinct = distinct }
      where
        within : (n x : ℕ) → slice_get (xs ++ ys) n ≡ Some x → IsWithin i k x
        within n x e = elim (at_append xs ys n x e) [
          | inl l ↦ wider i j i k x (omega arith) high (a.within n x l)
          | inr r ↦ wider j k i k x low (omega arith) (b.within r.0 x r.2)
        ]

        distinct : AreDistinct (xs ++ ys)
        distinct n m x e f = elim (at_append xs ys n x e) [
          | inl l ↦ elim (at_append xs ys m x f) [
            | inl other ↦ a.distinct n m x l other
            | inr other ↦ absurd (apart i j k x (a.within n x l) (b.within other.0 x other.2))
          ]
          | inr r ↦ elim (at_append xs ys m x f) [
            | inl other ↦ absurd (apart i j k x (a.within m x other) (b.within r.0 x r.2))
            | inr other ↦
                let same = b.distinct r.0 other.0 x r.2 other.2 in let p = r.1 in let q = other.1 in omega arith
          ]
        ]

    wider_spread : (i j k m : ℕ) (xs : List ℕ) → k ≤ i → j ≤ m → Spread i j xs → Spread k m xs
    wider_spread i j k m xs low high a =
        record { within = λ n x e. wider i j k m x low high (a.within n x e); distinct = a.distinct }

    mutual
      item_spread : (i : ℕ) (y : Item) (rs : List Role) (j : ℕ) → IsItem ts i y rs j → Spread i j (calls_of y)
      item_spread i y rs j (g.is_equation _ _ _ _) = none_spread i j
      item_spread i y rs j (g.is_call p d n o a c s) =
          one_spread i j _
          (name_within i _ j _ n (omega (arith, target_rises ts _ _ _ _ p)) (omega (arith, args_rise ts _ _ _ _ a)))
      item_spread i y rs j (g.is_calls o p c d n u a v s) =
          one_spread i j _
          (name_within i _ j _ n (omega (arith, targets_rise ts _ _ _ _ p)) (omega (arith, args_rise ts _ _ _ _ a)))
      item_spread i y rs j (g.is_loop {j = l} {k = k} {m = m} o n c lo t hi u v b body e s) =
          wider_spread (k + 3) m i j _ (omega (arith, manifest_rises ts _ _ _ _ lo, manifest_rises ts _ _ _ _ hi))
          (omega arith) (items_spread _ _ _ _ body)
      item_spread i y rs j (g.is_initial _ _ _ _ _ _) = none_spread i j

      items_spread : (i : ℕ) (ys : Items) (rs : List Role) (j : ℕ) → IsItems ts i ys rs j → Spread i j (calls_in ys)
      items_spread i ys rs j g.no_items = none_spread i j
      items_spread i ys rs j (g.one_item {j = k} first rest) =
          both_spread i k j _ _ (omega (arith, item_rises ts _ _ _ _ first)) (items_rise ts _ _ _ _ rest)
          (item_spread _ _ _ _ first) (items_spread _ _ _ _ rest)

    tops_distinct : (tops : List Top) (i : ℕ) (rs : List Role) (j : ℕ)
        → IsTops ts i tops rs j
        → (k : ℕ) (f : Func)
        → slice_get tops k ≡ Some (function f)
        → AreDistinct (calls_in f.items)
    tops_distinct tops i rs j g.no_tops k f e = absurd (cc e)
    tops_distinct tops i rs j (g.one_top {rest = others} first rest) (suc k) f e = tops_distinct others _ _ _ rest k f e
    tops_distinct tops i rs j (g.one_top (g.is_table _ _ _ _ _ _ _) rest) zero f e = absurd (cc e)
    tops_distinct tops i rs j
        (g.one_top
        (g.is_function {m = m} {n = n} {name = name} {ps = ps} {rs = results} {ls = locals} {xs = body} {qs = qs} _ _ _
        _ _ _ _ _ _ is _ _) rest) zero f e =
        let same : body ≡ f.items = ap top_items (some_once refl e) in
        subst (λ (z : Items). AreDistinct (calls_in z)) same (items_spread m body qs n is).distinct

-- each call of a program that was read from a source has a position of its own
pub own_positions : (bytes : List ℕ) (ts : List Token) (p : Program)
    → HasTokens bytes ts
    → Derives ts p
    → HasOwnPositions p
own_positions bytes ts p tokens (rs, is) k f e =
    tops_distinct ts (tokens_rise bytes ts tokens) p.tops 0 rs (length ts) is k f e
