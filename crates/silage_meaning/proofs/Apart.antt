-- In a program that was read from a source, one position in the same turns of the loops around it is one call.
use Rattle.std.proofs.Common.{◌≡◌, refl, sym, subst, ◌∙◌, ap, arith, ℕ, zero, suc, ◌+◌, ◌≤◌, ◌<◌, inl, inr, Bool, true}
use Rattle.std.proofs.Common.{false, cond, List, [], ◌∷◌, ◌++◌, append_assoc, length, find, filter_map, slice_get}
use Rattle.std.proofs.Common.{Option, Some, None, ℤ}
use Rattle.std.proofs.lemmas.List.{map-append}
use Rattle.lists.proofs.Places.{some_once}
use Rattle.silage_lex.specs.Tokens.{Gap, none, blank, comment, Spaced, HasTokens}
use Rattle.silage_lex.specs.declared.Token.{Token}
use Rattle.silage_syntax.specs.Grammar as g
use Rattle.silage_lex.specs.declared.TokenKind.TheVariants as kind
use Rattle.silage_syntax.specs.Grammar.{kind_of, from_of, from_at, IsName, Role, IsItem, IsItems, IsTop, IsTops}
use Rattle.silage_syntax.specs.Grammar.{Derives}
use Rattle.silage_syntax.specs.Tree.{Manifest, Place, Expr, Item, equation, call, loop, initial, Items, no_item, item}
use Rattle.silage_syntax.specs.Tree.{Func, Top, Program}
use Rattle.silage_syntax.specs.Manifests.{Indices}
use Rattle.silage_syntax.specs.Names.{as_function}
use Rattle.silage_meaning.specs.Instances.{Instance, Occurs, OccursIn, turns_of, IsInstance, main_is, inside_is}
use Rattle.silage_meaning.specs.Instances.{AreCallsApart, HasCallsApart}
use Rattle.silage_syntax.proofs.Rising.{target_rises, targets_rise, args_rise, manifest_rises, item_rises, items_rise}

-- the tokens begin one after another
abbrev pub AreRising : List Token → Type 0
AreRising ts = (i j : ℕ) (t u : Token) → slice_get ts i ≡ Some t → slice_get ts j ≡ Some u → i < j → t.from < u.from

gap_rises : (bytes : List ℕ) (i j : ℕ) → Gap bytes i j → i ≤ j
gap_rises bytes i j none = omega arith
gap_rises bytes i j (blank is rest) = omega (arith, gap_rises bytes _ j rest)
gap_rises bytes i j (comment is rest) = omega (arith, gap_rises bytes _ j rest, is.behind, is.ends)

spaced_from : (bytes : List ℕ) (from : ℕ) (ts : List Token) (to : ℕ)
    → Spaced bytes from ts to
    → (i : ℕ) (t : Token)
    → slice_get ts i ≡ Some t
    → from ≤ t.from
spaced_from bytes from [] to h i t e = cc
spaced_from bytes from (u ∷ ts) to (gap, is, rest) zero t e =
    let same : u.from ≡ t.from = ap (λ (x : Token). x.from) (some_once refl e) in
    omega (arith, gap_rises bytes from u.from gap, same)
spaced_from bytes from (u ∷ ts) to (gap, is, rest) (suc i) t e =
    omega (arith, gap_rises bytes from u.from gap, is.span.rises, spaced_from bytes u.to ts to rest i t e)

spaced_rising : (bytes : List ℕ) (from : ℕ) (ts : List Token) (to : ℕ) → Spaced bytes from ts to → AreRising ts
spaced_rising bytes from [] to h i j t u e f below = cc
spaced_rising bytes from (v ∷ ts) to (gap, is, rest) zero zero t u e f below = absurd (omega (arith, below))
spaced_rising bytes from (v ∷ ts) to (gap, is, rest) zero (suc j) t u e f below =
    let same : v.from ≡ t.from = ap (λ (x : Token). x.from) (some_once refl e) in
    omega (arith, same, is.span.rises, spaced_from bytes v.to ts to rest j u f)
spaced_rising bytes from (v ∷ ts) to (gap, is, rest) (suc i) zero t u e f below = absurd (omega (arith, below))
spaced_rising bytes from (v ∷ ts) to (gap, is, rest) (suc i) (suc j) t u e f below =
    spaced_rising bytes v.to ts to rest i j t u e f (omega (arith, below))

pub tokens_rise : (bytes : List ℕ) (ts : List Token) → HasTokens bytes ts → AreRising ts
tokens_rise bytes ts h = spaced_rising bytes 0 ts (length bytes) h

-- The indices around an item inside loops continue those outside.
cancel : (xs ys zs : List ℤ) (a b : ℤ) → xs ++ (a ∷ ys) ≡ xs ++ (b ∷ zs) → a ≡ b
cancel [] ys zs a b e = cc
cancel (x ∷ xs) ys zs a b e = let rest : xs ++ (a ∷ ys) ≡ xs ++ (b ∷ zs) = cc in cancel xs ys zs a b rest

append_none : (xs : Indices) → xs ≡ xs ++ []
append_none [] = refl
append_none (x ∷ xs) = ap (λ (l : Indices). x ∷ l) (append_none xs)

abbrev GoesOn : Indices → Indices → Type 0
GoesOn outer indices = (more : Indices) × (indices ≡ outer ++ more)

one_more : (outer indices : Indices) (index : List ℕ × ℤ)
    → GoesOn (outer ++ index ∷ []) indices
    → (more : Indices) × (indices ≡ outer ++ (index ∷ more))
one_more outer indices index (more, e) = (more, e ∙ append_assoc outer (index ∷ []) more)

mutual
  goes_on : (xs : Items) (outer : Indices) (x : Item) (indices : Indices)
      → Occurs xs outer x indices
      → GoesOn outer indices
  goes_on no_item outer x indices h = absurd h
  goes_on (item y rest) outer x indices (inl h) = goes_on_in y outer x indices h
  goes_on (item y rest) outer x indices (inr h) = goes_on rest outer x indices h

  goes_on_in : (y : Item) (outer : Indices) (x : Item) (indices : Indices)
      → OccursIn y outer x indices
      → GoesOn outer indices
  goes_on_in (equation p e) outer x indices h = ([], h.1 ∙ append_none outer)
  goes_on_in (call ps f es at) outer x indices h = ([], h.1 ∙ append_none outer)
  goes_on_in (loop name lo hi items at) outer x indices (turn, is, h) =
      let (more, e) = one_more outer indices (name, turn) (goes_on items (outer ++ (name, turn) ∷ []) x indices h) in
      ((name, turn) ∷ more, e)
  goes_on_in (initial p k l) outer x indices h = ([], h.1 ∙ append_none outer)

no_equation : (ps : List Place) (f : List ℕ) (xs : List Expr) (at : ℕ) (p : Place) (x : Expr)
    → call ps f xs at ≡ equation p x
    → ⊥
no_equation ps f xs at p x e = cc

no_initial : (ps : List Place) (f : List ℕ) (xs : List Expr) (at : ℕ) (p : Place) (k : Manifest) (l : _)
    → call ps f xs at ≡ initial p k l
    → ⊥
no_initial ps f xs at p k l e = cc

same_at : (ps qs : List Place) (f h : List ℕ) (xs ys : List Expr) (i j : ℕ) → call ps f xs i ≡ call qs h ys j → i ≡ j
same_at ps qs f h xs ys i j e = cc

module _ (ts : List Token) where
  -- a position at which one of the tokens i to j - 1 begins
  record IsWithin (i j at : ℕ) : Type 0 where
    number : ℕ
    token : Token
    low : i ≤ number
    high : number < j
    found : slice_get ts number ≡ Some token
    begins : at ≡ token.from

  name_within : (i k j : ℕ) (f : List ℕ) (at : ℕ) → IsName ts k f → i ≤ k → k < j → at ≡ from_at ts k → IsWithin i j at
  name_within i k j f at named low high e = go (slice_get ts k) refl
    where
      go : (o : Option Token) → slice_get ts k ≡ o → IsWithin i j at
      go None h = let none : None ≡ Some (kind.Name f) = ap kind_of (sym h) ∙ named in absurd (cc none)
      go (Some t) h = record { number = k; token = t; low = low; high = high; found = h; begins = e ∙ ap from_of h }

  wider : (i j k m at : ℕ) → k ≤ i → j ≤ m → IsWithin i j at → IsWithin k m at
  wider i j k m at a b is = record {
    number = is.number;
    token = is.token;
    low = omega (arith, is.low);
    high = omega (arith, is.high);
    found = is.found;
    begins = is.begins;
  }

  mutual
    item_within : (i : ℕ) (y : Item) (rs : List Role) (j : ℕ)
        → IsItem ts i y rs j
        → (outer : Indices) (ps : List Place) (f : List ℕ) (xs : List Expr) (at : ℕ) (indices : Indices)
        → OccursIn y outer (call ps f xs at) indices
        → IsWithin i j at
    item_within i y rs j (g.is_equation _ _ _ _) outer ps f xs at indices h = absurd (no_equation _ _ _ _ _ _ h.0)
    item_within i y rs j (g.is_call p d n o a c s) outer ps f xs at indices h =
        name_within i _ j _ at n (omega (arith, target_rises ts _ _ _ _ p)) (omega (arith, args_rise ts _ _ _ _ a))
        (same_at _ _ _ _ _ _ _ _ h.0)
    item_within i y rs j (g.is_calls o p c d n u a v s) outer ps f xs at indices h =
        name_within i _ j _ at n (omega (arith, targets_rise ts _ _ _ _ p)) (omega (arith, args_rise ts _ _ _ _ a))
        (same_at _ _ _ _ _ _ _ _ h.0)
    item_within i y rs j (g.is_loop {j = l} {k = k} {m = m} o n c lo t hi u v b body e s) outer ps f xs at indices
        (turn, _, h) =
        wider (k + 3) m i j at (omega (arith, manifest_rises ts _ _ _ _ lo, manifest_rises ts _ _ _ _ hi)) (omega arith)
        (items_within _ _ _ _ body _ ps f xs at indices h)
    item_within i y rs j (g.is_initial _ _ _ _ _ _) outer ps f xs at indices h = absurd (no_initial _ _ _ _ _ _ _ h.0)

    items_within : (i : ℕ) (ys : Items) (rs : List Role) (j : ℕ)
        → IsItems ts i ys rs j
        → (outer : Indices) (ps : List Place) (f : List ℕ) (xs : List Expr) (at : ℕ) (indices : Indices)
        → Occurs ys outer (call ps f xs at) indices
        → IsWithin i j at
    items_within i ys rs j g.no_items outer ps f xs at indices h = absurd h
    items_within i ys rs j (g.one_item {j = k} first rest) outer ps f xs at indices (inl h) =
        wider i k i j at (omega arith) (items_rise ts _ _ _ _ rest)
        (item_within _ _ _ _ first outer ps f xs at indices h)
    items_within i ys rs j (g.one_item {j = k} first rest) outer ps f xs at indices (inr h) =
        wider k j i j at (omega (arith, item_rises ts _ _ _ _ first)) (omega arith)
        (items_within _ _ _ _ rest outer ps f xs at indices h)

  module _ (rising : AreRising ts) where
    apart_within : (i j k at : ℕ) → IsWithin i j at → IsWithin j k at → ⊥
    apart_within i j k at x y =
        let below : x.token.from < y.token.from =
        rising x.number y.number x.token y.token x.found y.found (omega (arith, x.high, y.low)) in
        omega (arith, below, x.begins, y.begins)

    same_turn : (outer a b : Indices) (index : List ℕ) (t u : ℤ)
        → GoesOn (outer ++ (index, t) ∷ []) a
        → GoesOn (outer ++ (index, u) ∷ []) b
        → turns_of a ≡ turns_of b
        → t ≡ u
    same_turn outer a b index t u x y e =
        let (more, a_is) = one_more outer a (index, t) x in
        let (less, b_is) = one_more outer b (index, u) y in
        cancel (turns_of outer) (turns_of more) (turns_of less) t u
        (sym (map-append _ outer ((index, t) ∷ more)) ∙ ap turns_of (sym a_is) ∙ e ∙ ap turns_of b_is
        ∙ map-append _ outer ((index, u) ∷ less))

    -- two calls with one `at` in the same turns are one
    abbrev OneCall : List Place → List Place → List ℕ → List ℕ → List Expr → List Expr → ℕ → Indices → Indices → Type 0
    OneCall ps qs f h xs ys at a b = (call ps f xs at ≡ call qs h ys at) × (a ≡ b)

    mutual
      item_apart : (i : ℕ) (y : Item) (rs : List Role) (j : ℕ)
          → IsItem ts i y rs j
          → (outer : Indices) (ps qs : List Place) (f h : List ℕ) (xs zs : List Expr) (at : ℕ) (a b : Indices)
          → OccursIn y outer (call ps f xs at) a
          → OccursIn y outer (call qs h zs at) b
          → turns_of a ≡ turns_of b
          → OneCall ps qs f h xs zs at a b
      item_apart i y rs j (g.is_equation _ _ _ _) outer ps qs f h xs zs at a b u v e =
          absurd (no_equation _ _ _ _ _ _ u.0)
      item_apart i y rs j (g.is_call _ _ _ _ _ _ _) outer ps qs f h xs zs at a b u v e = (u.0 ∙ sym v.0, u.1 ∙ sym v.1)
      item_apart i y rs j (g.is_calls _ _ _ _ _ _ _ _ _) outer ps qs f h xs zs at a b u v e =
          (u.0 ∙ sym v.0, u.1 ∙ sym v.1)
      item_apart i y rs j (g.is_loop {name = name} {xs = body} _ _ _ _ _ _ _ _ _ is _ _) outer ps qs f h xs zs at a b
          (t, _, u) (r, _, v) e =
          let same : t ≡ r = same_turn outer a b name t r (goes_on body _ _ a u) (goes_on body _ _ b v) e in
          items_apart _ body _ _ is (outer ++ (name, t) ∷ []) ps qs f h xs zs at a b u
          (subst (λ (z : ℤ). Occurs body (outer ++ (name, z) ∷ []) (call qs h zs at) b) (sym same) v) e
      item_apart i y rs j (g.is_initial _ _ _ _ _ _) outer ps qs f h xs zs at a b u v e =
          absurd (no_initial _ _ _ _ _ _ _ u.0)

      items_apart : (i : ℕ) (ys : Items) (rs : List Role) (j : ℕ)
          → IsItems ts i ys rs j
          → (outer : Indices) (ps qs : List Place) (f h : List ℕ) (xs zs : List Expr) (at : ℕ) (a b : Indices)
          → Occurs ys outer (call ps f xs at) a
          → Occurs ys outer (call qs h zs at) b
          → turns_of a ≡ turns_of b
          → OneCall ps qs f h xs zs at a b
      items_apart i ys rs j g.no_items outer ps qs f h xs zs at a b u v e = absurd u
      items_apart i ys rs j (g.one_item first rest) outer ps qs f h xs zs at a b (inl u) (inl v) e =
          item_apart _ _ _ _ first outer ps qs f h xs zs at a b u v e
      items_apart i ys rs j (g.one_item first rest) outer ps qs f h xs zs at a b (inl u) (inr v) e =
          absurd (apart_within _ _ _ at (item_within _ _ _ _ first outer ps f xs at a u)
          (items_within _ _ _ _ rest outer qs h zs at b v))
      items_apart i ys rs j (g.one_item first rest) outer ps qs f h xs zs at a b (inr u) (inl v) e =
          absurd (apart_within _ _ _ at (item_within _ _ _ _ first outer qs h zs at b v)
          (items_within _ _ _ _ rest outer ps f xs at a u))
      items_apart i ys rs j (g.one_item first rest) outer ps qs f h xs zs at a b (inr u) (inr v) e =
          items_apart _ _ _ _ rest outer ps qs f h xs zs at a b u v e

    -- a function that is found among the tops was read
    abbrev WasRead : Func → Type 0
    WasRead f = (i j : ℕ) × (rs : List Role) × IsItems ts i f.items rs j

    found_first : (b : Bool) (h f : Func) (others : Option Func)
        → WasRead h
        → (others ≡ Some f → WasRead f)
        → cond b (Some h) others ≡ Some f
        → WasRead f
    found_first true h f others read rest e = subst WasRead (some_once refl e) read
    found_first false h f others read rest e = rest e

    found_was_read : (test : Func → Bool) (f : Func) (i : ℕ) (tops : List Top) (rs : List Role) (j : ℕ)
        → IsTops ts i tops rs j
        → find test (filter_map as_function tops) ≡ Some f
        → WasRead f
    found_was_read test f i tops rs j g.no_tops e = cc
    found_was_read test f i tops rs j (g.one_top (g.is_table _ _ _ _ _ _ _) rest) e =
        found_was_read test f _ _ _ _ rest e
    found_was_read test f i tops rs j
        (g.one_top {rest = others}
        (g.is_function {name = name} {ps = ps} {rs = results} {ls = locals} {xs = body} {qs = qs} _ _ _ _ _ _ _ _ _ is
        _ _) rest) e =
        found_first (test _) _ f (find test (filter_map as_function others)) (_, _, _, is)
        (λ h. found_was_read test f _ _ _ _ rest h) e

    function_was_read : (p : Program) (rs : List Role)
        → IsTops ts 0 p.tops rs (length ts)
        → (i : Instance) (f : Func)
        → IsInstance p i f
        → WasRead f
    function_was_read p rs is _ f (main_is e) = found_was_read _ f _ _ _ _ is e
    function_was_read p rs is _ f (inside_is _ calls) = found_was_read _ f _ _ _ _ is calls.named

    was_read_apart : (f : Func) → WasRead f → AreCallsApart f
    was_read_apart f (i, j, rs, is) ps qs n m xs ys at a b u v e =
        items_apart i f.items rs j is [] ps qs n m xs ys at a b u v e

-- a program that was read from a source has its calls apart
pub calls_apart : (bytes : List ℕ) (ts : List Token) (p : Program) → HasTokens bytes ts → Derives ts p → HasCallsApart p
calls_apart bytes ts p tokens (rs, is) i f instance =
    was_read_apart ts (tokens_rise bytes ts tokens) f
    (function_was_read ts (tokens_rise bytes ts tokens) p rs is i f instance)
