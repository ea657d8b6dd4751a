-- The text of items is read as those items, up to positions.
use Rattle.std.proofs.Common.{◌≡◌, ℕ, ◌+◌, ◌≤◌, length, Bool, List, [], ◌∷◌, ◌++◌, Some, map, refl, sym, ap, ◌∙◌, subst}
use Rattle.std.proofs.Common.{arith, lit≤}
use Rattle.silage_lex.specs.declared.Token.{Token}
use Rattle.silage_lex.specs.declared.TokenKind.TheVariants as kind
use Rattle.silage_lex.specs.declared.punctuation.TheConstants as punctuation
use Rattle.silage_lex.specs.declared.keywords.TheConstants as keyword
use Rattle.silage_print.specs.Precedence as precedence
use Rattle.silage_syntax.specs.declared.tree.Lit.{Lit}
use Rattle.silage_syntax.specs.declared.tree.Lit.TheVariants.{Truth}
use Rattle.silage_syntax.specs.Tree.{Manifest, Place, Expr, Item, equation, call, loop, initial, Items, no_item, item}
use Rattle.silage_syntax.specs.Positions.{unpositioned_lit, unpositioned_manifest, unpositioned_place}
use Rattle.silage_syntax.specs.Positions.{unpositioned_expr, unpositioned_item, unpositioned_items}
use Rattle.silage_syntax.specs.Grammar.{from_at, IsPunctuation, IsName, IsManifest, Manifest_, IsExpr, Chain, Or, Role}
use Rattle.silage_syntax.specs.Grammar.{weights, IsTargetSubscripts, no_target_sub, one_target_sub, two_target_subs}
use Rattle.silage_syntax.specs.Grammar.{IsTarget, target, IsTargets, last_target, more_targets, IsArguments, last_arg}
use Rattle.silage_syntax.specs.Grammar.{more_args, IsInitialValue, signed, truth_value, IsItem, is_equation, is_call}
use Rattle.silage_syntax.specs.Grammar.{is_calls, is_loop, is_initial, IsItems, no_items, one_item}
use Rattle.silage_print.specs.Text.{symbol, word, subscripts_text, enclosed, listed, several, lit_text, manifest_text}
use Rattle.silage_print.specs.Text.{amount_text, place_text, expr_text, call_text, turns_text, clause_text, items_text}
use Rattle.silage_print.proofs.KindsAt.{AreAt, split, moved, IsWritten, AreWritten, no_kind, one_kind, joined}
use Rattle.silage_print.proofs.KindsAt.{enclosed_written, TokensWritten}
use Rattle.silage_print.proofs.ReadManifests.{GoodManifest, ReadsManifest, placed, as_manifest, good_manifest}
use Rattle.silage_print.proofs.ReadManifests.{good_amount}
use Rattle.silage_print.proofs.ReadParts.{truth_read, truth_written, GoodSigned, good_signed, GoodSubs, scalar, vector}
use Rattle.silage_print.proofs.ReadParts.{matrix, subs_written, read_one, read_two}
use Rattle.silage_print.proofs.ReadExprs.{GoodExpr, as_whole, good_expr}
use Rattle.silage_print.proofs.LightItems.{Has, LightExpr, light_expr, light_manifest, light_amount, light_no_sub}
use Rattle.silage_print.proofs.LightItems.{light_sub, light_subs, light_target, light_last, light_more, light_last_arg}
use Rattle.silage_print.proofs.LightItems.{light_more_args, light_equation, light_call, light_calls, light_loop}
use Rattle.silage_print.proofs.LightItems.{light_initial, light_no_items, light_items}
use Rattle.silage_print.proofs.ReadLists.{ReadsBy, by_end, Goods, only, also, listed_written, listed_read, Grouped}
use Rattle.silage_print.proofs.ReadLists.{bare, inside, grouped_read, one_of_several}

-- Places on the left.
pub record GoodPlace (p : Place) : Type 0 where
  pub name : IsWritten (kind.Name p.name)
  pub subs : GoodSubs p.subs

place_written : (p : Place) → GoodPlace p → AreWritten (place_text p)
place_written p good = one_kind good.name (subs_written good.subs)

target_subs_read : (us : List Token) (ms : List Manifest)
    → GoodSubs ms
    → (i j : ℕ)
    → AreAt us i (subscripts_text ms) j
    → ReadsBy (List Manifest) (map unpositioned_manifest) (Has IsTargetSubscripts us ms) ms i j
target_subs_read us ms scalar i j s =
    by_end s (record { tree = []; same = refl; reads = record { roles = _; is = no_target_sub; light = light_no_sub } })
target_subs_read us ms (vector {m = m} g) i j s =
    let x = read_one us m g i j s in
    by_end x.ends (record {
      tree = x.inside.tree ∷ [];
      same = ap (λ t. t ∷ []) x.inside.same;
      reads = record {
        roles = _;
        is = one_target_sub x.opens x.inside.reads x.closes;
        light = light_sub (light_manifest us m (i + 1) x.end x.kinds_at);
      };
    })
target_subs_read us ms (matrix {m = m} {n = n} g h) i j s =
    let r = read_two us m n g h i j s in
    let x = r.first in
    let y = r.second in
    let P : ℕ → Type 0 = λ l. IsManifest us Manifest_ l y.inside.tree y.end in
    let second : IsManifest us Manifest_ (x.end + 2) y.inside.tree y.end = subst P (omega arith) y.inside.reads in
    let Q : ℕ → Type 0 = λ l. AreAt us l (manifest_text n) y.end in
    let kinds_at : AreAt us (x.end + 2) (manifest_text n) y.end = subst Q (omega arith) y.kinds_at in
    by_end y.ends (record {
      tree = x.inside.tree ∷ y.inside.tree ∷ [];
      same =
          ap (λ t. t ∷ unpositioned_manifest y.inside.tree ∷ []) x.inside.same
          ∙ ap (λ t. unpositioned_manifest m ∷ t ∷ []) y.inside.same;
      reads = record {
        roles = _;
        is = two_target_subs x.opens x.inside.reads x.closes y.opens second y.closes;
        light =
            light_subs (light_manifest us m (i + 1) x.end x.kinds_at) (light_manifest us n (x.end + 2) y.end kinds_at);
      };
    })

target_read : (us : List Token) (p : Place)
    → GoodPlace p
    → (i j : ℕ)
    → AreAt us i (place_text p) j
    → ReadsBy Place unpositioned_place (Has IsTarget us p) p i j
target_read us p good i j s =
    let x = target_subs_read us p.subs good.subs (i + 1) j s.1 in
    record {
      tree = record { name = p.name; at = from_at us i; subs = x.tree };
      same = ap (λ ms. record { name = p.name; at = 0; subs = ms }) x.same;
      reads = record { roles = _; is = target s.0 x.reads.is; light = light_target p x.reads.light };
    }

good_target_subs : (ts : List Token)
    → TokensWritten ts
    → {i j : ℕ} {ms : List Manifest} {rs : List Role}
    → IsTargetSubscripts ts i ms rs j
    → GoodSubs ms
good_target_subs ts w no_target_sub = scalar
good_target_subs ts w (one_target_sub a d b) = vector (good_manifest ts w d)
good_target_subs ts w (two_target_subs a d b c e f) = matrix (good_manifest ts w d) (good_manifest ts w e)

good_target : (ts : List Token)
    → TokensWritten ts
    → {i j : ℕ} {p : Place} {rs : List Role}
    → IsTarget ts i p rs j
    → GoodPlace p
good_target ts w (target {i = i} {name = name} n subs) =
    record { name = w i (kind.Name name) n; subs = good_target_subs ts w subs }

good_targets : (ts : List Token)
    → TokensWritten ts
    → {i j : ℕ} {ps : List Place} {rs : List Role}
    → IsTargets ts i ps rs j
    → Goods Place GoodPlace ps
good_targets ts w (last_target d) = only (good_target ts w d)
good_targets ts w (more_targets d c rest) = also (good_target ts w d) (good_targets ts w rest)

-- Arguments.
record HasArg (us : List Token) (e : Expr) (i : ℕ) (x : Expr) (j : ℕ) : Type 0 where
  is : IsExpr us (Chain Or) i x j
  light : LightExpr e (weights us i j)

arg_read : (us : List Token) (e : Expr)
    → GoodExpr e
    → (i j : ℕ)
    → AreAt us i (expr_text e) j
    → ReadsBy Expr unpositioned_expr (HasArg us e) e i j
arg_read us e good i j s =
    let x = as_whole e good us i j s in
    record { tree = x.tree; same = x.same; reads = record { is = x.reads; light = light_expr us e i j s } }

args_read : (us : List Token) {es : List Expr}
    → Goods Expr GoodExpr es
    → (i j : ℕ)
    → AreAt us i (listed expr_text es) j
    → ReadsBy (List Expr) (map unpositioned_expr) (Has IsArguments us es) es i j
args_read us gs i j s =
    listed_read Expr GoodExpr expr_text unpositioned_expr us (HasArg us) (Has IsArguments us)
    (λ i j x y d. record { roles = _; is = last_arg d.is; light = light_last_arg d.light })
    (λ i j k x y xs ys long d c rest. record {
      roles = _;
      is = more_args d.is c rest.is;
      light = light_more_args long d.light rest.light;
    })
    (arg_read us) gs i j s

good_args : (ts : List Token)
    → TokensWritten ts
    → {i j : ℕ} {es : List Expr} {rs : List Role}
    → IsArguments ts i es rs j
    → Goods Expr GoodExpr es
good_args ts w (last_arg d) = only (good_expr ts w d)
good_args ts w (more_args d c rest) = also (good_expr ts w d) (good_args ts w rest)

-- Initial values.
pub data GoodValue : Lit → Type 0 where
  number_value : {l : Lit} → GoodSigned l → GoodValue l
  truth_good : {b : Bool} {at : ℕ} → GoodValue (Truth b at)

value_written : {l : Lit} → GoodValue l → AreWritten (lit_text l)
value_written (number_value g) = g.written
value_written (truth_good {b = b}) = one_kind (truth_written b) no_kind

value_read : (us : List Token) {l : Lit}
    → GoodValue l
    → (i j : ℕ)
    → AreAt us i (lit_text l) j
    → ReadsBy Lit unpositioned_lit (IsInitialValue us) l i j
value_read us (number_value g) i j s = let x = g.reads us i j s in record { tree = x.0; same = x.1; reads = signed x.2 }
value_read us (truth_good {b = b}) i j s =
    by_end s.1 (record { tree = Truth b (from_at us i); same = refl; reads = truth_value (truth_read b s.0) })

good_value : (ts : List Token) → TokensWritten ts → {i j : ℕ} {l : Lit} → IsInitialValue ts i l j → GoodValue l
good_value ts w (signed d) = number_value (good_signed ts w d)
good_value ts w (truth_value e) = truth_good

-- Items.
pub record GoodItem (x : Item) : Type 0 where
  pub written : AreWritten (clause_text x)
  pub reads : (us : List Token) (i j : ℕ)
      → AreAt us i (clause_text x) j
      → IsPunctuation us j punctuation.SEMICOLON
      → ReadsBy Item unpositioned_item (Has IsItem us x) x i (j + 1)

pub record GoodItems (xs : Items) : Type 0 where
  pub written : AreWritten (items_text xs)
  pub reads : (us : List Token) (i j : ℕ)
      → AreAt us i (items_text xs) j
      → ReadsBy Items unpositioned_items (Has IsItems us xs) xs i j

good_equation : (p : Place) (e : Expr) → GoodPlace p → GoodExpr e → GoodItem (equation p e)
good_equation p e g h = record {
  written = joined (place_written p g) (one_kind refl h.written);
  reads = λ us i j s end.
      let r = split us (place_text p) (symbol punctuation.EQUAL ∷ expr_text e) i j s in
      let x = target_read us p g i r.0 r.1 in
      let y = as_whole e h us (r.0 + 1) j r.2.1 in
      record {
        tree = equation x.tree y.tree;
        same =
            ap (λ z. equation z (unpositioned_expr y.tree)) x.same ∙ ap (λ z. equation (unpositioned_place p) z) y.same;
        reads = record {
          roles = _;
          is = is_equation x.reads.is r.2.0 y.reads end;
          light = light_equation x.reads.light (light_expr us e (r.0 + 1) j r.2.1);
        };
      };
}

good_initial : (p : Place) (k : Manifest) (l : Lit)
    → GoodPlace p
    → GoodManifest k
    → GoodValue l
    → GoodItem (initial p k l)
good_initial p k l g h v = record {
  written =
      joined (joined (place_written p g) (one_kind refl (enclosed_written _ h.written)))
      (one_kind refl (value_written v));
  reads = λ us i j s end.
      let r =
      split us (place_text p ++ symbol punctuation.AT_AT ∷ amount_text k) (symbol punctuation.EQUAL ∷ lit_text l) i
      j s in
      let q = split us (place_text p) (symbol punctuation.AT_AT ∷ amount_text k) i r.0 r.1 in
      let x = target_read us p g i q.0 q.1 in
      let y = placed k h precedence.primary (lit≤ tt) us (q.0 + 1) r.0 q.2.1 in
      let z = value_read us v (r.0 + 1) j r.2.1 in
      record {
        tree = initial x.tree y.tree z.tree;
        same =
            ap (λ t. initial t (unpositioned_manifest y.tree) (unpositioned_lit z.tree)) x.same
            ∙ ap (λ t. initial (unpositioned_place p) t (unpositioned_lit z.tree)) y.same
            ∙ ap (λ t. initial (unpositioned_place p) (unpositioned_manifest k) t) z.same;
        reads = record {
          roles = _;
          is = is_initial x.reads.is q.2.0 y.reads r.2.0 z.reads end;
          light = light_initial r.0 (j + 1) x.reads.light (light_amount us k (q.0 + 1) r.0 q.2.1);
        };
      };
}

-- a function's name with its arguments
record ReadsCall (us : List Token) (f : List ℕ) (es : List Expr) (i j : ℕ) : Type 0 where
  args : List Expr
  same : map unpositioned_expr args ≡ map unpositioned_expr es
  close : ℕ
  name : IsName us i f
  opens : IsPunctuation us (i + 1) punctuation.LEFT_PAREN
  reads : Has IsArguments us es (i + 2) args close
  closes : IsPunctuation us close punctuation.RIGHT_PAREN
  ends : close + 1 ≡ j

call_read : (us : List Token) (f : List ℕ) (es : List Expr)
    → Goods Expr GoodExpr es
    → (i j : ℕ)
    → AreAt us i (call_text f es) j
    → ReadsCall us f es i j
call_read us f es gs i j s =
    let r = split us (listed expr_text es) (symbol punctuation.RIGHT_PAREN ∷ []) (i + 1 + 1) j s.1.1 in
    let P : ℕ → Type 0 = λ l. AreAt us l (listed expr_text es) r.0 in
    let x = args_read us gs (i + 2) r.0 (subst P (omega arith) r.1) in
    record {
      args = x.tree;
      same = x.same;
      close = r.0;
      name = s.0;
      opens = s.1.0;
      reads = x.reads;
      closes = r.2.0;
      ends = r.2.1;
    }

call_written : (f : List ℕ) {es : List Expr}
    → IsWritten (kind.Name f)
    → Goods Expr GoodExpr es
    → AreWritten (call_text f es)
call_written f n gs =
    one_kind n
    (one_kind refl (joined (listed_written Expr GoodExpr expr_text (λ x g. g.written) gs) (one_kind refl no_kind)))

one_target : (us : List Token) (i j : ℕ) (p q : Place)
    → Has IsTarget us p i q j
    → Has IsTargets us (p ∷ []) i (q ∷ []) j
one_target us i j p q d = record { roles = _; is = last_target d.is; light = light_last d.light }

another_target : (us : List Token) (i j k : ℕ) (p q : Place) (ps qs : List Place)
    → 1 ≤ length ps
    → Has IsTarget us p i q j
    → IsPunctuation us j punctuation.COMMA
    → Has IsTargets us ps (j + 1) qs k
    → Has IsTargets us (p ∷ ps) i (q ∷ qs) k
another_target us i j k p q ps qs long d c rest =
    record { roles = _; is = more_targets d.is c rest.is; light = light_more long d.light rest.light }

abbrev TargetGroup : List Token → List Place → ℕ → ℕ → Type 0
TargetGroup us ps i j =
    Grouped Place GoodPlace place_text unpositioned_place us (Has IsTarget us) (Has IsTargets us) (one_target us)
    (another_target us) (target_read us) ps i j

item_end : {us : List Token} {x : Item} {i j k : ℕ}
    → j ≡ k
    → ReadsBy Item unpositioned_item (Has IsItem us x) x i j
    → ReadsBy Item unpositioned_item (Has IsItem us x) x i k
item_end {us} {x} {i} {j} {k} e h = by_end e h

call_of : (us : List Token) (ps : List Place) (f : List ℕ) (es : List Expr) (at i k j : ℕ)
    → TargetGroup us ps i k
    → IsPunctuation us k punctuation.EQUAL
    → ReadsCall us f es (k + 1) j
    → IsPunctuation us j punctuation.SEMICOLON
    → ReadsBy Item unpositioned_item (Has IsItem us (call ps f es at)) (call ps f es at) i (j + 1)
call_of us ps f es at i k j (bare t) defines c end =
    let close = c.ends in
    let opens = moved us (k + 1 + 1) (k + 2) (Some (symbol punctuation.LEFT_PAREN)) (omega arith) c.opens in
    let P : ℕ → Type 0 = λ l. IsArguments us l c.args c.reads.roles c.close in
    let args : IsArguments us (k + 3) c.args c.reads.roles c.close = subst P (omega arith) c.reads.is in
    let semicolon = moved us j (c.close + 1) (Some (symbol punctuation.SEMICOLON)) (sym close) end in
    let last : c.close + 2 ≡ j + 1 = omega arith in
    item_end last (record {
      tree = call (t.tree ∷ []) f c.args (from_at us (k + 1));
      same =
          ap (λ z. call (z ∷ []) f (map unpositioned_expr c.args) 0) t.same
          ∙ ap (λ z. call (map unpositioned_place ps) f z 0) c.same;
      reads = record {
        roles = _;
        is = is_call t.reads.is defines c.name opens args c.closes semicolon;
        light = light_call t.reads.light c.reads.light;
      };
    })
call_of us ps f es at i k j (inside {j = m} opening t shut) defines c end =
    let close = c.ends in
    let name = moved us (m + 1 + 1) (m + 2) (Some (kind.Name f)) (omega arith) c.name in
    let opens = moved us (m + 1 + 1 + 1) (m + 3) (Some (symbol punctuation.LEFT_PAREN)) (omega arith) c.opens in
    let P : ℕ → Type 0 = λ l. IsArguments us l c.args c.reads.roles c.close in
    let args : IsArguments us (m + 4) c.args c.reads.roles c.close = subst P (omega arith) c.reads.is in
    let semicolon = moved us j (c.close + 1) (Some (symbol punctuation.SEMICOLON)) (sym close) end in
    let last : c.close + 2 ≡ j + 1 = omega arith in
    item_end last (record {
      tree = call t.tree f c.args (from_at us (m + 2));
      same =
          ap (λ z. call z f (map unpositioned_expr c.args) 0) t.same
          ∙ ap (λ z. call (map unpositioned_place ps) f z 0) c.same;
      reads = record {
        roles = _;
        is = is_calls opening t.reads.is shut defines name opens args c.closes semicolon;
        light = light_calls t.reads.light c.reads.light;
      };
    })

good_call : (ps : List Place) (f : List ℕ) (es : List Expr) (at : ℕ)
    → Goods Place GoodPlace ps
    → IsWritten (kind.Name f)
    → Goods Expr GoodExpr es
    → GoodItem (call ps f es at)
good_call ps f es at gs n hs = record {
  written =
      joined (enclosed_written _ (listed_written Place GoodPlace place_text place_written gs))
      (one_kind refl (call_written f n hs));
  reads = λ us i j s end.
      let r =
      split us (enclosed (several ps) (listed place_text ps)) (symbol punctuation.EQUAL ∷ call_text f es) i j s in
      let g =
      grouped_read Place GoodPlace place_text unpositioned_place us (Has IsTarget us) (Has IsTargets us)
      (one_target us) (another_target us) (target_read us)
      gs (several ps) (one_of_several ps) i r.0 r.1 in
      call_of us ps f es at i r.0 j g r.2.0 (call_read us f es hs (r.0 + 1) j r.2.1) end;
}

-- the index of a loop and its bounds
record ReadsTurns (us : List Token) (index : List ℕ) (lo hi : Manifest) (i j : ℕ) : Type 0 where
  to : ℕ
  close : ℕ
  opens : IsPunctuation us i punctuation.LEFT_PAREN
  name : IsName us (i + 1) index
  colon : IsPunctuation us (i + 2) punctuation.COLON
  low : ReadsManifest us Manifest_ lo (i + 3) to
  low_stands : AreAt us (i + 3) (manifest_text lo) to
  upto : IsPunctuation us to punctuation.DOT_DOT
  high : ReadsManifest us Manifest_ hi (to + 1) close
  high_stands : AreAt us (to + 1) (manifest_text hi) close
  closes : IsPunctuation us close punctuation.RIGHT_PAREN
  ends : close + 1 ≡ j

turns_read : (us : List Token) (index : List ℕ) (lo hi : Manifest)
    → GoodManifest lo
    → GoodManifest hi
    → (i j : ℕ)
    → AreAt us i (turns_text index lo hi) j
    → ReadsTurns us index lo hi i j
turns_read us index lo hi g h i j s =
    let r =
    split us (manifest_text lo ++ symbol punctuation.DOT_DOT ∷ manifest_text hi)
    (symbol punctuation.RIGHT_PAREN ∷ []) (i + 1 + 1 + 1) j s.1.1.1 in
    let q = split us (manifest_text lo) (symbol punctuation.DOT_DOT ∷ manifest_text hi) (i + 1 + 1 + 1) r.0 r.1 in
    let P : ℕ → Type 0 = λ l. AreAt us l (manifest_text lo) q.0 in
    let low : AreAt us (i + 3) (manifest_text lo) q.0 = subst P (omega arith) q.1 in
    record {
      to = q.0;
      close = r.0;
      opens = s.0;
      name = s.1.0;
      colon = moved us (i + 1 + 1) (i + 2) (Some (symbol punctuation.COLON)) (omega arith) s.1.1.0;
      low = as_manifest lo g us (i + 3) q.0 low;
      low_stands = low;
      upto = q.2.0;
      high = as_manifest hi h us (q.0 + 1) r.0 q.2.1;
      high_stands = q.2.1;
      closes = r.2.0;
      ends = r.2.1;
    }

good_loop : (index : List ℕ) (lo hi : Manifest) (xs : Items) (at : ℕ)
    → IsWritten (kind.Name index)
    → GoodManifest lo
    → GoodManifest hi
    → GoodItems xs
    → GoodItem (loop index lo hi xs at)
good_loop index lo hi xs at n g h k = record {
  written =
      joined (joined
      (one_kind refl
      (one_kind n (one_kind refl (joined (joined g.written (one_kind refl h.written)) (one_kind refl no_kind)))))
      (one_kind refl (one_kind refl k.written)))
      (one_kind refl no_kind);
  reads = λ us i j s end.
      let e =
      split us (turns_text index lo hi ++ symbol punctuation.COLON_COLON ∷ word keyword.BEGIN ∷ items_text xs)
      (word keyword.END ∷ []) i j s in
      let r =
      split us (turns_text index lo hi) (symbol punctuation.COLON_COLON ∷ word keyword.BEGIN ∷ items_text xs) i e.0
      e.1 in
      let t = turns_read us index lo hi g h i r.0 r.1 in
      let close = t.ends in
      let stop = e.2.1 in
      let each = moved us r.0 (t.close + 1) (Some (symbol punctuation.COLON_COLON)) (sym close) r.2.0 in
      let begin = moved us (r.0 + 1) (t.close + 2) (Some (word keyword.BEGIN)) (omega arith) r.2.1.0 in
      let P : ℕ → Type 0 = λ l. AreAt us l (items_text xs) e.0 in
      let body = k.reads us (t.close + 3) e.0 (subst P (omega arith) r.2.1.1) in
      let semicolon = moved us j (e.0 + 1) (Some (symbol punctuation.SEMICOLON)) (sym stop) end in
      let last : e.0 + 2 ≡ j + 1 = omega arith in
      item_end last (record {
        tree = loop index t.low.tree t.high.tree body.tree (from_at us i);
        same = ap (λ z. loop index z (unpositioned_manifest t.high.tree) (unpositioned_items body.tree) 0) t.low.same
            ∙ ap (λ z. loop index (unpositioned_manifest lo) z (unpositioned_items body.tree) 0) t.high.same
            ∙ ap (λ z. loop index (unpositioned_manifest lo) (unpositioned_manifest hi) z 0) body.same;
        reads = record {
          roles = _;
          is =
              is_loop t.opens t.name t.colon t.low.reads t.upto t.high.reads t.closes each begin body.reads.is e.2.0
              semicolon;
          light =
              light_loop (light_manifest us lo (i + 3) t.to t.low_stands)
              (light_manifest us hi (t.to + 1) t.close t.high_stands) body.reads.light;
        };
      });
}

no_good_items : GoodItems no_item
no_good_items = record {
  written = no_kind;
  reads = λ us i j s.
      by_end s
      (record { tree = no_item; same = refl; reads = record { roles = _; is = no_items; light = light_no_items } });
}

more_good_items : (x : Item) (xs : Items) → GoodItem x → GoodItems xs → GoodItems (item x xs)
more_good_items x xs g h = record {
  written = joined g.written (one_kind refl h.written);
  reads = λ us i j s.
      let r = split us (clause_text x) (symbol punctuation.SEMICOLON ∷ items_text xs) i j s in
      let y = g.reads us i r.0 r.1 r.2.0 in
      let ys = h.reads us (r.0 + 1) j r.2.1 in
      record {
        tree = item y.tree ys.tree;
        same = ap (λ z. item z (unpositioned_items ys.tree)) y.same ∙ ap (λ z. item (unpositioned_item x) z) ys.same;
        reads =
            record {
              roles = _;
              is = one_item y.reads.is ys.reads.is;
              light = light_items y.reads.light ys.reads.light;
            };
      };
}

mutual
  pub good_item : (ts : List Token)
      → TokensWritten ts
      → {i j : ℕ} {x : Item} {rs : List Role}
      → IsItem ts i x rs j
      → GoodItem x
  good_item ts w (is_equation p d e s) = good_equation _ _ (good_target ts w p) (good_expr ts w e)
  good_item ts w (is_call {j = j} {f = f} p d n o es c s) =
      good_call _ _ _ _ (only (good_target ts w p)) (w (j + 1) (kind.Name f) n) (good_args ts w es)
  good_item ts w (is_calls {j = j} {f = f} q ps c d n o es k s) =
      good_call _ _ _ _ (good_targets ts w ps) (w (j + 2) (kind.Name f) n) (good_args ts w es)
  good_item ts w (is_loop {i = i} {name = name} o n c lo t hi k e b xs d s) =
      good_loop _ _ _ _ _ (w (i + 1) (kind.Name name) n) (good_manifest ts w lo) (good_manifest ts w hi)
      (good_items ts w xs)
  good_item ts w (is_initial p m k d l s) =
      good_initial _ _ _ (good_target ts w p) (good_amount ts w k) (good_value ts w l)

  pub good_items : (ts : List Token)
      → TokensWritten ts
      → {i j : ℕ} {xs : Items} {rs : List Role}
      → IsItems ts i xs rs j
      → GoodItems xs
  good_items ts w no_items = no_good_items
  good_items ts w (one_item x xs) = more_good_items _ _ (good_item ts w x) (good_items ts w xs)
