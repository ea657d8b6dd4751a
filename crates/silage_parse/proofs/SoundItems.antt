-- Soundness of the table: the grammar has the places on the left, arguments and items that the table reads, with the
-- same roles.
use Rattle.std.proofs.Common.{◌≡◌, ℕ, ◌+◌, ◌≤◌, List, [], ◌∷◌, ◌++◌, Option, Some, slice_get, refl, sym, ap, ◌∙◌, subst}
use Rattle.std.proofs.Common.{ap₂, arith, append_assoc, append-nil, le_trans}
use Rattle.silage_lex.specs.declared.Token.{Token}
use Rattle.silage_lex.specs.declared.punctuation.TheConstants as punctuation
use Rattle.silage_lex.specs.declared.keywords.TheConstants as keyword
use Rattle.silage_syntax.specs.Tree.{Manifest, Place, Expr, read, Item, equation, call, loop, initial, Items, items_of}
use Rattle.silage_syntax.specs.Grammar as g
use Rattle.silage_syntax.specs.Grammar.{kind_at, from_of, from_at, IsPunctuation, IsKeyword, IsName, IsManifest, IsExpr}
use Rattle.silage_syntax.specs.Grammar.{Or, Sum, chain, shifts, primary, place, Role, Plain, Starts, weight_role}
use Rattle.silage_syntax.specs.Grammar.{weights, plain, IsTargetSubscripts, no_target_sub, one_target_sub}
use Rattle.silage_syntax.specs.Grammar.{two_target_subs, IsTarget, target, IsTargets, last_target, more_targets}
use Rattle.silage_syntax.specs.Grammar.{IsArguments, last_arg, more_args, IsItem, is_equation, is_call, is_calls}
use Rattle.silage_syntax.specs.Grammar.{is_loop, is_initial, IsItems, no_items, one_item}
use Rattle.silage_parse.specs.Private.ParseTable as the
use Rattle.silage_parse.specs.Private.ParseTable.{Effect, Outside, Inside, Nonterminal, Value, Symbol, Match, Act}
use Rattle.silage_parse.specs.Private.ParseTable.{Expand, Action, productions, rests, punctuation_of}
use Rattle.silage_parse.specs.Private.Machine.{made, here, there, name_text}
use Rattle.silage_parse.proofs.SpanRoles.{weights_more, weights_both, plain_none, plain_more, plain_both}
use Rattle.silage_parse.proofs.TokenFacts.{mark_seen, word_seen, name_seen, from_seen, kind_seen, kind_moved}
use Rattle.silage_parse.proofs.TokenFacts.{name_weight}
use Rattle.silage_parse.specs.Private.CommaLists as lists
use Rattle.silage_parse.proofs.SoundLists.{Listing, more_mean}
use Rattle.silage_parse.proofs.SoundSteps.{Sound, All, a_end, a_take, a_go, a_make, settled}

-- facts with equal roles, at an equal end
subs_to : {us : List Token} {i j : ℕ} {ms : List Manifest} {rs qs : List Role}
    → IsTargetSubscripts us i ms rs j
    → rs ≡ qs
    → IsTargetSubscripts us i ms qs j
subs_to {us} {i} {j} {ms} d q = let P : List Role → Type 0 = λ x. IsTargetSubscripts us i ms x j in subst P q d

target_to : {us : List Token} {i j : ℕ} {p : Place} {rs qs : List Role}
    → IsTarget us i p rs j
    → rs ≡ qs
    → IsTarget us i p qs j
target_to {us} {i} {j} {p} d q = let P : List Role → Type 0 = λ x. IsTarget us i p x j in subst P q d

targets_to : {us : List Token} {i j : ℕ} {ps : List Place} {rs qs : List Role}
    → IsTargets us i ps rs j
    → rs ≡ qs
    → IsTargets us i ps qs j
targets_to {us} {i} {j} {ps} d q = let P : List Role → Type 0 = λ x. IsTargets us i ps x j in subst P q d

args_to : {us : List Token} {i j : ℕ} {es : List Expr} {rs qs : List Role}
    → IsArguments us i es rs j
    → rs ≡ qs
    → IsArguments us i es qs j
args_to {us} {i} {j} {es} d q = let P : List Role → Type 0 = λ x. IsArguments us i es x j in subst P q d

item_to : {us : List Token} {i j : ℕ} {x : Item} {rs qs : List Role} → IsItem us i x rs j → rs ≡ qs → IsItem us i x qs j
item_to {us} {i} {j} {x} d q = let P : List Role → Type 0 = λ z. IsItem us i x z j in subst P q d

item_ends : {us : List Token} {i j k : ℕ} {x : Item} {rs : List Role} → IsItem us i x rs j → j ≡ k → IsItem us i x rs k
item_ends {us} {i} {x = x} {rs = rs} d q = let P : ℕ → Type 0 = λ z. IsItem us i x rs z in subst P q d

items_to : {us : List Token} {i j : ℕ} {xs : Items} {rs qs : List Role}
    → IsItems us i xs rs j
    → rs ≡ qs
    → IsItems us i xs qs j
items_to {us} {i} {j} {xs} d q = let P : List Role → Type 0 = λ z. IsItems us i xs z j in subst P q d

pub target_subs_mean : Sound the.TargetSubs
target_subs_mean us i vs rs _ _ _ here
    (a_take {t = t} s h (a_go {j = k} {rs = ps} d (a_take {t = t2} s2 h2 (a_go {rs = ts} r (a_end q w))))) =
    settled us the.TargetSubs i vs rs q w (
    let m = d.means in
    let n =
    r.means i k m.0 t2 t vs (ap (λ v. the.token t2 ∷ v) m.1) (mark_seen us i _ s h) m.2 (mark_seen us k _ s2 h2)
    refl in
    let e : ps ≡ weights us (i + 1) k = d.roles Inside refl in
    (n.0, n.1, subs_to n.2 (rw (e, append-nil) refl)))
target_subs_mean us i vs rs _ _ _ (there here) (a_make (a_end q w)) =
    settled us the.TargetSubs i vs rs q w (([], refl, no_target_sub))
target_subs_mean us i vs rs _ _ _ (there (there x)) h = elim x [ ]

pub second_target_sub_means : Sound the.SecondTargetSub
second_target_sub_means us i vs rs _ _ _ here
    (a_take {t = t} s h (a_go {j = j} {rs = ps} d (a_take {t = t2} s2 h2 (a_make (a_end q w))))) =
    settled us the.SecondTargetSub i vs rs q w (λ a k m c o bs e b x f y.
    let n = d.means in
    let l : i + 1 ≡ k + 2 = omega arith in
    let u : IsManifest us g.Manifest_ (i + 1) n.0 j = n.2 in
    let v : ps ≡ weights us (k + 2) j = d.roles Inside refl ∙ ap (λ (z : ℕ). weights us z j) l in (
      m ∷ n.0 ∷ [],
      rw (n.1, e) refl,
      subs_to (two_target_subs b x f (kind_moved us (mark_seen us i _ s h) y) (rw l at u) (mark_seen us j _ s2 h2))
          (rw v (simp append_assoc)),
    ))
second_target_sub_means us i vs rs _ _ _ (there here) (a_make (a_end q w)) =
    settled us the.SecondTargetSub i vs rs q w
    (λ a k m c o bs e b x f y. (m ∷ [], rw e refl, rw y (one_target_sub b x f)))
second_target_sub_means us i vs rs _ _ _ (there (there x)) h = elim x [ ]

pub target_means : Sound the.Target
target_means us i vs rs _ _ _ here (a_take {t = t} s h (a_go {rs = ps} d (a_make (a_end q w)))) =
    settled us the.Target i vs rs q w (
    let m = d.means in
    let f = from_seen us i s in (
      record { name = name_text t; at = from_at us i; subs = m.0 },
      rw (m.1, f) refl,
      target_to (target (name_seen us i s h) m.2) (ap (λ z. Plain ∷ z) (sym (append-nil ps))),
    ))
target_means us i vs rs _ _ _ (there x) h = elim x [ ]

places_listing : (us : List Token)
    → Listing lists.places us (IsTarget us) (λ i ps rs j.
    (a : ℕ) (p : Place) (qs : List Role) → IsTarget us a p qs i → IsTargets us a (p ∷ ps) (qs ++ rs) j)
places_listing us = record {
  one = λ i j vs ws rs d. d.means;
  some = λ i j vs ws rs m. m;
  none = λ i a p qs o. targets_to (last_target o) (sym (append-nil qs));
  before = λ i k j x xs rs qs t c o n a p os u. targets_to (more_targets u c (n (i + 1) x rs o)) (simp append-nil);
}

pub more_targets_mean : Sound the.MoreTargets
more_targets_mean us i vs rs _ _ _ w a = more_mean (places_listing us) i vs rs w a

pub args_mean : Sound the.Args
args_mean us i vs rs _ _ _ here (a_go {j = k} {xs = xs} {rs = ps} d (a_make (a_go {rs = ts} r (a_end q w)))) =
    settled us the.Args i vs rs q w (
    let m = d.means in
    let v : made the.first_arg xs ≡ the.exprs (m.0 ∷ []) ∷ vs = rw m.1 refl in
    let n = r.means (m.0 ∷ []) vs v in
    let f : ps ≡ weights us i k = d.roles Inside refl in
    (m.0 ∷ n.0, n.1, args_to (n.2 i m.0 m.2) (rw (f, append-nil) refl)))
args_mean us i vs rs _ _ _ (there x) h = elim x [ ]

arguments_listing : (us : List Token)
    → Listing lists.arguments us (λ i e rs j. IsExpr us (g.Chain Or) i e j × (rs ≡ weights us i j)) (λ i es rs j.
    (a : ℕ) (e : Expr) → IsExpr us (g.Chain Or) a e i → IsArguments us a (e ∷ es) (weights us a i ++ rs) j)
arguments_listing us = record {
  one = λ i j vs ws rs d. let m = d.means in (m.0, m.1, (m.2, d.roles Inside refl));
  some = λ i j vs ws rs m. m;
  none = λ i a e o. args_to (last_arg o) (sym (append-nil (weights us a i)));
  before = λ i k j x xs rs qs t c o n a e u. args_to (more_args u c (n (i + 1) x o.0)) (rw (o.1, append-nil) refl);
}

pub more_args_mean : Sound the.MoreArgs
more_args_mean us i vs rs _ _ _ w a = more_mean (arguments_listing us) i vs rs w a

pub items_mean : Sound the.Items_
items_mean us i vs rs _ _ _ here (a_go {xs = xs} {rs = ps} d (a_make (a_go {rs = ts} r (a_end q w)))) =
    settled us the.Items_ i vs rs q w (λ ls bs e.
    let m = d.means in
    let v : made the.add_item xs ≡ the.items (ls ++ m.0 ∷ []) ∷ bs = rw (m.1, e) refl in
    let n = r.means (ls ++ m.0 ∷ []) bs v in (
      m.0 ∷ n.0,
      n.1 ∙ ap (λ z. the.items z ∷ bs) (append_assoc ls (m.0 ∷ []) n.0),
      items_to (one_item m.2 n.2) (ap (λ z. ps ++ z) (sym (append-nil ts))),
    ))
items_mean us i vs rs _ _ _ (there here) (a_end q w) =
    settled us the.Items_ i vs rs q w (λ ls bs e. ([], e ∙ ap (λ z. the.items z ∷ bs) (sym (append-nil ls)), no_items))
items_mean us i vs rs _ _ _ (there (there x)) h = elim x [ ]

pub item_means : Sound the.Item_
item_means us i vs rs _ _ _ here (a_go {rs = ps} a (a_go {rs = ts} b (a_end q w))) = settled us the.Item_ i vs rs q w (
    let m = a.means in
    let n = b.means m.0 vs m.1 in
    (n.0, n.1, item_to (n.2 i ps m.2) (ap (λ z. ps ++ z) (sym (append-nil ts)))))
item_means us i vs rs _ _ _ (there here) (a_take {t = t} s h (a_take {t = t2} s2 h2 (a_go {rs = ts} r (a_end q w)))) =
    settled us the.Item_ i vs rs q w (
    let n =
    r.means t2 t vs refl i (mark_seen us i _ s h) (from_seen us i s) (name_seen us (i + 1) s2 h2)
    (from_seen us (i + 1) s2) (omega arith) in
    (n.0, n.1, item_to n.2 (ap (λ z. Plain ∷ Plain ∷ z) (sym (append-nil ts)))))
item_means us i vs rs _ _ _ (there (there x)) h = elim x [ ]

-- the tokens from one plain token to another
plain_ends : (k m : ℕ) → k + 1 ≤ m → plain k (m + 1) ≡ Plain ∷ (plain (k + 1) m ++ Plain ∷ [])
plain_ends k m h =
    let a : k + 1 ≤ m + 1 = omega arith in
    let b : m ≤ m + 1 = omega arith in
    let c : m + 1 ≤ m + 1 = omega arith in
    let d = plain_more m (m + 1) c in
    let e = plain_none (m + 1) in
    let f = plain_both h b in
    plain_more k (m + 1) a ∙ ap (λ z. Plain ∷ z) (f ∙ ap (λ z. plain (k + 1) m ++ z) (d ∙ ap (λ z. Plain ∷ z) e))

pub after_target_means : Sound the.AfterTarget
after_target_means us i vs rs _ _ _ here
    (a_take {t = t} s h
    (a_go {j = k} {rs = ps} a (a_take s2 h2 (a_go {j = m} {rs = ts} b (a_take s3 h3 (a_make (a_end q w))))))) =
    settled us the.AfterTarget i vs rs q w (λ p bs e.
    let n = a.means in
    let o = b.means in
    let f : ps ≡ weights us (i + 1) k = a.roles Inside refl in
    let v : ts ≡ plain (k + 1) m = b.roles Outside refl in
    let l = plain_ends k m b.within in (
      initial p n.0 o.0,
      rw (o.1, n.1, e) refl,
      λ c os x.
          item_to (is_initial x (mark_seen us i _ s h) n.2 (mark_seen us k _ s2 h2) o.2 (mark_seen us m _ s3 h3))
          (rw (f, v, l) (simp append_assoc)),
    ))
after_target_means us i vs rs _ _ _ (there here) (a_take {t = t} s h (a_go {rs = ts} r (a_end q w))) =
    settled us the.AfterTarget i vs rs q w (λ p bs e.
    let n = r.means p t bs (ap (λ v. the.token t ∷ v) e) in (
      n.0,
      n.1,
      λ c os x. item_to (n.2 c i os x (mark_seen us i _ s h) refl) (ap (λ z. os ++ (Starts ∷ z)) (sym (append-nil ts))),
    ))
after_target_means us i vs rs _ _ _ (there (there x)) h = elim x [ ]

-- two stretches in a row, before other roles
joined : (us : List Token) (qs : List Role) {i k j : ℕ} {rs ts : List Role}
    → i ≤ k
    → k ≤ j
    → rs ≡ weights us i k
    → ts ≡ weights us k j ++ qs
    → rs ++ ts ≡ weights us i j ++ qs
joined us qs {i} {k} {j} a b e f =
    ap₂ (λ x y. x ++ y) e f ∙ sym (append_assoc (weights us i k) (weights us k j) qs)
    ∙ ap (λ x. x ++ qs) (sym (weights_both us a b))

-- what an equation goes on with after its first unary a
record Equation
    (us : List Token) (i : ℕ) (a : Expr) (p : Place) (bs : List Value) (rs : List Role) (j : ℕ) (ws : List Value)
    : Type 0 where
  k : ℕ
  value : Expr
  values : ws ≡ the.an_item (equation p value) ∷ bs
  roles : rs ≡ weights us i k ++ Plain ∷ []
  within : i ≤ k
  ends : k + 1 ≡ j
  semicolon : IsPunctuation us k punctuation.SEMICOLON
  whole : (h : ℕ) → IsExpr us g.Unary h a i → IsExpr us (g.Chain Or) h value k

equation_rest : {us : List Token} {i j : ℕ} {vs ws : List Value} {rs : List Role}
    → All us (rests ++ punctuation_of punctuation.SEMICOLON Outside ∷ Act the.is_equation ∷ []) i vs rs j ws
    → (a : Expr) (d : Token) (p : Place) (bs : List Value)
    → vs ≡ the.expr a ∷ the.token d ∷ the.place p ∷ bs
    → Equation us i a p bs rs j ws
equation_rest {us}
    (a_go b1
    (a_go b2 (a_go b3 (a_go b4 (a_go b5 (a_go {j = k} {rs = r6} b6 (a_take {t = t} s h (a_make (a_end q w))))))))) a d
    p bs e =
    let low : List Value = the.token d ∷ the.place p ∷ bs in
    let m1 = b1.means a low e in
    let m2 = b2.means m1.0 low m1.1 in
    let m3 = b3.means m2.0 low m2.1 in
    let m4 = b4.means m3.0 low m3.1 in
    let m5 = b5.means m4.0 low m4.1 in
    let m6 = b6.means m5.0 low m5.1 in
    let c6 = ap (λ z. z ++ Plain ∷ []) (b6.roles Inside refl) in
    let w5 = b6.within in
    let w4 = le_trans b5.within w5 in
    let w3 = le_trans b4.within w4 in
    let w2 = le_trans b3.within w3 in
    let w1 = le_trans b2.within w2 in
    record {
      k = k;
      value = m6.0;
      values = sym w ∙ ap (λ v. made the.is_equation (the.token t ∷ v)) m6.1;
      roles =
          joined us (Plain ∷ []) b1.within w1 (b1.roles Inside refl)
          (joined us (Plain ∷ []) b2.within w2 (b2.roles Inside refl)
          (joined us (Plain ∷ []) b3.within w3 (b3.roles Inside refl)
          (joined us (Plain ∷ []) b4.within w4 (b4.roles Inside refl)
          (joined us (Plain ∷ []) b5.within w5 (b5.roles Inside refl) c6))));
      within = le_trans b1.within w1;
      ends = q;
      semicolon = mark_seen us k _ s h;
      whole = λ o u. chain (chain (m4.2 o (chain (chain (shifts u m1.2) m2.2) m3.2)) m5.2) m6.2;
    }

-- an equation, from its right side
equation_item : (us : List Token) (a k i m j : ℕ) (p : Place) (e : Expr) (os : List Role) {rs : List Role}
    → IsTarget us a p os k
    → IsPunctuation us k punctuation.EQUAL
    → i ≡ k + 1
    → IsExpr us (g.Chain Or) i e m
    → IsPunctuation us m punctuation.SEMICOLON
    → m + 1 ≡ j
    → rs ≡ weights us i m ++ Plain ∷ []
    → IsItem us a (equation p e) (os ++ Starts ∷ rs) j
equation_item us a k i m j p e os {rs} x y z u s q r =
    let v = rw z at u in
    let f : rs ≡ weights us (k + 1) m ++ Plain ∷ [] = r ∙ ap (λ (n : ℕ). weights us n m ++ Plain ∷ []) z in
    item_ends (item_to (is_equation x y v s) (rw f (simp append_assoc))) q

-- a call of one place, from its function
call_item : (us : List Token) (a k m i j : ℕ) (p : Place) (n : Token) (es : List Expr) (os qs : List Role)
    → IsTarget us a p os k
    → IsPunctuation us k punctuation.EQUAL
    → m ≡ k + 1
    → slice_get us m ≡ Some n
    → IsName us m (name_text n)
    → i ≡ m + 1
    → IsPunctuation us i punctuation.LEFT_PAREN
    → IsArguments us (i + 1) es qs j
    → IsPunctuation us j punctuation.RIGHT_PAREN
    → IsPunctuation us (j + 1) punctuation.SEMICOLON
    → IsItem us a (call (p ∷ []) (name_text n) es (from_at us m))
    (os ++ Starts ∷ weight_role n ∷ Starts ∷ (qs ++ Plain ∷ Plain ∷ [])) (j + 1 + 1)
call_item us a k m i j p n es os qs x y z sn nm v o ar c s =
    let kind_is = sym (kind_seen us m sn) ∙ nm in
    let weight = name_weight n (name_text n) (cc) in
    let q1 : i ≡ k + 2 = omega arith in
    let q2 : i + 1 ≡ k + 3 = omega arith in
    let q3 : j + 2 ≡ j + 1 + 1 = omega arith in
    let args = rw q2 at ar in
    let it = item_ends (is_call x y (kind_moved us nm z) (kind_moved us o q1) args c s) q3 in
    rw (z, weight) (item_to it (simp append_assoc))

-- a place that is read, as the machine makes it
read_made : (n : Token) (p : Place) (late : Option Manifest) (low : List Value) {vs xs ys : List Value}
    → xs ≡ the.subs p.subs ∷ vs
    → ys ≡ the.delay late ∷ made the.a_place xs
    → vs ≡ the.token n ∷ low
    → p.at ≡ n.from
    → made the.read_expr ys ≡ the.expr (read (record { name = name_text n; at = p.at; subs = p.subs }) late) ∷ low
read_made n p late low a b e f = rw (b, a, e, f) refl

subs_from : (us : List Token) (m : ℕ) {i j : ℕ} {ms : List Manifest}
    → i ≡ m + 1
    → g.IsSubscripts us i ms j
    → g.IsSubscripts us (m + 1) ms j
subs_from us m q d = rw q at d

-- the role of a name before an expression's
named_roles : (us : List Token) (m i k : ℕ) (n : Token) {rs : List Role}
    → slice_get us m ≡ Some n
    → i ≡ m + 1
    → i ≤ k
    → rs ≡ weights us i k ++ Plain ∷ []
    → weight_role n ∷ rs ≡ weights us m k ++ Plain ∷ []
named_roles us m i k n {rs} s v w r =
    let u : m + 1 ≤ k = omega arith in
    let f : rs ≡ weights us (m + 1) k ++ Plain ∷ [] = r ∙ ap (λ (z : ℕ). weights us z k ++ Plain ∷ []) v in
    ap (λ z. weight_role n ∷ z) f ∙ ap (λ z. z ++ Plain ∷ []) (sym (weights_more us m k s u))

-- the right side from an equation's first unary that is no place
pub right_side_means : Sound the.RightSide
right_side_means us i vs rs _ _ _ here (a_take {t = t} s h (a_go {rs = ts} r (a_end q w))) =
    settled us the.RightSide i vs rs q w (λ p d bs e.
    let n = r.means p t d bs (ap (λ v. the.token t ∷ v) e) i s (name_seen us i s h) refl in (
      n.0,
      n.1,
      λ a k os x y z. item_to (n.2 a k os x y z) (ap (λ v. os ++ (Starts ∷ weight_role t ∷ v)) (sym (append-nil ts))),
    ))
right_side_means us i vs rs _ j _ (there here) (a_go {j = k0} {rs = ts} u x) = λ p d bs e.
    let m = u.means in
    let n = equation_rest x m.0 d p bs (m.1 ∙ ap (λ v. the.expr m.0 ∷ v) e) in
    let o = joined us (Plain ∷ []) u.within n.within (u.roles Inside refl) n.roles in (
      equation p n.value,
      n.values,
      λ a k os y z v. equation_item us a k i n.k j p n.value os y z v (n.whole i m.2) n.semicolon n.ends o,
    )
right_side_means us i vs rs _ _ _ (there (there x)) h = elim x [ ]

-- after the name that begins a right side
pub right_name_means : Sound the.AfterRightName
right_name_means us i vs rs _ _ _ here
    (a_take s h (a_go {j = k} {rs = ts} r (a_take s2 h2 (a_take s3 h3 (a_make (a_end q w)))))) =
    settled us the.AfterRightName i vs rs q w (λ p n d bs e m sn nm v.
    let o = r.means in
    let f = from_seen us m sn in (
      call (p ∷ []) (name_text n) o.0 (from_at us m),
      rw (o.1, e, f) refl,
      λ a l os x y z.
          call_item us a l m i k p n o.0 os ts x y z sn nm v (mark_seen us i _ s h) o.2 (mark_seen us k _ s2 h2)
          (mark_seen us (k + 1) _ s3 h3),
    ))
right_name_means us i vs rs _ j _ (there here)
    (a_go {xs = xs} {rs = ps} b1 (a_make (a_go {j = k} {rs = ts} b2 (a_make x)))) = λ p n d bs e m sn nm v.
    let m1 = b1.means in
    let m2 = b2.means in
    let f = from_seen us m sn in
    let pl : Place = record { name = name_text n; at = from_at us m; subs = m1.0 } in
    let vals = read_made n pl m2.0 (the.token d ∷ the.place p ∷ bs) m1.1 m2.1 e f in
    let eq = equation_rest x (read pl m2.0) d p bs vals in
    let o =
    joined us (Plain ∷ []) b1.within (le_trans b2.within eq.within) (b1.roles Inside refl)
    (joined us (Plain ∷ []) b2.within eq.within (b2.roles Inside refl) eq.roles) in
    let c = named_roles us m i eq.k n sn v (le_trans b1.within (le_trans b2.within eq.within)) o in
    let un : IsExpr us g.Unary m (read pl m2.0) k = primary (place nm (subs_from us m v m1.2) m2.2) in (
      equation p eq.value,
      eq.values,
      λ a l os y z t. equation_item us a l m eq.k j p eq.value os y z t (eq.whole m un) eq.semicolon eq.ends c,
    )
right_name_means us i vs rs _ _ _ (there (there x)) h = elim x [ ]

-- a loop, as the machine makes it and as the grammar has it
loop_made :
    (s e b ea c to co n o : Token) (lo hi : Manifest) (ys : List Item) (at : ℕ) (bs : List Value)
    {x3 x2 x1 vs : List Value}
    → x3 ≡ the.items ys ∷ the.token b ∷ the.token ea ∷ the.token c ∷ x2
    → x2 ≡ the.manifest hi ∷ the.token to ∷ x1
    → x1 ≡ the.manifest lo ∷ the.token co ∷ vs
    → vs ≡ the.token n ∷ the.token o ∷ bs
    → at ≡ o.from
    → made the.is_loop (the.token s ∷ the.token e ∷ x3) ≡ the.an_item (loop (name_text n) lo hi (items_of ys) at) ∷ bs
loop_made s e b ea c to co n o lo hi ys at bs p3 p2 p1 p0 f = rw (p3, p2, p1, p0, f) refl

loop_item : (us : List Token) (a i j k m : ℕ) (name : List ℕ) (lo hi : Manifest) (xs : Items) (q1 q2 q3 : List Role)
    → IsPunctuation us a punctuation.LEFT_PAREN
    → IsName us (a + 1) name
    → i ≡ a + 2
    → IsPunctuation us i punctuation.COLON
    → IsManifest us g.Manifest_ (i + 1) lo j
    → IsPunctuation us j punctuation.DOT_DOT
    → IsManifest us g.Manifest_ (j + 1) hi k
    → IsPunctuation us k punctuation.RIGHT_PAREN
    → IsPunctuation us (k + 1) punctuation.COLON_COLON
    → IsKeyword us (k + 1 + 1) keyword.BEGIN
    → IsItems us (k + 1 + 1 + 1) xs q3 m
    → IsKeyword us m keyword.END
    → IsPunctuation us (m + 1) punctuation.SEMICOLON
    → q1 ≡ weights us (i + 1) j
    → q2 ≡ weights us (j + 1) k
    → IsItem us a (loop name lo hi xs (from_at us a))
    (Plain ∷ Plain ∷ Starts ∷ (q1 ++ Starts ∷ (q2 ++ Plain ∷ Plain ∷ g.Enters ∷ (q3 ++ g.Leaves ∷ Plain ∷ []))))
    (m + 1 + 1)
loop_item us a i j k m name lo hi xs q1 q2 q3 o n v c l to h cl ea b body en s e1 e2 =
    let p1 : i + 1 ≡ a + 3 = omega arith in
    let p2 : k + 1 + 1 + 1 ≡ k + 3 = omega arith in
    let p3 : m + 2 ≡ m + 1 + 1 = omega arith in
    let low = rw p1 at l in
    let items = rw p2 at body in
    let f1 : q1 ≡ weights us (a + 3) j = e1 ∙ ap (λ (z : ℕ). weights us z j) p1 in
    item_ends
    (item_to (is_loop o n (kind_moved us c v) low to h cl ea (kind_moved us b (omega arith)) items en s)
    (rw (f1, e2) (simp append_assoc))) p3

-- calls of several places
place_made : (n : Token) (p : Place) (low : List Value) {xs vs : List Value}
    → xs ≡ the.subs p.subs ∷ vs
    → vs ≡ the.token n ∷ low
    → p.name ≡ name_text n
    → p.at ≡ n.from
    → made the.first_place (made the.a_place xs) ≡ the.places (p ∷ []) ∷ low
place_made n p low a b c d =
    rw (a, b) (ap (λ x. the.places (x ∷ []) ∷ low) (same_place (name_text n) p.name n.from p.at p.subs c d))
  where
    same_place : (x y : List ℕ) (a b : ℕ) (ms : List Manifest)
        → y ≡ x
        → b ≡ a
        → ◌≡◌ {A = Place} (record { name = x; at = a; subs = ms }) (record { name = y; at = b; subs = ms })
    same_place x y a b ms q r = rw (q, r) refl

calls_made :
    (s c2 o2 f d c o : Token) (ps : List Place) (es : List Expr) (at : ℕ) (bs : List Value) {x3 x2 : List Value}
    → x3 ≡ the.exprs es ∷ the.token o2 ∷ the.token f ∷ the.token d ∷ the.token c ∷ x2
    → x2 ≡ the.places ps ∷ the.token o ∷ bs
    → at ≡ f.from
    → made the.is_calls (the.token s ∷ the.token c2 ∷ x3) ≡ the.an_item (call ps (name_text f) es at) ∷ bs
calls_made s c2 o2 f d c o ps es at bs a b e = rw (a, b, e) refl

calls_item : (us : List Token) (a k l : ℕ) (ps : List Place) (f : List ℕ) (es : List Expr) (q1 q2 q3 : List Role)
    → IsPunctuation us a punctuation.LEFT_PAREN
    → IsTargets us (a + 1) ps ((Plain ∷ q1) ++ q2) k
    → IsPunctuation us k punctuation.RIGHT_PAREN
    → IsPunctuation us (k + 1) punctuation.EQUAL
    → IsName us (k + 1 + 1) f
    → IsPunctuation us (k + 1 + 1 + 1) punctuation.LEFT_PAREN
    → IsArguments us (k + 1 + 1 + 1 + 1) es q3 l
    → IsPunctuation us l punctuation.RIGHT_PAREN
    → IsPunctuation us (l + 1) punctuation.SEMICOLON
    → IsItem us a (call ps f es (from_at us (k + 2)))
    (Plain ∷ Plain ∷ (q1 ++ (q2 ++ Plain ∷ Plain ∷ Plain ∷ Starts ∷ (q3 ++ Plain ∷ Plain ∷ [])))) (l + 1 + 1)
calls_item us a k l ps f es q1 q2 q3 o ts c d n o2 ar c2 s =
    let p1 : k + 1 + 1 + 1 + 1 ≡ k + 4 = omega arith in
    let p2 : l + 2 ≡ l + 1 + 1 = omega arith in
    let args = rw p1 at ar in
    item_ends
    (item_to (is_calls o ts c d (kind_moved us n (omega arith)) (kind_moved us o2 (omega arith)) args c2 s)
    (simp append_assoc)) p2

pub open_name_means : Sound the.AfterOpenName
open_name_means us i vs rs _ _ _ here
    (a_take {t = t} s h
    (a_go {j = k1} {rs = q1} b1
    (a_take {t = t1} s1 h1
    (a_go {j = k2} {xs = x2} {rs = q2} b2
    (a_take {t = t2} s2 h2
    (a_take {t = t3} s3 h3
    (a_take {t = t4} s4 h4
    (a_make
    (a_go {j = k3} {rs = q3} b3 (a_take {t = t5} s5 h5 (a_take {t = t6} s6 h6 (a_make (a_end q w))))))))))))) =
    settled us the.AfterOpenName i vs rs q w (λ n o bs e a x fr nm f2 v.
    let m1 = b1.means in
    let m2 = b2.means in
    let m3 = b3.means [] (the.token t4 ∷ the.token t3 ∷ the.token t2 ∷ x2) refl in (
      loop (name_text n) m1.0 m2.0 (items_of m3.0) (from_at us a),
      loop_made t6 t5 t4 t3 t2 t1 t n o m1.0 m2.0 m3.0 (from_at us a) bs m3.1 m2.1 m1.1 e fr,
      loop_item us a i k1 k2 k3 (name_text n) m1.0 m2.0 (items_of m3.0) q1 q2 q3 x nm v (mark_seen us i _ s h) m1.2
          (mark_seen us k1 _ s1 h1) m2.2 (mark_seen us k2 _ s2 h2) (mark_seen us (k2 + 1) _ s3 h3)
          (word_seen us (k2 + 1 + 1) _ s4 h4) m3.2 (word_seen us k3 _ s5 h5) (mark_seen us (k3 + 1) _ s6 h6)
          (b1.roles Inside refl) (b2.roles Inside refl),
    ))
open_name_means us i vs rs _ _ _ (there here)
    (a_go {j = k0} {rs = q1} b1
    (a_make (a_make
    (a_go {j = k} {rs = q2} b2
    (a_take {t = t} s h
    (a_take {t = t1} s1 h1
    (a_take {t = f} s2 h2
    (a_take {t = t3} s3 h3
    (a_go {j = l} {rs = q3} b3 (a_take {t = t4} s4 h4 (a_take {t = t5} s5 h5 (a_make (a_end q w))))))))))))) =
    settled us the.AfterOpenName i vs rs q w (λ n o bs e a x fr nm f2 v.
    let m1 = b1.means in
    let p : Place = record { name = name_text n; at = from_at us (a + 1); subs = m1.0 } in
    let m2 = b2.means (p ∷ []) (the.token o ∷ bs) (place_made n p (the.token o ∷ bs) m1.1 e refl f2) in
    let m3 = b3.means in
    let y : i ≡ a + 1 + 1 = omega arith in
    let u : IsTargetSubscripts us i m1.0 q1 k0 = m1.2 in
    let ts = m2.2 (a + 1) p (Plain ∷ q1) (target nm (rw y at u)) in
    let two : k + 2 ≡ k + 1 + 1 = omega arith in
    let fs : from_at us (k + 2) ≡ f.from = ap (from_at us) two ∙ from_seen us (k + 1 + 1) s2 in (
      call (p ∷ m2.0) (name_text f) m3.0 (from_at us (k + 2)),
      calls_made t5 t4 t3 f t1 t o (p ∷ m2.0) m3.0 (from_at us (k + 2)) bs m3.1 m2.1 fs,
      calls_item us a k l (p ∷ m2.0) (name_text f) m3.0 q1 q2 q3 x ts (mark_seen us k _ s h)
          (mark_seen us (k + 1) _ s1 h1) (name_seen us (k + 1 + 1) s2 h2) (mark_seen us (k + 1 + 1 + 1) _ s3 h3) m3.2
          (mark_seen us l _ s4 h4) (mark_seen us (l + 1) _ s5 h5),
    ))
open_name_means us i vs rs _ _ _ (there (there x)) h = elim x [ ]
