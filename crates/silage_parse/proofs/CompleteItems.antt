-- Completeness of the table: it reads the places on the left, arguments and items that the grammar has, with the
-- same roles.
use Rattle.std.proofs.Common.{◌≡◌, ℕ, ◌+◌, List, [], ◌∷◌, ◌++◌, refl, sym, ap, ◌∙◌, subst, arith}
use Rattle.std.proofs.Common.{append_assoc, append-nil}
use Rattle.silage_lex.specs.declared.Token.{Token}
use Rattle.silage_lex.specs.declared.punctuation.TheConstants as punctuation
use Rattle.silage_syntax.specs.Tree.{Manifest, Place, Expr, Item, equation, Items, no_item, item, items_of}
use Rattle.silage_syntax.specs.Grammar.{kind_at, from_at, IsPunctuation, IsManifest, Manifest_, Primary_, IsExpr, Chain}
use Rattle.silage_syntax.specs.Grammar.{Or, Role, Plain, Starts, weights, IsTargetSubscripts, no_target_sub}
use Rattle.silage_syntax.specs.Grammar.{one_target_sub, two_target_subs, IsTarget, target, IsTargets, last_target}
use Rattle.silage_syntax.specs.Grammar.{more_targets, IsArguments, last_arg, more_args, IsItem, is_equation, is_call}
use Rattle.silage_syntax.specs.Grammar.{is_calls, is_loop, is_initial, IsItems, no_items, one_item}
use Rattle.silage_parse.specs.Private.ParseTable as the
use Rattle.silage_parse.specs.Private.ParseTable.{Terminal, Effect, Outside, Begins, Inside, Nonterminal, Value, Symbol}
use Rattle.silage_parse.specs.Private.ParseTable.{Match, Act, Expand, Action, productions, rests, AName, punctuation_of}
use Rattle.silage_parse.specs.Private.ParseTable.{keyword_of}
use Rattle.silage_parse.specs.Private.Machine.{made, Among, candidates, here, there, Reads, r_end}
use Rattle.silage_parse.specs.Private.Machine.{r_expand, r_act}
use Rattle.silage_parse.proofs.SpanRoles.{weights_more}
use Rattle.silage_parse.proofs.TokenFacts.{mark_there, word_there, name_there, kind_moved}
use Rattle.silage_parse.proofs.Derivations.{Goes, g_end, g_match, g_expand, g_act, span, take_reads, Spans_one}
use Rattle.silage_parse.proofs.Derivations.{goes_spans, does_spans, roles_to}
use Rattle.silage_parse.proofs.Readings.{append}
use Rattle.silage_parse.proofs.CompleteManifests.{makes_to, manifest_does, subs_do, delay_does}
use Rattle.silage_parse.proofs.CompleteTypes.{initial_does}
use Rattle.silage_parse.proofs.CompleteExpressions.{First, named, other, expr_does, in_parts}

-- one nonterminal, with the roles of its tokens
pub data Did (us : List Token) : Nonterminal → ℕ → List Value → List Role → ℕ → List Value → Type 0 where
  did : {p : Nonterminal} {ps : List Symbol} {i j : ℕ} {vs ws : List Value} {rs : List Role}
      → Among (candidates p (kind_at us i)) ps
      → Reads us ps i vs rs j ws
      → Did us p i vs rs j ws

pub go : {us : List Token} {p : Nonterminal} {ss : List Symbol} {i j k : ℕ} {vs xs ws : List Value} {rs qs : List Role}
    → Did us p i vs rs j xs
    → Reads us ss j xs qs k ws
    → Reads us (Expand p ∷ ss) i vs (rs ++ qs) k ws
go (did a r) s = r_expand a r s

-- a nonterminal after which no token is read
pub went : {us : List Token} {p : Nonterminal} {ss : List Symbol} {i j k : ℕ} {vs xs ws : List Value} {rs : List Role}
    → Did us p i vs rs j xs
    → Reads us ss j xs [] k ws
    → Reads us (Expand p ∷ ss) i vs rs k ws
went {rs = rs} d r = roles_to (append-nil rs) (go d r)

pub alone : {us : List Token} {p : Nonterminal} {i j : ℕ} {vs ws : List Value} {rs : List Role}
    → Did us p i vs rs j ws
    → Reads us (Expand p ∷ []) i vs rs j ws
alone d = went d r_end

pub spanned : {us : List Token} {e : Effect} {p : Nonterminal} {i j : ℕ} {vs ws : List Value}
    → Spans_one us e p i vs j ws
    → Did us p i vs (span e us i j) j ws
spanned s = did s.among s.spans.reads

pub acts : {us : List Token} {a : Action} {ss : List Symbol} {i j : ℕ} {vs xs ws : List Value} {rs : List Role}
    → made a vs ≡ xs
    → Reads us ss i xs rs j ws
    → Reads us (Act a ∷ ss) i vs rs j ws
acts {us} {a} {ss} {i} {j} {vs} {xs} {ws} {rs} q r =
    let P : List Value → Type 0 = λ x. Reads us ss i x rs j ws in r_act (subst P (sym q) r)

pub did_from : {us : List Token} {p : Nonterminal} {i j k : ℕ} {vs ws : List Value} {rs : List Role}
    → Did us p i vs rs k ws
    → i ≡ j
    → Did us p j vs rs k ws
did_from {us} {p} {k = k} {vs = vs} {ws = ws} {rs = rs} d q =
    let P : ℕ → Type 0 = λ x. Did us p x vs rs k ws in subst P q d

pub did_to : {us : List Token} {p : Nonterminal} {i j : ℕ} {vs xs ws : List Value} {rs : List Role}
    → xs ≡ ws
    → Did us p i vs rs j xs
    → Did us p i vs rs j ws
did_to {us} {p} {i} {j} {vs} {rs = rs} q d = let P : List Value → Type 0 = λ x. Did us p i vs rs j x in subst P q d

pub did_end : {us : List Token} {p : Nonterminal} {i j k : ℕ} {vs ws : List Value} {rs : List Role}
    → Did us p i vs rs j ws
    → j ≡ k
    → Did us p i vs rs k ws
did_end {us} {p} {i} {vs = vs} {ws = ws} {rs = rs} d q = let P : ℕ → Type 0 = λ x. Did us p i vs rs x ws in subst P q d

pub did_roles : {us : List Token} {p : Nonterminal} {i j : ℕ} {vs ws : List Value} {rs qs : List Role}
    → Did us p i vs rs j ws
    → rs ≡ qs
    → Did us p i vs qs j ws
did_roles {us} {p} {i} {j} {vs} {ws} d q = let P : List Role → Type 0 = λ x. Did us p i vs x j ws in subst P q d

-- manifest numbers and expressions
pub manifest_did : {us : List Token} {i j : ℕ} {m : Manifest}
    → IsManifest us Manifest_ i m j
    → (vs : List Value)
    → Did us the.Manifest_ i vs (weights us i j) j (the.manifest m ∷ vs)
manifest_did d vs = spanned (does_spans Inside (manifest_does d vs) refl)

pub amount_did : {us : List Token} {i j : ℕ} {m : Manifest}
    → IsManifest us Primary_ i m j
    → (vs : List Value)
    → Did us the.ManifestPrimary i vs (weights us i j) j (the.manifest m ∷ vs)
amount_did d vs = spanned (does_spans Inside (manifest_does d vs) refl)

pub expr_did : {us : List Token} {i j : ℕ} {e : Expr}
    → IsExpr us (Chain Or) i e j
    → (vs : List Value)
    → Did us (the.Chain Or) i vs (weights us i j) j (the.expr e ∷ vs)
expr_did d vs = spanned (does_spans Inside (expr_does d vs) refl)

pub target_subs_did : {us : List Token} {i j : ℕ} {ms : List Manifest} {rs : List Role}
    → IsTargetSubscripts us i ms rs j
    → (vs : List Value)
    → Did us the.TargetSubs i vs rs j (the.subs ms ∷ vs)
target_subs_did no_target_sub vs = did (there here) (r_act r_end)
target_subs_did {us} (one_target_sub {i = i} {j = j} o m c) vs =
    let k = mark_there us i _ o in
    let e = mark_there us j _ c in
    did here
    (take_reads Begins k.there k.fits
    (go (manifest_did m (the.token k.tok ∷ vs))
    (take_reads Outside e.there e.fits (alone (did (there here) (r_act r_end))))))
target_subs_did {us} (two_target_subs {i = i} {j = j} {k = h} o m c o2 n c2) vs =
    let k = mark_there us i _ o in
    let e = mark_there us j _ c in
    let k2 = mark_there us (j + 1) _ o2 in
    let e2 = mark_there us h _ c2 in
    did_roles
    (did here
    (take_reads Begins k.there k.fits
    (go (manifest_did m (the.token k.tok ∷ vs))
    (take_reads Outside e.there e.fits
    (alone (did here
    (take_reads Begins k2.there k2.fits
    (go (did_from (manifest_did n _) (omega arith)) (take_reads Outside e2.there e2.fits (r_act r_end))))))))))
    (simp append_assoc)

pub target_did : {us : List Token} {i j : ℕ} {p : Place} {rs : List Role}
    → IsTarget us i p rs j
    → (vs : List Value)
    → Did us the.Target i vs rs j (the.place p ∷ vs)
target_did {us} (target {i = i} {name = name} n s) vs =
    let k = name_there us i name n in
    did here
    (take_reads Outside k.there k.fits
    (went (target_subs_did s (the.token k.tok ∷ vs)) (acts (rw (k.tells, ← k.from) refl) r_end)))

-- places after a comma
targets_after : {us : List Token} (a : ℕ) {i j : ℕ} {ps : List Place} {rs : List Role}
    → IsTargets us i ps rs j
    → IsPunctuation us a punctuation.COMMA
    → i ≡ a + 1
    → (ys : List Place) (vs : List Value)
    → Did us the.MoreTargets a (the.places ys ∷ vs) (Plain ∷ rs) j (the.places (ys ++ ps) ∷ vs)
targets_after {us} a (last_target {p = p} t) c q ys vs =
    let k = mark_there us a _ c in
    did here
    (take_reads Outside k.there k.fits
    (went (did_from (target_did t (the.token k.tok ∷ the.places ys ∷ vs)) q) (r_act (alone (did (there here) r_end)))))
targets_after {us} a (more_targets {j = j} {p = p} {ps = ps} t d l) c q ys vs =
    let k = mark_there us a _ c in
    let r = targets_after j l d refl (ys ++ p ∷ []) vs in
    did here
    (take_reads Outside k.there k.fits
    (go (did_from (target_did t (the.token k.tok ∷ the.places ys ∷ vs)) q)
    (r_act (alone (did_to (ap (λ zs. the.places zs ∷ vs) (append_assoc ys (p ∷ []) ps)) r)))))

-- what comes after the places of a call
abbrev pub of_calls : List Symbol
of_calls =
    punctuation_of punctuation.RIGHT_PAREN Outside ∷ punctuation_of punctuation.EQUAL Outside
    ∷ Match (AName ∷ []) Outside ∷ punctuation_of punctuation.LEFT_PAREN Begins ∷ Expand the.Args
    ∷ punctuation_of punctuation.RIGHT_PAREN Outside ∷ punctuation_of punctuation.SEMICOLON Outside ∷ Act the.is_calls
    ∷ []

open_targets : {us : List Token} {i j k : ℕ} {ps : List Place} {rs qs : List Role} {vs ws : List Value}
    → IsTargets us i ps rs j
    → Reads us of_calls j (the.places ps ∷ vs) qs k ws
    → Reads us (Match (AName ∷ []) Outside ∷ Expand the.AfterOpenName ∷ []) i vs (rs ++ qs) k ws
open_targets {us} {vs = vs} (last_target (target {i = i} {name = name} {subs = ms} n s)) r =
    let k = name_there us i name n in
    take_reads Outside k.there k.fits
    (alone (did (there here)
    (go (target_subs_did s (the.token k.tok ∷ vs))
    (acts {xs = the.place (record { name = name; at = from_at us i; subs = ms }) ∷ vs}
    (rw (k.tells, ← k.from) refl) (r_act (go (did (there here) r_end) r))))))
open_targets {us} {qs = qs} {vs = vs}
    (more_targets {j = j} {ps = ps} {qs = ts} (target {i = i} {name = name} {subs = ms} {rs = rs} n s) c l) r =
    let k = name_there us i name n in
    let p : Place = record { name = name; at = from_at us i; subs = ms } in
    roles_to (ap (λ zs. Plain ∷ zs) (sym (append_assoc rs (Plain ∷ ts) qs)))
    (take_reads Outside k.there k.fits
    (alone (did (there here)
    (go (target_subs_did s (the.token k.tok ∷ vs))
    (acts {xs = the.place p ∷ vs} (rw (k.tells, ← k.from) refl)
    (r_act (go (targets_after j l c refl (p ∷ []) vs) r)))))))

-- arguments after a comma
args_after : {us : List Token} (a : ℕ) {i j : ℕ} {es : List Expr} {rs : List Role}
    → IsArguments us i es rs j
    → IsPunctuation us a punctuation.COMMA
    → i ≡ a + 1
    → (ys : List Expr) (vs : List Value)
    → Did us the.MoreArgs a (the.exprs ys ∷ vs) (Starts ∷ rs) j (the.exprs (ys ++ es) ∷ vs)
args_after {us} a (last_arg d) c q ys vs =
    let k = mark_there us a _ c in
    did here
    (take_reads Begins k.there k.fits
    (went (did_from (expr_did d (the.token k.tok ∷ the.exprs ys ∷ vs)) q) (r_act (alone (did (there here) r_end)))))
args_after {us} a (more_args {j = j} {e = e} {es = es} d c2 l) c q ys vs =
    let k = mark_there us a _ c in
    let r = args_after j l c2 refl (ys ++ e ∷ []) vs in
    did here
    (take_reads Begins k.there k.fits
    (go (did_from (expr_did d (the.token k.tok ∷ the.exprs ys ∷ vs)) q)
    (r_act (alone (did_to (ap (λ zs. the.exprs zs ∷ vs) (append_assoc ys (e ∷ []) es)) r)))))

pub args_did : {us : List Token} {i j : ℕ} {es : List Expr} {rs : List Role}
    → IsArguments us i es rs j
    → (vs : List Value)
    → Did us the.Args i vs rs j (the.exprs es ∷ vs)
args_did (last_arg d) vs = did here (went (expr_did d vs) (r_act (alone (did (there here) r_end))))
args_did (more_args {j = j} {e = e} d c l) vs =
    did here (go (expr_did d vs) (r_act (alone (args_after j l c refl (e ∷ []) vs))))

-- what comes after an equation's right side
abbrev equation_end : List Symbol
equation_end = punctuation_of punctuation.SEMICOLON Outside ∷ Act the.is_equation ∷ []

ended : {us : List Token} {j : ℕ} {e : Expr} {p : Place} (d : Token) (vs : List Value)
    → IsPunctuation us j punctuation.SEMICOLON
    → Reads us equation_end j (the.expr e ∷ the.token d ∷ the.place p ∷ vs) (Plain ∷ []) (j + 1)
    (the.an_item (equation p e) ∷ vs)
ended {us} {j} d vs s = let k = mark_there us j _ s in take_reads Outside k.there k.fits (r_act r_end)

-- the right side of an equation, to its end, by its first unary
from_first : {us : List Token} {i k j : ℕ} {h e : Expr} (p : Place) (d : Token) (vs : List Value)
    → First us the.OtherUnary i h k
    → Goes us rests k (the.expr h ∷ the.token d ∷ the.place p ∷ vs) j (the.expr e ∷ the.token d ∷ the.place p ∷ vs)
    → IsPunctuation us j punctuation.SEMICOLON
    → Did us the.RightSide i (the.token d ∷ the.place p ∷ vs) (weights us i j ++ Plain ∷ []) (j + 1)
    (the.an_item (equation p e) ∷ vs)
from_first {us} {i} {j = j} p d vs (named {name = name} {ms = ms} {d = late} n s l) g m =
    let k = name_there us i name n in
    let low : List Value = the.token d ∷ the.place p ∷ vs in
    let b : Goes us (Expand the.Subs ∷ Act the.a_place ∷ Expand the.Delay ∷ Act the.read_expr ∷ rests) (i + 1)
    (the.token k.tok ∷ low) j _ =
    g_expand (subs_do s (the.token k.tok ∷ low))
    (makes_to {xs = the.place (record { name = name; at = from_at us i; subs = ms }) ∷ low}
    (rw (k.tells, ← k.from) refl)
    (g_expand (delay_does l (the.place (record { name = name; at = from_at us i; subs = ms }) ∷ low))
    (g_act g))) in
    let r = goes_spans Inside b refl in
    let w = r.within in
    did_roles (did here (take_reads Inside k.there k.fits (alone (did (there here) (append r.reads (ended d vs m))))))
    (ap (λ zs. zs ++ Plain ∷ []) (sym (weights_more us i j k.there w)))
from_first {us} p d vs (other f) g m =
    let low : List Value = the.token d ∷ the.place p ∷ vs in
    let r = goes_spans Inside (g_expand (f low) g) refl in
    did (there here) (append r.reads (ended d vs m))

pub right_side : {us : List Token} {i j : ℕ} {e : Expr} (p : Place) (d : Token) (vs : List Value)
    → IsExpr us (Chain Or) i e j
    → IsPunctuation us j punctuation.SEMICOLON
    → Did us the.RightSide i (the.token d ∷ the.place p ∷ vs) (weights us i j ++ Plain ∷ []) (j + 1)
    (the.an_item (equation p e) ∷ vs)
right_side p d vs x m = let q = in_parts x in from_first p d vs q.first (q.goes (the.token d ∷ the.place p ∷ vs)) m

-- the items as a list
abbrev pub list_of : Items → List Item
list_of no_item = []
list_of (item x xs) = x ∷ list_of xs

pub of_list : (xs : Items) → items_of (list_of xs) ≡ xs
of_list no_item = refl
of_list (item x xs) = ap (λ ys. item x ys) (of_list xs)

mutual
  pub item_did : {us : List Token} {i j : ℕ} {x : Item} {rs : List Role}
      → IsItem us i x rs j
      → (vs : List Value)
      → Did us the.Item_ i vs rs j (the.an_item x ∷ vs)
  item_did {us} (is_equation {j = j} {p = p} t d e s) vs =
      let k = mark_there us j _ d in
      did_roles
      (did here
      (go (target_did t vs)
      (alone (did (there here) (take_reads Begins k.there k.fits (alone (right_side p k.tok vs e s)))))))
      (simp append_assoc)
  item_did {us} (is_call {j = j} {k = m} {p = p} {f = f} t d n o a c s) vs =
      let k = mark_there us j _ d in
      let k1 = name_there us (j + 1) f n in
      let k2 = mark_there us (j + 1 + 1) _ (kind_moved us o (omega arith)) in
      let k3 = mark_there us m _ c in
      let k4 = mark_there us (m + 1) _ s in
      did_roles
      (did_end (did here
      (go (target_did t vs)
      (alone (did (there here)
      (take_reads Begins k.there k.fits
      (alone (did here
      (take_reads Inside k1.there k1.fits
      (alone (did here
      (take_reads Begins k2.there k2.fits
      (go (did_from (args_did a _) (omega arith))
      (take_reads Outside k3.there k3.fits
      (take_reads Outside k4.there k4.fits
      (acts (rw (k1.tells, ← k1.from) refl) r_end)))))))))))))))
      (omega arith)) (rw k1.weight (simp append_assoc))
  item_did {us} (is_calls {i = i} {j = j} {k = m} {f = f} h ts c d n o a c2 s) vs =
      let k0 = mark_there us i _ h in
      let k1 = mark_there us j _ c in
      let k2 = mark_there us (j + 1) _ d in
      let k3 = name_there us (j + 1 + 1) f (kind_moved us n (omega arith)) in
      let k4 = mark_there us (j + 1 + 1 + 1) _ (kind_moved us o (omega arith)) in
      let k5 = mark_there us m _ c2 in
      let k6 = mark_there us (m + 1) _ s in
      let q : from_at us (j + 2) ≡ k3.tok.from = ap (from_at us) (omega arith) ∙ k3.from in
      did_roles
      (did_end (did (there here)
      (take_reads Outside k0.there k0.fits
      (open_targets ts
      (take_reads Outside k1.there k1.fits
      (take_reads Outside k2.there k2.fits
      (take_reads Outside k3.there k3.fits
      (take_reads Begins k4.there k4.fits
      (go (did_from (args_did a _) (omega arith))
      (take_reads Outside k5.there k5.fits
      (take_reads Outside k6.there k6.fits (acts (rw (k3.tells, ← q) refl) r_end)))))))))))
      (omega arith)) (simp append_assoc)
  item_did {us} (is_loop {i = i} {j = j} {k = m} {m = h} {name = name} {xs = xs} o n c lo to hi cl ea be body en s) vs =
      let k0 = mark_there us i _ o in
      let k1 = name_there us (i + 1) name n in
      let k2 = mark_there us (i + 1 + 1) _ (kind_moved us c (omega arith)) in
      let k3 = mark_there us j _ to in
      let k4 = mark_there us m _ cl in
      let k5 = mark_there us (m + 1) _ ea in
      let k6 = word_there us (m + 1 + 1) _ (kind_moved us be (omega arith)) in
      let k7 = word_there us h _ en in
      let k8 = mark_there us (h + 1) _ s in
      did_roles
      (did_end (did (there here)
      (take_reads Outside k0.there k0.fits
      (take_reads Outside k1.there k1.fits
      (alone (did here
      (take_reads Begins k2.there k2.fits
      (go (did_from (manifest_did lo _) (omega arith))
      (take_reads Begins k3.there k3.fits
      (go (manifest_did hi _)
      (take_reads Outside k4.there k4.fits
      (take_reads Outside k5.there k5.fits
      (take_reads the.Enters k6.there k6.fits
      (r_act (go (did_from (items_did body [] _) (omega arith))
      (take_reads the.Leaves k7.there k7.fits
      (take_reads Outside k8.there k8.fits
      (acts (rw (k1.tells, ← k0.from, of_list xs) refl) r_end)))))))))))))))))
      (omega arith)) (simp append_assoc)
  item_did {us} (is_initial {i = i} {j = j} {k = m} {m = h} {p = p} t b a d v s) vs =
      let k0 = mark_there us j _ b in
      let k1 = mark_there us m _ d in
      let k2 = mark_there us h _ s in
      let g =
      goes_spans Outside
      (g_match {ks = the.Punctuation punctuation.EQUAL ∷ []} {e = Outside} k1.there k1.fits
      (g_expand (initial_does v _)
      (g_match {ks = the.Punctuation punctuation.SEMICOLON ∷ []} {e = Outside} k2.there k2.fits
      (g_act {a = the.is_initial} g_end)))) refl in
      did_roles
      (did here
      (go (target_did t vs) (alone (did here (take_reads Begins k0.there k0.fits (go (amount_did a _) g.reads))))))
      (simp append_assoc)

  pub items_did : {us : List Token} {i j : ℕ} {xs : Items} {rs : List Role}
      → IsItems us i xs rs j
      → (ys : List Item) (vs : List Value)
      → Did us the.Items_ i (the.items ys ∷ vs) rs j (the.items (ys ++ list_of xs) ∷ vs)
  items_did no_items ys vs = did_to (ap (λ zs. the.items zs ∷ vs) (sym (append-nil ys))) (did (there here) r_end)
  items_did (one_item {x = x} {xs = xs} d r) ys vs =
      let q = items_did r (ys ++ x ∷ []) vs in
      did here
      (go (item_did d (the.items ys ∷ vs))
      (r_act (alone (did_to (ap (λ zs. the.items zs ∷ vs) (append_assoc ys (x ∷ []) (list_of xs))) q))))
