-- Completeness of the table: it reads the manifest constants, places that are read and delays that the grammar has.
use Rattle.std.proofs.Common.{◌≡◌, ℕ, ◌+◌, List, [], ◌∷◌, Option, refl, sym, subst, arith}
use Rattle.silage_lex.specs.declared.Token.{Token}
use Rattle.silage_syntax.specs.Tree.{Manifest}
use Rattle.silage_syntax.specs.Grammar.{ManifestRule, Manifest_, Terms, Term, Factors, Factor, Primary_, IsManifest}
use Rattle.silage_syntax.specs.Grammar.{terms, no_term, one_term, factors, no_factor, one_factor, minus_factor}
use Rattle.silage_syntax.specs.Grammar.{primary_factor, whole_primary, name_primary, paren_primary, IsSubscripts}
use Rattle.silage_syntax.specs.Grammar.{no_sub, one_sub, two_subs, IsDelay, no_delay, delay}
use Rattle.silage_parse.specs.Private.ParseTable as the
use Rattle.silage_parse.specs.Private.ParseTable.{Nonterminal, Value, Symbol, Act, Expand, Action}
use Rattle.silage_parse.specs.Private.Machine.{made, here, there}
use Rattle.silage_parse.proofs.TokenFacts.{mark_there, name_there, whole_there, known_by}
use Rattle.silage_parse.proofs.Tables.{term_table}
use Rattle.silage_parse.proofs.Derivations.{Goes, g_end, g_match, g_expand, g_act, Does, does}

-- an action that makes these values
pub makes_to : {us : List Token} {a : Action} {ss : List Symbol} {i j : ℕ} {vs xs ws : List Value}
    → made a vs ≡ xs
    → Goes us ss i xs j ws
    → Goes us (Act a ∷ ss) i vs j ws
makes_to {us} {a} {ss} {i} {j} {vs} {xs} {ws} q g =
    let P : List Value → Type 0 = λ x. Goes us ss i x j ws in g_act (subst P (sym q) g)

pub finish : {us : List Token} {a : Action} {i : ℕ} {vs ws : List Value}
    → made a vs ≡ ws
    → Goes us (Act a ∷ []) i vs i ws
finish q = makes_to q g_end

pub goes_to : {us : List Token} {ss : List Symbol} {i j k : ℕ} {vs ws : List Value}
    → Goes us ss i vs j ws
    → j ≡ k
    → Goes us ss i vs k ws
goes_to {us} {ss} {i} {vs = vs} {ws = ws} g q = let P : ℕ → Type 0 = λ x. Goes us ss i vs x ws in subst P q g

pub goes_from : {us : List Token} {ss : List Symbol} {i j k : ℕ} {vs ws : List Value}
    → Goes us ss i vs k ws
    → i ≡ j
    → Goes us ss j vs k ws
goes_from {us} {ss} {k = k} {vs = vs} {ws = ws} g q = let P : ℕ → Type 0 = λ x. Goes us ss x vs k ws in subst P q g

pub does_to : {us : List Token} {p : Nonterminal} {i j : ℕ} {vs xs ws : List Value}
    → xs ≡ ws
    → Does us p i vs j xs
    → Does us p i vs j ws
does_to {us} {p} {i} {j} {vs} q d = let P : List Value → Type 0 = λ x. Does us p i vs j x in subst P q d

-- a nonterminal alone
pub nonterminal : {us : List Token} {p : Nonterminal} {i j : ℕ} {vs ws : List Value}
    → Does us p i vs j ws
    → Goes us (Expand p ∷ []) i vs j ws
nonterminal d = g_expand d g_end

abbrev phrase_of : ManifestRule → Nonterminal
phrase_of Manifest_ = the.Manifest_
phrase_of (Terms a) = the.Terms
phrase_of Term = the.Term
phrase_of (Factors a) = the.Factors
phrase_of Factor = the.Factor
phrase_of Primary_ = the.ManifestPrimary

abbrev front : ManifestRule → List Value → List Value
front (Terms a) vs = the.manifest a ∷ vs
front (Factors a) vs = the.manifest a ∷ vs
front _ vs = vs

pub manifest_does : {us : List Token} {r : ManifestRule} {i j : ℕ} {m : Manifest}
    → IsManifest us r i m j
    → (vs : List Value)
    → Does us (phrase_of r) i (front r vs) j (the.manifest m ∷ vs)
manifest_does (terms a b) vs = does here (g_expand (manifest_does a vs) (nonterminal (manifest_does b vs)))
manifest_does no_term vs = does (there here) g_end
manifest_does {us} (one_term {i = i} {a = a} {o = o} h d r) vs =
    let k = known_by term_table us i h in
    does here
    (g_match k.there k.fits
    (g_expand (manifest_does d (the.token k.tok ∷ the.manifest a ∷ vs))
    (makes_to (rw (k.tells, ← k.from) refl) (nonterminal (manifest_does r vs)))))
manifest_does (factors a b) vs = does here (g_expand (manifest_does a vs) (nonterminal (manifest_does b vs)))
manifest_does no_factor vs = does (there here) g_end
manifest_does {us} (one_factor {i = i} {a = a} h d r) vs =
    let k = mark_there us i _ h in
    does here
    (g_match k.there k.fits
    (g_expand (manifest_does d (the.token k.tok ∷ the.manifest a ∷ vs))
    (makes_to (rw (← k.from) refl) (nonterminal (manifest_does r vs)))))
manifest_does {us} (minus_factor {i = i} h d) vs =
    let k = mark_there us i _ h in
    does here (g_match k.there k.fits (g_expand (manifest_does d (the.token k.tok ∷ vs)) (finish (rw (← k.from) refl))))
manifest_does (primary_factor d) vs = does (there here) (nonterminal (manifest_does d vs))
manifest_does {us} (whole_primary {i = i} {n = n} h) vs =
    let k = whole_there us i n h in
    does here (g_match k.there k.fits (finish (rw (k.tells, ← k.from) refl)))
manifest_does {us} (name_primary {i = i} {name = name} h) vs =
    let k = name_there us i name h in
    does (there here) (g_match k.there k.fits (finish (rw (k.tells, ← k.from) refl)))
manifest_does {us} (paren_primary {i = i} {j = j} h d c) vs =
    let k = mark_there us i _ h in
    let e = mark_there us j _ c in
    does (there (there here))
    (g_match k.there k.fits (g_expand (manifest_does d (the.token k.tok ∷ vs)) (g_match e.there e.fits (g_act g_end))))

pub subs_do : {us : List Token} {i j : ℕ} {ms : List Manifest}
    → IsSubscripts us i ms j
    → (vs : List Value)
    → Does us the.Subs i vs j (the.subs ms ∷ vs)
subs_do no_sub vs = does (there here) (g_act g_end)
subs_do {us} (one_sub {i = i} {j = j} h d c) vs =
    let k = mark_there us i _ h in
    let e = mark_there us j _ c in
    does here
    (g_match k.there k.fits
    (g_expand (manifest_does d (the.token k.tok ∷ vs))
    (g_match e.there e.fits (nonterminal (does (there here) (g_act g_end))))))
subs_do {us} (two_subs {i = i} {j = j} {k = m} h d c o f b) vs =
    let k = mark_there us i _ h in
    let e = mark_there us j _ c in
    let k2 = mark_there us (j + 1) _ o in
    let e2 = mark_there us m _ b in
    let g = goes_from (g_expand (manifest_does f _) (g_match e2.there e2.fits (g_act g_end))) (omega arith) in
    does here
    (g_match k.there k.fits
    (g_expand (manifest_does d (the.token k.tok ∷ vs))
    (g_match e.there e.fits (nonterminal (does here (g_match k2.there k2.fits g))))))

pub delay_does : {us : List Token} {i j : ℕ} {d : Option Manifest}
    → IsDelay us i d j
    → (vs : List Value)
    → Does us the.Delay i vs j (the.delay d ∷ vs)
delay_does no_delay vs = does (there here) (g_act g_end)
delay_does {us} (delay {i = i} h d) vs =
    let k = mark_there us i _ h in
    does here (g_match k.there k.fits (g_expand (manifest_does d (the.token k.tok ∷ vs)) (g_act g_end)))
