-- Completeness of the table: it reads the signed numbers, dims, fix types, declarations and lists of them that the
-- grammar has.
use Rattle.std.proofs.Common.{◌≡◌, Option, ℕ, ◌+◌, List, [], ◌∷◌, ◌++◌, map, refl, sym, ap, arith, append_assoc}
use Rattle.std.proofs.Common.{append-nil}
use Rattle.fix_word.specs.declared.types.FixType.{FixType}
use Rattle.fix_word.specs.declared.types.Mode.{Mode}
use Rattle.fix_word.specs.declared.types.SigType.{SigType}
use Rattle.silage_lex.specs.declared.Token.{Token}
use Rattle.silage_lex.specs.declared.TokenKind.{TokenKind}
use Rattle.silage_lex.specs.declared.punctuation.TheConstants as punctuation
use Rattle.silage_syntax.specs.declared.tree.Lit.{Lit}
use Rattle.silage_syntax.specs.declared.tree.Decl.{Decl}
use Rattle.silage_syntax.specs.Grammar.{from_at, IsPunctuation, IsSigned, positive, negative, IsList, last, more}
use Rattle.silage_syntax.specs.Grammar.{IsDims, scalar, vector, matrix, IsMode, trunc, round, round_sat, sat, IsFix}
use Rattle.silage_syntax.specs.Grammar.{no_mode, with_mode, IsType, fix, bool, Declared, typed, IsDeclared, declared}
use Rattle.silage_syntax.specs.Grammar.{IsDecl, decl, IsLocals, no_locals, some_locals, IsResults, one_result, results}
use Rattle.silage_syntax.specs.Grammar.{IsWords, one_word, words, IsInitialValue, signed, truth_value}
use Rattle.silage_parse.specs.Private.ParseTable as the
use Rattle.silage_parse.specs.Private.ParseTable.{Effect, Nonterminal, Value, Symbol, Match, Act, Expand, Action}
use Rattle.silage_parse.specs.Private.ParseTable.{productions, punctuation_of}
use Rattle.silage_parse.specs.Private.Machine.{Among, candidates, here, there}
use Rattle.silage_parse.specs.Private.CommaLists as lists
use Rattle.silage_parse.specs.Private.CommaLists.{CommaList}
use Rattle.silage_parse.proofs.SoundLists.{comma_row}
use Rattle.silage_parse.proofs.TokenFacts.{mark_there, word_there, name_there, whole_there, kind_moved, known_by}
use Rattle.silage_parse.proofs.Tables.{number_table, truth_table}
use Rattle.silage_parse.proofs.Derivations.{Goes, g_end, g_match, g_expand, g_act, Does, does}
use Rattle.silage_parse.proofs.CompleteManifests.{makes_to, finish, goes_to, goes_from, does_to, nonterminal}

mode_does : {us : List Token} (e : Effect) {i j : ℕ} {m : Mode}
    → IsMode us i m j
    → (vs : List Value)
    → Does us (the.Mode_ e) i vs j (the.mode m ∷ vs)
mode_does {us} e (trunc {i = i} a) vs =
    let k = word_there us i _ a in
    does here (g_match k.there k.fits (g_act g_end))
mode_does {us} e (sat {i = i} a) vs =
    let k = word_there us i _ a in
    does (there here) (g_match k.there k.fits (g_act g_end))
mode_does {us} e (round {i = i} a) vs =
    let k = word_there us i _ a in
    does (there (there here)) (g_match k.there k.fits (nonterminal (does (there here) (g_act g_end))))
mode_does {us} e (round_sat {i = i} a b c) vs =
    let k = word_there us i _ a in
    let k1 = mark_there us (i + 1) _ b in
    let k2 = word_there us (i + 1 + 1) _ (kind_moved us c (omega arith)) in
    does (there (there here))
    (goes_to (g_match k.there k.fits
    (nonterminal (does here (g_match k1.there k1.fits (g_match k2.there k2.fits (g_act g_end))))))
    (omega arith))

pub fix_does : {us : List Token} (e : Effect) {i j : ℕ} {f : FixType}
    → IsFix us i f j
    → (vs : List Value)
    → Does us (the.FixIn e) i vs j (the.fix (from_at us i) f ∷ vs)
fix_does {us} e (no_mode {i = i} {w = w} {f = f} a b c d g h) vs =
    let k0 = word_there us i _ a in
    let k1 = mark_there us (i + 1) _ b in
    let k2 = whole_there us (i + 1 + 1) w (kind_moved us c (omega arith)) in
    let k3 = mark_there us (i + 1 + 1 + 1) _ (kind_moved us d (omega arith)) in
    let k4 = whole_there us (i + 1 + 1 + 1 + 1) f (kind_moved us g (omega arith)) in
    let k5 = mark_there us (i + 1 + 1 + 1 + 1 + 1) _ (kind_moved us h (omega arith)) in
    does here
    (goes_to (g_match k0.there k0.fits
    (g_match k1.there k1.fits
    (g_match k2.there k2.fits
    (g_match k3.there k3.fits
    (g_match k4.there k4.fits
    (nonterminal
    (does (there here) (g_match k5.there k5.fits (finish (rw (k2.tells, k4.tells, ← k0.from) refl))))))))))
    (omega arith))
fix_does {us} e (with_mode {i = i} {j = j} {w = w} {f = f} a b c d g h o p) vs =
    let k0 = word_there us i _ a in
    let k1 = mark_there us (i + 1) _ b in
    let k2 = whole_there us (i + 1 + 1) w (kind_moved us c (omega arith)) in
    let k3 = mark_there us (i + 1 + 1 + 1) _ (kind_moved us d (omega arith)) in
    let k4 = whole_there us (i + 1 + 1 + 1 + 1) f (kind_moved us g (omega arith)) in
    let k5 = mark_there us (i + 1 + 1 + 1 + 1 + 1) _ (kind_moved us h (omega arith)) in
    let k6 = mark_there us j _ p in
    let mode_on =
    goes_from (g_expand (mode_does e o _)
    (g_match k6.there k6.fits (finish (rw (k2.tells, k4.tells, ← k0.from) refl)))) (omega arith) in
    does here
    (g_match k0.there k0.fits
    (g_match k1.there k1.fits
    (g_match k2.there k2.fits
    (g_match k3.there k3.fits
    (g_match k4.there k4.fits (nonterminal (does here (g_match k5.there k5.fits mode_on))))))))

pub signed_does : {us : List Token} {i j : ℕ} {l : Lit}
    → IsSigned us i l j
    → (vs : List Value)
    → Does us the.Signed i vs j (the.lit l ∷ vs)
signed_does {us} (positive {i = i} {d = d} {p = p} n) vs =
    let k = known_by number_table us i n in
    does (there here) (g_match k.there k.fits (finish (rw (k.tells, ← k.from) refl)))
signed_does {us} (negative {i = i} {d = d} {p = p} m n) vs =
    let k = mark_there us i _ m in
    let k1 = known_by number_table us (i + 1) n in
    does here
    (goes_to (g_match k.there k.fits (g_match k1.there k1.fits (finish (rw (k1.tells, ← k.from) refl)))) (omega arith))

pub initial_does : {us : List Token} {i j : ℕ} {l : Lit}
    → IsInitialValue us i l j
    → (vs : List Value)
    → Does us the.InitialValue i vs j (the.lit l ∷ vs)
initial_does (signed s) vs = does (there here) (nonterminal (signed_does s vs))
initial_does {us} (truth_value {i = i} {b = b} h) vs =
    let k = known_by truth_table us i h in
    does here (g_match k.there k.fits (finish (rw (k.tells, ← k.from) refl)))

pub dims_do : {us : List Token} {i j : ℕ} {ds : List ℕ}
    → IsDims us i ds j
    → (vs : List Value)
    → Does us the.Dims i vs j (the.dims ds ∷ vs)
dims_do scalar vs = does (there here) (g_act g_end)
dims_do {us} (vector {i = i} {n = n} a b c) vs =
    let k0 = mark_there us i _ a in
    let k1 = whole_there us (i + 1) n b in
    let k2 = mark_there us (i + 1 + 1) _ (kind_moved us c (omega arith)) in
    does here
    (goes_to (g_match k0.there k0.fits
    (g_match k1.there k1.fits
    (g_match k2.there k2.fits (nonterminal (does (there here) (finish (rw k1.tells refl)))))))
    (omega arith))
dims_do {us} (matrix {i = i} {n = n} {m = m} a b c d e f) vs =
    let k0 = mark_there us i _ a in
    let k1 = whole_there us (i + 1) n b in
    let k2 = mark_there us (i + 1 + 1) _ (kind_moved us c (omega arith)) in
    let k3 = mark_there us (i + 1 + 1 + 1) _ (kind_moved us d (omega arith)) in
    let k4 = whole_there us (i + 1 + 1 + 1 + 1) m (kind_moved us e (omega arith)) in
    let k5 = mark_there us (i + 1 + 1 + 1 + 1 + 1) _ (kind_moved us f (omega arith)) in
    does here
    (goes_to (g_match k0.there k0.fits
    (g_match k1.there k1.fits
    (g_match k2.there k2.fits
    (nonterminal
    (does here
    (g_match k3.there k3.fits
    (g_match k4.there k4.fits (g_match k5.there k5.fits (finish (rw (k1.tells, k4.tells) refl))))))))))
    (omega arith))

pub type_does : {us : List Token} {i j : ℕ} {t : SigType}
    → IsType us i t j
    → (vs : List Value)
    → Does us the.Type_ i vs j (the.ty t ∷ vs)
type_does (fix f) vs = does (there here) (g_expand (fix_does the.Outside f vs) (g_act g_end))
type_does {us} (bool {i = i} h) vs = let k = word_there us i _ h in does here (g_match k.there k.fits (g_act g_end))

pub declared_does : {us : List Token} {i j : ℕ} {d : Declared}
    → IsDeclared us i d j
    → (vs : List Value)
    → Does us the.Name_ i vs j (the.name d ∷ vs)
declared_does {us} (declared {i = i} {name = name} h d) vs =
    let k = name_there us i name h in
    does here
    (g_match k.there k.fits (g_expand (dims_do d (the.token k.tok ∷ vs)) (finish (rw (k.tells, ← k.from) refl))))

pub decl_does : {us : List Token} {i j : ℕ} {d : Decl}
    → IsDecl us i d j
    → (vs : List Value)
    → Does us the.Decl_ i vs j (the.decl d ∷ vs)
decl_does {us} (decl {j = j} {d = d} n c t) vs =
    let k = mark_there us j _ c in
    does here
    (g_expand (declared_does n vs)
    (g_match k.there k.fits (g_expand (type_does t (the.token k.tok ∷ the.name d ∷ vs)) (g_act g_end))))

-- A list with commas whose elements the table reads, which goes on or ends whatever comes next.
pub record ListRead {A : Type 0} (l : CommaList A) (us : List Token) (One : ℕ → A → ℕ → Type 0) : Type 0 where
  pub each : (i j : ℕ) (x : A) → One i x j → (vs : List Value) → Does us l.element i vs j (l.value x ∷ vs)
  pub goes : (k : Option TokenKind) → Among (candidates l.more k) (comma_row l)
  pub ends : (k : Option TokenKind) → Among (candidates l.more k) []

-- what it goes on with after a comma, from the ones so far
list_after : {A : Type 0} {l : CommaList A} {us : List Token} {One : ℕ → A → ℕ → Type 0}
    → ListRead l us One
    → (a : ℕ) {i j : ℕ} {xs : List A} (ys : List A) (vs : List Value)
    → IsPunctuation us a punctuation.COMMA
    → IsList us A One i xs j
    → i ≡ a + 1
    → Does us l.more a (l.values ys ∷ vs) j (l.values (ys ++ xs) ∷ vs)
list_after {l = l} {us} is a ys vs c (last {x = x} d) e =
    let k = mark_there us a _ c in
    does (is.goes _)
    (g_match k.there k.fits
    (goes_from
    (g_expand (is.each _ _ _ d (the.token k.tok ∷ l.values ys ∷ vs))
    (makes_to (l.adds x ys k.tok vs) (nonterminal (does (is.ends _) g_end)))) e))
list_after {l = l} {us} is a ys vs c (more {j = m} {x = x} {xs = xs} d c2 rest) e =
    let k = mark_there us a _ c in
    let r = list_after is m (ys ++ x ∷ []) vs c2 rest refl in
    does (is.goes _)
    (g_match k.there k.fits
    (goes_from
    (g_expand (is.each _ _ _ d (the.token k.tok ∷ l.values ys ∷ vs))
    (makes_to (l.adds x ys k.tok vs)
    (nonterminal (does_to (ap (λ zs. l.values zs ∷ vs) (append_assoc ys (x ∷ []) xs)) r)))) e))

-- the list with what follows it
pub list_then : {A : Type 0} {l : CommaList A} {us : List Token} {One : ℕ → A → ℕ → Type 0}
    → ListRead l us One
    → {i j m : ℕ} {xs : List A} {ss : List Symbol} {vs ws : List Value}
    → IsList us A One i xs j
    → Goes us ss j (l.values xs ∷ vs) m ws
    → Goes us (Expand l.element ∷ Act l.first ∷ Expand l.more ∷ ss) i vs m ws
list_then {l = l} is {vs = vs} (last {x = x} d) g =
    g_expand (is.each _ _ _ d vs) (makes_to (l.begins x vs) (g_expand (does (is.ends _) g_end) g))
list_then {l = l} is {vs = vs} (more {j = m} {x = x} d c rest) g =
    g_expand (is.each _ _ _ d vs) (makes_to (l.begins x vs) (g_expand (list_after is m (x ∷ []) vs c rest refl) g))

pub decls_read : (us : List Token) → ListRead lists.decls us (IsDecl us)
decls_read us = record { each = λ i j x d vs. decl_does d vs; goes = λ k. here; ends = λ k. there here }

names_read : (us : List Token) → ListRead lists.names us (IsDeclared us)
names_read us = record { each = λ i j x d vs. declared_does d vs; goes = λ k. here; ends = λ k. there here }

words_read : (us : List Token) → ListRead lists.words us (IsSigned us)
words_read us = record { each = λ i j x d vs. signed_does d vs; goes = λ k. here; ends = λ k. there here }

pub words_do : {us : List Token} {i j : ℕ} {ls : List Lit}
    → IsWords us i ls j
    → (vs : List Value)
    → Does us the.Words i vs j (the.lits ls ∷ vs)
words_do (one_word s) vs = does (there here) (g_expand (signed_does s vs) (g_act g_end))
words_do {us} (words {i = i} {j = j} a l b) vs =
    let k = mark_there us i _ a in
    let e = mark_there us j _ b in
    does here (g_match k.there k.fits (list_then (words_read us) l (g_match e.there e.fits (g_act g_end))))

pub results_do : {us : List Token} {i j : ℕ} {ds : List Decl}
    → IsResults us i ds j
    → (vs : List Value)
    → Does us the.Results i vs j (the.decls ds ∷ vs)
results_do (one_result d) vs = does (there here) (g_expand (decl_does d vs) (g_act g_end))
results_do {us} (results {i = i} {j = j} a l b) vs =
    let k = mark_there us i _ a in
    let e = mark_there us j _ b in
    does here (g_match k.there k.fits (list_then (decls_read us) l (g_match e.there e.fits (g_act g_end))))

pub locals_do : {us : List Token} {i j : ℕ} {ds : List Decl}
    → IsLocals us i ds j
    → (ys : List Decl) (vs : List Value)
    → Does us the.Locals i (the.decls ys ∷ vs) j (the.decls (ys ++ ds) ∷ vs)
locals_do no_locals ys vs = does_to (ap (λ zs. the.decls zs ∷ vs) (sym (append-nil ys))) (does (there here) g_end)
locals_do {us} (some_locals {i = i} {j = j} {k = m} {ds = ds} {ty = ty} {rest = rest} v l c t s r) ys vs =
    let k0 = word_there us i _ v in
    let k1 = mark_there us j _ c in
    let k2 = mark_there us m _ s in
    let g = locals_do r (ys ++ map (typed ty) ds) vs in
    does here
    (g_match k0.there k0.fits
    (list_then (names_read us) l
    (g_match k1.there k1.fits
    (g_expand (type_does t _)
    (g_match k2.there k2.fits
    (g_act
    (nonterminal (does_to (ap (λ zs. the.decls zs ∷ vs) (append_assoc ys (map (typed ty) ds) rest)) g))))))))
