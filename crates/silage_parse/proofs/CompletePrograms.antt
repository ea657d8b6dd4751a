-- Completeness of the table: it reads the functions, tables and programs that the grammar has, with the same roles.
use Rattle.std.proofs.Common.{◌≡◌, ℕ, ◌+◌, true, List, [], ◌∷◌, ◌++◌, length, None, slice_get, refl, sym, ap, ◌∙◌}
use Rattle.std.proofs.Common.{arith, append_assoc, append-nil}
use Rattle.silage_lex.specs.declared.Token.{Token}
use Rattle.silage_lex.specs.declared.punctuation.TheConstants as punctuation
use Rattle.silage_lex.specs.declared.keywords.TheConstants as keyword
use Rattle.silage_syntax.specs.Tree.{Top, table, Program}
use Rattle.silage_syntax.specs.Grammar.{kind_at, from_at, Role, IsTop, is_table, is_function, IsTops, no_tops, one_top}
use Rattle.silage_syntax.specs.Grammar.{HasRoles}
use Rattle.silage_parse.specs.Private.ParseTable as the
use Rattle.silage_parse.specs.Private.ParseTable.{Outside, Source, Nonterminal, Value, Symbol, Match, Act, Expand}
use Rattle.silage_parse.specs.Private.ParseTable.{AName, End, is_one, punctuation_of, keyword_of}
use Rattle.silage_parse.specs.Private.Machine.{here, there, pushed, roles_of, Reads, r_end, r_match, r_act}
use Rattle.silage_parse.proofs.TokenFacts.{mark_there, word_there, name_there, kind_moved}
use Rattle.silage_parse.proofs.Derivations.{Goes, g_end, g_match, g_expand, g_act, take_reads, goes_spans}
use Rattle.silage_parse.proofs.Derivations.{roles_to}
use Rattle.silage_parse.proofs.Readings.{append}
use Rattle.silage_parse.proofs.CompleteManifests.{goes_from}
use Rattle.silage_parse.proofs.CompleteTypes.{fix_does, declared_does, decls_read, list_then, words_do, results_do}
use Rattle.silage_parse.proofs.CompleteTypes.{locals_do}
use Rattle.silage_parse.proofs.CompleteItems.{Did, did, go, alone, acts, did_from, did_to, did_roles}
use Rattle.silage_parse.proofs.CompleteItems.{of_list, items_did}

-- a table, before the tables and functions after it
abbrev of_table : List Symbol
of_table =
    keyword_of keyword.CONST Outside ∷ Expand the.Name_ ∷ punctuation_of punctuation.COLON Outside
    ∷ Expand (the.FixIn Outside) ∷ punctuation_of punctuation.EQUAL Outside ∷ Expand the.Words
    ∷ punctuation_of punctuation.SEMICOLON Outside ∷ Act the.add_table ∷ []

-- a function, up to its items
abbrev of_function : List Symbol
of_function =
    keyword_of keyword.FUNC Outside ∷ Match (AName ∷ []) Outside ∷ punctuation_of punctuation.LEFT_PAREN Outside
    ∷ Expand the.Decl_ ∷ Act the.first_decl ∷ Expand the.MoreDecls ∷ punctuation_of punctuation.RIGHT_PAREN Outside
    ∷ Expand the.Results ∷ punctuation_of punctuation.EQUAL Outside ∷ keyword_of keyword.BEGIN Outside
    ∷ Act the.no_locals ∷ Expand the.Locals ∷ Act the.no_items ∷ []

top_reads :
    {us : List Token} {i j m : ℕ} {t : Top} (ts : List Top) {rs qs : List Role} (vs : List Value) {ws : List Value}
    → IsTop us i t rs j
    → Did us the.Tops j (the.tops (ts ++ t ∷ []) ∷ vs) qs m ws
    → Did us the.Tops i (the.tops ts ∷ vs) (rs ++ qs) m ws
top_reads {us} ts vs (is_table {i = i} {j = j} {k = h} {m = m} {d = d} {f = f} {ls = ls} w n c x e l s) r =
    let k0 = word_there us i _ w in
    let k1 = mark_there us j _ c in
    let k2 = mark_there us h _ e in
    let k3 = mark_there us m _ s in
    let g : Goes us of_table i (the.tops ts ∷ vs) (m + 1)
    (the.tops (ts ++ table (record { name = d.name; at = d.at; dims = d.dims; ty = f; words = ls }) ∷ []) ∷ vs) =
    g_match k0.there k0.fits
    (g_expand (declared_does n _)
    (g_match k1.there k1.fits
    (g_expand (fix_does Outside x _)
    (g_match k2.there k2.fits (g_expand (words_do l _) (g_match k3.there k3.fits (g_act g_end))))))) in
    did here (append (goes_spans Outside g refl).reads (alone r))
top_reads {us} ts vs
    (is_function {i = i} {j = j} {k = h} {m = m} {n = n} {name = name} {ps = ps} {rs = rs} {ls = ls} {xs = xs} {qs = qs}
    w a o p c q e b l x en s) r =
    let k0 = word_there us i _ w in
    let k1 = name_there us (i + 1) name a in
    let k2 = mark_there us (i + 1 + 1) _ (kind_moved us o (omega arith)) in
    let k3 = mark_there us j _ c in
    let k4 = mark_there us h _ e in
    let k5 = word_there us (h + 1) _ b in
    let k6 = word_there us n _ en in
    let k7 = mark_there us (n + 1) _ s in
    let low : List Value = the.token k0.tok ∷ the.tops ts ∷ vs in
    let names : List Value = the.token k3.tok ∷ the.decls ps ∷ the.token k2.tok ∷ the.token k1.tok ∷ low in
    let heads : List Value = the.token k5.tok ∷ the.token k4.tok ∷ the.decls rs ∷ names in
    let after : Goes us
    (punctuation_of punctuation.RIGHT_PAREN Outside ∷ Expand the.Results ∷ punctuation_of punctuation.EQUAL Outside
    ∷ keyword_of keyword.BEGIN Outside ∷ Act the.no_locals ∷ Expand the.Locals ∷ Act the.no_items ∷ [])
    j (the.decls ps ∷ the.token k2.tok ∷ the.token k1.tok ∷ low) m (the.items [] ∷ the.decls ls ∷ heads) =
    g_match k3.there k3.fits
    (g_expand (results_do q names)
    (g_match k4.there k4.fits
    (g_match k5.there k5.fits
    (g_act (goes_from (g_expand (locals_do l [] heads) (g_act g_end)) (omega arith)))))) in
    let g : Goes us of_function i (the.tops ts ∷ vs) m (the.items [] ∷ the.decls ls ∷ heads) =
    g_match k0.there k0.fits
    (g_match k1.there k1.fits
    (g_match k2.there k2.fits (goes_from (list_then (decls_read us) p after) (omega arith)))) in
    did_roles
    (did (there here)
    (append (goes_spans Outside g refl).reads
    (go (items_did x [] _)
    (take_reads Outside k6.there k6.fits
    (take_reads Outside k7.there k7.fits
    (acts (rw (k1.tells, of_list xs) (let f : k1.tok.from ≡ from_at us (i + 1) = sym k1.from in rw f refl))
    (alone (did_from r (omega arith))))))))) (simp append_assoc)

pub tops_did : {us : List Token} {i j : ℕ} {ts : List Top} {rs : List Role}
    → IsTops us i ts rs j
    → (ys : List Top) (vs : List Value)
    → Did us the.Tops i (the.tops ys ∷ vs) rs j (the.tops (ys ++ ts) ∷ vs)
tops_did no_tops ys vs = did_to (ap (λ zs. the.tops zs ∷ vs) (sym (append-nil ys))) (did (there (there here)) r_end)
tops_did (one_top {t = t} {rest = rest} d r) ys vs =
    did_to (ap (λ zs. the.tops zs ∷ vs) (append_assoc ys (t ∷ []) rest))
    (top_reads ys vs d (tops_did r (ys ++ t ∷ []) vs))

-- no token is after the last one
none_at : (us : List Token) → slice_get us (length us) ≡ None
none_at [] = refl
none_at (x ∷ xs) = none_at xs

-- the tokens of a program are read by the table, with the same roles
pub reads_of : (us : List Token) (p : Program) (roles : List Role)
    → HasRoles us p roles
    → Reads us (Expand Source ∷ []) 0 [] roles (length us + 1) (the.tops p.tops ∷ [])
reads_of us p roles h =
    let n = none_at us in
    let e : is_one (End ∷ []) (kind_at us (length us)) ≡ true = rw n refl in
    let last : Reads us [] (length us + 1) (pushed (slice_get us (length us)) (the.tops p.tops ∷ [])) [] (length us + 1)
    (the.tops p.tops ∷ []) = rw n r_end in
    let end : Reads us (Match (End ∷ []) Outside ∷ []) (length us) (the.tops p.tops ∷ [])
    (roles_of Outside (slice_get us (length us)) ++ []) (length us + 1) (the.tops p.tops ∷ []) = r_match e last in
    let none : roles_of Outside (slice_get us (length us)) ++ [] ≡ [] = rw n refl in
    alone (did here (r_act (roles_to (ap (λ zs. roles ++ zs) none ∙ append-nil roles) (go (tops_did h [] []) end))))
