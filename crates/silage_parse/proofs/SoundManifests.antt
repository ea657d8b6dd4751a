-- Soundness of the table: the grammar has the manifest constants, places that are read and delays that the table reads.
use Rattle.std.proofs.Common.{◌≡◌, ◌+◌, [], ◌∷◌, Some, None, refl, ap, arith}
use Rattle.silage_syntax.specs.declared.tree.MOp.TheVariants as mop
use Rattle.silage_syntax.specs.Tree.{whole, counter, minus, both}
use Rattle.silage_syntax.specs.Grammar.{from_at, terms, no_term, one_term, factors, no_factor, one_factor, minus_factor}
use Rattle.silage_syntax.specs.Grammar.{primary_factor, whole_primary, name_primary, paren_primary, no_sub, one_sub}
use Rattle.silage_syntax.specs.Grammar.{two_subs, no_delay, delay, term_operator}
use Rattle.silage_parse.specs.Private.ParseTable as the
use Rattle.silage_parse.specs.Private.ParseTable.{Nonterminal, Value, Symbol, Act, Expand, Action, productions}
use Rattle.silage_parse.specs.Private.Machine.{made, here, there, name_text, whole_value, or_else}
use Rattle.silage_parse.proofs.TokenFacts.{mark_seen, name_seen, whole_seen, from_seen, kind_moved, seen_by}
use Rattle.silage_parse.proofs.Tables.{term_table}
use Rattle.silage_parse.proofs.SoundSteps.{Sound, a_end, a_take, a_go, a_make, settled}

pub manifest_means : Sound the.Manifest_
manifest_means us i vs rs _ _ _ here (a_go a (a_go b (a_end q w))) = settled us the.Manifest_ i vs rs q w (
    let m = a.means in
    let n = b.means m.0 vs m.1 in
    (n.0, n.1, terms m.2 n.2))
manifest_means us i vs rs _ _ _ (there x) h = elim x [ ]

pub terms_mean : Sound the.Terms
terms_mean us i vs rs _ _ _ here (a_take {t = t} s h (a_go {xs = xs} d (a_make (a_go r (a_end q w))))) =
    settled us the.Terms i vs rs q w (λ a bs e.
    let m = d.means in
    let f = from_seen us i s in
    let o = or_else mop.Add (term_operator (Some t.kind)) in
    let v : made the.add_term xs ≡ the.manifest (both (from_at us i) o a m.0) ∷ bs = rw (m.1, e, f) refl in
    let x = r.means (both (from_at us i) o a m.0) bs v in
    (x.0, x.1, one_term (seen_by term_table mop.Add us i s h) m.2 x.2))
terms_mean us i vs rs _ _ _ (there here) (a_end q w) = settled us the.Terms i vs rs q w (λ a bs e. (a, e, no_term))
terms_mean us i vs rs _ _ _ (there (there x)) h = elim x [ ]

pub term_means : Sound the.Term
term_means us i vs rs _ _ _ here (a_go a (a_go b (a_end q w))) = settled us the.Term i vs rs q w (
    let m = a.means in
    let n = b.means m.0 vs m.1 in
    (n.0, n.1, factors m.2 n.2))
term_means us i vs rs _ _ _ (there x) h = elim x [ ]

pub factors_mean : Sound the.Factors
factors_mean us i vs rs _ _ _ here (a_take {t = t} s h (a_go {xs = xs} d (a_make (a_go r (a_end q w))))) =
    settled us the.Factors i vs rs q w (λ a bs e.
    let m = d.means in
    let f = from_seen us i s in
    let v : made the.add_factor xs ≡ the.manifest (both (from_at us i) mop.Mul a m.0) ∷ bs = rw (m.1, e, f) refl in
    let x = r.means (both (from_at us i) mop.Mul a m.0) bs v in
    (x.0, x.1, one_factor (mark_seen us i _ s h) m.2 x.2))
factors_mean us i vs rs _ _ _ (there here) (a_end q w) =
    settled us the.Factors i vs rs q w (λ a bs e. (a, e, no_factor))
factors_mean us i vs rs _ _ _ (there (there x)) h = elim x [ ]

pub factor_means : Sound the.Factor
factor_means us i vs rs _ _ _ here (a_take {t = t} s h (a_go {xs = xs} d (a_make (a_end q w)))) =
    settled us the.Factor i vs rs q w (
    let m = d.means in
    let f = from_seen us i s in
    (minus (from_at us i) m.0, rw (m.1, f) refl, minus_factor (mark_seen us i _ s h) m.2))
factor_means us i vs rs _ _ _ (there here) (a_go d (a_end q w)) = settled us the.Factor i vs rs q w (
    let m = d.means in
    (m.0, m.1, primary_factor m.2))
factor_means us i vs rs _ _ _ (there (there x)) h = elim x [ ]

pub amount_means : Sound the.ManifestPrimary
amount_means us i vs rs _ _ _ here (a_take {t = t} s h (a_make (a_end q w))) =
    settled us the.ManifestPrimary i vs rs q w (
    let f = from_seen us i s in
    (whole (whole_value t) (from_at us i), rw f refl, whole_primary (whole_seen us i s h)))
amount_means us i vs rs _ _ _ (there here) (a_take {t = t} s h (a_make (a_end q w))) =
    settled us the.ManifestPrimary i vs rs q w (
    let f = from_seen us i s in
    (counter (name_text t) (from_at us i), rw f refl, name_primary (name_seen us i s h)))
amount_means us i vs rs _ _ _ (there (there here))
    (a_take {t = t} s h (a_go {j = k} d (a_take s2 h2 (a_make (a_end q w))))) =
    settled us the.ManifestPrimary i vs rs q w (
    let m = d.means in
    (m.0, rw m.1 refl, paren_primary (mark_seen us i _ s h) m.2 (mark_seen us k _ s2 h2)))
amount_means us i vs rs _ _ _ (there (there (there x))) h = elim x [ ]

pub subs_mean : Sound the.Subs
subs_mean us i vs rs _ _ _ here (a_take {t = t} s h (a_go {j = k} d (a_take {t = t2} s2 h2 (a_go r (a_end q w))))) =
    settled us the.Subs i vs rs q w (
    let m = d.means in
    r.means i k m.0 t2 t vs (ap (λ v. the.token t2 ∷ v) m.1) (mark_seen us i _ s h) m.2 (mark_seen us k _ s2 h2) refl)
subs_mean us i vs rs _ _ _ (there here) (a_make (a_end q w)) = settled us the.Subs i vs rs q w (([], refl, no_sub))
subs_mean us i vs rs _ _ _ (there (there x)) h = elim x [ ]

pub second_sub_means : Sound the.SecondSub
second_sub_means us i vs rs _ _ _ here
    (a_take {t = t} s h (a_go {j = j} d (a_take {t = t2} s2 h2 (a_make (a_end q w))))) =
    settled us the.SecondSub i vs rs q w (λ a k m c o bs e b x f y.
    let n = d.means in
    let z : i + 1 ≡ k + 2 = omega arith in (
      m ∷ n.0 ∷ [],
      rw (n.1, e) refl,
      two_subs b x f (kind_moved us (mark_seen us i _ s h) y) (rw z at n.2) (mark_seen us j _ s2 h2),
    ))
second_sub_means us i vs rs _ _ _ (there here) (a_make (a_end q w)) =
    settled us the.SecondSub i vs rs q w (λ a k m c o bs e b x f y.
    (m ∷ [], rw e refl, rw y (one_sub b x f)))
second_sub_means us i vs rs _ _ _ (there (there x)) h = elim x [ ]

pub delay_means : Sound the.Delay
delay_means us i vs rs _ _ _ here (a_take {t = t} s h (a_go d (a_make (a_end q w)))) =
    settled us the.Delay i vs rs q w (
    let m = d.means in
    (Some m.0, rw m.1 refl, delay (mark_seen us i _ s h) m.2))
delay_means us i vs rs _ _ _ (there here) (a_make (a_end q w)) =
    settled us the.Delay i vs rs q w ((None, refl, no_delay))
delay_means us i vs rs _ _ _ (there (there x)) h = elim x [ ]
