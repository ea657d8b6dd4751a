-- The text of a manifest constant is read as that constant, up to positions.
use Rattle.std.proofs.Common.{inl, inr, ◌≡◌, ℕ, zero, suc, ◌+◌, ◌≤◌, Bool, true, false, List, [], ◌∷◌, Some, nat_lt}
use Rattle.std.proofs.Common.{refl, sym, ap, ◌∙◌, subst, arith, lit≤}
use Rattle.std.proofs.lemmas.Bool.{cases_order}
use Rattle.std.proofs.lemmas.Bool.Decides.{nat_tests}
use Rattle.silage_lex.specs.declared.Token.{Token}
use Rattle.silage_lex.specs.declared.TokenKind.TheVariants as kind
use Rattle.silage_lex.specs.declared.punctuation.TheConstants as punctuation
use Rattle.silage_print.specs.Precedence as precedence
use Rattle.silage_syntax.specs.declared.tree.MOp.{MOp}
use Rattle.silage_syntax.specs.declared.tree.MOp.TheVariants as mop
use Rattle.silage_syntax.specs.Tree.{Manifest, whole, counter, minus, both}
use Rattle.silage_syntax.specs.Positions.{unpositioned_manifest}
use Rattle.silage_syntax.specs.Grammar.{kind_at, from_at, ManifestRule, Manifest_, Terms, Term, Factors, Factor}
use Rattle.silage_syntax.specs.Grammar.{Primary_, term_operator, IsPunctuation, IsManifest, terms, no_term, one_term}
use Rattle.silage_syntax.specs.Grammar.{factors, no_factor, one_factor, minus_factor, primary_factor, whole_primary}
use Rattle.silage_syntax.specs.Grammar.{name_primary, paren_primary}
use Rattle.silage_print.specs.Text.{symbol, enclosed, manifest_precedence, manifest_text}
use Rattle.silage_print.proofs.Levels.{manifest_rule}
use Rattle.silage_print.proofs.KindsAt.{AreAt, split, AreWritten, no_kind, one_kind, joined, enclosed_written}
use Rattle.silage_print.proofs.KindsAt.{TokensWritten}

loosen : {us : List Token} {i j : ℕ} {m : Manifest} (n : ℕ)
    → IsManifest us (manifest_rule (suc n)) i m j
    → IsManifest us (manifest_rule n) i m j
loosen zero d = d
loosen (suc zero) d = d
loosen (suc (suc zero)) d = d
loosen (suc (suc (suc zero))) d = terms d no_term
loosen (suc (suc (suc (suc zero)))) d = factors d no_factor
loosen (suc (suc (suc (suc (suc zero))))) d = d
loosen (suc (suc (suc (suc (suc (suc zero)))))) d = primary_factor d
loosen (suc (suc (suc (suc (suc (suc (suc n))))))) d = d

loosened : {us : List Token} {i j : ℕ} {m : Manifest} (n k : ℕ)
    → k ≤ n
    → IsManifest us (manifest_rule n) i m j
    → IsManifest us (manifest_rule k) i m j
loosened {us} {i} {j} {m} zero k h d =
    let P : ℕ → Type 0 = λ l. IsManifest us (manifest_rule l) i m j in let e : 0 ≡ k = omega arith in subst P e d
loosened {us} {i} {j} {m} (suc n) k h d =
    elim (cases_order k (suc n)) [
      | inl same ↦ let P : ℕ → Type 0 = λ l. IsManifest us (manifest_rule l) i m j in subst P (sym same) d
      | inr (inl before) ↦ loosened n k (omega arith) (loosen n d)
      | inr (inr after) ↦ absurd (omega arith)
    ]

-- a constant that is this one up to positions, read by the rule
pub record ReadsManifest (us : List Token) (rule : ManifestRule) (m : Manifest) (i j : ℕ) : Type 0 where
  pub tree : Manifest
  pub same : unpositioned_manifest tree ≡ unpositioned_manifest m
  pub reads : IsManifest us rule i tree j

-- the constant's text is written, and wherever it is it is read as the constant
pub record GoodManifest (m : Manifest) : Type 0 where
  pub written : AreWritten (manifest_text m)
  pub reads : (us : List Token) (i j : ℕ)
      → AreAt us i (manifest_text m) j
      → ReadsManifest us (manifest_rule (manifest_precedence m)) m i j

at_end : {us : List Token} {rule : ManifestRule} {m : Manifest} {i j k : ℕ}
    → ReadsManifest us rule m i j
    → j ≡ k
    → ReadsManifest us rule m i k
at_end {us} {rule} {m} {i} {j} {k} d q = let P : ℕ → Type 0 = λ l. ReadsManifest us rule m i l in subst P q d

placed_by : (m : Manifest)
    → GoodManifest m
    → (k : ℕ)
    → k ≤ 7
    → (b : Bool)
    → nat_lt (manifest_precedence m) k ≡ b
    → (us : List Token) (i j : ℕ)
    → AreAt us i (enclosed b (manifest_text m)) j
    → ReadsManifest us (manifest_rule k) m i j
placed_by m good k small true e us i j s =
    let r = split us (manifest_text m) (symbol punctuation.RIGHT_PAREN ∷ []) (i + 1) j s.1 in
    let d = good.reads us (i + 1) r.0 r.1 in
    let whole : IsManifest us Manifest_ (i + 1) d.tree r.0 = loosened (manifest_precedence m) 0 (omega arith) d.reads in
    at_end (record { tree = d.tree; same = d.same; reads = loosened 7 k small (paren_primary s.0 whole r.2.0) }) r.2.1
placed_by m good k small false e us i j s =
    let r = split us (manifest_text m) [] i j s in
    let d = good.reads us i r.0 r.1 in
    let low : k ≤ manifest_precedence m = grind (arith, nat_tests) in
    at_end (record { tree = d.tree; same = d.same; reads = loosened (manifest_precedence m) k low d.reads }) r.2

-- in its context, in parentheses where it is looser than that asks for
pub placed : (m : Manifest)
    → GoodManifest m
    → (k : ℕ)
    → k ≤ 7
    → (us : List Token) (i j : ℕ)
    → AreAt us i (enclosed (nat_lt (manifest_precedence m) k) (manifest_text m)) j
    → ReadsManifest us (manifest_rule k) m i j
placed m good k small us i j s = placed_by m good k small (nat_lt (manifest_precedence m) k) refl us i j s

-- as a whole manifest
pub as_manifest : (m : Manifest)
    → GoodManifest m
    → (us : List Token) (i j : ℕ)
    → AreAt us i (manifest_text m) j
    → ReadsManifest us Manifest_ m i j
as_manifest m good us i j s =
    let d = good.reads us i j s in
    record { tree = d.tree; same = d.same; reads = loosened (manifest_precedence m) 0 (omega arith) d.reads }

-- a chain goes on
more_terms : {us : List Token} {i j k : ℕ} {c a b : Manifest} {o : MOp}
    → IsManifest us (Terms c) i a j
    → term_operator (kind_at us j) ≡ Some o
    → IsManifest us Term (j + 1) b k
    → IsManifest us (Terms c) i (both (from_at us j) o a b) k
more_terms no_term e d = one_term e d no_term
more_terms (one_term f c rest) e d = one_term f c (more_terms rest e d)

more_factors : {us : List Token} {i j k : ℕ} {c a b : Manifest}
    → IsManifest us (Factors c) i a j
    → IsPunctuation us j punctuation.STAR
    → IsManifest us Factor (j + 1) b k
    → IsManifest us (Factors c) i (both (from_at us j) mop.Mul a b) k
more_factors no_factor e d = one_factor e d no_factor
more_factors (one_factor f c rest) e d = one_factor f c (more_factors rest e d)

sum_of : {us : List Token} {i j k : ℕ} {a b : Manifest} {o : MOp}
    → IsManifest us Manifest_ i a j
    → term_operator (kind_at us j) ≡ Some o
    → IsManifest us Term (j + 1) b k
    → IsManifest us Manifest_ i (both (from_at us j) o a b) k
sum_of (terms f rest) e d = terms f (more_terms rest e d)

product_of : {us : List Token} {i j k : ℕ} {a b : Manifest}
    → IsManifest us Term i a j
    → IsPunctuation us j punctuation.STAR
    → IsManifest us Factor (j + 1) b k
    → IsManifest us Term i (both (from_at us j) mop.Mul a b) k
product_of (factors f rest) e d = factors f (more_factors rest e d)

-- The kinds of numbers.
good_both : (at : ℕ) (o : MOp) (a b : Manifest) → GoodManifest a → GoodManifest b → GoodManifest (both at o a b)
good_both at mop.Add a b g h = record {
  written = joined (enclosed_written _ g.written) (one_kind refl (enclosed_written _ h.written));
  reads = λ us i j s.
      let r =
      split us (enclosed (nat_lt (manifest_precedence a) precedence.sum) (manifest_text a))
      (symbol punctuation.PLUS ∷ enclosed (nat_lt (manifest_precedence b) precedence.product) (manifest_text b)) i j
      s in
      let x = placed a g precedence.sum (lit≤ tt) us i r.0 r.1 in
      let y = placed b h precedence.product (lit≤ tt) us (r.0 + 1) j r.2.1 in
      record {
        tree = both (from_at us r.0) mop.Add x.tree y.tree;
        same =
            ap (λ z. both 0 mop.Add z (unpositioned_manifest y.tree)) x.same
            ∙ ap (λ z. both 0 mop.Add (unpositioned_manifest a) z) y.same;
        reads = sum_of x.reads (ap term_operator r.2.0) y.reads;
      };
}
good_both at mop.Sub a b g h = record {
  written = joined (enclosed_written _ g.written) (one_kind refl (enclosed_written _ h.written));
  reads = λ us i j s.
      let r =
      split us (enclosed (nat_lt (manifest_precedence a) precedence.sum) (manifest_text a))
      (symbol punctuation.MINUS ∷ enclosed (nat_lt (manifest_precedence b) precedence.product) (manifest_text b)) i
      j s in
      let x = placed a g precedence.sum (lit≤ tt) us i r.0 r.1 in
      let y = placed b h precedence.product (lit≤ tt) us (r.0 + 1) j r.2.1 in
      record {
        tree = both (from_at us r.0) mop.Sub x.tree y.tree;
        same =
            ap (λ z. both 0 mop.Sub z (unpositioned_manifest y.tree)) x.same
            ∙ ap (λ z. both 0 mop.Sub (unpositioned_manifest a) z) y.same;
        reads = sum_of x.reads (ap term_operator r.2.0) y.reads;
      };
}
good_both at mop.Mul a b g h = record {
  written = joined (enclosed_written _ g.written) (one_kind refl (enclosed_written _ h.written));
  reads = λ us i j s.
      let r =
      split us (enclosed (nat_lt (manifest_precedence a) precedence.product) (manifest_text a))
      (symbol punctuation.STAR ∷ enclosed (nat_lt (manifest_precedence b) precedence.unary) (manifest_text b)) i j
      s in
      let x = placed a g precedence.product (lit≤ tt) us i r.0 r.1 in
      let y = placed b h precedence.unary (lit≤ tt) us (r.0 + 1) j r.2.1 in
      record {
        tree = both (from_at us r.0) mop.Mul x.tree y.tree;
        same =
            ap (λ z. both 0 mop.Mul z (unpositioned_manifest y.tree)) x.same
            ∙ ap (λ z. both 0 mop.Mul (unpositioned_manifest a) z) y.same;
        reads = product_of x.reads r.2.0 y.reads;
      };
}

good_minus : (at : ℕ) (m : Manifest) → GoodManifest m → GoodManifest (minus at m)
good_minus at m g = record {
  written = one_kind refl (enclosed_written _ g.written);
  reads = λ us i j s.
      let x = placed m g precedence.unary (lit≤ tt) us (i + 1) j s.1 in
      record { tree = minus (from_at us i) x.tree; same = ap (minus 0) x.same; reads = minus_factor s.0 x.reads };
}

-- what a chain goes on from
abbrev Before : ManifestRule → Type 0
Before (Terms a) = GoodManifest a
Before (Factors a) = GoodManifest a
Before _ = Unit {0}

good_by : (ts : List Token)
    → TokensWritten ts
    → {rule : ManifestRule} {i j : ℕ} {m : Manifest}
    → IsManifest ts rule i m j
    → Before rule
    → GoodManifest m
good_by ts w (terms d e) b = good_by ts w e (good_by ts w d tt)
good_by ts w no_term b = b
good_by ts w (one_term {o = o} e d rest) b = good_by ts w rest (good_both _ o _ _ b (good_by ts w d tt))
good_by ts w (factors d e) b = good_by ts w e (good_by ts w d tt)
good_by ts w no_factor b = b
good_by ts w (one_factor e d rest) b = good_by ts w rest (good_both _ mop.Mul _ _ b (good_by ts w d tt))
good_by ts w (minus_factor e d) b = good_minus _ _ (good_by ts w d tt)
good_by ts w (primary_factor d) b = good_by ts w d tt
good_by ts w (whole_primary {i = i} {n = n} e) b = record {
  written = one_kind (w i (kind.Whole n) e) no_kind;
  reads = λ us k j s. at_end (record { tree = whole n (from_at us k); same = refl; reads = whole_primary s.0 }) s.1;
}
good_by ts w (name_primary {i = i} {name = name} e) b = record {
  written = one_kind (w i (kind.Name name) e) no_kind;
  reads = λ us k j s. at_end (record { tree = counter name (from_at us k); same = refl; reads = name_primary s.0 }) s.1;
}
good_by ts w (paren_primary e d f) b = good_by ts w d tt

-- each number that some tokens derive
pub good_manifest : (ts : List Token)
    → TokensWritten ts
    → {i j : ℕ} {m : Manifest}
    → IsManifest ts Manifest_ i m j
    → GoodManifest m
good_manifest ts w d = good_by ts w d tt

pub good_amount : (ts : List Token)
    → TokensWritten ts
    → {i j : ℕ} {m : Manifest}
    → IsManifest ts Primary_ i m j
    → GoodManifest m
good_amount ts w d = good_by ts w d tt
