-- Soundness of the table: the grammar has the signed numbers, dims, fix types, declarations and lists of them that the
-- table reads.
use Rattle.std.proofs.Common.{◌≡◌, ◌+◌, true, false, List, [], ◌∷◌, ◌++◌, map, Some, refl, sym, ap, ◌∙◌, arith}
use Rattle.std.proofs.Common.{append_assoc, append-nil}
use Rattle.fix_word.specs.declared.types.Mode.TheVariants.{Trunc, Round, Sat, RoundSat}
use Rattle.fix_word.specs.declared.types.SigType.TheVariants.{Fix, Bool as Truths}
use Rattle.fix_word.specs.declared.types.SigType.{SigType}
use Rattle.silage_lex.specs.declared.Token.{Token}
use Rattle.silage_syntax.specs.declared.tree.Lit.TheVariants.{Number, Truth}
use Rattle.silage_syntax.specs.declared.tree.Decl.{Decl}
use Rattle.silage_syntax.specs.Grammar.{IsSigned, IsDeclared, IsDecl, from_at, dim, truth_of, fix_type, positive}
use Rattle.silage_syntax.specs.Grammar.{negative, scalar, vector, matrix, trunc, round, round_sat, sat, no_mode}
use Rattle.silage_syntax.specs.Grammar.{with_mode, fix, bool, Declared, typed, declared, decl, no_locals, some_locals}
use Rattle.silage_syntax.specs.Grammar.{one_result, results, one_word, words, signed, truth_value}
use Rattle.silage_parse.specs.Private.ParseTable as the
use Rattle.silage_parse.specs.Private.ParseTable.{Effect, Nonterminal, Value, Symbol, Act, Expand, Action, productions}
use Rattle.silage_parse.specs.Private.Machine.{made, here, there, name_text, whole_value, or_else}
use Rattle.silage_parse.proofs.TokenFacts.{mark_seen, word_seen, name_seen, whole_seen, digits_of, from_seen}
use Rattle.silage_parse.proofs.TokenFacts.{kind_moved, seen_by}
use Rattle.silage_parse.proofs.Tables.{number_table, truth_table}
use Rattle.silage_parse.specs.Private.CommaLists as lists
use Rattle.silage_parse.proofs.SoundLists.{more_mean, listing}
use Rattle.silage_parse.proofs.SoundSteps.{Sound, a_end, a_take, a_go, a_make, settled}

pub signed_means : Sound the.Signed
signed_means us i vs rs _ _ _ here (a_take {t = t} s h (a_take {t = t2} s2 h2 (a_make (a_end q w)))) =
    settled us the.Signed i vs rs q w (
    let f = from_seen us i s in
    let z : i + 1 + 1 ≡ i + 2 = omega arith in (
      Number true (digits_of t2).0 (digits_of t2).1 (from_at us i),
      rw f refl,
      rw z (negative (mark_seen us i _ s h) (seen_by number_table (0, 0) us (i + 1) s2 h2)),
    ))
signed_means us i vs rs _ _ _ (there here) (a_take {t = t} s h (a_make (a_end q w))) =
    settled us the.Signed i vs rs q w (
    let f = from_seen us i s in (
      Number false (digits_of t).0 (digits_of t).1 (from_at us i),
      rw f refl,
      positive (seen_by number_table (0, 0) us i s h),
    ))
signed_means us i vs rs _ _ _ (there (there x)) h = elim x [ ]

pub words_mean : Sound the.Words
words_mean us i vs rs _ _ _ here
    (a_take {t = t} s h (a_go {xs = xs} d (a_make (a_go {j = k} r (a_take s2 h2 (a_make (a_end q w))))))) =
    settled us the.Words i vs rs q w (
    let m = d.means in
    let v : made the.first_word xs ≡ the.lits (m.0 ∷ []) ∷ the.token t ∷ vs = rw m.1 refl in
    let n = r.means (m.0 ∷ []) (the.token t ∷ vs) v in
    (m.0 ∷ n.0, rw n.1 refl, words (mark_seen us i _ s h) (n.2 (i + 1) m.0 m.2) (mark_seen us k _ s2 h2)))
words_mean us i vs rs _ _ _ (there here) (a_go d (a_make (a_end q w))) = settled us the.Words i vs rs q w (
    let m = d.means in
    (m.0 ∷ [], rw m.1 refl, one_word m.2))
words_mean us i vs rs _ _ _ (there (there x)) h = elim x [ ]

pub more_words_mean : Sound the.MoreWords
more_words_mean us i vs rs _ _ _ w a =
    more_mean (listing lists.words us (IsSigned us) (λ i j vs ws rs m. m) (λ i j vs ws rs m. m)) i vs rs w a

pub dims_mean : Sound the.Dims
dims_mean us i vs rs _ _ _ here
    (a_take {t = t} s h (a_take {t = t1} s1 h1 (a_take {t = t2} s2 h2 (a_go r (a_end q w))))) =
    settled us the.Dims i vs rs q w (
    r.means i t2 t1 t vs refl (mark_seen us i _ s h) (whole_seen us (i + 1) s1 h1)
    (kind_moved us (mark_seen us (i + 1 + 1) _ s2 h2) (omega arith)) (omega arith))
dims_mean us i vs rs _ _ _ (there here) (a_make (a_end q w)) = settled us the.Dims i vs rs q w (([], refl, scalar))
dims_mean us i vs rs _ _ _ (there (there x)) h = elim x [ ]

pub second_dim_means : Sound the.SecondDim
second_dim_means us i vs rs _ _ _ here (a_take s h (a_take {t = t1} s1 h1 (a_take s2 h2 (a_make (a_end q w))))) =
    settled us the.SecondDim i vs rs q w (λ a c n o bs e x y z v.
    let l : i + 1 + 1 + 1 ≡ a + 6 = omega arith in (
      dim (whole_value n) ∷ dim (whole_value t1) ∷ [],
      rw e refl,
      rw l (matrix x y z (kind_moved us (mark_seen us i _ s h) v)
          (kind_moved us (whole_seen us (i + 1) s1 h1) (omega arith))
          (kind_moved us (mark_seen us (i + 1 + 1) _ s2 h2) (omega arith))),
    ))
second_dim_means us i vs rs _ _ _ (there here) (a_make (a_end q w)) =
    settled us the.SecondDim i vs rs q w
    (λ a c n o bs e x y z v. (dim (whole_value n) ∷ [], rw e refl, rw v (vector x y z)))
second_dim_means us i vs rs _ _ _ (there (there x)) h = elim x [ ]

pub fix_means : (k : Effect) → Sound (the.FixIn k)
fix_means k us i vs rs _ _ _ here
    (a_take {t = t} s h
    (a_take {t = t1} s1 h1
    (a_take {t = t2} s2 h2 (a_take {t = t3} s3 h3 (a_take {t = t4} s4 h4 (a_go r (a_end q w))))))) =
    settled us (the.FixIn k) i vs rs q w (
    r.means i t4 t3 t2 t1 t vs refl (from_seen us i s) (word_seen us i _ s h) (mark_seen us (i + 1) _ s1 h1)
    (kind_moved us (whole_seen us (i + 1 + 1) s2 h2) (omega arith))
    (kind_moved us (mark_seen us (i + 1 + 1 + 1) _ s3 h3) (omega arith))
    (kind_moved us (whole_seen us (i + 1 + 1 + 1 + 1) s4 h4) (omega arith)) (omega arith))
fix_means k us i vs rs _ _ _ (there x) h = elim x [ ]

pub fix_end_means : (k : Effect) → Sound (the.FixEnd k)
fix_end_means k us i vs rs _ _ _ here (a_take s h (a_go {j = n} d (a_take s2 h2 (a_make (a_end q w))))) =
    settled us (the.FixEnd k) i vs rs q w (λ a f c l b x bs e r p1 p2 p3 p4 p5 v.
    let m = d.means in
    let y : i + 1 ≡ a + 6 = omega arith in (
      fix_type (whole_value l) (whole_value f) m.0,
      rw (m.1, e, r) refl,
      with_mode p1 p2 p3 p4 p5 (kind_moved us (mark_seen us i _ s h) v) (rw y at m.2) (mark_seen us n _ s2 h2),
    ))
fix_end_means k us i vs rs _ _ _ (there here) (a_take s h (a_make (a_end q w))) =
    settled us (the.FixEnd k) i vs rs q w (λ a f c l b x bs e r p1 p2 p3 p4 p5 v.
    let z : i + 1 ≡ a + 6 = omega arith in (
      fix_type (whole_value l) (whole_value f) Trunc,
      rw (e, r) refl,
      rw z (no_mode p1 p2 p3 p4 p5 (kind_moved us (mark_seen us i _ s h) v)),
    ))
fix_end_means k us i vs rs _ _ _ (there (there x)) h = elim x [ ]

pub mode_means : (k : Effect) → Sound (the.Mode_ k)
mode_means k us i vs rs _ _ _ here (a_take s h (a_make (a_end q w))) =
    settled us (the.Mode_ k) i vs rs q w ((Trunc, refl, trunc (word_seen us i _ s h)))
mode_means k us i vs rs _ _ _ (there here) (a_take s h (a_make (a_end q w))) =
    settled us (the.Mode_ k) i vs rs q w ((Sat, refl, sat (word_seen us i _ s h)))
mode_means k us i vs rs _ _ _ (there (there here)) (a_take {t = t} s h (a_go r (a_end q w))) =
    settled us (the.Mode_ k) i vs rs q w (r.means i t vs refl (word_seen us i _ s h) refl)
mode_means k us i vs rs _ _ _ (there (there (there x))) h = elim x [ ]

pub after_round_means : (k : Effect) → Sound (the.AfterRound k)
after_round_means k us i vs rs _ _ _ here (a_take s h (a_take s1 h1 (a_make (a_end q w)))) =
    settled us (the.AfterRound k) i vs rs q w (λ a t bs e x v.
    let z : i + 1 + 1 ≡ a + 3 = omega arith in (
      RoundSat,
      rw e refl,
      rw z (round_sat x (kind_moved us (mark_seen us i _ s h) v)
          (kind_moved us (word_seen us (i + 1) _ s1 h1) (omega arith))),
    ))
after_round_means k us i vs rs _ _ _ (there here) (a_make (a_end q w)) =
    settled us (the.AfterRound k) i vs rs q w (λ a t bs e x v. (Round, rw e refl, rw v (round x)))
after_round_means k us i vs rs _ _ _ (there (there x)) h = elim x [ ]

pub type_means : Sound the.Type_
type_means us i vs rs _ _ _ here (a_take s h (a_make (a_end q w))) =
    settled us the.Type_ i vs rs q w ((Truths, refl, bool (word_seen us i _ s h)))
type_means us i vs rs _ _ _ (there here) (a_go d (a_make (a_end q w))) = settled us the.Type_ i vs rs q w (
    let m = d.means in
    (Fix m.0, rw m.1 refl, fix m.2))
type_means us i vs rs _ _ _ (there (there x)) h = elim x [ ]

pub declared_means : Sound the.Name_
declared_means us i vs rs _ _ _ here (a_take {t = t} s h (a_go d (a_make (a_end q w)))) =
    settled us the.Name_ i vs rs q w (
    let m = d.means in
    let f = from_seen us i s in
    (record { name = name_text t; at = from_at us i; dims = m.0 }, rw (m.1, f) refl, declared (name_seen us i s h) m.2))
declared_means us i vs rs _ _ _ (there x) h = elim x [ ]

pub more_names_mean : Sound the.MoreNames
more_names_mean us i vs rs _ _ _ w a =
    more_mean (listing lists.names us (IsDeclared us) (λ i j vs ws rs m. m) (λ i j vs ws rs m. m)) i vs rs w a

pub decl_means : Sound the.Decl_
decl_means us i vs rs _ _ _ here (a_go {j = k} a (a_take {t = t} s h (a_go b (a_make (a_end q w))))) =
    settled us the.Decl_ i vs rs q w (
    let m = a.means in
    let n = b.means in
    (typed n.0 m.0, rw (n.1, m.1) refl, decl m.2 (mark_seen us k _ s h) n.2))
decl_means us i vs rs _ _ _ (there x) h = elim x [ ]

pub more_decls_mean : Sound the.MoreDecls
more_decls_mean us i vs rs _ _ _ w a =
    more_mean (listing lists.decls us (IsDecl us) (λ i j vs ws rs m. m) (λ i j vs ws rs m. m)) i vs rs w a

pub results_mean : Sound the.Results
results_mean us i vs rs _ _ _ here
    (a_take {t = t} s h (a_go {xs = xs} d (a_make (a_go {j = k} r (a_take s2 h2 (a_make (a_end q w))))))) =
    settled us the.Results i vs rs q w (
    let m = d.means in
    let v : made the.first_decl xs ≡ the.decls (m.0 ∷ []) ∷ the.token t ∷ vs = rw m.1 refl in
    let n = r.means (m.0 ∷ []) (the.token t ∷ vs) v in
    (m.0 ∷ n.0, rw n.1 refl, results (mark_seen us i _ s h) (n.2 (i + 1) m.0 m.2) (mark_seen us k _ s2 h2)))
results_mean us i vs rs _ _ _ (there here) (a_go d (a_make (a_end q w))) = settled us the.Results i vs rs q w (
    let m = d.means in
    (m.0 ∷ [], rw m.1 refl, one_result m.2))
results_mean us i vs rs _ _ _ (there (there x)) h = elim x [ ]

locals_made :
    (s c t : Token) (y : SigType) (ns : List Declared) (ds : List Decl) (bs : List Value) {zs ys vs : List Value}
    → zs ≡ the.ty y ∷ the.token c ∷ ys
    → ys ≡ the.names ns ∷ the.token t ∷ vs
    → vs ≡ the.decls ds ∷ bs
    → made the.add_locals (the.token s ∷ zs) ≡ the.decls (ds ++ map (typed y) ns) ∷ bs
locals_made s c t y ns ds bs a b e = rw (a, b, e) refl

pub locals_mean : Sound the.Locals
locals_mean us i vs rs _ _ _ here
    (a_take {t = t} s h
    (a_go {xs = xs} d
    (a_make (a_go {j = k} {xs = ys} r
    (a_take {t = t2} s2 h2 (a_go {j = l} {xs = zs} y (a_take {t = t3} s3 h3 (a_make (a_go z (a_end q w)))))))))) =
    settled us the.Locals i vs rs q w (λ ds bs e.
    let m = d.means in
    let v : made the.first_name xs ≡ the.names (m.0 ∷ []) ∷ the.token t ∷ vs = rw m.1 refl in
    let n = r.means (m.0 ∷ []) (the.token t ∷ vs) v in
    let o = y.means in
    let u = locals_made t3 t2 t o.0 (m.0 ∷ n.0) ds bs o.1 n.1 e in
    let p = z.means (ds ++ map (typed o.0) (m.0 ∷ n.0)) bs u in (
      map (typed o.0) (m.0 ∷ n.0) ++ p.0,
      p.1 ∙ ap (λ z. the.decls z ∷ bs) (append_assoc ds (map (typed o.0) (m.0 ∷ n.0)) p.0),
      some_locals (word_seen us i _ s h) (n.2 (i + 1) m.0 m.2) (mark_seen us k _ s2 h2) o.2 (mark_seen us l _ s3 h3)
          p.2,
    ))
locals_mean us i vs rs _ _ _ (there here) (a_end q w) =
    settled us the.Locals i vs rs q w (λ ds bs e. ([], e ∙ ap (λ z. the.decls z ∷ bs) (sym (append-nil ds)), no_locals))
locals_mean us i vs rs _ _ _ (there (there x)) h = elim x [ ]

pub initial_means : Sound the.InitialValue
initial_means us i vs rs _ _ _ here (a_take {t = t} s h (a_make (a_end q w))) =
    settled us the.InitialValue i vs rs q w (
    let f = from_seen us i s in (
      Truth (or_else false (truth_of (Some t.kind))) (from_at us i),
      rw f refl,
      truth_value (seen_by truth_table false us i s h),
    ))
initial_means us i vs rs _ _ _ (there here) (a_go d (a_end q w)) = settled us the.InitialValue i vs rs q w (
    let m = d.means in
    (m.0, m.1, signed m.2))
initial_means us i vs rs _ _ _ (there (there x)) h = elim x [ ]
