-- Soundness of the table: the grammar has the expressions that the table reads.
use Rattle.std.proofs.Common.{◌≡◌, ℕ, ◌+◌, Bool, true, false, if◌then◌else◌, List, [], ◌∷◌, ◌++◌, Some, refl, ap, ◌∙◌}
use Rattle.std.proofs.Common.{arith, append_assoc, append-nil}
use Rattle.silage_lex.specs.declared.Token.{Token}
use Rattle.silage_syntax.specs.declared.tree.BinOp.TheVariants as op
use Rattle.silage_syntax.specs.declared.tree.Lit.TheVariants.{Number, Truth}
use Rattle.silage_syntax.specs.Tree.{Place, Expr, literal, read, negate, not, binary, shift, cast, choose, branch}
use Rattle.silage_syntax.specs.Grammar.{kind_at, from_of, from_at, number_of, IsPunctuation, IsExpr, Level, Or, And}
use Rattle.silage_syntax.specs.Grammar.{Sum, Product, chain, no_more, one_more, no_comparison, comparison_of, shifts}
use Rattle.silage_syntax.specs.Grammar.{no_shift, one_shift, negative_number, negated, denied, primary, number, truth}
use Rattle.silage_syntax.specs.Grammar.{place, cast_of, paren, choice, one_arm, last_arm, operator, comparison}
use Rattle.silage_syntax.specs.Grammar.{shift_operator, truth_of, Role}
use Rattle.silage_syntax.specs.Grammar as g
use Rattle.silage_parse.specs.Private.ParseTable as the
use Rattle.silage_parse.specs.Private.ParseTable.{Nonterminal, Value, Symbol, Match, Act, Expand, Action, productions}
use Rattle.silage_parse.specs.Private.ParseTable.{is_one, Inside}
use Rattle.silage_parse.specs.Private.Machine.{made, Among, alternatives, predict, here, there, name_text, or_else}
use Rattle.silage_parse.specs.Private.Machine.{branches_of}
use Rattle.silage_parse.proofs.TokenFacts.{mark_seen, word_seen, name_seen, digits_of, from_seen, seen_by}
use Rattle.silage_parse.proofs.Tables.{comparison_table, lacks, number_table, operator_table, shift_table, truth_table}
use Rattle.silage_parse.proofs.SoundSteps.{Means, Sound, All, a_end, a_take, a_go, a_make, settled}

part_means : (l : Level) (us : List Token) (i : ℕ) (vs : List Value) (rs : List Role) (j : ℕ) (ws : List Value)
    → Means us (the.operand_of l) i vs rs j ws
    → (e : Expr) × (ws ≡ the.expr e ∷ vs) × IsExpr us (g.part l) i e j
part_means Or us i vs rs j ws m = m
part_means And us i vs rs j ws m = m
part_means Sum us i vs rs j ws m = m
part_means Product us i vs rs j ws m = m

pub chain_means : (l : Level) → Sound (the.Chain l)
chain_means l us i vs rs _ _ _ here (a_go {j = k} {xs = xs} {rs = qs} a (a_go b (a_end q w))) =
    settled us (the.Chain l) i vs rs q w (
    let m = part_means l us i vs qs k xs a.means in
    let n = b.means m.0 vs m.1 in
    (n.0, n.1, chain m.2 n.2))
chain_means l us i vs rs _ _ _ (there x) h = elim x [ ]

part_made : (l : Level) (t : Token) (a b : Expr) (at : ℕ) (bs : List Value) {xs vs : List Value}
    → xs ≡ the.expr b ∷ the.token t ∷ vs
    → vs ≡ the.expr a ∷ bs
    → at ≡ t.from
    → made (the.add_part l) xs ≡ the.expr (binary at (or_else op.Add (operator l (Some t.kind))) a b) ∷ bs
part_made l t a b at bs p e f = rw (p, e, f) refl

pub rest_means : (l : Level) → Sound (the.Rest l)
rest_means l us i vs rs _ _ _ here
    (a_take {t = t} s h (a_go {j = k} {xs = xs} {rs = qs} d (a_make (a_go r (a_end q w))))) =
    settled us (the.Rest l) i vs rs q w (λ a bs e.
    let m = part_means l us (i + 1) (the.token t ∷ vs) qs k xs d.means in
    let f = from_seen us i s in
    let o = or_else op.Add (operator l (Some t.kind)) in
    let v = part_made l t a m.0 (from_at us i) bs m.1 e f in
    let n = r.means (binary (from_at us i) o a m.0) bs v in
    (n.0, n.1, one_more (seen_by (operator_table l) op.Add us i s h) m.2 n.2))
rest_means l us i vs rs _ _ _ (there here) (a_end q w) = settled us (the.Rest l) i vs rs q w (λ a bs e. (a, e, no_more))
rest_means l us i vs rs _ _ _ (there (there x)) h = elim x [ ]

pub comparison_means : Sound the.Comparison
comparison_means us i vs rs _ _ _ here (a_go a (a_go b (a_end q w))) = settled us the.Comparison i vs rs q w (
    let m = a.means in
    let n = b.means m.0 vs m.1 in
    (n.0, n.1, n.2 i m.2))
comparison_means us i vs rs _ _ _ (there x) h = elim x [ ]

pub compare_rest_means : Sound the.CompareRest
compare_rest_means us i vs rs _ _ _ here (a_take {t = t} s h (a_go d (a_make (a_end q w)))) =
    settled us the.CompareRest i vs rs q w (λ a bs e.
    let m = d.means in
    let f = from_seen us i s in (
      binary (from_at us i) (or_else op.Eq (comparison (Some t.kind))) a m.0,
      rw (m.1, e, f) refl,
      λ p x. comparison_of x (seen_by comparison_table op.Eq us i s h) m.2,
    ))
compare_rest_means us i vs rs _ _ _ (there here) (a_end q w) =
    settled us the.CompareRest i vs rs q w (λ a bs e. (a, e, λ p x. no_comparison x))
compare_rest_means us i vs rs _ _ _ (there (there x)) h = elim x [ ]

pub shift_means : Sound the.Shift
shift_means us i vs rs _ _ _ here (a_go a (a_go b (a_end q w))) = settled us the.Shift i vs rs q w (
    let m = a.means in
    let n = b.means m.0 vs m.1 in
    (n.0, n.1, shifts m.2 n.2))
shift_means us i vs rs _ _ _ (there x) h = elim x [ ]

pub shifts_mean : Sound the.Shifts
shifts_mean us i vs rs _ _ _ here (a_take {t = t} s h (a_go {xs = xs} d (a_make (a_go r (a_end q w))))) =
    settled us the.Shifts i vs rs q w (λ a bs e.
    let m = d.means in
    let f = from_seen us i s in
    let o = or_else false (shift_operator (Some t.kind)) in
    let v : made the.add_shift xs ≡ the.expr (shift (from_at us i) o a m.0) ∷ bs = rw (m.1, e, f) refl in
    let n = r.means (shift (from_at us i) o a m.0) bs v in
    (n.0, n.1, one_shift (seen_by shift_table false us i s h) m.2 n.2))
shifts_mean us i vs rs _ _ _ (there here) (a_end q w) = settled us the.Shifts i vs rs q w (λ a bs e. (a, e, no_shift))
shifts_mean us i vs rs _ _ _ (there (there x)) h = elim x [ ]

pub unary_means : Sound the.Unary
unary_means us i vs rs _ _ _ here (a_take {t = t} s h (a_go d (a_end q w))) =
    settled us the.Unary i vs rs q w (d.means i t vs refl (mark_seen us i _ s h) (from_seen us i s) refl)
unary_means us i vs rs _ _ _ (there here) (a_take {t = t} s h (a_go d (a_make (a_end q w)))) =
    settled us the.Unary i vs rs q w (
    let m = d.means in
    let f = from_seen us i s in
    (not (from_at us i) m.0, rw (m.1, f) refl, denied (mark_seen us i _ s h) m.2))
unary_means us i vs rs _ _ _ (there (there here)) (a_go d (a_end q w)) = settled us the.Unary i vs rs q w (
    let m = d.means in
    (m.0, m.1, primary m.2))
unary_means us i vs rs _ _ _ (there (there (there x))) h = elim x [ ]

pub other_unary_means : Sound the.OtherUnary
other_unary_means us i vs rs _ _ _ here (a_take {t = t} s h (a_go d (a_end q w))) =
    settled us the.OtherUnary i vs rs q w (d.means i t vs refl (mark_seen us i _ s h) (from_seen us i s) refl)
other_unary_means us i vs rs _ _ _ (there here) (a_take {t = t} s h (a_go d (a_make (a_end q w)))) =
    settled us the.OtherUnary i vs rs q w (
    let m = d.means in
    let f = from_seen us i s in
    (not (from_at us i) m.0, rw (m.1, f) refl, denied (mark_seen us i _ s h) m.2))
other_unary_means us i vs rs _ _ _ (there (there here)) (a_go d (a_end q w)) = settled us the.OtherUnary i vs rs q w (
    let m = d.means in
    (m.0, m.1, primary m.2))
other_unary_means us i vs rs _ _ _ (there (there (there x))) h = elim x [ ]

-- where a `-` is read as a negation, no number is after it
not_taken : (b : Bool) (ss : List Symbol)
    → Expand the.Unary ∷ Act the.negate_expr ∷ []
    ≡ (if b then Match the.number Inside ∷ ss else Expand the.Unary ∷ Act the.negate_expr ∷ [])
    → b ≡ false
not_taken true ss e = cc
not_taken false ss e = refl

pub after_minus_means :
    (us : List Token) (i : ℕ) (vs : List Value) (rs : List Role) {ps : List Symbol} {j : ℕ} {ws : List Value}
    → Among (alternatives (productions the.AfterMinus)) ps
    → ps ≡ predict (productions the.AfterMinus) (kind_at us i)
    → All us ps i vs rs j ws
    → Means us the.AfterMinus i vs rs j ws
after_minus_means us i vs rs here c (a_take {t = t2} s h (a_make (a_make (a_end q w)))) =
    settled us the.AfterMinus i vs rs q w (λ a t bs e x f y.
    let z : i + 1 ≡ a + 2 = omega arith in
    let n = seen_by number_table (0, 0) us i s h in (
      literal (Number true (digits_of t2).0 (digits_of t2).1 (from_at us a)),
      rw (e, f) refl,
      rw z (negative_number x (rw y at n)),
    ))
after_minus_means us i vs rs (there here) c (a_go {j = j} d (a_make (a_end q w))) =
    settled us the.AfterMinus i vs rs q w (λ a t bs e x f y.
    let m = d.means in
    let n =
    lacks number_table (kind_at us i)
    (not_taken (is_one the.number (kind_at us i)) (Act the.negative ∷ Act the.literal_expr ∷ []) c) in
    let u : IsExpr us g.Unary i m.0 j = m.2 in
    (negate (from_at us a) m.0, rw (m.1, e, f) refl, negated x (rw y at n) (rw y at u)))
after_minus_means us i vs rs (there (there x)) c h = elim x [ ]

pub primary_means : Sound the.Primary
primary_means us i vs rs _ _ _ here (a_take {t = t} s h (a_go {xs = xs} d (a_make (a_go r (a_make (a_end q w)))))) =
    settled us the.Primary i vs rs q w (
    let m = d.means in
    let f = from_seen us i s in
    let p : Place = record { name = name_text t; at = from_at us i; subs = m.0 } in
    let n = r.means in
    let v : made the.a_place xs ≡ the.place p ∷ vs = rw (m.1, f) refl in
    (read p n.0, rw (n.1, v) refl, place (name_seen us i s h) m.2 n.2))
primary_means us i vs rs _ _ _ (there here) (a_go d (a_end q w)) = settled us the.Primary i vs rs q w (d.means)
primary_means us i vs rs _ _ _ (there (there x)) h = elim x [ ]

pub other_primary_means : Sound the.OtherPrimary
other_primary_means us i vs rs _ _ _ here (a_take {t = t} s h (a_make (a_make (a_end q w)))) =
    settled us the.OtherPrimary i vs rs q w (
    let f = from_seen us i s in (
      literal (Number false (digits_of t).0 (digits_of t).1 (from_at us i)),
      rw f refl,
      number (seen_by number_table (0, 0) us i s h),
    ))
other_primary_means us i vs rs _ _ _ (there here) (a_take {t = t} s h (a_make (a_make (a_end q w)))) =
    settled us the.OtherPrimary i vs rs q w (
    let f = from_seen us i s in (
      literal (Truth (or_else false (truth_of (Some t.kind))) (from_at us i)),
      rw f refl,
      truth (seen_by truth_table false us i s h),
    ))
other_primary_means us i vs rs _ _ _ (there (there here))
    (a_go {j = k} a (a_take s h (a_go {j = l} b (a_take s2 h2 (a_make (a_end q w)))))) =
    settled us the.OtherPrimary i vs rs q w (
    let m = a.means in
    let n = b.means in
    (cast (from_at us i) m.0 n.0, rw (n.1, m.1) refl, cast_of m.2 (mark_seen us k _ s h) n.2 (mark_seen us l _ s2 h2)))
other_primary_means us i vs rs _ _ _ (there (there (there here)))
    (a_take {t = t} s h (a_go {j = k} a (a_take {t = t2} s2 h2 (a_go {xs = xs} b (a_make (a_go r (a_end q w))))))) =
    settled us the.OtherPrimary i vs rs q w (
    let m = a.means in
    let n = b.means in
    let f = from_seen us i s in
    let v : made the.first_arm xs ≡ the.arms (from_at us i) ((m.0, n.0) ∷ []) ∷ vs = rw (n.1, m.1, f) refl in
    let o = r.means (from_at us i) ((m.0, n.0) ∷ []) vs v in (
      choose (from_at us i) (branch m.0 n.0 (branches_of o.0)) o.1,
      o.2,
      choice (word_seen us i _ s h) m.2 (mark_seen us k _ s2 h2) n.2 o.3,
    ))
other_primary_means us i vs rs _ _ _ (there (there (there (there here))))
    (a_take s h (a_go {j = k} d (a_take s2 h2 (a_make (a_end q w))))) = settled us the.OtherPrimary i vs rs q w (
    let m = d.means in
    (m.0, rw m.1 refl, paren (mark_seen us i _ s h) m.2 (mark_seen us k _ s2 h2)))
other_primary_means us i vs rs _ _ _ (there (there (there (there (there x))))) h = elim x [ ]

pub arms_mean : Sound the.Arms
arms_mean us i vs rs _ _ _ here (a_take {t = t} s h (a_go d (a_go r (a_end q w)))) =
    settled us the.Arms i vs rs q w (λ at xs bs e.
    let m = d.means in
    r.means at xs m.0 t i bs (m.1 ∙ ap (λ v. the.expr m.0 ∷ the.token t ∷ v) e) (mark_seen us i _ s h) m.2)
arms_mean us i vs rs _ _ _ (there x) h = elim x [ ]

arm_pushed :
    (at : ℕ) (xs : List (Expr × Expr)) (c v : Expr) (ys : List (Expr × Expr)) (e : Expr) (bs : List Value)
    {ws : List Value}
    → ws ≡ the.expr (choose at (branches_of ((xs ++ (c, v) ∷ []) ++ ys)) e) ∷ bs
    → ws ≡ the.expr (choose at (branches_of (xs ++ (c, v) ∷ ys)) e) ∷ bs
arm_pushed at xs c v ys e bs q =
    q ∙ ap (λ z. the.expr (choose at (branches_of z) e) ∷ bs) (append_assoc xs ((c, v) ∷ []) ys)

pub arm_end_means : Sound the.ArmEnd
arm_end_means us i vs rs _ _ _ here (a_take {t = t} s h (a_go {xs = zs} d (a_make (a_go r (a_end q w))))) =
    settled us the.ArmEnd i vs rs q w (λ at xs c b a bs e x y.
    let m = d.means in
    let v : made the.add_arm zs ≡ the.arms at (xs ++ (c, m.0) ∷ []) ∷ bs = rw (m.1, e) refl in
    let n = r.means at (xs ++ (c, m.0) ∷ []) bs v in (
      (c, m.0) ∷ n.0,
      n.1,
      arm_pushed at xs c m.0 n.0 n.1 bs n.2,
      one_arm {e = n.1} {bs = branches_of n.0} x y (mark_seen us i _ s h) m.2 n.3,
    ))
arm_end_means us i vs rs _ _ _ (there here) (a_take {t = t} s h (a_make (a_end q w))) =
    settled us the.ArmEnd i vs rs q w (λ at xs c b a bs e x y.
    ([], c, rw (e, append-nil) refl, last_arm x y (word_seen us i _ s h)))
arm_end_means us i vs rs _ _ _ (there (there x)) h = elim x [ ]
