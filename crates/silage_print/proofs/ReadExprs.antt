-- The text of an expression is read as that expression, up to positions.
use Rattle.std.proofs.Common.{inl, inr, ◌≡◌, ℕ, zero, suc, ◌+◌, ◌≤◌, Bool, true, false, ◌||◌, List, [], ◌∷◌, ◌++◌}
use Rattle.std.proofs.Common.{Option, Some, None, nat_lt, refl, sym, ap, ◌∙◌, subst, arith, lit≤}
use Rattle.std.proofs.lemmas.Bool.{cases_order, both_ways}
use Rattle.std.proofs.lemmas.Bool.Decides.{nat_tests}
use Rattle.fix_word.specs.declared.types.FixType.{FixType}
use Rattle.silage_lex.specs.declared.Token.{Token}
use Rattle.silage_lex.specs.declared.TokenKind.{TokenKind}
use Rattle.silage_lex.specs.declared.TokenKind.TheVariants as kind
use Rattle.silage_lex.specs.declared.punctuation.TheConstants as punctuation
use Rattle.silage_lex.specs.declared.keywords.TheConstants as keyword
use Rattle.silage_print.specs.Precedence as precedence
use Rattle.silage_syntax.specs.declared.tree.BinOp.{BinOp}
use Rattle.silage_syntax.specs.declared.tree.BinOp.TheVariants as op
use Rattle.silage_syntax.specs.declared.tree.Lit.TheVariants.{Number, Truth}
use Rattle.silage_syntax.specs.Tree.{Manifest, Place, Expr, literal, read, negate, not, binary, shift, cast, choose}
use Rattle.silage_syntax.specs.Tree.{Branches, no_branch, branch}
use Rattle.silage_syntax.specs.Positions.{unpositioned_manifest, unpositioned_place, unpositioned_delay}
use Rattle.silage_syntax.specs.Positions.{unpositioned_expr, unpositioned_branches}
use Rattle.silage_syntax.specs.Grammar.{kind_at, from_at, number_of, IsPunctuation, IsKeyword, Level, Or, And, Sum}
use Rattle.silage_syntax.specs.Grammar.{Product, ExprRule, Chain, Rest, Shift, Shifts, Arms, part, operator, comparison}
use Rattle.silage_syntax.specs.Grammar.{shift_operator, IsManifest, Primary_, IsExpr, chain, no_more, one_more}
use Rattle.silage_syntax.specs.Grammar.{no_comparison, comparison_of, shifts, no_shift, one_shift, negative_number}
use Rattle.silage_syntax.specs.Grammar.{negated, denied, primary, number as number_, truth, place, cast_of, paren}
use Rattle.silage_syntax.specs.Grammar.{choice, one_arm, last_arm}
use Rattle.silage_print.specs.Text.{symbol, word, subscripts_text, enclosed, amount_text, fix_text, delay_text}
use Rattle.silage_print.specs.Text.{operator_mark, operator_precedence, left_precedence, right_precedence}
use Rattle.silage_print.specs.Text.{expr_precedence, is_loose_operand, shift_mark, expr_text, branches_text}
use Rattle.silage_print.proofs.Levels.{expr_rule}
use Rattle.silage_print.proofs.KindsAt.{AreAt, split, IsWritten, AreWritten, no_kind, one_kind, joined}
use Rattle.silage_print.proofs.KindsAt.{enclosed_written, TokensWritten}
use Rattle.silage_print.proofs.ReadManifests.{GoodManifest, placed, good_amount}
use Rattle.silage_print.proofs.ReadParts.{number_written, number_read, truth_read, truth_written, GoodFix, good_fix}
use Rattle.silage_print.proofs.ReadParts.{fix_written, fix_read, GoodSubs, good_subs, subs_written, subs_read}
use Rattle.silage_print.proofs.ReadParts.{GoodDelay, good_delay, delay_read, delay_written}

loosen : {us : List Token} {i j : ℕ} {e : Expr} (n : ℕ)
    → IsExpr us (expr_rule (suc n)) i e j
    → IsExpr us (expr_rule n) i e j
loosen zero d = chain d no_more
loosen (suc zero) d = chain d no_more
loosen (suc (suc zero)) d = no_comparison d
loosen (suc (suc (suc zero))) d = chain d no_more
loosen (suc (suc (suc (suc zero)))) d = chain d no_more
loosen (suc (suc (suc (suc (suc zero))))) d = shifts d no_shift
loosen (suc (suc (suc (suc (suc (suc zero)))))) d = primary d
loosen (suc (suc (suc (suc (suc (suc (suc n))))))) d = d

loosened : {us : List Token} {i j : ℕ} {e : Expr} (n k : ℕ)
    → k ≤ n
    → IsExpr us (expr_rule n) i e j
    → IsExpr us (expr_rule k) i e j
loosened {us} {i} {j} {e} zero k h d =
    let P : ℕ → Type 0 = λ l. IsExpr us (expr_rule l) i e j in let q : 0 ≡ k = omega arith in subst P q d
loosened {us} {i} {j} {e} (suc n) k h d =
    elim (cases_order k (suc n)) [
      | inl same ↦ let P : ℕ → Type 0 = λ l. IsExpr us (expr_rule l) i e j in subst P (sym same) d
      | inr (inl before) ↦ loosened n k (omega arith) (loosen n d)
      | inr (inr after) ↦ absurd (omega arith)
    ]

-- an expression that is this one up to positions, read by the rule
pub record ReadsExpr (us : List Token) (rule : ExprRule) (e : Expr) (i j : ℕ) : Type 0 where
  pub tree : Expr
  pub same : unpositioned_expr tree ≡ unpositioned_expr e
  pub reads : IsExpr us rule i tree j

-- the expression's text is written, and wherever it is it is read as the expression
pub record GoodExpr (e : Expr) : Type 0 where
  pub written : AreWritten (expr_text e)
  pub reads : (us : List Token) (i j : ℕ)
      → AreAt us i (expr_text e) j
      → ReadsExpr us (expr_rule (expr_precedence e)) e i j

at_end : {us : List Token} {rule : ExprRule} {e : Expr} {i j k : ℕ}
    → ReadsExpr us rule e i j
    → j ≡ k
    → ReadsExpr us rule e i k
at_end {us} {rule} {e} {i} {j} {k} d q = let P : ℕ → Type 0 = λ l. ReadsExpr us rule e i l in subst P q d

-- as an outermost expression
pub as_whole : (e : Expr)
    → GoodExpr e
    → (us : List Token) (i j : ℕ)
    → AreAt us i (expr_text e) j
    → ReadsExpr us (Chain Or) e i j
as_whole e good us i j s =
    let d = good.reads us i j s in
    record { tree = d.tree; same = d.same; reads = loosened (expr_precedence e) 0 (omega arith) d.reads }

-- in parentheses, or not, by a test that finds each looser expression
placed_by : (e : Expr)
    → GoodExpr e
    → (k : ℕ)
    → k ≤ 7
    → (b : Bool)
    → (b ≡ false → k ≤ expr_precedence e)
    → (us : List Token) (i j : ℕ)
    → AreAt us i (enclosed b (expr_text e)) j
    → ReadsExpr us (expr_rule k) e i j
placed_by e good k small true tight us i j s =
    let r = split us (expr_text e) (symbol punctuation.RIGHT_PAREN ∷ []) (i + 1) j s.1 in
    let d = as_whole e good us (i + 1) r.0 r.1 in
    at_end (record { tree = d.tree; same = d.same; reads = loosened 7 k small (paren s.0 d.reads r.2.0) }) r.2.1
placed_by e good k small false tight us i j s =
    let r = split us (expr_text e) [] i j s in
    let d = good.reads us i r.0 r.1 in
    at_end (record { tree = d.tree; same = d.same; reads = loosened (expr_precedence e) k (tight refl) d.reads }) r.2

pub placed_expr : (e : Expr)
    → GoodExpr e
    → (k : ℕ)
    → k ≤ 7
    → (us : List Token) (i j : ℕ)
    → AreAt us i (enclosed (nat_lt (expr_precedence e) k) (expr_text e)) j
    → ReadsExpr us (expr_rule k) e i j
placed_expr e good k small us i j s =
    placed_by e good k small (nat_lt (expr_precedence e) k) (λ q. grind (arith, nat_tests)) us i j s

-- Chains go on.
more_rest : {us : List Token} {l : Level} {i j k : ℕ} {c a b : Expr} {o : BinOp}
    → IsExpr us (Rest l c) i a j
    → operator l (kind_at us j) ≡ Some o
    → IsExpr us (part l) (j + 1) b k
    → IsExpr us (Rest l c) i (binary (from_at us j) o a b) k
more_rest no_more e d = one_more e d no_more
more_rest (one_more f c rest) e d = one_more f c (more_rest rest e d)

chained : {us : List Token} {l : Level} {i j k : ℕ} {a b : Expr} {o : BinOp}
    → IsExpr us (Chain l) i a j
    → operator l (kind_at us j) ≡ Some o
    → IsExpr us (part l) (j + 1) b k
    → IsExpr us (Chain l) i (binary (from_at us j) o a b) k
chained (chain f rest) e d = chain f (more_rest rest e d)

more_shifts : {us : List Token} {i j k : ℕ} {c a : Expr} {m : Manifest} {left : Bool}
    → IsExpr us (Shifts c) i a j
    → shift_operator (kind_at us j) ≡ Some left
    → IsManifest us Primary_ (j + 1) m k
    → IsExpr us (Shifts c) i (shift (from_at us j) left a m) k
more_shifts no_shift e d = one_shift e d no_shift
more_shifts (one_shift f c rest) e d = one_shift f c (more_shifts rest e d)

shifted : {us : List Token} {i j k : ℕ} {a : Expr} {m : Manifest} {left : Bool}
    → IsExpr us Shift i a j
    → shift_operator (kind_at us j) ≡ Some left
    → IsManifest us Primary_ (j + 1) m k
    → IsExpr us Shift i (shift (from_at us j) left a m) k
shifted (shifts f rest) e d = shifts f (more_shifts rest e d)

-- two sides of an operator
joins : {us : List Token} {i j k : ℕ} {a b : Expr} (o : BinOp)
    → IsExpr us (expr_rule (left_precedence o)) i a j
    → kind_at us j ≡ Some (symbol (operator_mark o))
    → IsExpr us (expr_rule (right_precedence o)) (j + 1) b k
    → IsExpr us (expr_rule (operator_precedence o)) i (binary (from_at us j) o a b) k
joins op.Or a h b = chained a (ap (operator Or) h) b
joins op.And a h b = chained a (ap (operator And) h) b
joins op.Add a h b = chained a (ap (operator Sum) h) b
joins op.Sub a h b = chained a (ap (operator Sum) h) b
joins op.Mul a h b = chained a (ap (operator Product) h) b
joins op.Lt a h b = comparison_of a (ap comparison h) b
joins op.Le a h b = comparison_of a (ap comparison h) b
joins op.Eq a h b = comparison_of a (ap comparison h) b
joins op.Ne a h b = comparison_of a (ap comparison h) b
joins op.Gt a h b = comparison_of a (ap comparison h) b
joins op.Ge a h b = comparison_of a (ap comparison h) b

-- what holds of each operator
record OperatorFacts (o : BinOp) : Type 0 where
  left : left_precedence o ≤ 7
  right : right_precedence o ≤ 7
  loose : nat_lt (operator_precedence o) precedence.unary ≡ true
  written : IsWritten (symbol (operator_mark o))

operator_facts : (o : BinOp) → OperatorFacts o
operator_facts op.Or = record { left = lit≤ tt; right = lit≤ tt; loose = refl; written = refl }
operator_facts op.And = record { left = lit≤ tt; right = lit≤ tt; loose = refl; written = refl }
operator_facts op.Add = record { left = lit≤ tt; right = lit≤ tt; loose = refl; written = refl }
operator_facts op.Sub = record { left = lit≤ tt; right = lit≤ tt; loose = refl; written = refl }
operator_facts op.Mul = record { left = lit≤ tt; right = lit≤ tt; loose = refl; written = refl }
operator_facts op.Lt = record { left = lit≤ tt; right = lit≤ tt; loose = refl; written = refl }
operator_facts op.Le = record { left = lit≤ tt; right = lit≤ tt; loose = refl; written = refl }
operator_facts op.Eq = record { left = lit≤ tt; right = lit≤ tt; loose = refl; written = refl }
operator_facts op.Ne = record { left = lit≤ tt; right = lit≤ tt; loose = refl; written = refl }
operator_facts op.Gt = record { left = lit≤ tt; right = lit≤ tt; loose = refl; written = refl }
operator_facts op.Ge = record { left = lit≤ tt; right = lit≤ tt; loose = refl; written = refl }

good_binary : (at : ℕ) (o : BinOp) (a b : Expr) → GoodExpr a → GoodExpr b → GoodExpr (binary at o a b)
good_binary at o a b g h =
    let facts = operator_facts o in
    record {
      written = joined (enclosed_written _ g.written) (one_kind facts.written (enclosed_written _ h.written));
      reads = λ us i j s.
          let r =
          split us (enclosed (nat_lt (expr_precedence a) (left_precedence o)) (expr_text a))
          (symbol (operator_mark o) ∷ enclosed (nat_lt (expr_precedence b) (right_precedence o)) (expr_text b)) i j
          s in
          let x = placed_expr a g (left_precedence o) facts.left us i r.0 r.1 in
          let y = placed_expr b h (right_precedence o) facts.right us (r.0 + 1) j r.2.1 in
          record {
            tree = binary (from_at us r.0) o x.tree y.tree;
            same =
                ap (λ z. binary 0 o z (unpositioned_expr y.tree)) x.same
                ∙ ap (λ z. binary 0 o (unpositioned_expr a) z) y.same;
            reads = joins o x.reads r.2.0 y.reads;
          };
    }

shift_read : {x : Option TokenKind} (left : Bool) → x ≡ Some (symbol (shift_mark left)) → shift_operator x ≡ Some left
shift_read true h = ap shift_operator h
shift_read false h = ap shift_operator h

shift_written : (left : Bool) → IsWritten (symbol (shift_mark left))
shift_written true = refl
shift_written false = refl

good_shift : (at : ℕ) (left : Bool) (e : Expr) (m : Manifest)
    → GoodExpr e
    → GoodManifest m
    → GoodExpr (shift at left e m)
good_shift at left e m g h = record {
  written = joined (enclosed_written _ g.written) (one_kind (shift_written left) (enclosed_written _ h.written));
  reads = λ us i j s.
      let r =
      split us (enclosed (nat_lt (expr_precedence e) precedence.shift) (expr_text e))
      (symbol (shift_mark left) ∷ amount_text m) i j s in
      let x = placed_expr e g precedence.shift (lit≤ tt) us i r.0 r.1 in
      let y = placed m h precedence.primary (lit≤ tt) us (r.0 + 1) j r.2.1 in
      record {
        tree = shift (from_at us r.0) left x.tree y.tree;
        same =
            ap (λ z. shift 0 left z (unpositioned_manifest y.tree)) x.same
            ∙ ap (λ z. shift 0 left (unpositioned_expr e) z) y.same;
        reads = shifted x.reads (shift_read left r.2.0) y.reads;
      };
}

-- an operand of `-` begins with no number
no_number : (us : List Token) (e : Expr) (b : Bool)
    → is_loose_operand e ≡ b
    → (i j : ℕ)
    → AreAt us i (enclosed b (expr_text e)) j
    → number_of (kind_at us i) ≡ None
no_number us e true h i j s = ap number_of s.0
no_number us (literal (Number false d p at)) false h i j s = cc
no_number us (literal (Number true d p at)) false h i j s = ap number_of s.0
no_number us (literal (Truth v at)) false h i j s = ap number_of s.0
no_number us (read p d) false h i j s = ap number_of s.0
no_number us (negate at e) false h i j s = ap number_of s.0
no_number us (not at e) false h i j s = ap number_of s.0
no_number us (binary at o a b) false h i j s =
    let loose = ap (λ t. t || false) (operator_facts o).loose in absurd (both_ways _ h loose)
no_number us (shift at left e m) false h i j s = cc
no_number us (cast at ty e) false h i j s = ap number_of s.0
no_number us (choose at bs last) false h i j s = ap number_of s.0

tight_operand : (e : Expr) → is_loose_operand e ≡ false → precedence.unary ≤ expr_precedence e
tight_operand e h = grind (arith, nat_tests)

good_negate : (at : ℕ) (e : Expr) → GoodExpr e → GoodExpr (negate at e)
good_negate at e g = record {
  written = one_kind refl (enclosed_written _ g.written);
  reads = λ us i j s.
      let x = placed_by e g precedence.unary (lit≤ tt) (is_loose_operand e) (tight_operand e) us (i + 1) j s.1 in
      record {
        tree = negate (from_at us i) x.tree;
        same = ap (negate 0) x.same;
        reads = negated s.0 (no_number us e (is_loose_operand e) refl (i + 1) j s.1) x.reads;
      };
}

good_not : (at : ℕ) (e : Expr) → GoodExpr e → GoodExpr (not at e)
good_not at e g = record {
  written = one_kind refl (enclosed_written _ g.written);
  reads = λ us i j s.
      let x = placed_expr e g precedence.unary (lit≤ tt) us (i + 1) j s.1 in
      record { tree = not (from_at us i) x.tree; same = ap (not 0) x.same; reads = denied s.0 x.reads };
}

good_cast : (at : ℕ) (ty : FixType) (e : Expr) → GoodFix ty → GoodExpr e → GoodExpr (cast at ty e)
good_cast at ty e f g = record {
  written = joined (fix_written ty f) (enclosed_written true g.written);
  reads = λ us i j s.
      let r = split us (fix_text ty) (enclosed true (expr_text e)) i j s in
      let q = split us (expr_text e) (symbol punctuation.RIGHT_PAREN ∷ []) (r.0 + 1) j r.2.1 in
      let x = as_whole e g us (r.0 + 1) q.0 q.1 in
      at_end (record {
        tree = cast (from_at us i) ty x.tree;
        same = ap (cast 0 ty) x.same;
        reads = cast_of (fix_read us ty f i r.0 r.1) r.2.0 x.reads q.2.0;
      })
      q.2.1;
}

good_read : (p : Place) (d : Option Manifest)
    → IsWritten (kind.Name p.name)
    → GoodSubs p.subs
    → GoodDelay d
    → GoodExpr (read p d)
good_read p d n g h = record {
  written = one_kind n (joined (subs_written g) (delay_written h));
  reads = λ us i j s.
      let r = split us (subscripts_text p.subs) (delay_text d) (i + 1) j s.1 in
      let x = subs_read us p.subs g (i + 1) r.0 r.1 in
      let y = delay_read us d h r.0 j r.2 in
      record {
        tree = read (record { name = p.name; at = from_at us i; subs = x.trees }) y.tree;
        same =
            ap (λ ms. read (record { name = p.name; at = 0; subs = ms }) (unpositioned_delay y.tree)) x.same
            ∙ ap (λ z. read (unpositioned_place p) z) y.same;
        reads = place s.0 x.reads y.reads;
      };
}

-- Choices.
pub data GoodBranches : Branches → Type 0 where
  no_good : GoodBranches no_branch
  good : {c v : Expr} {bs : Branches} → GoodExpr c → GoodExpr v → GoodBranches bs → GoodBranches (branch c v bs)

branches_written : {bs : Branches} → GoodBranches bs → AreWritten (branches_text bs)
branches_written no_good = no_kind
branches_written (good g h k) = joined (joined g.written (one_kind refl h.written)) (one_kind refl (branches_written k))

-- branches and a last value that are these up to positions
record ReadsArms (us : List Token) (at : ℕ) (bs : Branches) (last : Expr) (i j : ℕ) : Type 0 where
  branches : Branches
  value : Expr
  same_branches : unpositioned_branches branches ≡ unpositioned_branches bs
  same_value : unpositioned_expr value ≡ unpositioned_expr last
  reads : IsExpr us (Arms at) i (choose at branches value) j

-- after a `||`
read_arms : (us : List Token) (at : ℕ) (bs : Branches) (last : Expr)
    → GoodBranches bs
    → GoodExpr last
    → (i m n : ℕ)
    → IsPunctuation us i punctuation.PIPE_PIPE
    → AreAt us (i + 1) (branches_text bs) m
    → AreAt us m (expr_text last) n
    → IsKeyword us n keyword.FI
    → ReadsArms us at bs last i (n + 1)
read_arms us at bs last no_good l i m n bar s t fi =
    let P : ℕ → Type 0 = λ k. AreAt us k (expr_text last) n in
    let x = as_whole last l us (i + 1) n (subst P (sym s) t) in
    record {
      branches = no_branch;
      value = x.tree;
      same_branches = refl;
      same_value = x.same;
      reads = last_arm bar x.reads fi;
    }
read_arms us at bs last (good {c = c} {v = v} {bs = rest} g h k) l i m n bar s t fi =
    let r =
    split us (expr_text c ++ symbol punctuation.ARROW ∷ expr_text v)
    (symbol punctuation.PIPE_PIPE ∷ branches_text rest) (i + 1) m s in
    let q = split us (expr_text c) (symbol punctuation.ARROW ∷ expr_text v) (i + 1) r.0 r.1 in
    let x = as_whole c g us (i + 1) q.0 q.1 in
    let y = as_whole v h us (q.0 + 1) r.0 q.2.1 in
    let z = read_arms us at rest last k l r.0 m n r.2.0 r.2.1 t fi in
    record {
      branches = branch x.tree y.tree z.branches;
      value = z.value;
      same_branches =
          ap (λ e. branch e (unpositioned_expr y.tree) (unpositioned_branches z.branches)) x.same
          ∙ ap (λ e. branch (unpositioned_expr c) e (unpositioned_branches z.branches)) y.same
          ∙ ap (λ e. branch (unpositioned_expr c) (unpositioned_expr v) e) z.same_branches;
      same_value = z.same_value;
      reads = one_arm bar x.reads q.2.0 y.reads z.reads;
    }

good_choice : (at : ℕ) (c v last : Expr) (bs : Branches)
    → GoodExpr c
    → GoodExpr v
    → GoodBranches bs
    → GoodExpr last
    → GoodExpr (choose at (branch c v bs) last)
good_choice at c v last bs g h k l = record {
  written = one_kind refl (joined (joined (branches_written (good g h k)) l.written) (one_kind refl no_kind));
  reads = λ us i j s.
      let fi = split us (branches_text (branch c v bs) ++ expr_text last) (word keyword.FI ∷ []) (i + 1) j s.1 in
      let e = split us (branches_text (branch c v bs)) (expr_text last) (i + 1) fi.0 fi.1 in
      let r =
      split us (expr_text c ++ symbol punctuation.ARROW ∷ expr_text v)
      (symbol punctuation.PIPE_PIPE ∷ branches_text bs) (i + 1) e.0 e.1 in
      let q = split us (expr_text c) (symbol punctuation.ARROW ∷ expr_text v) (i + 1) r.0 r.1 in
      let x = as_whole c g us (i + 1) q.0 q.1 in
      let y = as_whole v h us (q.0 + 1) r.0 q.2.1 in
      let z = read_arms us (from_at us i) bs last k l r.0 e.0 fi.0 r.2.0 r.2.1 e.2 fi.2.0 in
      at_end (record {
        tree = choose (from_at us i) (branch x.tree y.tree z.branches) z.value;
        same =
            ap (λ a.
            choose 0 (branch a (unpositioned_expr y.tree) (unpositioned_branches z.branches))
            (unpositioned_expr z.value))
            x.same
            ∙ ap (λ a.
            choose 0 (branch (unpositioned_expr c) a (unpositioned_branches z.branches))
            (unpositioned_expr z.value))
            y.same
            ∙ ap (λ a. choose 0 (branch (unpositioned_expr c) (unpositioned_expr v) a) (unpositioned_expr z.value))
            z.same_branches
            ∙ ap (λ a. choose 0 (branch (unpositioned_expr c) (unpositioned_expr v) (unpositioned_branches bs)) a)
            z.same_value;
        reads = choice s.0 x.reads q.2.0 y.reads z.reads;
      }) fi.2.1;
}

-- what a chain goes on from, and what is shown of each rule's expression
abbrev BeforeExpr : ExprRule → Type 0
BeforeExpr (Rest l a) = GoodExpr a
BeforeExpr (Shifts a) = GoodExpr a
BeforeExpr _ = Unit {0}

record GoodArms (e : Expr) : Type 0 where
  at : ℕ
  branches : Branches
  last : Expr
  is : e ≡ choose at branches last
  all : GoodBranches branches
  value : GoodExpr last

arms_parts : (at : ℕ) (bs : Branches) (last : Expr) → GoodArms (choose at bs last) → GoodBranches bs × GoodExpr last
arms_parts at bs last g =
    let is = g.is in
    let branches : g.branches ≡ bs = cc in
    let value : g.last ≡ last = cc in
    (subst GoodBranches branches g.all, subst GoodExpr value g.value)

abbrev AfterExpr : ExprRule → Expr → Type 0
AfterExpr (Arms at) e = GoodArms e
AfterExpr _ e = GoodExpr e

good_by : (ts : List Token)
    → TokensWritten ts
    → {rule : ExprRule} {i j : ℕ} {e : Expr}
    → IsExpr ts rule i e j
    → BeforeExpr rule
    → AfterExpr rule e
good_by ts w (chain {l = Or} d rest) b = good_by ts w rest (good_by ts w d tt)
good_by ts w (chain {l = And} d rest) b = good_by ts w rest (good_by ts w d tt)
good_by ts w (chain {l = Sum} d rest) b = good_by ts w rest (good_by ts w d tt)
good_by ts w (chain {l = Product} d rest) b = good_by ts w rest (good_by ts w d tt)
good_by ts w no_more b = b
good_by ts w (one_more {l = Or} {o = o} e d rest) b = good_by ts w rest (good_binary _ o _ _ b (good_by ts w d tt))
good_by ts w (one_more {l = And} {o = o} e d rest) b = good_by ts w rest (good_binary _ o _ _ b (good_by ts w d tt))
good_by ts w (one_more {l = Sum} {o = o} e d rest) b = good_by ts w rest (good_binary _ o _ _ b (good_by ts w d tt))
good_by ts w (one_more {l = Product} {o = o} e d rest) b = good_by ts w rest (good_binary _ o _ _ b (good_by ts w d tt))
good_by ts w (no_comparison d) b = good_by ts w d tt
good_by ts w (comparison_of {o = o} d e f) b = good_binary _ o _ _ (good_by ts w d tt) (good_by ts w f tt)
good_by ts w (shifts d rest) b = good_by ts w rest (good_by ts w d tt)
good_by ts w no_shift b = b
good_by ts w (one_shift {left = left} e m rest) b = good_by ts w rest (good_shift _ left _ _ b (good_amount ts w m))
good_by ts w (negative_number {i = i} {d = d} {p = p} m e) b = record {
  written = one_kind refl (one_kind (number_written ts w (i + 1) d p e) no_kind);
  reads = λ us k j s.
      let end = s.1.1 in
      at_end (record {
        tree = literal (Number true d p (from_at us k));
        same = refl;
        reads = negative_number s.0 (number_read us (k + 1) d p s.1.0);
      })
      (omega arith);
}
good_by ts w (negated m n d) b = good_negate _ _ (good_by ts w d tt)
good_by ts w (denied m d) b = good_not _ _ (good_by ts w d tt)
good_by ts w (primary d) b = good_by ts w d tt
good_by ts w (number_ {i = i} {d = d} {p = p} e) b = record {
  written = one_kind (number_written ts w i d p e) no_kind;
  reads = λ us k j s.
      at_end (record {
        tree = literal (Number false d p (from_at us k));
        same = refl;
        reads = number_ (number_read us k d p s.0);
      })
      s.1;
}
good_by ts w (truth {b = v} e) b = record {
  written = one_kind (truth_written v) no_kind;
  reads = λ us k j s.
      at_end (record { tree = literal (Truth v (from_at us k)); same = refl; reads = truth (truth_read v s.0) }) s.1;
}
good_by ts w (place {i = i} {name = name} n subs d) b =
    good_read _ _ (w i (kind.Name name) n) (good_subs ts w subs) (good_delay ts w d)
good_by ts w (cast_of f o d c) b = good_cast _ _ _ (good_fix f) (good_by ts w d tt)
good_by ts w (paren o d c) b = good_by ts w d tt
good_by ts w (choice {i = i} {c = c} {v = v} {e = last} {bs = bs} f condition a value rest) b =
    let parts = arms_parts (from_at ts i) bs last (good_by ts w rest tt) in
    good_choice (from_at ts i) c v last bs (good_by ts w condition tt) (good_by ts w value tt) parts.0 parts.1
good_by ts w (one_arm {at = at} {c = c} {v = v} {e = last} {bs = bs} f condition a value rest) b =
    let parts = arms_parts at bs last (good_by ts w rest tt) in
    record {
      at = at;
      branches = branch c v bs;
      last = last;
      is = refl;
      all = good (good_by ts w condition tt) (good_by ts w value tt) parts.0;
      value = parts.1;
    }
good_by ts w (last_arm {at = at} {e = e} m d f) b =
    record { at = at; branches = no_branch; last = e; is = refl; all = no_good; value = good_by ts w d tt }

-- each expression that some tokens derive
pub good_expr : (ts : List Token) → TokensWritten ts → {i j : ℕ} {e : Expr} → IsExpr ts (Chain Or) i e j → GoodExpr e
good_expr ts w d = good_by ts w d tt
