-- Completeness of the table: it reads the expressions that the grammar has.
use Rattle.std.proofs.Common.{◌≡◌, ℕ, ◌+◌, true, false, Option, Some, None, List, [], ◌∷◌, ◌++◌, refl, sym, ap, arith}
use Rattle.silage_lex.specs.declared.Token.{Token}
use Rattle.silage_lex.specs.declared.TokenKind.{TokenKind}
use Rattle.silage_lex.specs.declared.TokenKind.TheVariants as kind
use Rattle.silage_syntax.specs.declared.tree.Lit.TheVariants.{Number, Truth}
use Rattle.silage_syntax.specs.Tree.{Manifest, Expr, read, choose, Branches, no_branch, branch}
use Rattle.silage_syntax.specs.Grammar.{kind_at, from_at, number_of, IsName, IsSubscripts, IsDelay, Level, Or, And, Sum}
use Rattle.silage_syntax.specs.Grammar.{Product, ExprRule, Chain, Rest, Comparison, Shift, Shifts, Unary, Primary, Arms}
use Rattle.silage_syntax.specs.Grammar.{part, IsExpr, chain, no_more, one_more, no_comparison, comparison_of, shifts}
use Rattle.silage_syntax.specs.Grammar.{no_shift, one_shift, negative_number, negated, denied, primary, number, truth}
use Rattle.silage_syntax.specs.Grammar.{place, cast_of, paren, choice, one_arm, last_arm}
use Rattle.silage_parse.specs.Private.ParseTable as the
use Rattle.silage_parse.specs.Private.ParseTable.{Nonterminal, Value, Symbol, Match, Act, Expand, Action, is_one, rests}
use Rattle.silage_parse.specs.Private.Machine.{Among, candidates, here, there, branches_of}
use Rattle.silage_parse.proofs.TokenFacts.{mark_there, word_there, name_there, known_by}
use Rattle.silage_parse.proofs.Tables.{comparison_table, number_table, operator_table, shift_table, truth_table}
use Rattle.silage_parse.proofs.Derivations.{Goes, g_end, g_match, g_expand, g_act, Does, does}
use Rattle.silage_parse.proofs.CompleteManifests.{makes_to, finish, goes_to, does_to, nonterminal, manifest_does}
use Rattle.silage_parse.proofs.CompleteManifests.{subs_do, delay_does}
use Rattle.silage_parse.proofs.CompleteTypes.{fix_does}

-- what a `-` goes on with
minus_number : (k : Option TokenKind)
    → is_one the.number k ≡ true
    → Among (candidates the.AfterMinus k) (Match the.number the.Inside ∷ Act the.negative ∷ Act the.literal_expr ∷ [])
minus_number k h = rw h here

minus_other : (k : Option TokenKind)
    → number_of k ≡ None
    → Among (candidates the.AfterMinus k) (Expand the.Unary ∷ Act the.negate_expr ∷ [])
minus_other (Some (kind.Whole n)) h = cc
minus_other (Some (kind.Point d p)) h = cc
minus_other _ h = here

-- branches before others, and before a choice's
abbrev pub join : List (Expr × Expr) → Branches → Branches
join [] bs = bs
join (x ∷ xs) bs = branch x.0 x.1 (join xs bs)

pub join_push : (xs : List (Expr × Expr)) (c v : Expr) (bs : Branches)
    → join (xs ++ (c, v) ∷ []) bs ≡ join xs (branch c v bs)
join_push [] c v bs = refl
join_push (x ∷ xs) c v bs = ap (λ b. branch x.0 x.1 b) (join_push xs c v bs)

pub join_all : (xs : List (Expr × Expr)) → join xs no_branch ≡ branches_of xs
join_all [] = refl
join_all (x ∷ xs) = ap (λ b. branch x.0 x.1 b) (join_all xs)

abbrev pub behind : List (Expr × Expr) → Expr → Expr
behind xs (choose at bs e) = choose at (join xs bs) e
behind xs e = e

-- a unary, or a primary, is a place or else read by the nonterminal that has no place
pub data First (us : List Token) (p : Nonterminal) : ℕ → Expr → ℕ → Type 0 where
  named : {i j k : ℕ} {name : List ℕ} {ms : List Manifest} {d : Option Manifest}
      → IsName us i name
      → IsSubscripts us (i + 1) ms j
      → IsDelay us j d k
      → First us p i (read (record { name = name; at = from_at us i; subs = ms }) d) k
  other : {i j : ℕ} {e : Expr} → ((vs : List Value) → Does us p i vs j (the.expr e ∷ vs)) → First us p i e j

-- what is to be shown of each rule
abbrev pub IsRead : List Token → ExprRule → ℕ → Expr → ℕ → Type 0
IsRead us (Chain l) i e j = (vs : List Value) → Does us (the.Chain l) i vs j (the.expr e ∷ vs)
IsRead us (Rest l a) i e j = (vs : List Value) → Does us (the.Rest l) i (the.expr a ∷ vs) j (the.expr e ∷ vs)
IsRead us Comparison i e j = (vs : List Value) → Does us the.Comparison i vs j (the.expr e ∷ vs)
IsRead us Shift i e j = (vs : List Value) → Does us the.Shift i vs j (the.expr e ∷ vs)
IsRead us (Shifts a) i e j = (vs : List Value) → Does us the.Shifts i (the.expr a ∷ vs) j (the.expr e ∷ vs)
IsRead us Unary i e j = First us the.OtherUnary i e j
IsRead us Primary i e j = First us the.OtherPrimary i e j
IsRead us (Arms at) i e j =
    (xs : List (Expr × Expr)) (vs : List Value)
    → Does us the.Arms i (the.arms at xs ∷ vs) j (the.expr (behind xs e) ∷ vs)

part_read : {us : List Token} (l : Level) (i : ℕ) (e : Expr) (j : ℕ)
    → IsRead us (part l) i e j
    → (vs : List Value)
    → Does us (the.operand_of l) i vs j (the.expr e ∷ vs)
part_read Or i e j r vs = r vs
part_read And i e j r vs = r vs
part_read Sum i e j r vs = r vs
part_read Product i e j r vs = r vs

-- a place
named_does : {us : List Token} {i j k : ℕ} {name : List ℕ} {ms : List Manifest} {d : Option Manifest}
    → IsName us i name
    → IsSubscripts us (i + 1) ms j
    → IsDelay us j d k
    → (vs : List Value)
    → Does us the.Primary i vs k (the.expr (read (record { name = name; at = from_at us i; subs = ms }) d) ∷ vs)
named_does {us} {i} {name = name} {ms = ms} n s d vs =
    let k = name_there us i name n in
    does here
    (g_match k.there k.fits
    (g_expand (subs_do s (the.token k.tok ∷ vs))
    (makes_to (rw (k.tells, ← k.from) refl)
    (g_expand (delay_does d (the.place (record { name = name; at = from_at us i; subs = ms }) ∷ vs))
    (g_act g_end)))))

-- a unary that has no place is a unary
other_unary : {us : List Token} {i j : ℕ} {vs ws : List Value}
    → Does us the.OtherUnary i vs j ws
    → Does us the.Unary i vs j ws
other_unary (does here g) = does here g
other_unary (does (there here) g) = does (there here) g
other_unary (does (there (there here)) (g_expand d g_end)) =
    does (there (there here)) (nonterminal (does (there here) (nonterminal d)))
other_unary (does (there (there (there x))) g) = elim x [ ]

unary_read : {us : List Token} {i j : ℕ} {e : Expr}
    → First us the.OtherUnary i e j
    → (vs : List Value)
    → Does us the.Unary i vs j (the.expr e ∷ vs)
unary_read (named n s d) vs = does (there (there here)) (nonterminal (named_does n s d vs))
unary_read (other f) vs = other_unary (f vs)

-- a primary as a unary
as_unary : {us : List Token} {i j : ℕ} {e : Expr} → First us the.OtherPrimary i e j → First us the.OtherUnary i e j
as_unary (named n s d) = named n s d
as_unary (other f) = other (λ vs. does (there (there here)) (nonterminal (f vs)))

pub expr_does : {us : List Token} {r : ExprRule} {i j : ℕ} {e : Expr} → IsExpr us r i e j → IsRead us r i e j
expr_does (chain {l = l} {i = i} {j = j} {a = a} p r) = λ vs.
    does here (g_expand (part_read l i a j (expr_does p) vs) (nonterminal (expr_does r vs)))
expr_does no_more = λ vs. does (there here) g_end
expr_does {us} (one_more {l = l} {i = i} {j = j} {a = a} {b = b} {o = o} h p r) = λ vs.
    let k = known_by (operator_table l) us i h in
    does here
    (g_match k.there k.fits
    (g_expand (part_read l (i + 1) b j (expr_does p) (the.token k.tok ∷ the.expr a ∷ vs))
    (makes_to (rw (k.tells, ← k.from) refl) (nonterminal (expr_does r vs)))))
expr_does (no_comparison p) = λ vs. does here (g_expand (expr_does p vs) (nonterminal (does (there here) g_end)))
expr_does {us} (comparison_of {j = j} {a = a} {o = o} p h q) = λ vs.
    let k = known_by comparison_table us j h in
    does here
    (g_expand (expr_does p vs)
    (nonterminal
    (does here
    (g_match k.there k.fits
    (g_expand (expr_does q (the.token k.tok ∷ the.expr a ∷ vs)) (finish (rw (k.tells, ← k.from) refl)))))))
expr_does (shifts p r) = λ vs. does here (g_expand (unary_read (expr_does p) vs) (nonterminal (expr_does r vs)))
expr_does no_shift = λ vs. does (there here) g_end
expr_does {us} (one_shift {i = i} {a = a} {left = left} h m r) = λ vs.
    let k = known_by shift_table us i h in
    does here
    (g_match k.there k.fits
    (g_expand (manifest_does m (the.token k.tok ∷ the.expr a ∷ vs))
    (makes_to (rw (k.tells, ← k.from) refl) (nonterminal (expr_does r vs)))))
expr_does {us} (negative_number {i = i} {d = d} {p = p} m n) =
    let k = mark_there us i _ m in
    let k1 = known_by number_table us (i + 1) n in
    other (λ vs.
    does here
    (goes_to (g_match k.there k.fits
    (nonterminal
    (does (minus_number (kind_at us (i + 1)) (number_table.some (kind_at us (i + 1)) n))
    (g_match k1.there k1.fits
    (makes_to {xs = the.lit (Number true d p (from_at us i)) ∷ vs} (rw (k1.tells, ← k.from) refl)
    (g_act g_end))))))
    (omega arith)))
expr_does {us} (negated {i = i} m n p) =
    let k = mark_there us i _ m in
    other (λ vs.
    does here
    (g_match k.there k.fits
    (nonterminal
    (does (minus_other (kind_at us (i + 1)) n)
    (g_expand (unary_read (expr_does p) (the.token k.tok ∷ vs)) (finish (rw (← k.from) refl)))))))
expr_does {us} (denied {i = i} m p) =
    let k = mark_there us i _ m in
    other (λ vs.
    does (there here)
    (g_match k.there k.fits
    (g_expand (unary_read (expr_does p) (the.token k.tok ∷ vs)) (finish (rw (← k.from) refl)))))
expr_does (primary p) = as_unary (expr_does p)
expr_does {us} (number {i = i} {d = d} {p = p} n) =
    let k = known_by number_table us i n in
    other (λ vs.
    does here
    (g_match k.there k.fits
    (makes_to {xs = the.lit (Number false d p (from_at us i)) ∷ vs} (rw (k.tells, ← k.from) refl) (g_act g_end))))
expr_does {us} (truth {i = i} {b = b} h) =
    let k = known_by truth_table us i h in
    other (λ vs.
    does (there here)
    (g_match k.there k.fits
    (makes_to {xs = the.lit (Truth b (from_at us i)) ∷ vs} (rw (k.tells, ← k.from) refl) (g_act g_end))))
expr_does (place n s d) = named n s d
expr_does {us} (cast_of {i = i} {j = j} {k = m} {f = f} t o p c) =
    let k = mark_there us j _ o in
    let k1 = mark_there us m _ c in
    other (λ vs.
    does (there (there here))
    (g_expand (fix_does the.Inside t vs)
    (g_match k.there k.fits
    (g_expand (expr_does p (the.token k.tok ∷ the.fix (from_at us i) f ∷ vs))
    (g_match k1.there k1.fits (g_act g_end))))))
expr_does {us} (paren {i = i} {j = j} o p c) =
    let k = mark_there us i _ o in
    let k1 = mark_there us j _ c in
    other (λ vs.
    does (there (there (there (there here))))
    (g_match k.there k.fits
    (g_expand (expr_does p (the.token k.tok ∷ vs)) (g_match k1.there k1.fits (g_act g_end)))))
expr_does {us} (choice {i = i} {j = j} {c = c} {v = v} w p o q r) =
    let k = word_there us i _ w in
    let k1 = mark_there us j _ o in
    other (λ vs.
    does (there (there (there here)))
    (g_match k.there k.fits
    (g_expand (expr_does p (the.token k.tok ∷ vs))
    (g_match k1.there k1.fits
    (g_expand (expr_does q (the.token k1.tok ∷ the.expr c ∷ the.token k.tok ∷ vs))
    (makes_to (rw (← k.from) refl) (nonterminal (expr_does r ((c, v) ∷ []) vs))))))))
expr_does {us} (one_arm {at = at} {i = i} {j = j} {c = c} {v = v} {e = e} {bs = bs} m p o q r) = λ xs vs.
    let k = mark_there us i _ m in
    let k1 = mark_there us j _ o in
    let last = expr_does r (xs ++ (c, v) ∷ []) vs in
    does here
    (g_match k.there k.fits
    (g_expand (expr_does p (the.token k.tok ∷ the.arms at xs ∷ vs))
    (nonterminal
    (does here
    (g_match k1.there k1.fits
    (g_expand (expr_does q (the.token k1.tok ∷ the.expr c ∷ the.token k.tok ∷ the.arms at xs ∷ vs))
    (g_act (nonterminal (does_to (ap (λ b. the.expr (choose at b e) ∷ vs) (join_push xs c v bs)) last)))))))))
expr_does {us} (last_arm {at = at} {i = i} {j = j} {e = e} m p w) = λ xs vs.
    let k = mark_there us i _ m in
    let k1 = word_there us j _ w in
    does here
    (g_match k.there k.fits
    (g_expand (expr_does p (the.token k.tok ∷ the.arms at xs ∷ vs))
    (nonterminal
    (does (there here)
    (g_match k1.there k1.fits (finish (ap (λ b. the.expr (choose at b e) ∷ vs) (sym (join_all xs)))))))))

-- An expression in parts: its first unary, and what it goes on with.
pub record Parts (us : List Token) (i : ℕ) (e : Expr) (j : ℕ) : Type 0 where
  pub k : ℕ
  pub head : Expr
  pub first : First us the.OtherUnary i head k
  pub goes : (vs : List Value) → Goes us rests k (the.expr head ∷ vs) j (the.expr e ∷ vs)

pub in_parts : {us : List Token} {i j : ℕ} {e : Expr} → IsExpr us (Chain Or) i e j → Parts us i e j
in_parts (chain (chain (no_comparison (chain (chain (shifts u s) p) t)) n) o) =
    record {
      k = _;
      head = _;
      first = expr_does u;
      goes = λ vs.
          g_expand (expr_does s vs)
          (g_expand (expr_does p vs)
          (g_expand (expr_does t vs)
          (g_expand (does (there here) g_end) (g_expand (expr_does n vs) (g_expand (expr_does o vs) g_end)))));
    }
in_parts {us} (chain (chain (comparison_of {j = j} {a = a} {o = op} (chain (chain (shifts u s) p) t) h q) n) o) =
    let k = known_by comparison_table us j h in
    record {
      k = _;
      head = _;
      first = expr_does u;
      goes = λ vs.
          g_expand (expr_does s vs)
          (g_expand (expr_does p vs)
          (g_expand (expr_does t vs)
          (g_expand
          (does here
          (g_match k.there k.fits
          (g_expand (expr_does q (the.token k.tok ∷ the.expr a ∷ vs)) (finish (rw (k.tells, ← k.from) refl)))))
          (g_expand (expr_does n vs) (g_expand (expr_does o vs) g_end)))));
    }
