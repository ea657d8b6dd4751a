use Rattle.std.proofs.Common.{length}
use Rattle.std.proofs.lemmas.List.{map-append}
use Rattle.silage_syntax.specs.Tree.{view_expr}
use Rattle.silage_syntax.specs.Grammar.{number_of}
use Rattle.silage_parse.specs.Private.ParseTable.{close_expr, Arms, Expand, Shift, Unary, Primary, OtherPrimary}
use Rattle.silage_parse.specs.Private.ParseTable.{Punctuation}
use Rattle.silage_parse.specs.Private.Parsed.{next, expr_value, view_branch, branches_value, branch_value, choice_value}
use Rattle.silage_parse.specs.Private.Parsed.{choice_end, in_parentheses, shifted}
use Rattle.silage_parse.specs.Private.Precedence.{precedence_of, operated, infixes, operation}
use Rattle.silage_parse.proofs.Steps.{refl, sym, ◌∙◌, [], ◌∷◌, ap, arith, taken_from, taken_as, start, matches, parses}
use Rattle.silage_parse.proofs.Steps.{reads, does, giving, only, first, second, other, other_of_two, predicts, stops}
use Rattle.silage_parse.proofs.Steps.{stops_at, whole, computes, between, fault_is}
use Rattle.silage_parse.proofs.Tables.{shift_table, truth_table}
use Rattle.silage_parse.proofs.PrecedenceClimbing.{begins, is_infix, operator_is, operator_of, climbs, climbed, joined}
use Rattle.silage_parse.proofs.Choices.{view_Choose}
use Rattle.silage_parse.specs.Private.ParseTable as the
use Rattle.silage_parse.proofs.Primaries.{paren_row, cast_row, choice_row, to_paren, to_cast, to_choice, bang_no_minus}
use Rattle.silage_lex.specs.declared.punctuation.TheConstants as punctuation
use Rattle.silage_parse.proofs.parser.Parser.+expressions.Goals as goal

pub expression-returns : goal.expression-returns
expression-returns t c = c.operation.ensures

pub operation-returns-in_err-left : goal.operation-returns-in_err-left
operation-returns-in_err-left t c =
    rw (fault_is c.from_residual.result c.from_residual.ensures.1)
    (stops_at _ (begins c.args.loosest (start (Expand (operation c.args.loosest) ∷ []) c.args.self.now []))
    c.in_err-left.ensures)

pub operation-operators-init : goal.operation-operators-init
operation-operators-init t c =
    parses (begins c.args.loosest (start (Expand (operation c.args.loosest) ∷ []) c.args.self.now []))
    c.in_ok-left.ensures

pub operation-returns-in_err-left-2 : goal.operation-returns-in_err-left-2
operation-returns-in_err-left-2 t c =
    rw (fault_is c.from_residual-in_err-left-2.result c.from_residual-in_err-left-2.ensures.1)
    (stops (operated (precedence_of c.in-Some.operator)) _ (expr_value c.operators.left ∷ []) _ _
    (climbs [] c.args.loosest c.operators.tightest c.in-Some.operator c.in-Some.ensures.some c.operators.invariant)
    c.in_err-left-2.ensures.read)

pub operation-operators-preserved : goal.operation-operators-preserved
operation-operators-preserved t c =
    rw (c.tightest_after-tightest.ensures, c.of.ensures)
    (reads (operated (precedence_of c.in-Some.operator)) (expr_value c.operators.left ∷ []) _
    (climbs [] c.args.loosest c.operators.tightest c.in-Some.operator c.in-Some.ensures.some c.operators.invariant)
    c.in_ok-left-2.ensures.read)

pub operation-returns : goal.operation-returns
operation-returns t c = climbed c.args.loosest c.operators.tightest c.in_default.ensures.none c.operators.invariant

pub shift-returns-in_err-operand : goal.shift-returns-in_err-operand
shift-returns-in_err-operand t c =
    rw (fault_is c.from_residual.result c.from_residual.ensures.1)
    (stops_at _ (only (start (Expand Shift ∷ []) c.args.self.now []) refl) c.in_err-operand.ensures)

pub shift-shifts-init : goal.shift-shifts-init
shift-shifts-init t c = parses (only (start (Expand Shift ∷ []) c.args.self.now []) refl) c.in_ok-operand.ensures

pub shift-returns : goal.shift-returns
shift-returns t c =
    other c.shifts.invariant refl (shift_table.none (next c.shifts.self) (sym c.in_default.ensures.value))

pub unary-returns : goal.unary-returns
unary-returns t c =
    whole (Expand Primary ∷ []) [] (λ x. expr_value x ∷ []) _ c.primary.result
    (other_of_two (start (Expand Unary ∷ []) c.args.self.now []) refl (sym c.if-is_symbol.ensures.value)
    (sym c.if-is_symbol-2.ensures.value)) c.primary.ensures

pub inverted-returns-in_err-advance : goal.inverted-returns-in_err-advance
inverted-returns-in_err-advance t c =
    rw (fault_is c.from_residual.result c.from_residual.ensures.1)
    (stops_at _
    (second (start (Expand Unary ∷ []) c.args.self.now []) refl (bang_no_minus (next c.args.self.now) c.requires.bang)
    c.requires.bang) (c.in_err-advance.ensures _ c.requires.bang))

pub inverted-returns-in_err-operand : goal.inverted-returns-in_err-operand
inverted-returns-in_err-operand t c =
    rw (fault_is c.from_residual-in_err-operand.result c.from_residual-in_err-operand.ensures.1)
    (stops_at _
    (matches (second (start (Expand Unary ∷ []) c.args.self.now []) refl
    (bang_no_minus (next c.args.self.now) c.requires.bang) c.requires.bang)
    (c.in_ok-advance.ensures.as_one_of _ c.requires.bang)) c.in_err-operand.ensures)

pub inverted-returns : goal.inverted-returns
inverted-returns t c =
    does (parses
    (matches (second (start (Expand Unary ∷ []) c.args.self.now []) refl
    (bang_no_minus (next c.args.self.now) c.requires.bang) c.requires.bang)
    (c.in_ok-advance.ensures.as_one_of _ c.requires.bang)) c.in_ok-operand.ensures) (λ under.
    rw (
      c.in_ok-new.ensures.ok,
      c.start-at.ensures,
      taken_from (c.in_ok-advance.ensures.as_one_of (Punctuation punctuation.BANG ∷ []) c.requires.bang),
    )
    refl)

pub negated-returns-in_err-advance : goal.negated-returns-in_err-advance
negated-returns-in_err-advance t c =
    rw (fault_is c.from_residual.result c.from_residual.ensures.1)
    (stops_at _ (first (start (Expand Unary ∷ []) c.args.self.now []) refl c.requires.minus)
    (c.in_err-advance.ensures _ c.requires.minus))

pub negated-returns-in_err-digits : goal.negated-returns-in_err-digits
negated-returns-in_err-digits t c =
    rw (fault_is c.from_residual-in_err-digits.result c.from_residual-in_err-digits.ensures.1)
    (stops_at _
    (first (matches (first (start (Expand Unary ∷ []) c.args.self.now []) refl c.requires.minus)
    (c.in_ok-advance.ensures.as_one_of _ c.requires.minus))
    refl (sym c.if-is_number.ensures.value)) c.in_err-digits.ensures)

pub negated-returns-then-is_number : goal.negated-returns-then-is_number
negated-returns-then-is_number t c =
    does (computes
    (matches (first
    (matches (first (start (Expand Unary ∷ []) c.args.self.now []) refl c.requires.minus)
    (c.in_ok-advance.ensures.as_one_of _ c.requires.minus)) refl (sym c.if-is_number.ensures.value))
    c.in_ok-digits.ensures.0) (λ under. refl)) (λ under.
    rw (
      taken_as number_of c.in_ok-digits.ensures.0 c.in_ok-digits.ensures.1,
      c.start-at.ensures,
      taken_from (c.in_ok-advance.ensures.as_one_of (Punctuation punctuation.MINUS ∷ []) c.requires.minus),
    )
    refl)

pub negated-returns-in_err-operand : goal.negated-returns-in_err-operand
negated-returns-in_err-operand t c =
    rw (fault_is c.from_residual-in_err-operand.result c.from_residual-in_err-operand.ensures.1)
    (stops_at _
    (other (matches (first (start (Expand Unary ∷ []) c.args.self.now []) refl c.requires.minus)
    (c.in_ok-advance.ensures.as_one_of _ c.requires.minus))
    refl (sym c.if-is_number.ensures.value)) c.in_err-operand.ensures)

pub negated-returns : goal.negated-returns
negated-returns t c =
    does (parses
    (other (matches (first (start (Expand Unary ∷ []) c.args.self.now []) refl c.requires.minus)
    (c.in_ok-advance.ensures.as_one_of _ c.requires.minus))
    refl (sym c.if-is_number.ensures.value)) c.in_ok-operand.ensures) (λ under.
    rw (
      c.in_ok-new.ensures.ok,
      c.start-at.ensures,
      taken_from (c.in_ok-advance.ensures.as_one_of (Punctuation punctuation.MINUS ∷ []) c.requires.minus),
    )
    refl)

pub primary-returns-then-is_number : goal.primary-returns-then-is_number
primary-returns-then-is_number t c =
    whole (Expand OtherPrimary ∷ []) [] (λ x. expr_value x ∷ []) _ c.number_literal.result
    (other (start (Expand Primary ∷ []) c.args.self.now []) refl (sym c.if-is_name.ensures.value))
    c.number_literal.ensures

pub primary-returns-in-Some : goal.primary-returns-in-Some
primary-returns-in-Some t c =
    whole (Expand OtherPrimary ∷ []) [] (λ x. expr_value x ∷ []) _ c.truth_literal.result
    (other (start (Expand Primary ∷ []) c.args.self.now []) refl (sym c.if-is_name.ensures.value))
    c.truth_literal.ensures

pub primary-returns-then-is_reserved : goal.primary-returns-then-is_reserved
primary-returns-then-is_reserved t c =
    whole (Expand OtherPrimary ∷ []) [] (λ x. expr_value x ∷ []) _ c.cast.result
    (other (start (Expand Primary ∷ []) c.args.self.now []) refl (sym c.if-is_name.ensures.value)) c.cast.ensures

pub primary-returns-then-is_reserved-2 : goal.primary-returns-then-is_reserved-2
primary-returns-then-is_reserved-2 t c =
    whole (Expand OtherPrimary ∷ []) [] (λ x. expr_value x ∷ []) _ c.choice.result
    (other (start (Expand Primary ∷ []) c.args.self.now []) refl (sym c.if-is_name.ensures.value)) c.choice.ensures

pub operated-returns-in_err-right-clause-read : goal.operated-returns-in_err-right-clause-read
operated-returns-in_err-right-clause-read t c =
    rw (fault_is c.from_residual-in_err-right.result c.from_residual-in_err-right.ensures.1)
    (c.in_err-right.ensures.read (view_expr c.args.left))

pub operated-returns-clause-read : goal.operated-returns-clause-read
operated-returns-clause-read t c =
    giving (c.in_ok-right.ensures.read (view_expr c.args.left)) (rw (c.in_ok-left.ensures.ok, c.start-at.ensures) refl)

pub after_operator-returns-in_err-advance-clause-read : goal.after_operator-returns-in_err-advance-clause-read
after_operator-returns-in_err-advance-clause-read t c =
    let is_one = is_infix (next c.args.self.now) c.args.operator c.requires.next in
    λ left.
    rw (fault_is c.from_residual.result c.from_residual.ensures.1)
    (stops_at _ (start (operated (precedence_of c.args.operator)) c.args.self.now (the.expr left ∷ []))
    (c.in_err-advance.ensures (infixes (precedence_of c.args.operator)) is_one))

pub after_operator-returns-in_err-right-clause-read : goal.after_operator-returns-in_err-right-clause-read
after_operator-returns-in_err-right-clause-read t c =
    let is_one = is_infix (next c.args.self.now) c.args.operator c.requires.next in
    let taken = c.in_ok-advance.ensures.as_one_of (infixes (precedence_of c.args.operator)) is_one in
    λ left.
    rw (fault_is c.from_residual-in_err-right.result c.from_residual-in_err-right.ensures.1)
    (stops_at _
    (matches (start (operated (precedence_of c.args.operator)) c.args.self.now (the.expr left ∷ [])) taken)
    (rw c.of.ensures at c.in_err-right.ensures))

pub after_operator-returns-clause-read : goal.after_operator-returns-clause-read
after_operator-returns-clause-read t c =
    let is_one = is_infix (next c.args.self.now) c.args.operator c.requires.next in
    let taken = c.in_ok-advance.ensures.as_one_of (infixes (precedence_of c.args.operator)) is_one in
    let is =
    taken_as (operator_of (precedence_of c.args.operator)) taken
    (operator_is (next c.args.self.now) c.args.operator c.requires.next) in
    λ left.
    does (parses
    (matches (start (operated (precedence_of c.args.operator)) c.args.self.now (the.expr left ∷ [])) taken)
    (rw c.of.ensures at c.in_ok-right.ensures)) (λ under.
    joined (precedence_of c.args.operator) c.args.operator left (view_expr c.in_ok-right.right) _ is under
    ∙ rw (c.in_ok-new.ensures.ok, taken_from taken) refl)

pub shift-returns-in_err-operand-2 : goal.shift-returns-in_err-operand-2
shift-returns-in_err-operand-2 t c =
    rw (fault_is c.from_residual-in_err-operand-2.result c.from_residual-in_err-operand-2.ensures.1)
    (stops shifted _ (expr_value c.shifts.operand ∷ []) _ _
    (first c.shifts.invariant refl (shift_table.some (next c.shifts.self) (sym c.in-Some.ensures.value)))
    c.in_err-operand-2.ensures.read)

pub shift-shifts-preserved : goal.shift-shifts-preserved
shift-shifts-preserved t c =
    reads shifted (expr_value c.shifts.operand ∷ []) []
    (first c.shifts.invariant refl (shift_table.some (next c.shifts.self) (sym c.in-Some.ensures.value)))
    c.in_ok-operand-2.ensures.read

pub primary-returns : goal.primary-returns
primary-returns t c =
    let to =
    to_paren (next c.args.self.now) (sym c.if-is_number.ensures.value)
    (truth_table.none (next c.args.self.now) (sym c.in_default.ensures.value)) (sym c.if-is_reserved.ensures.value)
    (sym c.if-is_reserved-2.ensures.value) in
    between in_parentheses expr_value close_expr _ c.parenthesised.result (λ opened closed x under. refl)
    (predicts paren_row (other (start (Expand Primary ∷ []) c.args.self.now []) refl (sym c.if-is_name.ensures.value))
    to) c.parenthesised.ensures

pub parenthesised-returns-in_err-expect_symbol : goal.parenthesised-returns-in_err-expect_symbol
parenthesised-returns-in_err-expect_symbol t c =
    rw (fault_is c.from_residual.result c.from_residual.ensures.1)
    (stops_at _ (start in_parentheses c.args.self.now []) c.in_err-expect_symbol.ensures)

pub parenthesised-returns-in_err-inner : goal.parenthesised-returns-in_err-inner
parenthesised-returns-in_err-inner t c =
    rw (fault_is c.from_residual-in_err-inner.result c.from_residual-in_err-inner.ensures.1)
    (stops_at _ (matches (start in_parentheses c.args.self.now []) c.in_ok-expect_symbol.ensures)
    c.in_err-inner.ensures)

pub parenthesised-returns-in_err-expect_symbol-2 : goal.parenthesised-returns-in_err-expect_symbol-2
parenthesised-returns-in_err-expect_symbol-2 t c =
    rw (fault_is c.from_residual-in_err-expect_symbol-2.result c.from_residual-in_err-expect_symbol-2.ensures.1)
    (stops_at _
    (parses (matches (start in_parentheses c.args.self.now []) c.in_ok-expect_symbol.ensures) c.in_ok-inner.ensures)
    c.in_err-expect_symbol-2.ensures)

pub parenthesised-returns : goal.parenthesised-returns
parenthesised-returns t c =
    let opened = c.in_ok-expect_symbol.ensures in
    let closed = c.in_ok-expect_symbol-2.ensures in (
      opened.token,
      closed.token,
      matches (parses (matches (start in_parentheses c.args.self.now []) opened) c.in_ok-inner.ensures) closed,
    )

pub cast-returns-in_err-fix : goal.cast-returns-in_err-fix
cast-returns-in_err-fix t c =
    rw (fault_is c.from_residual.result c.from_residual.ensures.1)
    (stops_at _
    (predicts cast_row (start (Expand OtherPrimary ∷ []) c.args.self.now [])
    (to_cast (next c.args.self.now) c.requires.fix)) c.in_err-fix.ensures)

pub cast-returns-in_err-inner : goal.cast-returns-in_err-inner
cast-returns-in_err-inner t c =
    rw (fault_is c.from_residual-in_err-inner.result c.from_residual-in_err-inner.ensures.1)
    (stops in_parentheses _ [] _ _
    (parses (predicts cast_row (start (Expand OtherPrimary ∷ []) c.args.self.now [])
    (to_cast (next c.args.self.now) c.requires.fix))
    c.in_ok-fix.ensures) c.in_err-inner.ensures)

pub cast-returns : goal.cast-returns
cast-returns t c =
    does (reads in_parentheses [] _
    (parses (predicts cast_row (start (Expand OtherPrimary ∷ []) c.args.self.now [])
    (to_cast (next c.args.self.now) c.requires.fix))
    c.in_ok-fix.ensures) c.in_ok-inner.ensures.2)
    (λ under. rw (c.in_ok-new.ensures.ok, c.start-at.ensures) refl)

pub choice-returns-in_err-expect_reserved : goal.choice-returns-in_err-expect_reserved
choice-returns-in_err-expect_reserved t c =
    rw (fault_is c.from_residual.result c.from_residual.ensures.1)
    (stops_at _
    (predicts choice_row (start (Expand OtherPrimary ∷ []) c.args.self.now [])
    (to_choice (next c.args.self.now) c.requires.begins)) c.in_err-expect_reserved.ensures)

pub choice-returns-in_err-when : goal.choice-returns-in_err-when
choice-returns-in_err-when t c =
    rw (fault_is c.from_residual-in_err-when.result c.from_residual-in_err-when.ensures.1)
    (stops_at _
    (matches (predicts choice_row (start (Expand OtherPrimary ∷ []) c.args.self.now [])
    (to_choice (next c.args.self.now) c.requires.begins))
    c.in_ok-expect_reserved.ensures) c.in_err-when.ensures)

pub more_branches-arms-init : goal.more_branches-arms-init
more_branches-arms-init t c = λ at.
    start (Expand Arms ∷ []) c.args.self.now (branches_value at c.args.branches.now.items ∷ [])

pub more_branches-returns-in_err-expect_symbol : goal.more_branches-returns-in_err-expect_symbol
more_branches-returns-in_err-expect_symbol t c = λ at.
    rw (fault_is c.from_residual.result c.from_residual.ensures.1)
    (stops_at _ (only (c.arms.invariant at) refl) c.in_err-expect_symbol.ensures)

pub more_branches-returns-in_err-part : goal.more_branches-returns-in_err-part
more_branches-returns-in_err-part t c = λ at.
    rw (fault_is c.from_residual-in_err-part.result c.from_residual-in_err-part.ensures.1)
    (stops_at _ (matches (only (c.arms.invariant at) refl) c.in_ok-expect_symbol.ensures) c.in_err-part.ensures)

pub more_branches-returns-then-not-is_symbol : goal.more_branches-returns-then-not-is_symbol
more_branches-returns-then-not-is_symbol t c =
    λ at. let bar = c.in_ok-expect_symbol.ensures in
    let part =
    other (parses (matches (only (c.arms.invariant at) refl) bar) c.in_ok-part.ensures) refl
    (sym c.if-not-is_symbol.ensures.value) in
    whole choice_end (expr_value c.in_ok-part.part ∷ the.token bar.token ∷ branches_value at c.arms.branches.items ∷ [])
    (λ e. choice_value at c.arms.branches.items e ∷ []) _ c.choice_end.result part
    (c.choice_end.ensures bar.token at c.arms.branches.items)

pub more_branches-expression-requires : goal.more_branches-expression-requires
more_branches-expression-requires t c =
    let so_far = c.arms.invariant 0 in
    let bar = c.in_ok-expect_symbol.ensures in
    omega (arith, ap length so_far.same, so_far.order, ap length bar.same, bar.one)

pub choice-returns-in_err-branch : goal.choice-returns-in_err-branch
choice-returns-in_err-branch t c =
    rw (fault_is c.from_residual-in_err-branch.result c.from_residual-in_err-branch.ensures.1)
    (stops branch_value _ [] _ _
    (parses (matches
    (predicts choice_row (start (Expand OtherPrimary ∷ []) c.args.self.now [])
    (to_choice (next c.args.self.now) c.requires.begins)) c.in_ok-expect_reserved.ensures)
    c.in_ok-when.ensures) c.in_err-branch.ensures)

pub choice-returns-in_err-last : goal.choice-returns-in_err-last
choice-returns-in_err-last t c =
    let began =
    parses (matches
    (predicts choice_row (start (Expand OtherPrimary ∷ []) c.args.self.now [])
    (to_choice (next c.args.self.now) c.requires.begins)) c.in_ok-expect_reserved.ensures)
    c.in_ok-when.ensures in
    let branch = c.in_ok-branch.ensures in
    rw (fault_is c.from_residual-in_err-last.result c.from_residual-in_err-last.ensures.1)
    (stops (Expand Arms ∷ []) [] (branches_value c.start-at.result c.branch-self.new.branches.items ∷ []) [] _
    (does (reads branch_value [] _ began branch.3) (λ under.
    rw
    (branch.2, c.new-branches.ensures.items, ← (taken_from c.in_ok-expect_reserved.ensures), ← c.start-at.ensures)
    refl))
    (c.in_err-last.ensures c.start-at.result))

pub choice-returns : goal.choice-returns
choice-returns t c =
    let began =
    parses (matches
    (predicts choice_row (start (Expand OtherPrimary ∷ []) c.args.self.now [])
    (to_choice (next c.args.self.now) c.requires.begins)) c.in_ok-expect_reserved.ensures)
    c.in_ok-when.ensures in
    let branch = c.in_ok-branch.ensures in
    giving (reads (Expand Arms ∷ []) (branches_value c.start-at.result c.branch-self.new.branches.items ∷ []) []
    (does (reads branch_value [] _ began branch.3) (λ under.
    rw (
      branch.2,
      c.new-branches.ensures.items,
      ← (taken_from c.in_ok-expect_reserved.ensures),
      ← c.start-at.ensures,
    )
    refl))
    (c.in_ok-last.ensures c.start-at.result))
    (rw (view_Choose c.start-at.result c.more_branches.new.branches c.in_ok-last.last) refl)

pub branch-returns-in_err-expect_symbol : goal.branch-returns-in_err-expect_symbol
branch-returns-in_err-expect_symbol t c =
    rw (fault_is c.from_residual.result c.from_residual.ensures.1)
    (stops_at _ (start branch_value c.args.self.now []) c.in_err-expect_symbol.ensures)

pub branch-returns-in_err-value : goal.branch-returns-in_err-value
branch-returns-in_err-value t c =
    rw (fault_is c.from_residual-in_err-value.result c.from_residual-in_err-value.ensures.1)
    (stops_at _ (matches (start branch_value c.args.self.now []) c.in_ok-expect_symbol.ensures) c.in_err-value.ensures)

pub branch-returns : goal.branch-returns
branch-returns t c =
    let arrow = c.in_ok-expect_symbol.ensures in (
      arrow.token,
      c.in_ok-value.value,
      c.in_ok-push.ensures.items,
      parses (matches (start branch_value c.args.self.now []) arrow) c.in_ok-value.ensures,
    )

pub more_branches-returns-in_err-branch : goal.more_branches-returns-in_err-branch
more_branches-returns-in_err-branch t c = λ at.
    rw (fault_is c.from_residual-in_err-branch.result c.from_residual-in_err-branch.ensures.1)
    (stops branch_value _ [] _ _
    (first (parses (matches (only (c.arms.invariant at) refl) c.in_ok-expect_symbol.ensures) c.in_ok-part.ensures) refl
    (sym c.if-not-is_symbol.ensures.value)) c.in_err-branch.ensures)

pub more_branches-arms-preserved : goal.more_branches-arms-preserved
more_branches-arms-preserved t c =
    let branch = c.in_ok-branch.ensures in
    λ at.
    does (reads branch_value [] _
    (first
    (parses (matches (only (c.arms.invariant at) refl) c.in_ok-expect_symbol.ensures) c.in_ok-part.ensures)
    refl (sym c.if-not-is_symbol.ensures.value)) branch.3)
    (λ under. rw (branch.2, map-append view_branch) refl)

pub more_branches-branch-self-requires : goal.more_branches-branch-self-requires
more_branches-branch-self-requires t c =
    let so_far = c.arms.invariant 0 in
    let bar = c.in_ok-expect_symbol.ensures in
    let part = c.in_ok-part.ensures in
    omega (arith, ap length so_far.same, so_far.order, ap length bar.same, bar.one, ap length part.same, part.order)
