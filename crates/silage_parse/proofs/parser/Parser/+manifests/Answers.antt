use Rattle.silage_syntax.specs.Grammar.{term_operator, Sum}
use Rattle.silage_parse.specs.Private.ParseTable.{Expand, Manifest_, ManifestPrimary, Term, Factor, Punctuation}
use Rattle.silage_parse.specs.Private.ParseTable.{operators}
use Rattle.silage_parse.specs.Private.Parsed.{next, manifest_value}
use Rattle.silage_parse.proofs.Steps.{refl, sym, [], ◌∷◌, taken_from, taken_as, taken_name, taken_whole, start, matches}
use Rattle.silage_parse.proofs.Steps.{parses, does, only, first, second, other, other_of_two, stops_at, whole, fault_is}
use Rattle.silage_parse.proofs.Tables.{term_table}
use Rattle.silage_lex.specs.declared.punctuation.TheConstants as punctuation
use Rattle.silage_parse.proofs.parser.Parser.+manifests.Goals as goal

pub manifest-returns-in_err-left : goal.manifest-returns-in_err-left
manifest-returns-in_err-left t c =
    rw (fault_is c.from_residual.result c.from_residual.ensures.1)
    (stops_at _ (only (start (Expand Manifest_ ∷ []) c.args.self.now []) refl) c.in_err-left.ensures)

pub manifest-terms-init : goal.manifest-terms-init
manifest-terms-init t c = parses (only (start (Expand Manifest_ ∷ []) c.args.self.now []) refl) c.in_ok-left.ensures

pub manifest-returns-in_err-advance : goal.manifest-returns-in_err-advance
manifest-returns-in_err-advance t c =
    rw (fault_is c.from_residual-in_err-advance.result c.from_residual-in_err-advance.ensures.1)
    (stops_at _ (first c.terms.invariant refl (term_table.some (next c.terms.self) (sym c.in-Some.ensures.value)))
    (c.in_err-advance.ensures _ (term_table.some (next c.terms.self) (sym c.in-Some.ensures.value))))

pub manifest-returns-in_err-right : goal.manifest-returns-in_err-right
manifest-returns-in_err-right t c =
    rw (fault_is c.from_residual-in_err-right.result c.from_residual-in_err-right.ensures.1)
    (stops_at _
    (matches (first c.terms.invariant refl (term_table.some (next c.terms.self) (sym c.in-Some.ensures.value)))
    (c.in_ok-advance.ensures.as_one_of _ (term_table.some (next c.terms.self) (sym c.in-Some.ensures.value))))
    c.in_err-right.ensures)

pub manifest-terms-preserved : goal.manifest-terms-preserved
manifest-terms-preserved t c =
    does (parses
    (matches (first c.terms.invariant refl (term_table.some (next c.terms.self) (sym c.in-Some.ensures.value)))
    (c.in_ok-advance.ensures.as_one_of _ (term_table.some (next c.terms.self) (sym c.in-Some.ensures.value))))
    c.in_ok-right.ensures) (λ under.
    rw (
      c.in_ok-new.ensures.ok,
      c.in_ok-new-2.ensures.ok,
      taken_as term_operator
          (c.in_ok-advance.ensures.as_one_of (operators Sum)
          (term_table.some (next c.terms.self) (sym c.in-Some.ensures.value))) (sym c.in-Some.ensures.value),
      c.start-at.ensures,
      taken_from
          (c.in_ok-advance.ensures.as_one_of (operators Sum)
          (term_table.some (next c.terms.self) (sym c.in-Some.ensures.value))),
    )
    refl)

pub manifest-returns : goal.manifest-returns
manifest-returns t c =
    other c.terms.invariant refl (term_table.none (next c.terms.self) (sym c.in_default.ensures.value))

pub term-returns-in_err-left : goal.term-returns-in_err-left
term-returns-in_err-left t c =
    rw (fault_is c.from_residual.result c.from_residual.ensures.1)
    (stops_at _ (only (start (Expand Term ∷ []) c.args.self.now []) refl) c.in_err-left.ensures)

pub term-factors-init : goal.term-factors-init
term-factors-init t c = parses (only (start (Expand Term ∷ []) c.args.self.now []) refl) c.in_ok-left.ensures

pub term-returns-in_err-advance : goal.term-returns-in_err-advance
term-returns-in_err-advance t c =
    rw (fault_is c.from_residual-in_err-advance.result c.from_residual-in_err-advance.ensures.1)
    (stops_at _ (first c.factors.invariant refl (sym c.factors-test.ensures.value))
    (c.in_err-advance.ensures _ (sym c.factors-test.ensures.value)))

pub term-returns-in_err-right : goal.term-returns-in_err-right
term-returns-in_err-right t c =
    rw (fault_is c.from_residual-in_err-right.result c.from_residual-in_err-right.ensures.1)
    (stops_at _
    (matches (first c.factors.invariant refl (sym c.factors-test.ensures.value))
    (c.in_ok-advance.ensures.as_one_of _ (sym c.factors-test.ensures.value))) c.in_err-right.ensures)

pub term-factors-preserved : goal.term-factors-preserved
term-factors-preserved t c =
    does (parses
    (matches (first c.factors.invariant refl (sym c.factors-test.ensures.value))
    (c.in_ok-advance.ensures.as_one_of _ (sym c.factors-test.ensures.value))) c.in_ok-right.ensures) (λ under.
    rw (
      c.in_ok-new.ensures.ok,
      c.in_ok-new-2.ensures.ok,
      c.start-at.ensures,
      taken_from
          (c.in_ok-advance.ensures.as_one_of (Punctuation punctuation.STAR ∷ [])
          (sym c.factors-test.ensures.value)),
    )
    refl)

pub term-returns : goal.term-returns
term-returns t c = other c.factors.invariant refl (sym c.factors-test.ensures.value)

pub factor-returns-then-not-is_symbol : goal.factor-returns-then-not-is_symbol
factor-returns-then-not-is_symbol t c =
    whole (Expand ManifestPrimary ∷ []) [] (λ x. manifest_value x ∷ []) _ c.manifest_primary.result
    (other (start (Expand Factor ∷ []) c.args.self.now []) refl (sym c.if-not-is_symbol.ensures.value))
    c.manifest_primary.ensures

pub factor-returns-in_err-advance : goal.factor-returns-in_err-advance
factor-returns-in_err-advance t c =
    rw (fault_is c.from_residual.result c.from_residual.ensures.1)
    (stops_at _ (first (start (Expand Factor ∷ []) c.args.self.now []) refl (sym c.if-not-is_symbol.ensures.value))
    (c.in_err-advance.ensures _ (sym c.if-not-is_symbol.ensures.value)))

pub factor-returns-in_err-operand : goal.factor-returns-in_err-operand
factor-returns-in_err-operand t c =
    rw (fault_is c.from_residual-in_err-operand.result c.from_residual-in_err-operand.ensures.1)
    (stops_at _
    (matches (first (start (Expand Factor ∷ []) c.args.self.now []) refl (sym c.if-not-is_symbol.ensures.value))
    (c.in_ok-advance.ensures.as_one_of _ (sym c.if-not-is_symbol.ensures.value))) c.in_err-operand.ensures)

pub factor-returns : goal.factor-returns
factor-returns t c =
    does (parses
    (matches (first (start (Expand Factor ∷ []) c.args.self.now []) refl (sym c.if-not-is_symbol.ensures.value))
    (c.in_ok-advance.ensures.as_one_of _ (sym c.if-not-is_symbol.ensures.value))) c.in_ok-operand.ensures)
    (λ under.
    rw (
      c.in_ok-new.ensures.ok,
      c.start-at.ensures,
      taken_from
          (c.in_ok-advance.ensures.as_one_of (Punctuation punctuation.MINUS ∷ [])
          (sym c.if-not-is_symbol.ensures.value)),
    )
    refl)

pub manifest_primary-returns-in_err-value : goal.manifest_primary-returns-in_err-value
manifest_primary-returns-in_err-value t c =
    rw (fault_is c.from_residual.result c.from_residual.ensures.1)
    (stops_at _ (first (start (Expand ManifestPrimary ∷ []) c.args.self.now []) refl (sym c.if-is_whole.ensures.value))
    c.in_err-value.ensures)

pub manifest_primary-returns-then-is_whole : goal.manifest_primary-returns-then-is_whole
manifest_primary-returns-then-is_whole t c =
    does (matches
    (first (start (Expand ManifestPrimary ∷ []) c.args.self.now []) refl (sym c.if-is_whole.ensures.value))
    c.in_ok-value.ensures.0) (λ under.
    rw (
      taken_whole c.in_ok-value.ensures.0 c.in_ok-value.ensures.1,
      c.start-at.ensures,
      taken_from c.in_ok-value.ensures.0,
    )
    refl)

pub manifest_primary-returns-in_err-name : goal.manifest_primary-returns-in_err-name
manifest_primary-returns-in_err-name t c =
    rw (fault_is c.from_residual-in_err-name.result c.from_residual-in_err-name.ensures.1)
    (stops_at _
    (second (start (Expand ManifestPrimary ∷ []) c.args.self.now []) refl (sym c.if-is_whole.ensures.value)
    (sym c.if-is_name.ensures.value)) c.in_err-name.ensures)

pub manifest_primary-returns-then-is_name : goal.manifest_primary-returns-then-is_name
manifest_primary-returns-then-is_name t c =
    does (matches
    (second (start (Expand ManifestPrimary ∷ []) c.args.self.now []) refl (sym c.if-is_whole.ensures.value)
    (sym c.if-is_name.ensures.value)) c.in_ok-name.ensures.0) (λ under.
    rw (
      taken_name c.in_ok-name.ensures.0 c.in_ok-name.ensures.1,
      c.start-at.ensures,
      taken_from c.in_ok-name.ensures.0,
    )
    refl)

pub manifest_primary-returns-in_err-expect_symbol : goal.manifest_primary-returns-in_err-expect_symbol
manifest_primary-returns-in_err-expect_symbol t c =
    rw (fault_is c.from_residual-in_err-expect_symbol.result c.from_residual-in_err-expect_symbol.ensures.1)
    (stops_at _
    (other_of_two (start (Expand ManifestPrimary ∷ []) c.args.self.now []) refl (sym c.if-is_whole.ensures.value)
    (sym c.if-is_name.ensures.value)) c.in_err-expect_symbol.ensures)

pub manifest_primary-returns-in_err-inner : goal.manifest_primary-returns-in_err-inner
manifest_primary-returns-in_err-inner t c =
    rw (fault_is c.from_residual-in_err-inner.result c.from_residual-in_err-inner.ensures.1)
    (stops_at _
    (matches (other_of_two (start (Expand ManifestPrimary ∷ []) c.args.self.now []) refl
    (sym c.if-is_whole.ensures.value) (sym c.if-is_name.ensures.value))
    c.in_ok-expect_symbol.ensures) c.in_err-inner.ensures)

pub manifest_primary-returns-in_err-expect_symbol-2 : goal.manifest_primary-returns-in_err-expect_symbol-2
manifest_primary-returns-in_err-expect_symbol-2 t c =
    rw (fault_is c.from_residual-in_err-expect_symbol-2.result c.from_residual-in_err-expect_symbol-2.ensures.1)
    (stops_at _
    (parses (matches
    (other_of_two (start (Expand ManifestPrimary ∷ []) c.args.self.now []) refl (sym c.if-is_whole.ensures.value)
    (sym c.if-is_name.ensures.value)) c.in_ok-expect_symbol.ensures)
    c.in_ok-inner.ensures) c.in_err-expect_symbol-2.ensures)

pub manifest_primary-returns : goal.manifest_primary-returns
manifest_primary-returns t c =
    does (matches
    (parses (matches
    (other_of_two (start (Expand ManifestPrimary ∷ []) c.args.self.now []) refl
    (sym c.if-is_whole.ensures.value) (sym c.if-is_name.ensures.value)) c.in_ok-expect_symbol.ensures)
    c.in_ok-inner.ensures) c.in_ok-expect_symbol-2.ensures)
    (λ under. refl)
