use Rattle.silage_parse.specs.Private.ParseTable.{Expand, Dims}
use Rattle.silage_parse.specs.Private.Parsed.{dim_in_brackets}
use Rattle.silage_parse.proofs.Steps.{refl, sym, [], ◌∷◌, start, reads, does, first, other, stops, fault_is}
use Rattle.silage_parse.proofs.parser.Parser.dims.Goals as goal

pub returns-then-not-is_symbol : goal.returns-then-not-is_symbol
returns-then-not-is_symbol c =
    does (other (start (Expand Dims ∷ []) c.args.self.now []) refl (sym c.if-not-is_symbol.ensures.value))
    (λ under. rw c.new-list.ensures refl)

pub returns-in_err-dim : goal.returns-in_err-dim
returns-in_err-dim c =
    rw (fault_is c.from_residual.result c.from_residual.ensures.1)
    (stops dim_in_brackets _ [] _ _
    (first (start (Expand Dims ∷ []) c.args.self.now []) refl (sym c.if-not-is_symbol.ensures.value))
    c.in_err-dim.ensures)

pub returns-then-not-is_symbol-2 : goal.returns-then-not-is_symbol-2
returns-then-not-is_symbol-2 c =
    does (other (reads dim_in_brackets [] _
    (first (start (Expand Dims ∷ []) c.args.self.now []) refl (sym c.if-not-is_symbol.ensures.value))
    c.in_ok-dim.ensures.4)
    refl (sym c.if-not-is_symbol-2.ensures.value))
    (λ under. rw (c.in_ok-push.ensures.ok, c.new-list.ensures, c.in_ok-dim.ensures.3) refl)

pub returns-in_err-dim-2 : goal.returns-in_err-dim-2
returns-in_err-dim-2 c =
    rw (fault_is c.from_residual-in_err-dim-2.result c.from_residual-in_err-dim-2.ensures.1)
    (stops dim_in_brackets _ [] _ _
    (first (reads dim_in_brackets [] _
    (first (start (Expand Dims ∷ []) c.args.self.now []) refl (sym c.if-not-is_symbol.ensures.value))
    c.in_ok-dim.ensures.4)
    refl (sym c.if-not-is_symbol-2.ensures.value)) c.in_err-dim-2.ensures)

pub returns : goal.returns
returns c =
    does (reads dim_in_brackets [] _
    (first (reads dim_in_brackets [] _
    (first (start (Expand Dims ∷ []) c.args.self.now []) refl (sym c.if-not-is_symbol.ensures.value))
    c.in_ok-dim.ensures.4)
    refl (sym c.if-not-is_symbol-2.ensures.value)) c.in_ok-dim-2.ensures.4) (λ under.
    rw (
      c.in_ok-push-2.ensures.ok,
      c.in_ok-push.ensures.ok,
      c.new-list.ensures,
      c.in_ok-dim.ensures.3,
      c.in_ok-dim-2.ensures.3,
    )
    refl)
