use Rattle.silage_parse.specs.Private.ParseTable.{Expand}
use Rattle.silage_parse.specs.Private.Parsed.{effect, in_brackets}
use Rattle.silage_parse.proofs.Steps.{refl, sym, [], ◌∷◌, start, reads, does, first, other, stops, fault_is}
use Rattle.silage_parse.proofs.parser.Parser.subscripts.Goals as goal

pub returns-then-not-is_symbol : goal.returns-then-not-is_symbol
returns-then-not-is_symbol c = λ subs second are.
    does (other (start (Expand subs ∷ []) c.args.self.now []) are.none (sym c.if-not-is_symbol.ensures.value))
    (λ under. rw c.new.ensures refl)

pub returns-in_err-first : goal.returns-in_err-first
returns-in_err-first c = λ subs second are.
    rw (fault_is c.from_residual.result c.from_residual.ensures.1)
    (stops (in_brackets (effect c.args.before) (effect c.args.after)) _ [] _ _
    (first (start (Expand subs ∷ []) c.args.self.now []) are.none (sym c.if-not-is_symbol.ensures.value))
    c.in_err-first.ensures)

pub returns-then-not-is_symbol-2 : goal.returns-then-not-is_symbol-2
returns-then-not-is_symbol-2 c = λ subs second are.
    does (other (reads (in_brackets (effect c.args.before) (effect c.args.after)) [] _
    (first (start (Expand subs ∷ []) c.args.self.now []) are.none (sym c.if-not-is_symbol.ensures.value))
    c.in_ok-first.ensures.2)
    are.one (sym c.if-not-is_symbol-2.ensures.value))
    (λ under. rw (c.in_ok-push.ensures.ok, c.in_ok-subs.ensures) refl)

pub returns-in_err-second : goal.returns-in_err-second
returns-in_err-second c = λ subs second are.
    rw (fault_is c.from_residual-in_err-second.result c.from_residual-in_err-second.ensures.1)
    (stops (in_brackets (effect c.args.before) (effect c.args.after)) _ [] _ _
    (first (reads (in_brackets (effect c.args.before) (effect c.args.after)) [] _
    (first (start (Expand subs ∷ []) c.args.self.now []) are.none (sym c.if-not-is_symbol.ensures.value))
    c.in_ok-first.ensures.2)
    are.one (sym c.if-not-is_symbol-2.ensures.value)) c.in_err-second.ensures)

pub returns : goal.returns
returns c = λ subs second are.
    does (reads (in_brackets (effect c.args.before) (effect c.args.after)) [] _
    (first (reads (in_brackets (effect c.args.before) (effect c.args.after)) [] _
    (first (start (Expand subs ∷ []) c.args.self.now []) are.none (sym c.if-not-is_symbol.ensures.value))
    c.in_ok-first.ensures.2)
    are.one (sym c.if-not-is_symbol-2.ensures.value)) c.in_ok-second.ensures.2)
    (λ under. rw (c.in_ok-push-2.ensures.ok, c.in_ok-push.ensures.ok, c.in_ok-subs.ensures) refl)
