use Rattle.silage_parse.specs.Private.ParseTable.{Expand, FixIn}
use Rattle.silage_parse.specs.Private.Parsed.{sizes_read, effect}
use Rattle.silage_parse.proofs.Steps.{refl, [], ◌∷◌, taken_from, taken_whole, start, matches, reads, giving, only}
use Rattle.silage_parse.proofs.Steps.{stops, stops_at, fault_is}
use Rattle.silage_parse.specs.Private.ParseTable as the
use Rattle.silage_parse.proofs.parser.Parser.fix_type.Goals as goal

pub returns-in_err-expect_reserved : goal.returns-in_err-expect_reserved
returns-in_err-expect_reserved c =
    rw (fault_is c.from_residual.result c.from_residual.ensures.1)
    (stops_at _ (only (start (Expand (FixIn (effect c.args.effect)) ∷ []) c.args.self.now []) refl)
    c.in_err-expect_reserved.ensures)

pub returns-in_err-expect_symbol : goal.returns-in_err-expect_symbol
returns-in_err-expect_symbol c =
    rw (fault_is c.from_residual-in_err-expect_symbol.result c.from_residual-in_err-expect_symbol.ensures.1)
    (stops_at _
    (matches (only (start (Expand (FixIn (effect c.args.effect)) ∷ []) c.args.self.now []) refl)
    c.in_ok-expect_reserved.ensures) c.in_err-expect_symbol.ensures)

pub returns-in_err-w : goal.returns-in_err-w
returns-in_err-w c =
    rw (fault_is c.from_residual-in_err-w.result c.from_residual-in_err-w.ensures.1)
    (stops_at _
    (matches (matches (only (start (Expand (FixIn (effect c.args.effect)) ∷ []) c.args.self.now []) refl)
    c.in_ok-expect_reserved.ensures)
    c.in_ok-expect_symbol.ensures) c.in_err-w.ensures)

pub returns-in_err-expect_symbol-2 : goal.returns-in_err-expect_symbol-2
returns-in_err-expect_symbol-2 c =
    rw (fault_is c.from_residual-in_err-expect_symbol-2.result c.from_residual-in_err-expect_symbol-2.ensures.1)
    (stops_at _
    (matches (matches
    (matches (only (start (Expand (FixIn (effect c.args.effect)) ∷ []) c.args.self.now []) refl)
    c.in_ok-expect_reserved.ensures) c.in_ok-expect_symbol.ensures)
    c.in_ok-w.ensures.0) c.in_err-expect_symbol-2.ensures)

pub returns-in_err-f : goal.returns-in_err-f
returns-in_err-f c =
    rw (fault_is c.from_residual-in_err-f.result c.from_residual-in_err-f.ensures.1)
    (stops_at _
    (matches (matches
    (matches (matches (only (start (Expand (FixIn (effect c.args.effect)) ∷ []) c.args.self.now []) refl)
    c.in_ok-expect_reserved.ensures)
    c.in_ok-expect_symbol.ensures) c.in_ok-w.ensures.0)
    c.in_ok-expect_symbol-2.ensures) c.in_err-f.ensures)

pub returns-in_err-mode : goal.returns-in_err-mode
returns-in_err-mode c =
    let fix = c.in_ok-expect_reserved.ensures in
    let below = c.in_ok-expect_symbol.ensures in
    let width = c.in_ok-w.ensures.0 in
    let comma = c.in_ok-expect_symbol-2.ensures in
    let fraction = c.in_ok-f.ensures.0 in
    let sizes = sizes_read fraction.token comma.token width.token below.token fix.token in
    rw (fault_is c.from_residual-in_err-mode.result c.from_residual-in_err-mode.ensures.1)
    (stops (Expand (the.FixEnd (effect c.args.effect)) ∷ []) _ sizes _ _
    (matches (matches
    (matches (matches
    (matches (only (start (Expand (FixIn (effect c.args.effect)) ∷ []) c.args.self.now []) refl) fix) below)
    width) comma)
    fraction)
    (c.in_err-mode.ensures fraction.token comma.token width.token below.token fix.token))

pub returns : goal.returns
returns c =
    let fix = c.in_ok-expect_reserved.ensures in
    let below = c.in_ok-expect_symbol.ensures in
    let width = c.in_ok-w.ensures in
    let comma = c.in_ok-expect_symbol-2.ensures in
    let fraction = c.in_ok-f.ensures in
    let sizes = sizes_read fraction.0.token comma.token width.0.token below.token fix.token in
    giving
    (reads (Expand (the.FixEnd (effect c.args.effect)) ∷ []) sizes _
    (matches (matches
    (matches (matches
    (matches (only (start (Expand (FixIn (effect c.args.effect)) ∷ []) c.args.self.now []) refl) fix) below)
    width.0) comma)
    fraction.0)
    (c.in_ok-mode.ensures fraction.0.token comma.token width.0.token below.token fix.token))
    (rw (
      taken_whole width.0 width.1,
      taken_whole fraction.0 fraction.1,
      ← (taken_from fix),
      c.size.ensures,
      c.size-2.ensures,
    )
    refl)
