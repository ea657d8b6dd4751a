use Rattle.std.proofs.Common.{◌≡◌, true, false, sym, ◌∙◌}
use Rattle.toml_rows.proofs.AmongKeys.{keys_among-cons}
use Rattle.toml_rows.proofs.tables.has_only.Goals as goal

pub returns-then-not-is_among : goal.returns-then-not-is_among
returns-then-not-is_among c =
    let one = keys_among-cons c.args.names.now c.loop-key.key-iterator c.next.new.self
    (c.in-Some.key.now, c.in-Some.field-0-1.now) c.as_str.result.now c.is_among.result c.in-Some.ensures.steps
    c.as_str.ensures.value c.is_among.ensures in
    let no : c.is_among.result ≡ false = c.if-not-is_among.true in
    sym (rw no at one) ∙ c.loop-key.invariant.2

pub loop-key-preserved : goal.loop-key-preserved
loop-key-preserved c =
    let one = keys_among-cons c.args.names.now c.loop-key.key-iterator c.next.new.self
    (c.in-Some.key.now, c.in-Some.field-0-1.now) c.as_str.result.now c.is_among.result c.in-Some.ensures.steps
    c.as_str.ensures.value c.is_among.ensures in
    let yes : c.is_among.result ≡ true = c.if-not-is_among.false in
    (tt, tt, sym (rw yes at one) ∙ c.loop-key.invariant.2)
