use Rattle.std.proofs.Common.{◌≡◌, Option, Some, None, refl, ap, sym, ◌∙◌}
use Rattle.std.proofs.lemmas.Bool.{false≢true}
use Rattle.net_core.specs.declared.types.Wire.{Wire}
use Rattle.net_file.specs.Private.Spelled.{spelled, is_wire}
use Rattle.net_file.proofs.Spelled.{wire_found, wire_refused}
use Rattle.net_file.proofs.wires.wire_of.Goals as goal

-- a text is read as one wire at most
one : {a b : Wire} {o : Option Wire} → o ≡ Some a → o ≡ Some b → a ≡ b
one p q = cc

pub returns-in-Some : goal.returns-in-Some
returns-in-Some c =
    let read : spelled c.args.text.now ≡ Some c.in-Some.wire =
    ap spelled (sym c.as_bytes.ensures.value) ∙ sym c.spelled.ensures ∙ c.in-Some.is in
    rw (wire_found c.args.inputs c.args.own c.requires.inputs c.requires.own c.args.text.now c.in-Some.wire read
    (sym c.is_wire.ensures ∙ c.if-is_wire.true)) refl

pub returns-in_default : goal.returns-in_default
returns-in_default c =
    let read : spelled c.args.text.now ≡ Some c.in-Some.wire =
    ap spelled (sym c.as_bytes.ensures.value) ∙ sym c.spelled.ensures ∙ c.in-Some.is in
    rw (wire_refused c.args.inputs c.args.own c.requires.inputs c.requires.own c.args.text.now (λ wire other is.
    let same : wire ≡ c.in-Some.wire = one other read in
    false≢true (sym c.if-is_wire.false ∙ c.is_wire.ensures
    ∙ ap (is_wire c.args.inputs c.args.own) (sym same) ∙ is))) refl

pub returns-in_default-2 : goal.returns-in_default-2
returns-in_default-2 c =
    let read : spelled c.args.text.now ≡ None =
    ap spelled (sym c.as_bytes.ensures.value) ∙ sym c.spelled.ensures ∙ c.in_default.is in
    rw (wire_refused c.args.inputs c.args.own c.requires.inputs c.requires.own c.args.text.now (λ wire other is.
    (let none : None ≡ Some wire = sym read ∙ other in absurd (cc)))) refl
