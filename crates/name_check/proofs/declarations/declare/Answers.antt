-- A name that is a table's or function's, or an earlier signal's, is a duplicate.
use Rattle.std.proofs.Common.{◌≡◌, true, sym, ap, ◌∙◌}
use Rattle.std.proofs.lemmas.Bool.{not-true, not-false, or_left, or_right}
use Rattle.name_rules.specs.Meanings.{are_dims, is_signal_type}
use Rattle.name_check.proofs.Declared.{declared_twice, declared_once}
use Rattle.name_check.proofs.declarations.declare.Goals as goal
use Rattle.name_check.proofs.declarations.declare.Goals.{then-is_top-via-then-is_top}
use Rattle.name_check.proofs.declarations.declare.Goals.{then-is_top-via-else-is_top+in_ok-insert+then-not-branch}

pub returns-then-is_top-clause-met : goal.returns-then-is_top-clause-met
returns-then-is_top-clause-met c = λ not_memory.
    let dims : are_dims c.args.d.now.dims ≡ true =
    sym (ap are_dims c.deref.ensures) ∙ sym c.are_dims.ensures ∙ c.if-not-are_dims.false in
    let ty : is_signal_type c.args.d.now.ty ≡ true = sym c.is_signal_type.ensures ∙ c.if-not-is_signal_type.false in
    declared_twice c.args.tops.now c.args.signals.now c.args.d.now dims ty (elim c.then-is_top.branch [
      | then-is_top-via-then-is_top w ↦ or_left _ _ (sym c.is_top.ensures ∙ w.if-is_top.true)
      | then-is_top-via-else-is_top+in_ok-insert+then-not-branch w ↦
          or_right _ _ (not-false _ (sym w.in_ok-insert.ensures.added ∙ w.if-not-branch.true))
    ])

pub returns-clause-met : goal.returns-clause-met
returns-clause-met c =
    let dims : are_dims c.args.d.now.dims ≡ true =
    sym (ap are_dims c.deref.ensures) ∙ sym c.are_dims.ensures ∙ c.if-not-are_dims.false in
    let ty : is_signal_type c.args.d.now.ty ≡ true = sym c.is_signal_type.ensures ∙ c.if-not-is_signal_type.false in
    declared_once c.args.tops.now c.args.signals.now c.args.d.now dims ty (sym c.is_top.ensures ∙ c.if-is_top.false)
    (not-true _ (sym c.in_ok-insert.ensures.added ∙ c.if-not-branch.false))
