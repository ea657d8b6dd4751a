use Rattle.std.proofs.Common.{◌∙◌, ◌++◌, List, refl, ap}
use Rattle.silage_syntax.specs.Tree.{view_arms}
use Rattle.fix_word.specs.declared.types.Format.{Format}
use Rattle.type_rules.specs.TypedTree.{view_expr}
use Rattle.type_rules.specs.declared.typed.TypedExpr.{TypedExpr as RustTyped}
use Rattle.fix_types.specs.Private.Choosing.{nested, view_pairs, typed_pairs}
use Rattle.fix_types.specs.Private.Scopes.{program_of, function_of}
use Rattle.fix_types.proofs.Choices.{arms_sound, arms_typed}
use Rattle.fix_types.proofs.ChoiceTyped.{all_typed, condition_ends, value_ends, choice_whole, last_fails}
use Rattle.fix_types.proofs.expressions.+exprs.Goals as goal

pub typed-loop-arm-init : goal.typed-loop-arm-init
typed-loop-arm-init t c =
    let p = program_of c.args.scope.now in
    let f = function_of c.args.scope.now in
    let at = c.in-Choose in
    let arms = c.as_slice-arms.result.now in
    let is = c.as_slice-arms.ensures.value in
    record {
      sound = arms_sound c.args.e.now at.field-0 at.arms at.last at.is arms at.last.value is refl c.requires.sound;
      reads = arms_typed c.args.e.now at.field-0 at.arms at.last at.is arms at.last.value is refl p f c.requires.reads;
      met = refl;
      typed =
          ap (λ (xs : List (RustTyped × RustTyped)). view_pairs xs ++ typed_pairs p f c.args.wanted (view_arms arms))
          c.in_ok-pairs-in-Choose.ensures.items;
    }

pub typed-returns-in_err-condition-in-Choose : goal.typed-returns-in_err-condition-in-Choose
typed-returns-in_err-condition-in-Choose t c =
    let at = c.in-Choose in
    condition_ends (program_of c.args.scope.now) (function_of c.args.scope.now) c.args.wanted c.args.e.now at.field-0
    at.arms at.last at.is
    c.as_slice-arms.result.now at.last.value c.as_slice-arms.ensures.value refl c.loop-arm.arm-index
    c.loop-arm.invariant.met c.arm-item.result c.loop-arm-test.true c.arm-item.is
    c.from_residual-in_err-condition-in-Choose.result c.in_err-condition-in-Choose.field-0.0
    c.from_residual-in_err-condition-in-Choose.ensures.1 c.in_err-condition-in-Choose.ensures

pub typed-returns-in_err-value-in-Choose : goal.typed-returns-in_err-value-in-Choose
typed-returns-in_err-value-in-Choose t c =
    let at = c.in-Choose in
    value_ends (program_of c.args.scope.now) (function_of c.args.scope.now) c.args.wanted c.args.e.now at.field-0
    at.arms at.last at.is
    c.as_slice-arms.result.now at.last.value c.as_slice-arms.ensures.value refl c.loop-arm.arm-index
    c.loop-arm.invariant.met c.arm-item.result c.loop-arm-test.true c.arm-item.is
    c.from_residual-in_err-value-in-Choose.result c.in_err-value-in-Choose.field-0.0
    c.from_residual-in_err-value-in-Choose.ensures.1 c.in_ok-condition-in-Choose.ensures.0
    c.in_err-value-in-Choose.ensures

pub typed-returns-in_err-last-in-Choose : goal.typed-returns-in_err-last-in-Choose
typed-returns-in_err-last-in-Choose t c =
    let p = program_of c.args.scope.now in
    let f = function_of c.args.scope.now in
    let at = c.in-Choose in
    let arms = c.as_slice-arms.result.now in
    let all =
    all_typed p f c.args.wanted arms c.loop-arm.arm-index c.loop-arm.invariant.met c.loop-arm.pairs
    c.loop-arm-test.false c.loop-arm.invariant.typed in
    last_fails p f c.args.wanted c.args.e.now at.field-0 at.arms at.last at.is arms c.deref-in-Choose.result.now
    c.as_slice-arms.ensures.value c.deref-in-Choose.ensures
    c.from_residual-in_err-last-in-Choose.result c.in_err-last-in-Choose.field-0.0
    c.from_residual-in_err-last-in-Choose.ensures.1 all.0 c.in_err-last-in-Choose.ensures

pub typed-returns-in_ok-nested-in-Choose : goal.typed-returns-in_ok-nested-in-Choose
typed-returns-in_ok-nested-in-Choose t c =
    let p = program_of c.args.scope.now in
    let f = function_of c.args.scope.now in
    let at = c.in-Choose in
    let arms = c.as_slice-arms.result.now in
    let pairs = c.loop-arm.pairs.items in
    let last = c.in_ok-last-in-Choose.last in
    let all =
    all_typed p f c.args.wanted arms c.loop-arm.arm-index c.loop-arm.invariant.met c.loop-arm.pairs
    c.loop-arm-test.false c.loop-arm.invariant.typed in
    choice_whole p f c.args.wanted c.args.e.now at.field-0 at.arms at.last at.is arms c.deref-in-Choose.result.now
    c.as_slice-arms.ensures.value c.deref-in-Choose.ensures
    pairs last c.in_ok-nested-in-Choose.field-0 all.0 all.1 c.in_ok-last-in-Choose.ensures.0
    c.in_ok-last-in-Choose.ensures.1
    (c.in_ok-nested-in-Choose.ensures
    ∙ ap (λ (fmt : Format). nested fmt (view_pairs pairs) (view_expr last)) c.chosen.ensures)
