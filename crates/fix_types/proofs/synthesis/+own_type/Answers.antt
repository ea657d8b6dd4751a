use Rattle.std.proofs.Common.{◌∙◌, refl, sym, ap}
use Rattle.std.specs.Option.{option_or}
use Rattle.silage_syntax.specs.Tree.{view_expr}
use Rattle.silage_meaning.specs.Types as meaning
use Rattle.fix_types.specs.Private.Scopes.{program_of, function_of}
use Rattle.fix_types.proofs.Choices.{arms_sound, choice_type, found_in, none_in}
use Rattle.fix_types.proofs.synthesis.+own_type.Goals as goal

pub loop-arm-init : goal.loop-arm-init
loop-arm-init t c = record {
  sound = arms_sound c.args.e.now c.in-Choose.field-0 c.in-Choose.arms c.in-Choose.last c.in-Choose.is
      c.as_slice-arms.result.now c.in-Choose.last.value c.as_slice-arms.ensures.value refl c.requires.sound;
  same = refl;
}

pub returns-in-Some-own_type-clause-is : goal.returns-in-Some-own_type-clause-is
returns-in-Some-own_type-clause-is t c =
    let p = program_of c.args.scope.now in
    let f = function_of c.args.scope.now in
    let arms = c.as_slice-arms.result.now in
    let last = c.in-Choose.last.value in
    ap (λ o. option_or o (meaning.own_type p f (view_expr last)))
    (found_in p f arms c.loop-arm.arm-index c.loop-arm.invariant.same c.arm-item.result c.in-Some-own_type.ty
    c.loop-arm-test.true c.arm-item.is c.in-Some-own_type.ensures.is)
    ∙ sym (choice_type c.args.e.now c.in-Choose.field-0 c.in-Choose.arms c.in-Choose.last c.in-Choose.is
    arms last c.as_slice-arms.ensures.value refl p f)

pub returns-after-loop-arm-clause-is : goal.returns-after-loop-arm-clause-is
returns-after-loop-arm-clause-is t c =
    let p = program_of c.args.scope.now in
    let f = function_of c.args.scope.now in
    let arms = c.as_slice-arms.result.now in
    let last = c.deref-in-Choose.result.now in
    c.own_type-in-Choose.ensures.is
    ∙ ap (λ o. option_or o (meaning.own_type p f (view_expr last)))
    (none_in p f arms c.loop-arm.arm-index c.loop-arm.invariant.same c.loop-arm-test.false)
    ∙ sym (choice_type c.args.e.now c.in-Choose.field-0 c.in-Choose.arms c.in-Choose.last c.in-Choose.is
    arms last c.as_slice-arms.ensures.value c.deref-in-Choose.ensures p f)
