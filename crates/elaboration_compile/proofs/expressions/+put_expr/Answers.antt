use Rattle.std.proofs.Common.{refl, arith, subst}
use Rattle.std.proofs.lemmas.Grind.{common_steps}
use Rattle.elaboration_compile.specs.Private.Names.{HasReads}
use Rattle.elaboration_compile.specs.Private.Scopes.{program_of, function_of}
use Rattle.elaboration_compile.proofs.TreeRows.{chosen}
use Rattle.elaboration_compile.proofs.expressions.+put_expr.Goals as goal

pub loop-arm-init : goal.loop-arm-init
loop-arm-init t c =
    let at = c.in-Choose in
    let is =
    chosen c.args.e.now at.field-0 at.arms at.last c.as_slice-arms.result.now at.last.value at.is
    c.as_slice-arms.ensures.value refl in
    record {
      reads =
          (subst (HasReads (program_of c.args.scope.now) (function_of c.args.scope.now) c.args.loops.now) is
          c.requires.reads).0;
      made = refl;
    }

pub returns-after-loop-arm : goal.returns-after-loop-arm
returns-after-loop-arm t c =
    let at = c.in-Choose in
    rw (chosen c.args.e.now at.field-0 at.arms at.last c.as_slice-arms.result.now c.deref-in-Choose.result.now at.is
    c.as_slice-arms.ensures.value c.deref-in-Choose.ensures)
    (grind (arith, common_steps))
