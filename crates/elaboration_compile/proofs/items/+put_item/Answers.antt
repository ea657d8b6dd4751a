use Rattle.std.proofs.Common.{List, ℕ, arith, refl, subst, sym}
use Rattle.std.proofs.lemmas.Grind.{common_steps}
use Rattle.elaboration_compile.specs.Private.Names.{HasNames, HaveNames}
use Rattle.elaboration_compile.specs.Private.Scopes.{program_of, function_of}
use Rattle.silage_syntax.specs.Tree.{view_items}
use Rattle.elaboration_compile.proofs.TreeRows.{repeated}
use Rattle.elaboration_compile.proofs.items.+put_item.Goals as goal

pub loop-item-init : goal.loop-item-init
loop-item-init t c =
    let at = c.in-Loop in
    let is =
    repeated c.args.item.now at.index at.lo at.hi at.items at.at c.as_slice-items.result.now at.is
    c.as_slice-items.ensures.value in
    record {
      names =
          subst (λ (loops : List (List ℕ)).
          HaveNames (program_of c.args.scope.now) (function_of c.args.scope.now) loops
          (view_items c.as_slice-items.result.now))
          (sym c.in_ok-loops-in-Loop.ensures)
          (subst (HasNames (program_of c.args.scope.now) (function_of c.args.scope.now) c.args.loops.now) is
          c.requires.names).2;
      made = rw c.in_ok-inner-in-Loop.ensures.items refl;
    }

pub returns-after-loop-item : goal.returns-after-loop-item
returns-after-loop-item t c =
    let at = c.in-Loop in
    rw (repeated c.args.item.now at.index at.lo at.hi at.items at.at c.as_slice-items.result.now at.is
    c.as_slice-items.ensures.value)
    (grind (arith, common_steps))
