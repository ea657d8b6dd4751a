use Rattle.std.proofs.Common.{◌∙◌, sym, ap, subst, ℕ, ◌+◌, List, length}
use Rattle.std.proofs.lemmas.List.{length_push}
use Rattle.given_registers.specs.Private.Allotting.{AreOfGiven}
use Rattle.given_registers.specs.declared.circle.Allotted.{Allotted}
use Rattle.given_registers.proofs.Checks.{more_given, more_can}
use Rattle.given_registers.proofs.check.allotted_of.Goals as goal

pub loop-n-preserved : goal.loop-n-preserved
loop-n-preserved c =
    let given = c.args.given.now in
    let arcs = c.args.arcs.now in
    let n = c.loop-n.n in
    let old = c.loop-n.allotted.items in
    let one = c.in-Ok.copy in
    let is = c.in_ok-push-in-Ok.ensures.items in
    record {
      count = ap length is ∙ length_push old one ∙ ap (λ (m : ℕ). m + 1) c.loop-n.invariant.count;
      allotted = subst (λ (xs : List Allotted). AreOfGiven given arcs xs) (sym is)
          (more_given given arcs old one n c.loop-n.invariant.count c.loop-n.invariant.allotted c.in-Ok.ensures.can.its
          c.in-Ok.ensures.register);
      can = more_can c.args.datapath.now c.args.circle.samples given arcs n one.arc one.copy c.loop-n.invariant.can
          c.in-Ok.ensures.can;
    }
