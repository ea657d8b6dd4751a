use Rattle.std.proofs.Common.{◌≡◌, ◌∙◌, ap, pos, ℤ, rules, to_z, of_z, w64}
use Rattle.std.specs.Prelude.{◌+ℤ◌}
use Rattle.std.specs.Int.{int_rem_euclid}
use Rattle.overlap_sim.proofs.StagedSteps.{slid_arg}
use Rattle.overlap_sim.proofs.issues.argument.Goals as goal

pub returns-in-Addr : goal.returns-in-Addr
returns-in-Addr c =
    let same : to_z w64 (of_z w64 c.slid.result) ≡ c.slid.result = search rules in
    let whole : to_z w64 (of_z w64 c.index-node.result.now.arg) ≡ c.index-node.result.now.arg = search rules in
    same ∙ c.slid.ensures
    ∙ ap (λ (a : ℤ). int_rem_euclid (a +ℤ pos c.args.bound.stage) (pos c.index-in-Addr.result.now.cells)) whole
    ∙ slid_arg c.args.datapath.now c.args.plan.now c.requires.ready c.args.bound c.index-node.result.now
    c.index.result.now c.index-in-Addr.result.now c.from.result c.from-in-Addr.result c.requires.bound
    c.index-node.ensures c.in-Addr.is c.from.ensures c.index.ensures c.from-in-Addr.ensures c.index-in-Addr.ensures
