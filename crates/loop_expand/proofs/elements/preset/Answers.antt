use Rattle.std.proofs.Common.{arith}
use Rattle.std.proofs.lemmas.Int.{to_z-of_z}
use Rattle.loop_expand.specs.Private.Elements.{with_init}
use Rattle.loop_expand.proofs.FactSteps.{changed_at, on_ok}
use Rattle.loop_expand.proofs.elements.preset.Goals as goal

pub returns : goal.returns
returns c =
    on_ok c.set_init.result
    (changed_at (with_init c.args.sample c.args.word) c.args.elem c.args.elems.now c.index-elems-elem.result
    c.set_init.new.elem (omega arith)) (simp (to_z-of_z, c.ranges.word) at c.set_init.ensures)
