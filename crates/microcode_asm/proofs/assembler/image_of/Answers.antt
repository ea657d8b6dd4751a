use Rattle.microcode_asm.proofs.ImageSteps.{image_is}
use Rattle.microcode_asm.proofs.assembler.image_of.Goals as goal

pub returns : goal.returns
returns c =
    image_is c.args.datapath.now c.args.plan.now c.requires c.in_ok-widths_of.field-0 c.len.result
    c.in_ok-units.field-0 c.in_ok-words.field-0 c.in_ok-widths_of.ensures c.in_ok-units.ensures.units
    c.in_ok-units.ensures.started c.len.ensures c.in_ok-words.ensures
