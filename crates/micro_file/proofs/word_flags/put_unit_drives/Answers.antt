use Rattle.std.proofs.Common.{◌++◌, ◌∷◌, [], ap, ◌∙◌}
use Rattle.micro_bits.proofs.Encoded.{next_put}
use Rattle.micro_file.specs.Private.WordFlags.{drive_of}
use Rattle.micro_file.proofs.word_flags.put_unit_drives.Goals as goal

pub loop-bus-preserved : goal.loop-bus-preserved
loop-bus-preserved c =
    c.in_ok-push.ensures.ok
    ∙ ap (λ front. front ++ drive_of c.args.unit c.loop-bus.bus ∷ []) c.loop-bus.invariant
    ∙ next_put (λ bus. drive_of c.args.unit bus ∷ []) c.args.drives.now c.loop-bus.bus
