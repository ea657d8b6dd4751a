use Rattle.std.proofs.Common.{subst}
use Rattle.micro_image.specs.Spells.{AreBytes}
use Rattle.micro_image.proofs.Length.{packed_within}
use Rattle.micro_bits.proofs.Packing.{written_spells}
use Rattle.micro_bits.proofs.encoder.encode.Goals as goal

pub returns-clause-spelled : goal.returns-clause-spelled
returns-clause-spelled c =
    let are : AreBytes c.in_ok-bytes.bytes = subst AreBytes c.as_slice.ensures c.see_bytes.ensures in
    written_spells c.in_ok-bytes.bytes c.args.image.now c.requires are c.in_ok-bytes.ensures

pub returns-clause-short : goal.returns-clause-short
returns-clause-short c =
    let are : AreBytes c.in_ok-bytes.bytes = subst AreBytes c.as_slice.ensures c.see_bytes.ensures in
    packed_within c.in_ok-bytes.bytes c.args.image.now c.requires
    (written_spells c.in_ok-bytes.bytes c.args.image.now c.requires are c.in_ok-bytes.ensures).spelled
