use Rattle.std.proofs.Common.{◌≡◌, ◌++◌, [], length, sym, ap, ◌∙◌, arith}
use Rattle.micro_bits.proofs.Encoded.{next_put}
use Rattle.micro_file.specs.Private.WordFlags.{unit_drives, every_drive}
use Rattle.micro_file.proofs.word_flags.drives_of.Goals as goal

pub loop-unit-preserved : goal.loop-unit-preserved
loop-unit-preserved c =
    c.in_ok-put_unit_drives.ensures
    ∙ ap (λ front. front ++ unit_drives c.from-buses.result c.loop-unit.unit) c.loop-unit.invariant
    ∙ next_put (unit_drives c.from-buses.result) [] c.loop-unit.unit

pub returns : goal.returns
unfolding every_drive
returns c =
    let all : c.loop-unit.unit ≡ length c.args.image.now.units =
    omega (arith, c.loop-unit-test.false, c.loop-unit.auto.unit-end, c.len-unit-end.ensures) in
    rw (sym all, sym c.from-buses.ensures) c.loop-unit.invariant
