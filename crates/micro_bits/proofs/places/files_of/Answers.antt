use Rattle.std.proofs.Common.{sym, arith}
use Rattle.micro_bits.specs.Idle.{files_of}
use Rattle.micro_bits.proofs.Sizes.{no_sizes, files_go_on, few_go_on}
use Rattle.micro_bits.proofs.places.files_of.Goals as goal

pub loop-unit-init : goal.loop-unit-init
loop-unit-init c = record { files = sym (no_sizes (files_of c.args.image.now)); few = omega arith }

pub loop-unit-preserved : goal.loop-unit-preserved
loop-unit-preserved c = record {
  files = files_go_on c.args.image.now c.deref-unit-items.result.now c.loop-unit.unit-index c.loop-unit.files
      c.len-files.result c.unit-item.result c.deref-unit-items.ensures c.loop-unit-test.true c.unit-item.is
      c.len-files.ensures c.loop-unit.invariant.files;
  few = few_go_on c.args.image.now c.deref-unit-items.result.now c.loop-unit.unit-index c.loop-unit.files
      c.len-files.result c.unit-item.result c.deref-unit-items.ensures c.loop-unit-test.true c.unit-item.is
      c.len-files.ensures c.requires.ports c.loop-unit.invariant.few;
}
