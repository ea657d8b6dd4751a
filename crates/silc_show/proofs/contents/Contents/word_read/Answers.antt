use Rattle.std.proofs.Common.{lit<}
use Rattle.silc_show.proofs.Reading.{unit_below, unit_on, unit_valid, regs_below, register_there}
use Rattle.silc_show.proofs.contents.Contents.word_read.Goals as goal

pub index-unit-requires : goal.index-unit-requires
index-unit-requires c = unit_below c.args.image.now c.args.issue.now c.requires.issue

pub index-reg-requires : goal.index-reg-requires
index-reg-requires c =
    let below = unit_below c.args.image.now c.args.issue.now c.requires.issue in
    let at = c.index-unit.ensures in (
      lit< tt,
      regs_below c.args.image.now c.args.issue.now c.index-unit.result.now
          (unit_on c.args.image.now c.args.issue.now c.index-unit.result.now c.requires.issue at)
          (unit_valid c.args.image.now c.args.issue.now.unit c.index-unit.result.now c.requires.valid below at)
          c.args.port c.requires.port,
    )

pub first_word-requires-clause-register : goal.first_word-requires-clause-register
first_word-requires-clause-register c =
    let below = unit_below c.args.image.now c.args.issue.now c.requires.issue in
    let at = c.index-unit.ensures in
    register_there c.args.image.now c.args.issue.now c.index-unit.result.now
    (unit_on c.args.image.now c.args.issue.now c.index-unit.result.now c.requires.issue at)
    (unit_valid c.args.image.now c.args.issue.now.unit c.index-unit.result.now c.requires.valid below at)
    c.args.port c.index-reg.result.now c.requires.port c.index-reg.ensures
