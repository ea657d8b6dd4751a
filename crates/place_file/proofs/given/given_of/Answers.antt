use Rattle.std.proofs.Common.{inr, sym, ap, subst₂, arith}
use Rattle.place_file.specs.Private.Entries.{AreFirst}
use Rattle.place_file.specs.declared.entry.Entry.{Entry}
use Rattle.place_file.proofs.Keys.{index_low, entry_read, first_more}
use Rattle.place_file.proofs.given.given_of.Goals as goal

pub index-entry-requires : goal.index-entry-requires
index-entry-requires c =
    index_low c.args.entries.now c.args.keys.now c.requires.keys c.loop-v.v c.loop-v-test.true

pub returns-then-entry-v-clause-fault : goal.returns-then-entry-v-clause-fault
returns-then-entry-v-clause-fault c =
    let e = entry_read c.args.entries.now c.args.keys.now c.requires.keys c.loop-v.v c.loop-v-test.true
    c.index-entry.result.now c.index-entry.ensures in
    inr (
      c.loop-v.v,
      record { there = c.loop-v-test.true; before = λ u less. c.loop-v.invariant.node u less },
      omega (arith, ap (λ (z : Entry). z.node) e, c.if-entry-v.true),
      ap (λ (z : Entry). z.line) e,
    )

pub returns-then-entry-v-2-clause-fault : goal.returns-then-entry-v-2-clause-fault
returns-then-entry-v-2-clause-fault c =
    let e = entry_read c.args.entries.now c.args.keys.now c.requires.keys c.loop-v.v c.loop-v-test.true
    c.index-entry.result.now c.index-entry.ensures in
    inr (
      record { there = c.loop-v-test.true; before = λ u less. c.loop-v.invariant.node u less },
      omega (arith, ap (λ (z : Entry). z.node) e, c.if-entry-v-2.true),
    )

pub loop-v-preserved : goal.loop-v-preserved
loop-v-preserved c =
    let e = entry_read c.args.entries.now c.args.keys.now c.requires.keys c.loop-v.v c.loop-v-test.true
    c.index-entry.result.now c.index-entry.ensures in
    subst₂ (AreFirst c.args.entries.now c.args.keys.now _) (sym c.in_ok-push.ensures.ok) (sym c.in_ok-push-2.ensures.ok)
    (first_more c.args.entries.now c.args.keys.now c.requires.keys c.loop-v.v c.loop-v-test.true c.loop-v.places
    c.loop-v.lines c.index-entry.result.now c.loop-v.invariant e
    (omega (arith, c.if-entry-v.false, c.if-entry-v-2.false)))
