use Rattle.std.proofs.Common.{◌≡◌, ◌*◌, ◌∙◌, ℕ, arith, below_more, refl, IsTrue}
use Rattle.image_labels.specs.Labels.{turn_of}
use Rattle.image_labels.specs.Private.Checked.{PutsInSample}
use Rattle.image_labels.proofs.rows.is_row_word.Goals as goal

turned : (p u : ℕ) → p * u ≡ u * p
turned p u = grind arith

pub loop-cycle-preserved : goal.loop-cycle-preserved
loop-cycle-preserved c =
    below_more (λ (d : ℕ). PutsInSample c.args.image.now d c.args.sample c.args.output → ⊥) c.loop-cycle.cycle
    c.loop-cycle.invariant
    (λ puts. let is : IsTrue c.puts_in_sample.result = c.puts_in_sample.ensures.1 puts in
    grind (arith, is, c.if-puts_in_sample.false))

pub returns-then-puts_in_sample : goal.returns-then-puts_in_sample
returns-then-puts_in_sample c =
    let puts = c.puts_in_sample.ensures.0 c.if-puts_in_sample.true in
    let turn : c.args.turn ≡ turn_of c.args.image.now =
    c.requires.turn ∙ c.requires.valid.word_count ∙ turned c.args.image.now.period c.args.image.now.unroll in (
      λ is. record {
        cycle = c.loop-cycle.cycle;
        unit = puts.1.0;
        there = omega (arith, turn);
        on = puts.1.1.0;
        now = puts.0;
        puts = puts.1.1.1;
      },
      λ is. refl,
    )

pub returns : goal.returns
returns c =
    let turn : c.args.turn ≡ turn_of c.args.image.now =
    c.requires.turn ∙ c.requires.valid.word_count ∙ turned c.args.image.now.period c.args.image.now.unroll in (
      λ is. absurd (cc is),
      λ row. absurd (c.loop-cycle.invariant row.cycle (omega (arith, row.there, turn, c.loop-cycle-test.false))
          (row.now, (row.unit, (row.on, row.puts)))),
    )
