use Rattle.std.proofs.Common.{ℕ, below_more}
use Rattle.image_labels.specs.Private.Checked.{IsRowPut}
use Rattle.image_labels.proofs.rows.check_rows.Goals as goal

pub loop-sample-preserved : goal.loop-sample-preserved
loop-sample-preserved c =
    below_more (λ (m : ℕ). IsRowPut c.args.image.now m c.args.image.now.outs) c.loop-sample.sample
    c.loop-sample.invariant c.in_ok-check_row.ensures.ok
