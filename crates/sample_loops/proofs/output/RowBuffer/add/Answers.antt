-- What waited is written before, or waits still.
use Rattle.std.proofs.Common.{[], ◌++◌, ap, ◌∙◌, sym, subst}
use Rattle.sample_io.specs.Samples.{printed_row}
use Rattle.sample_loops.specs.Private.Buffers.{IsAppended}
use Rattle.sample_loops.proofs.Appending.{appended_none}
use Rattle.sample_loops.proofs.output.RowBuffer.add.Goals as goal
use Rattle.sample_loops.proofs.output.RowBuffer.add.Goals.{then-len-lt-LINE+in_ok-flush, else-len-lt-LINE}

pub returns-clause-ok : goal.returns-clause-ok
returns-clause-ok g c =
    let old = g.D.Desk.view c.args.desk.now in
    let row = printed_row c.args.row.now in
    elim c.if-len-lt-LINE.branch [
      | then-len-lt-LINE+in_ok-flush w ↦ (
        c.args.self.now,
        ap (λ l. c.args.self.now ++ l) (c.put.ensures ∙ ap (λ l. l ++ row) (w.self-is ∙ w.in_ok-flush.ensures.empty)),
        subst (λ d. IsAppended c.args.self.now old (g.D.Desk.view d)) (sym w.desk-is) w.in_ok-flush.ensures.ok,
      )
      | else-len-lt-LINE w ↦ (
        [],
        c.put.ensures ∙ ap (λ l. l ++ row) w.self-is,
        subst (λ d. IsAppended [] old (g.D.Desk.view d)) (sym w.desk-is) (appended_none old),
      )
    ]
