-- A row more, and all rows.
use Rattle.std.proofs.Common.{◌∙◌, arith}
use Rattle.net_run.proofs.PutRows.{row_words, row_more, all_rows}
use Rattle.net_run.proofs.texts.text_of.Goals as goal

pub push_row-requires-clause-some : goal.push_row-requires-clause-some
push_row-requires-clause-some c =
    (row_words c.args.net.now c.requires.parts c.requires.finished c.loop-n.n c.row.result.now
    (omega (arith, c.loop-n-test.true, c.count-n-end.ensures)) c.row.ensures).0

pub push_row-requires-clause-few : goal.push_row-requires-clause-few
push_row-requires-clause-few c =
    (row_words c.args.net.now c.requires.parts c.requires.finished c.loop-n.n c.row.result.now
    (omega (arith, c.loop-n-test.true, c.count-n-end.ensures)) c.row.ensures).1

pub loop-n-preserved : goal.loop-n-preserved
loop-n-preserved c = λ puts is.
    c.in_ok-push_row.ensures.ok
    ∙ row_more c.args.net.now c.requires.parts c.requires.finished puts is c.loop-n.n c.loop-n.text c.row.result.now
    (omega (arith, c.loop-n-test.true, c.count-n-end.ensures)) (c.loop-n.invariant puts is) (c.row.ensures puts is)

pub returns : goal.returns
returns c = λ puts is.
    all_rows c.args.net.now c.requires.parts c.requires.finished puts is c.loop-n.text c.loop-n.n
    (omega (arith, c.loop-n-test.false, c.count-n-end.ensures)) (c.loop-n.invariant puts is)
