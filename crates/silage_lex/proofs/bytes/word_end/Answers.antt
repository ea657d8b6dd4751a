use Rattle.std.proofs.Common.{refl, sym, ap, ◌∙◌, arith}
use Rattle.silage_lex.specs.Bytes.{is_name_byte}
use Rattle.silage_lex.proofs.Pieces.{inside_by, run_more}
use Rattle.silage_lex.proofs.bytes.word_end.Goals as goal

pub loop-end-preserved : goal.loop-end-preserved
loop-end-preserved c =
    let i = c.loop-end.invariant in
    let passes = ap is_name_byte (sym c.byte_at.ensures) ∙ sym c.loop-end-test.ensures in
    let within = inside_by c.args.src.now c.loop-end.end is_name_byte refl passes in
    (omega arith, omega arith, run_more is_name_byte c.args.src.now c.args.from c.loop-end.end i.0 within i.2 passes)
