use Rattle.std.proofs.Common.{◌+◌, arith, sym, refl, ap, ◌∙◌}
use Rattle.silage_lex.specs.Bytes.{is_blank}
use Rattle.silage_lex.specs.Tokens.{IsComment, blank, comment, none}
use Rattle.silage_lex.proofs.Pieces.{inside_by, opened_by}
use Rattle.silage_lex.proofs.gaps.skip.Goals as goal

pub returns-then-is_blank-clause-gap : goal.returns-then-is_blank-clause-gap
returns-then-is_blank-clause-gap c =
    let passes = ap is_blank (sym c.byte_at.ensures) ∙ sym c.if-is_blank.ensures in
    let within = inside_by c.args.src.now c.args.at is_blank refl passes in
    ((omega arith), record { order = omega arith; within = omega arith; gap = blank passes none })

pub returns-in-Some-clause-gap : goal.returns-in-Some-clause-gap
returns-in-Some-clause-gap c =
    let close = c.in-Some.ensures.some in
    let behind = close.behind in
    let opened =
    opened_by c.args.src.now c.args.at (sym c.byte_at-2.ensures ∙ c.if-byte_at-ne47.false)
    (sym c.byte_at-else-byte_at-ne47.ensures ∙ c.if-byte_at-ne42.false) in
    let is_comment : IsComment c.args.src.now c.args.at (c.in-Some.close + 2) =
    record {
      opened = opened;
      close = c.in-Some.close;
      behind = behind;
      closed = close.closed;
      next = close.next;
      ends = refl;
    } in
    ((omega arith), record { order = omega arith; within = close.within; gap = comment is_comment none })
