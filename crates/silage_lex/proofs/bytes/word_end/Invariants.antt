use Rattle.std.proofs.Common.{◌≤◌, ◌-◌, length}
use Rattle.std.specs.Prelude.{slice_range, IsTrue}
use Rattle.std.specs.List.{list_all}
use Rattle.silage_lex.specs.Bytes.{is_name_byte}
use Rattle.silage_lex.proofs.bytes.word_end.Given as goal

abbrev pub invariant-loop-end : goal.invariant-loop-end
invariant-loop-end l =
    (l.fn.from ≤ l.end) × (l.end ≤ length l.src) × IsTrue (list_all is_name_byte (slice_range l.src l.fn.from l.end))

abbrev pub decreases-loop-end : goal.decreases-loop-end
decreases-loop-end l = length l.src - l.end
