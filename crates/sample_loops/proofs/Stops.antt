-- A row that did not run, or whose words could not be passed on, ends its piece.
use Rattle.std.proofs.Common.{List, [], ◌∷◌, ◌++◌, ℤ}
use Rattle.lists.specs.Rows.{Rows}
use Rattle.desk_core.specs.Desk.{FaultsNeverFall}
use Rattle.desk_core.specs.View.{Content, View}
use Rattle.micro_image.specs.declared.conflict.Conflict.{Conflict as ConflictValue}
use Rattle.sample_io.specs.FedRows.{FedRows}
use Rattle.sample_io.specs.Samples.{printed}
use Rattle.sample_loops.specs.Private.Buffers.{PassesOn}
use Rattle.sample_loops.specs.Private.Running.{EndsAtRow, EndsInPiece, EndsLines, EndsRows, StopsAtEnd}
use Rattle.sample_loops.specs.declared.stream.StreamFault.{StreamFault}
use Rattle.sample_loops.specs.declared.stream.StreamFault.TheVariants.{Desk, Row, TooLong, Conflict}
use Rattle.sample_loops.proofs.Passing.{failed_since, passes_part, passes_still}

module _ (gives : Rows → Rows → Type 0) (meets : Rows → ConflictValue → Type 0) (one : ConflictValue → Type 0)
    (old : FedRows) (piece waited : Content) (start : View) (held : Content) (before : View) (waits : Content)
    (now : View) (rows puts : Rows) (row : List ℤ) (given : gives rows puts)
    (later : (conflict : ConflictValue) → one conflict → meets (rows ++ row ∷ []) conflict)
    (lines : EndsLines old piece (rows ++ row ∷ [])) (never : FaultsNeverFall start before)
    (passes : PassesOn waited (printed puts) held start before) where
  pub ends_at_row : (fault : StreamFault)
      → EndsAtRow one held waits before now fault
      → EndsInPiece gives meets old piece waited start waits now fault
  ends_at_row Desk ends = (
    rows,
    row,
    puts,
    given,
    failed_since passes.0 start before now never passes.2 ends.0,
    passes_part waited (printed puts) held start before now passes ends.1,
    lines,
  )
  ends_at_row (Conflict conflict) ends = (
    rows,
    row,
    puts,
    given,
    later conflict ends.0,
    passes_still waited (printed puts) held waits start before now passes ends.1 ends.2,
    lines,
  )
  ends_at_row (Row fault) ends = absurd ends
  ends_at_row TooLong ends = absurd ends

-- the last row
pub stops_at_end :
    (meets : Rows → ConflictValue → Type 0) (old : FedRows) (waited : Content) (start : View) (waits : Content)
    (now : View) (row : List ℤ)
    → EndsRows old (row ∷ [])
    → (fault : StreamFault)
    → EndsAtRow (meets (row ∷ [])) waited waits start now fault
    → StopsAtEnd meets old waited start waits now fault
stops_at_end meets old waited start waits now row last Desk ends = (row, last, ends.0, ends.1)
stops_at_end meets old waited start waits now row last (Conflict conflict) ends = (row, last, ends.0, ends.1, ends.2)
stops_at_end meets old waited start waits now row last (Row fault) ends = absurd ends
stops_at_end meets old waited start waits now row last TooLong ends = absurd ends
