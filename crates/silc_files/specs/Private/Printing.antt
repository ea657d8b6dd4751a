-- What the loop of `print_whole` has done so far.
use Rattle.std.specs.Prelude.{ℕ, ◌≤◌, length, take}
use Rattle.desk_core.specs.View.{Content, View}
use Rattle.desk_core.specs.Desk.{FaultsNeverFall, IfSpecified}
use Rattle.silc_files.specs.Printing.{IsPrintedMore, PrintsOnly}

-- so many of the bytes are printed, and no count of faults fell
pub record IsPrintedSoFar (bytes : Content) (done : ℕ) (old new : View) : Type 0 where
  pub never_fall : FaultsNeverFall old new
  pub within : done ≤ length bytes
  pub prints : PrintsOnly old new
  pub printed : IfSpecified (IsPrintedMore (take done bytes)) old.printed new.printed
