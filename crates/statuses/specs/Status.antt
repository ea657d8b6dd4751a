-- The exit code of each status.
use Rattle.std.specs.Prelude.{ℕ}
use Rattle.statuses.specs.declared.status.Status.{Status}
use Rattle.statuses.specs.declared.status.Status.TheVariants as status
use Rattle.statuses.specs.declared.status.Status.TheVariants.{Done, Memory, Words, Desk, FrontEnd, Path}
use Rattle.statuses.specs.declared.status.Status.TheVariants.{LinesFull, Period, FileFull, Image, Samples, Conflict}
use Rattle.statuses.specs.declared.status.Status.TheVariants.{Net, Frame}

abbrev pub code_of : Status → ℕ
code_of Done = 0
code_of Memory = 1
code_of Words = 2
code_of Desk = 3
code_of (FrontEnd fault) = 4
code_of (Path fault) = 5
code_of (status.Unit refusal) = 6
code_of (LinesFull node) = 7
code_of (Period node) = 8
code_of (FileFull unit port node) = 9
code_of (Image fault) = 10
code_of (Samples fault) = 11
code_of (Conflict conflict) = 12
code_of (Net fault) = 14
code_of (Frame fault) = 15
