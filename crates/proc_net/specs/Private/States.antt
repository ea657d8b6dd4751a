-- What holds of a net after any turns, and of what it is made of.
use Rattle.std.specs.Prelude.{◌≡◌, ℕ, ◌+◌, ◌%◌, ◌<◌, ◌≤◌, ◌==◌, max, if◌then◌else◌, List, [], length, Some, ℤ}
use Rattle.std.specs.Prelude.{slice_get, Bool}
use Rattle.std.specs.List.{All, AllZip}
use Rattle.lists.specs.Rows.{Rows}
use Rattle.micro_image.specs.declared.image.Image.{Image}
use Rattle.micro_image.specs.Fields.{nth, microprogram_of}
use Rattle.micro_image.specs.Run.{Stands}
use Rattle.cycle_sim.specs.Machine.{state_of}
use Rattle.cycle_sim.specs.Microcode.{code_of}
use Rattle.net_core.specs.declared.types.Wire.{Wire}
use Rattle.net_turns.specs.Turns.{start, after_turns, some_runs}
use Rattle.net_turns.specs.Marking.{IsMarking}
use Rattle.proc_net.specs.declared.processor.Processor.{Processor}
use Rattle.net_solution.specs.RowLists.{row_in, IsRowList}
use Rattle.net_solution.specs.Private.Solved.{AreSolved}
use Rattle.net_solution.specs.Solutions.{Parts, no_image, image_of, shape_of}
use Rattle.proc_net.specs.Nets.{NetState, parts_of, points_of, IsProcessorAt}
use Rattle.proc_net.specs.Private.Reading.{point_at, HasRoom}

-- a processor before its first cycle
pub record IsFresh (image : Image) (feed : List Wire) (places : ℕ) (processor : Processor) : Type 0 where
  pub code : processor.machine.code ≡ code_of image
  pub stands : Stands (state_of processor.machine) (microprogram_of image) []
  pub wires : processor.feed ≡ feed
  pub period : processor.period ≡ image.period
  pub point : point_at processor ≡ start
  pub width : processor.put.width ≡ image.outs
  pub room : HasRoom processor.put places
  pub kept : processor.places ≡ places

-- how many rows processor p of so many keeps: as many as a queue holds, but the last keeps all
abbrev pub places_of : (count capacity samples p : ℕ) → ℕ
places_of count capacity samples p = if p + 1 == count then max samples 1 else capacity

-- processors of the first images, before their first cycles
pub record AreFresh (images : List Image) (feeds : List (List Wire)) (capacity samples : ℕ)
    (processors : List Processor) : Type 0 where
  pub count : length processors ≤ length images
  pub each : (p : ℕ) (processor : Processor)
      → slice_get processors p ≡ Some processor
      → IsFresh (nth images p no_image) (nth feeds p []) (places_of (length images) capacity samples p) processor

-- a row for each, before it has taken any
abbrev pub AreRowsFor : List Processor → List (List ℤ) → Type 0
AreRowsFor processors rows = AllZip (λ processor row. length row ≡ length processor.feed) processors rows

-- a processor that keeps the rows that it has put last
pub record Keeps (puts : List Rows) (p : ℕ) (processor : Processor) : Type 0 where
  pub room : HasRoom processor.put processor.places
  pub rows : (n : ℕ)
      → n < processor.ran
      → processor.ran ≤ n + processor.places
      → row_in processor.put (n % processor.places) ≡ nth (nth puts p []) n []

-- processor p, and the row that it has taken last
pub record IsProcessorIn (parts : Parts) (puts : List Rows) (p : ℕ) (processor : Processor) (row : List ℤ)
    : Type 0 where
  pub code : processor.machine.code ≡ code_of (image_of parts p)
  pub period : processor.period ≡ (image_of parts p).period
  pub width : processor.put.width ≡ (image_of parts p).outs
  pub words : length row ≡ length processor.feed
  pub at : IsProcessorAt parts puts p processor row
  pub keeps : Keeps puts p processor
  -- a processor that another reads keeps as many rows as a queue holds, and the last one all
  pub queue : p + 1 < length parts.images → parts.capacity ≤ processor.places
  pub last : p + 1 ≡ length parts.images → length parts.stream ≤ processor.places

pub record IsState (net : NetState) : Type 0 where
  pub puts : List Rows
  pub solved : AreSolved (parts_of net) puts
  pub stream : IsRowList net.stream
  pub some : 0 < length net.processors
  pub few : length net.processors ≤ 8
  pub rows : length net.rows ≡ length net.processors
  pub marking : IsMarking (shape_of (parts_of net)) (points_of net)
  pub each : (p : ℕ) (processor : Processor) (row : List ℤ)
      → slice_get net.processors p ≡ Some processor
      → slice_get net.rows p ≡ Some row
      → IsProcessorIn (parts_of net) puts p processor row

-- the new net is the old one after these turns of its processors, and whether one of them ran a cycle
pub record TookTurns (old new : NetState) (turns : List ℕ) (ran : Bool) : Type 0 where
  pub parts : parts_of new ≡ parts_of old
  pub within : All (λ p. p < length (shape_of (parts_of old)).feeds) turns
  pub points : points_of new ≡ after_turns (shape_of (parts_of old)) (points_of old) turns
  pub some : ran ≡ some_runs (shape_of (parts_of old)) (points_of old) turns
