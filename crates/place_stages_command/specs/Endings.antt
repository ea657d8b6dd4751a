-- How the command ends where PLAN gives no plan, and the exit codes.
use Rattle.std.specs.Prelude.{ℕ, ◌<◌, List, length, slice_index_or, Option, Some, None}
use Rattle.place_file.specs.declared.fault.GivenFault.{GivenFault}
use Rattle.place_file.specs.declared.fault.GivenFault.TheVariants as given
use Rattle.placed_stages.specs.declared.fault.StagePlaceFault.{StagePlaceFault}
use Rattle.placed_stages.specs.declared.fault.StagePlaceFault.TheVariants as place
use Rattle.statuses.specs.Status.{code_of}
use Rattle.statuses.specs.declared.status.Status.{Status}
use Rattle.statuses.specs.declared.status.Status.TheVariants.{Memory}
use Rattle.place_stages_command.specs.declared.ending.PipeEnding.{PipeEnding}
use Rattle.place_stages_command.specs.declared.ending.PipeEnding.TheVariants.{Told, Refused}
use Rattle.place_stages_command.specs.declared.ending.PipeRefusal.{PipeRefusal}
use Rattle.place_stages_command.specs.declared.ending.PipeRefusal.TheVariants.{Text, Line, Plan}

-- the node that a fault names, where its number is that of a place
abbrev pub node_in : StagePlaceFault → Option ℕ
node_in (place.Line fault) = None
node_in (place.Missing v) = None
node_in (place.Surplus v) = Some v
node_in (place.TooWide v) = Some v
node_in (place.WrongUnit v) = Some v
node_in (place.Late v) = Some v
node_in (place.Past v) = Some v
node_in (place.Busy v) = Some v
node_in (place.Blocked v) = Some v
node_in (place.Unstaged v) = Some v
node_in (place.FileFull unit port v) = Some v
node_in place.Memory = None

-- a node of this number has a line, where these are the lines of the nodes from 0 on
abbrev pub IsAmongLines : (lines : List ℕ) → Option ℕ → Type 0
IsAmongLines lines None = Unit {0}
IsAmongLines lines (Some v) = v < length lines

-- so has the node that a fault names
abbrev pub HasItsLine : (lines : List ℕ) → StagePlaceFault → Type 0
HasItsLine lines fault = IsAmongLines lines (node_in fault)

-- the refusal for a fault of this node
abbrev pub refusal_of : (lines : List ℕ) → StagePlaceFault → Option ℕ → PipeRefusal
refusal_of lines fault None = Plan fault
refusal_of lines fault (Some v) = Line (slice_index_or lines v 0) fault

-- the refusal for a fault
abbrev pub refusal_in : (lines : List ℕ) → StagePlaceFault → PipeRefusal
refusal_in lines fault = refusal_of lines fault (node_in fault)

-- a status is told, and no place of the source
abbrev pub told : Status → PipeEnding
told status = Told (record { status = status; line = None; element = None; path = None })

-- the ending where nodes cannot stand at their places, which these lines give
abbrev pub misplaced_in : (lines : List ℕ) → StagePlaceFault → PipeEnding
misplaced_in lines place.Memory = told Memory
misplaced_in lines fault = Refused (refusal_in lines fault)

-- the ending where a text gives no places
abbrev pub ungiven_in : GivenFault → PipeEnding
ungiven_in (given.Line line cause) = Refused (Text line cause)
ungiven_in (given.Missing v) = Refused (Plan (place.Missing v))
ungiven_in given.Memory = told Memory

-- the exit code where PLAN gives no plan
abbrev pub refused : ℕ
refused = 16

-- the exit code of the program
abbrev pub pipe_code : PipeEnding → ℕ
pipe_code (Told ending) = code_of ending.status
pipe_code (Refused refusal) = refused
