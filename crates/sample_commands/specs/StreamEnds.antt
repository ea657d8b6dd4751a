-- How a stream of samples ends, as a status.
use Rattle.std.specs.Prelude.{◌≡◌, ◌⊎◌, ℕ, List}
use Rattle.lists.specs.Rows.{Rows}
use Rattle.desk_core.specs.View.{View}
use Rattle.micro_image.specs.declared.conflict.Conflict.{Conflict as ConflictValue}
use Rattle.sample_io.specs.declared.channel.Channel.{Channel}
use Rattle.sample_loops.specs.Streams.{IsRunThrough, IsStopped}
use Rattle.sample_loops.specs.declared.stream.StreamFault.{StreamFault}
use Rattle.sample_loops.specs.declared.stream.StreamFault.TheVariants as stream
use Rattle.statuses.specs.declared.status.SampleFault.TheVariants as sample_fault
use Rattle.statuses.specs.declared.status.Status.{Status}
use Rattle.statuses.specs.declared.status.Status.TheVariants as status

-- the status of a fault of a stream
abbrev pub status_of : StreamFault → Status
status_of stream.Desk = status.Desk
status_of (stream.Row fault) = status.Samples (sample_fault.Row fault.line fault.at)
status_of stream.TooLong = status.Samples sample_fault.TooLong
status_of (stream.Conflict conflict) = status.Conflict conflict

-- The input was run through, or the run stopped. `ran` and `gives` say of rows which they put, `meets` which conflict
-- comes with the last of them.
abbrev pub EndsStream : (end : ℕ)
    → List Channel
    → (ran gives : Rows → Rows → Type 0)
    → (meets : Rows → ConflictValue → Type 0)
    → (old new : View)
    → Status
    → Type 0
EndsStream end channels ran gives meets old new ending =
    ((ending ≡ status.Done) × IsRunThrough end channels ran old new)
    ⊎ ((fault : StreamFault) × (ending ≡ status_of fault) × IsStopped end channels gives meets old new fault)
