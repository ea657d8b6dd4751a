-- A machine over a stream of samples, by its microprogram and its state: it runs each row of the stream for a whole
-- period, after whatever cycles it ran.
use Rattle.std.specs.Prelude.{◌≡◌, ℕ, ◌+◌, ◌*◌, ◌%◌, ◌<◌, ◌≤◌, List, ◌++◌, length, map, Some, None}
use Rattle.std.specs.List.{range_with_len}
use Rattle.lists.specs.Rows.{Rows}
use Rattle.micro_image.specs.declared.conflict.Conflict.{Conflict}
use Rattle.micro_image.specs.Conflict.{IsConflict, IsClearBelow}
use Rattle.micro_image.specs.Fields.{Microprogram}
use Rattle.micro_image.specs.Run.{State, Stands, spread, latches}
use Rattle.sample_io.specs.declared.channel.Channel.{Channel}
use Rattle.sample_io.specs.Channels.{channel_of}

-- a channel for each input word, by their widths
abbrev pub channels_of : List ℕ → List Channel
channels_of inputs = map channel_of inputs

-- these cycles, and then each of the rows for a whole period
abbrev pub cycles_with : Microprogram → (cycles rows : Rows) → Rows
cycles_with micro cycles rows = cycles ++ spread micro.period rows

-- the output rows of the samples: what the latches hold when each of them ends
abbrev pub rows_put : Microprogram → (cycles rows : Rows) → Rows
rows_put micro cycles rows =
    map (λ n. latches micro (cycles_with micro cycles rows) (length cycles + (n + 1) * micro.period))
    (range_with_len 0 (length rows))

-- none of these cycles and of the samples has a conflict
abbrev pub IsClearOver : Microprogram → (cycles rows : Rows) → Type 0
IsClearOver micro cycles rows =
    IsClearBelow micro (cycles_with micro cycles rows) (length (cycles_with micro cycles rows))

-- the first conflict of the cycles
pub record IsFirstConflict (micro : Microprogram) (cycles : Rows) (conflict : Conflict) : Type 0 where
  pub there : IsConflict micro cycles conflict
  pub clear : IsClearBelow micro cycles conflict.cycle
  pub within : conflict.cycle < length cycles

-- the first conflict of these cycles and of the samples comes in the sample of the last row
pub record IsConflictInLast (micro : Microprogram) (cycles rows : Rows) (conflict : Conflict) : Type 0 where
  pub first : IsFirstConflict micro (cycles_with micro cycles rows) conflict
  pub last : length (cycles_with micro cycles rows) ≤ conflict.cycle + micro.period

-- the machine is at the start of a sample, and has no conflict
pub record IsReady (micro : Microprogram) (state : State) : Type 0 where
  pub whole : state.cycle % micro.period ≡ 0
  pub running : state.conflict ≡ None

-- From the first state the machine comes to the second by running these rows, and puts these. Where it stood after some
-- cycles, it stands after those and the samples of the rows.
pub record RunsRows (micro : Microprogram) (old : State) (rows puts : Rows) (new : State) : Type 0 where
  pub stands : (cycles : Rows) → Stands old micro cycles → Stands new micro (cycles_with micro cycles rows)
  pub put : (cycles : Rows) → Stands old micro cycles → puts ≡ rows_put micro cycles rows

-- over these rows the machine meets no conflict and puts these
pub record PutsRows (micro : Microprogram) (state : State) (rows puts : Rows) : Type 0 where
  pub clear : (cycles : Rows) → Stands state micro cycles → IsClearOver micro cycles rows
  pub put : (cycles : Rows) → Stands state micro cycles → puts ≡ rows_put micro cycles rows

-- in the last of these rows the machine meets the conflict first
abbrev pub MeetsInLast : Microprogram → State → Rows → Conflict → Type 0
MeetsInLast micro state rows conflict =
    (cycles : Rows) → Stands state micro cycles → IsConflictInLast micro cycles rows conflict

-- and from the first state it comes to the second, which keeps the conflict: it answers it from then on
pub record StopsInLast (micro : Microprogram) (old : State) (rows : Rows) (conflict : Conflict) (new : State)
    : Type 0 where
  pub met : MeetsInLast micro old rows conflict
  pub kept : new.conflict ≡ Some conflict
