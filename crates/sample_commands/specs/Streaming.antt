-- SAMPLES run as a stream: what opening the files does, and what a run of a machine over them comes to.
use Rattle.std.specs.Prelude.{◌≡◌, ◌≢◌, ◌⊎◌, ◌+◌, [], Some, true}
use Rattle.cycle_sim.specs.Machine.{Snapshot, state_of}
use Rattle.cycle_sim.specs.Microcode.{micro_of, inputs_of}
use Rattle.desk_core.specs.View.{Name, View}
use Rattle.desk_core.specs.Desk.{IfSpecified, ReadFaultsRose, FaultsNeverFall, IsUnchanged, HasInput, HasOutput}
use Rattle.desk_core.specs.Desk.{NoOtherBegins, IsPut}
use Rattle.sample_loops.specs.Machines.{channels_of, RunsRows, PutsRows, StopsInLast}
use Rattle.sample_loops.specs.Streams.{ChangesOutputAlone}
use Rattle.silc_files.specs.Endings.{ChangesOnly}
use Rattle.silc_files.specs.Limits.{samples_limit}
use Rattle.sample_commands.specs.Samples.{IsNotCreated}
use Rattle.sample_commands.specs.StreamEnds.{EndsStream}
use Rattle.statuses.specs.declared.status.Status.{Status}
use Rattle.statuses.specs.declared.status.Status.TheVariants.{Done, Desk}

-- SAMPLES is the input, at its start, and OUT the output, with no bytes
pub record IsOpened (samples out : Name) (old new : View) : Type 0 where
  pub input : HasInput samples old new
  pub place : new.place ≡ 0
  pub files : IfSpecified (IsPut out []) old.files new.files
  pub output : HasOutput (Some out) new
  pub writes : new.writes out ≡ true

-- SAMPLES could not be opened, and all else but the faults is as it was; or OUT could not be created
abbrev pub IsNotOpened : Name → Name → View → View → Type 0
IsNotOpened samples out old new =
    (IsUnchanged old new × ReadFaultsRose samples old new) ⊎ IsNotCreated samples out old new

-- No file but OUT changed, and nothing was printed. No name but SAMPLES began to be read, and none but OUT to
-- be written.
pub record StreamsOnly (samples out : Name) (old new : View) : Type 0 where
  pub files : IfSpecified (ChangesOnly out) old.files new.files
  pub printed : new.printed ≡ old.printed
  pub reads : NoOtherBegins samples old.reads new.reads
  pub writes : NoOtherBegins out old.writes new.writes

-- the files were opened, and then the stream of the one was run into the other
pub record RunsFiles (samples out : Name) (machine after : Snapshot) (old new : View) (ending : Status) : Type 0 where
  pub code : after.code ≡ machine.code
  pub mid : View
  pub never_fall : FaultsNeverFall old mid
  pub opened : IsOpened samples out old mid
  pub only : ChangesOutputAlone mid new
  pub ends :
      EndsStream (samples_limit + 1) (channels_of (inputs_of machine.code))
      (λ ran puts. RunsRows (micro_of machine.code) (state_of machine) ran puts (state_of after))
      (PutsRows (micro_of machine.code) (state_of machine))
      (λ ran conflict. StopsInLast (micro_of machine.code) (state_of machine) ran conflict (state_of after)) mid new
      ending

-- the files could not be opened; or the stream of the one was run into the other
abbrev pub AreRunOver : Name → Name → Snapshot → Snapshot → View → View → Status → Type 0
AreRunOver samples out machine after old new ending =
    ((ending ≡ Desk) × IsNotOpened samples out old new) ⊎ RunsFiles samples out machine after old new ending

-- why the machine did not run to the end: the files could not be opened, or the run stopped before
abbrev pub IsNotRunOver : Name → Name → Snapshot → View → View → Status → Type 0
IsNotRunOver samples out machine old new ending =
    ((ending ≡ Desk) × IsNotOpened samples out old new)
    ⊎ ((after : Snapshot) × (ending ≢ Done) × RunsFiles samples out machine after old new ending)
