-- What reading NET, the files that it names, and SAMPLES gives, or why it gives nothing.
use Rattle.std.specs.Prelude.{◌≡◌, ◌⊎◌, ◌<◌, ◌≤◌, ◌^◌, ℕ, List, length}
use Rattle.lists.specs.Rows.{Rows}
use Rattle.desk_core.specs.View.{Name, Content, View}
use Rattle.desk_core.specs.Desk.{WhereSpecified, ReadFaultsRose, content_of}
use Rattle.desk_core.specs.Whole.{IsReadThrough}
use Rattle.net_command.specs.Net.{net_samples_limit, IsOfNet, IsReadToFault, AreBadSamples}
use Rattle.net_command.specs.Nets.{HasNameFault}
use Rattle.net_core.specs.declared.fault.NetFault.{NetFault}
use Rattle.net_file.specs.NetRules.{IsNetFileFault}
use Rattle.net_solution.specs.declared.row_list.RowList.{RowList}
use Rattle.sample_io.specs.Channels.{IsStream}
use Rattle.sample_io.specs.Samples.{RowsOf, IsFirstBadPlace}
use Rattle.sample_io.specs.declared.channel.Channel.{Channel}
use Rattle.silc_files.specs.Endings.{IsAmong}
use Rattle.statuses.specs.declared.status.SampleFault.{SampleFault}
use Rattle.statuses.specs.declared.status.SampleFault.TheVariants.{Row}
use Rattle.statuses.specs.declared.status.Status.{Status}
use Rattle.statuses.specs.declared.status.Status.TheVariants.{Memory, Desk, Samples, Net}
use Rattle.whole_samples.specs.Reading.{words_of}

-- what the text has against it, without the files that it names
abbrev pub HasTextFault : (text : Content) → (out : Name) → NetFault → Type 0
HasTextFault text out fault = IsNetFileFault text fault ⊎ HasNameFault text out fault

-- why the text has no net
abbrev pub IsNoNet : Content → Name → Status → Type 0
IsNoNet text out status =
    (status ≡ Memory) ⊎ ((fault : NetFault) × (status ≡ Net fault) × IsOfNet fault × HasTextFault text out fault)

-- why NET gives no net
abbrev pub IsNetUnreadable : (net out : Name) → View → View → Status → Type 0
IsNetUnreadable net out old new status =
    (status ≡ Memory)
    ⊎ (((status ≡ Desk) × ReadFaultsRose net old new)
    ⊎ ((fault : NetFault)
    × (status ≡ Net fault)
    × IsOfNet fault
    × IsReadToFault net out fault old new
    × WhereSpecified old (λ files. HasTextFault (content_of (files net)) out fault)))

-- why not all of these files could be read
abbrev pub AreUnreadable : List Name → View → View → Status → Type 0
AreUnreadable names old new status =
    (status ≡ Memory) ⊎ ((status ≡ Desk) × ((name : Name) × IsAmong names name × ReadFaultsRose name old new))

-- the rows of the stream, one behind the other
abbrev pub row_list : (width : ℕ) → Rows → RowList
row_list width stream = record { width = width; words = words_of stream }

module _ (channels : List Channel) where
  -- the rows are those of the text
  abbrev pub HasRowList : Content → RowList → Type 0
  HasRowList text rows = (stream : Rows) × RowsOf text channels stream × (rows ≡ row_list (length channels) stream)

  -- why there are none
  abbrev pub AreBadRows : Content → Status → Type 0
  AreBadRows text status =
      (status ≡ Memory)
      ⊎ ((line : ℕ)
      × (at : ℕ)
      × (status ≡ Samples (Row line at))
      × IsFirstBadPlace text channels (record { line = line; at = at }))

module _ (samples : Name) (channels : List Channel) (old new : View) where
  -- SAMPLES was read through, and has the rows
  pub record IsStreamRead (rows : RowList) : Type 0 where
    pub read : IsReadThrough samples net_samples_limit old new
    pub stream : Rows
    pub rows_are : rows ≡ row_list (length channels) stream
    pub valid : IsStream channels stream
    pub few : length stream < 2 ^ 47
    pub specified :
        WhereSpecified old (λ files.
        (length (content_of (files samples)) ≤ net_samples_limit)
        × RowsOf (content_of (files samples)) channels stream)

  -- why it has none
  abbrev pub IsSamplesUnreadable : Status → Type 0
  IsSamplesUnreadable status =
      (status ≡ Memory)
      ⊎ (((status ≡ Desk) × ReadFaultsRose samples old new)
      ⊎ ((fault : SampleFault)
      × (status ≡ Samples fault)
      × IsReadThrough samples net_samples_limit old new
      × WhereSpecified old (λ files. AreBadSamples channels (content_of (files samples)) fault)))
