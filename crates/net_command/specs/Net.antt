-- When each status comes of `net NET SAMPLES OUT`, and what it leaves.
use Rattle.std.specs.Prelude.{◌≡◌, ◌⊎◌, ◌<◌, ◌≤◌, ◌^◌, ◌++◌, ℕ, List, [], ◌∷◌, length}
use Rattle.lists.specs.Rows.{Rows}
use Rattle.desk_core.specs.View.{Name, Content, Files, View}
use Rattle.desk_core.specs.Desk.{IfSpecified, WhereSpecified, ReadFaultsRose, IsPut, content_of}
use Rattle.desk_core.specs.Whole.{IsUnchangedButInput, IsReadThrough}
use Rattle.net_command.specs.Nets.{HasNamedNet, HasFitNet, HasRefusedProc, HasNetFault}
use Rattle.net_command.specs.Nets.{IsSolvedNet, row_channels}
use Rattle.net_command.specs.Nets.{net_parts}
use Rattle.net_command.specs.Processors.{ProcPlan, names_of, programs_of, images_of}
use Rattle.net_core.specs.declared.fault.NetFault.{NetFault}
use Rattle.net_core.specs.declared.fault.NetFault.TheVariants as fault
use Rattle.net_core.specs.declared.types.NetFile.{NetFile}
use Rattle.net_core.specs.declared.types.NetProc.{NetProc}
use Rattle.net_run.specs.Runs.{last_put, HasRunAll}
use Rattle.plan_commands.specs.Refusals.{IsRefusal}
use Rattle.proc_net.specs.Nets.{NetState}
use Rattle.sample_io.specs.Samples.{RowsOf, IsFirstBadPlace, printed}
use Rattle.sample_io.specs.declared.channel.Channel.{Channel}
use Rattle.silc_files.specs.Endings.{IsNotWritten, IsFinished, IsAmong}
use Rattle.silc_files.specs.Limits.{text_limit}
use Rattle.statuses.specs.declared.status.SampleFault.{SampleFault}
use Rattle.statuses.specs.declared.status.SampleFault.TheVariants.{Row, TooLong}
use Rattle.statuses.specs.declared.status.Status.{Status}
use Rattle.statuses.specs.declared.status.Status.TheVariants.{Memory, Desk, Samples, Net}

-- how many bytes SAMPLES may have
abbrev pub net_samples_limit : ℕ
net_samples_limit = 2 ^ 20

-- NET's text names the file, and neither the text nor a name of it has a fault
abbrev pub IsNamedIn : Content → (out : Name) → Name → Type 0
IsNamedIn text out name = (file : NetFile) × HasNamedNet text out file × IsAmong (names_of file.procs) name

-- the name is NET, or one that NET names, as the files were at the start
abbrev pub IsOfNetFile : (net out : Name) → View → Name → Type 0
IsOfNetFile net out old name = (name ≡ net) ⊎ WhereSpecified old (λ files. IsNamedIn (content_of (files net)) out name)

-- the command may read the name: SAMPLES, NET, and what NET names where it has no fault of its own
abbrev pub IsNetInput : (net samples out : Name) → View → Name → Type 0
IsNetInput net samples out old name = (name ≡ samples) ⊎ IsOfNetFile net out old name

-- the fault is one of nets; want of memory is a status of its own
abbrev pub IsOfNet : NetFault → Type 0
IsOfNet fault.Memory = ⊥
IsOfNet other = Unit {0}

-- the status tells why NET and the files that it names have no net that can be run
abbrev pub IsJoinRefusal : Status → Type 0
IsJoinRefusal (Net fault) = IsOfNet fault
IsJoinRefusal status = IsRefusal status

-- or SAMPLES no stream for it
abbrev pub IsNetRefusal : Status → Type 0
IsNetRefusal (Samples fault) = Unit {0}
IsNetRefusal status = IsJoinRefusal status

-- the content has too many bytes, or a line that is no row
abbrev pub AreBadSamples : List Channel → Content → SampleFault → Type 0
AreBadSamples channels content TooLong = net_samples_limit < length content
AreBadSamples channels content (Row line at) =
    (length content ≤ net_samples_limit) × IsFirstBadPlace content channels (record { line = line; at = at })

-- the datapath of the last processor was read through
pub record IsLastPathRead (procs : List NetProc) (old new : View) : Type 0 where
  pub before : List NetProc
  pub last : NetProc
  pub procs_are : procs ≡ before ++ last ∷ []
  pub read : IsReadThrough last.dp text_limit old new

module _ (net out : Name) where
  -- NET has this net, whose processors have these plans and fit one another
  abbrev pub HasFit : NetFile → List ProcPlan → Files → Type 0
  HasFit file plans files = HasFitNet (content_of (files net)) out files file plans

  -- What a status tells of NET and the files that it names: a fault comes only where nothing before it has one.
  abbrev pub IsJoinRefused : Status → Files → Type 0
  IsJoinRefused (Net fault) files = HasNetFault (content_of (files net)) out files fault
  IsJoinRefused status files = HasRefusedProc (content_of (files net)) out files status

  -- NET names a file that could not be read
  pub record IsProcUnread (old new : View) : Type 0 where
    pub file : NetFile
    pub named : WhereSpecified old (λ files. HasNamedNet (content_of (files net)) out file)
    pub name : Name
    pub among : IsAmong (names_of file.procs) name
    pub rose : ReadFaultsRose name old new

  -- the files of the processors that NET names were read, up to the datapath of the last
  pub record AreProcsRead (old new : View) : Type 0 where
    pub file : NetFile
    pub named : WhereSpecified old (λ files. HasNamedNet (content_of (files net)) out file)
    pub read : IsLastPathRead file.procs old new

  -- what was read through last where a fault of nets is told: the processors' files where it is of a wire, else NET
  abbrev pub IsReadToFault : NetFault → View → View → Type 0
  IsReadToFault (fault.Count p) old new = AreProcsRead old new
  IsReadToFault (fault.Feed p w) old new = AreProcsRead old new
  IsReadToFault other old new = IsReadThrough net text_limit old new

  -- what was read through last before the status was found
  abbrev pub IsJoinReadTo : Status → View → View → Type 0
  IsJoinReadTo (Net fault) old new = IsReadToFault fault old new
  IsJoinReadTo status old new = AreProcsRead old new

module _ (net samples out : Name) where
  -- NET has a net that can be run, and SAMPLES is no stream for it
  pub record HasBadSamples (fault : SampleFault) (files : Files) : Type 0 where
    pub file : NetFile
    pub plans : List ProcPlan
    pub fit : HasFit net out file plans files
    pub bad : AreBadSamples (row_channels file plans) (content_of (files samples)) fault

  -- what a status tells of the files
  abbrev pub IsNetRefused : Status → Files → Type 0
  IsNetRefused (Samples fault) files = HasBadSamples fault files
  IsNetRefused status files = IsJoinRefused net out status files

  -- the file that was read through last before the status was found
  abbrev pub IsNetReadTo : Status → View → View → Type 0
  IsNetReadTo (Samples fault) old new = IsReadThrough samples net_samples_limit old new
  IsNetReadTo status old new = IsJoinReadTo net out status old new

  -- The files are refused, after all that come before the refusal were read. At most the input and the faults changed.
  pub record IsNetRejected (status : Status) (old new : View) : Type 0 where
    pub unchanged : IsUnchangedButInput old new
    pub read : IsNetReadTo status old new
    pub why : WhereSpecified old (IsNetRefused status)

  -- NET has a net that can be run, and SAMPLES could not be read
  pub record AreSamplesUnread (old new : View) : Type 0 where
    pub file : NetFile
    pub plans : List ProcPlan
    pub fit : WhereSpecified old (HasFit net out file plans)
    pub rose : ReadFaultsRose samples old new

  -- an input could not be read; at most the input and the faults changed
  pub record IsNetUnread (old new : View) : Type 0 where
    pub unchanged : IsUnchangedButInput old new
    pub rose : ReadFaultsRose net old new ⊎ (IsProcUnread net out old new ⊎ AreSamplesUnread old new)

  -- NET has this net, whose processors have these plans, and SAMPLES the stream for it
  pub record HasNetStream (file : NetFile) (plans : List ProcPlan) (stream : Rows) (files : Files) : Type 0 where
    pub fit : HasFit net out file plans files
    pub within : length (content_of (files samples)) ≤ net_samples_limit
    pub rows : RowsOf (content_of (files samples)) (row_channels file plans) stream

  -- The net of NET ran the stream of SAMPLES, as the files were at the start. Each of its programs put the rows of its
  -- one solution, and the text is that of the last one's rows. The net is where its turns lead once all samples
  -- are run.
  pub record IsNetMade (joined : NetState) (text : Content) (old : View) : Type 0 where
    pub file : NetFile
    pub plans : List ProcPlan
    pub stream : Rows
    pub puts : List Rows
    pub specified : WhereSpecified old (HasNetStream file plans stream)
    pub solved : IsSolvedNet (programs_of plans) (net_parts file (images_of plans) stream) puts
    pub ran : HasRunAll (net_parts file (images_of plans) stream) joined puts
    pub text_is : text ≡ printed (last_put (net_parts file (images_of plans) stream) puts)

  -- OUT has the text of the rows of the net, was closed, and every other file is as it was
  pub record IsNetDone (joined : NetState) (old new : View) : Type 0 where
    pub finished : IsFinished samples net_samples_limit old new
    pub text : Content
    pub made : IsNetMade joined text old
    pub put : IfSpecified (IsPut out text) old.files new.files

  -- writing OUT failed, after the net was run
  pub record IsNetCutShort (old new : View) : Type 0 where
    pub joined : NetState
    pub text : Content
    pub made : IsNetMade joined text old
    pub written : IsNotWritten samples net_samples_limit out text old new

  -- When each status comes where `net` is not done. NET is read and judged before a file of a processor is read, these
  -- are all read before one is judged, and SAMPLES is read last; OUT is created after that.
  abbrev pub IsNetError : View → View → Status → Type 0
  IsNetError old new status =
      ((status ≡ Memory) × IsUnchangedButInput old new)
      ⊎ (((status ≡ Desk) × IsNetUnread old new)
      ⊎ (((status ≡ Desk) × IsNetCutShort old new) ⊎ (IsNetRefusal status × IsNetRejected status old new)))
