-- A net that was read is run over SAMPLES, or why it is not.
use Rattle.std.proofs.Common.{◌≡◌, ◌∙◌, ◌<◌, List, [], ◌∷◌, length, sym, ap, ap₂, subst, inl, inr}
use Rattle.std.proofs.Common.{⊎_elim, arith, ℤ}
use Rattle.std.specs.List.{All}
use Rattle.std.proofs.lemmas.List.Elements.{All-nil, All-cons, All-head, All-tail, All-weaker}
use Rattle.std.proofs.lemmas.List.FromFn.{length-map-range_with_len}
use Rattle.lists.specs.Rows.{Rows}
use Rattle.lists.proofs.Zips.{zip_length}
use Rattle.desk_core.specs.View.{Name, Content, Files, View}
use Rattle.desk_core.specs.Desk.{content_of}
use Rattle.desk_core.proofs.WholeLemmas.{through_from}
use Rattle.micro_image.specs.declared.image.Image.{Image}
use Rattle.net_command.specs.Net.{net_samples_limit, IsOfNetFile, IsNetInput, IsJoinRefusal, IsJoinRefused}
use Rattle.net_command.specs.Net.{IsNetRefusal, IsJoinReadTo, IsNetReadTo}
use Rattle.net_command.specs.Net.{IsNetRefused}
use Rattle.net_command.specs.Nets.{row_channels, net_parts}
use Rattle.net_command.specs.Ports.{program_ports}
use Rattle.net_command.specs.Processors.{ProcPlan, images_of, ports_of}
use Rattle.net_command.specs.Private.Prepared.{IsPrepared}
use Rattle.net_command.specs.Private.Reading.{IsStreamRead}
use Rattle.net_command.specs.Private.Running.{AreRead, AreUnread, IsRun, IsNotRun}
use Rattle.net_command.specs.declared.joiner.Joined.{Joined}
use Rattle.net_command.proofs.Fitting.{are_parts, is_solved}
use Rattle.net_command.proofs.TypeRanges.{all_narrow}
use Rattle.net_fit.specs.Joints.{net_channels, net_type, word_width, HasNarrowInputs}
use Rattle.net_fit.specs.declared.ports.Ports.{Ports}
use Rattle.net_run.specs.Runs.{HasRunAll, IsRunOver, last_put}
use Rattle.net_run.proofs.RowWords.{rows_of-words, words_are}
use Rattle.net_solution.specs.RowLists.{rows_of, IsRowList}
use Rattle.net_solution.specs.Solutions.{Parts, parts_given, AreParts}
use Rattle.net_solution.specs.declared.row_list.RowList.{RowList}
use Rattle.proc_net.specs.Nets.{NetState}
use Rattle.sample_io.specs.Channels.{IsInChannel, IsRow, IsStream, channel_of}
use Rattle.sample_io.specs.Samples.{RowsOf, printed}
use Rattle.sample_io.specs.declared.channel.Channel.{Channel}
use Rattle.silc_files.specs.Endings.{IsAmong}
use Rattle.silc_files.specs.Reading.{OnlyReads}
use Rattle.silc_files.proofs.Endings.{reads_both, reads_wider}
use Rattle.statuses.specs.declared.status.Status.{Status}
use Rattle.statuses.specs.declared.status.Status.TheVariants.{Samples}

all_ports_narrow : (plans : List ProcPlan) → All IsPrepared plans → All HasNarrowInputs (ports_of plans)
all_ports_narrow [] all = All-nil HasNarrowInputs
all_ports_narrow (its ∷ plans) all =
    All-cons HasNarrowInputs (program_ports its.program) (ports_of plans)
    (all_narrow _ (All-head IsPrepared its plans all).types)
    (all_ports_narrow plans (All-tail IsPrepared its plans all))

net_refusal : (status : Status) → IsJoinRefusal status → IsNetRefusal status
net_refusal (Samples fault) is = absurd is
net_refusal other is = is

net_refused : (net samples out : Name) (files : Files) (status : Status)
    → IsJoinRefusal status
    → IsJoinRefused net out status files
    → IsNetRefused net samples out status files
net_refused net samples out files (Samples fault) is h = absurd is
net_refused net samples out files other is h = h

net_read : (net samples out : Name) (old new : View) (status : Status)
    → IsJoinRefusal status
    → IsJoinReadTo net out status old new
    → IsNetReadTo net samples out status old new
net_read net samples out old new (Samples fault) is h = absurd is
net_read net samples out old new other is h = h

-- why NET gives no net is why it is not run
pub not_read : (net samples out : Name) (old new : View) (status : Status)
    → AreUnread net out old new status
    → IsNotRun net samples out old new status
not_read net samples out old new status (inl memory) = inl memory
not_read net samples out old new status (inr (inl (desk, inl rose))) = inr (inl (desk, inl rose))
not_read net samples out old new status (inr (inl (desk, inr unread))) = inr (inl (desk, inr (inl unread)))
not_read net samples out old new status (inr (inr (is, read, why))) =
    inr
    (inr (
      net_refusal status is,
      net_read net samples out old new status is read,
      λ files at. net_refused net samples out files status is (why files at),
    ))

-- the files of the net are read, and then SAMPLES
pub reads_wide : (net samples out : Name) (old new : View)
    → OnlyReads (IsOfNetFile net out old) old new
    → OnlyReads (IsNetInput net samples out old) old new
reads_wide net samples out old new =
    reads_wider (IsOfNetFile net out old) (IsNetInput net samples out old) old new (λ name h. inr h)

pub reads_last : (net samples out : Name) (old mid new : View)
    → OnlyReads (IsOfNetFile net out old) old mid
    → OnlyReads (IsAmong (samples ∷ [])) mid new
    → OnlyReads (IsNetInput net samples out old) old new
reads_last net samples out old mid new =
    reads_both (IsOfNetFile net out old) (IsAmong (samples ∷ [])) (IsNetInput net samples out old) old mid new
    (λ name h. inr h) (λ name h. inl (⊎_elim (λ e. e) (λ none. absurd none) h))

module _ (net out : Name) (old : View) (joined : Joined) (are : AreRead net out old joined) (ports : List Ports)
    (same : ports ≡ joined.processors.ports) where
  pub narrow : All HasNarrowInputs ports
  narrow =
      subst (λ (ports : List Ports). All HasNarrowInputs ports) (sym (same ∙ are.ports))
      (all_ports_narrow are.plans are.prepared)

  abbrev channels : List Channel
  channels = net_channels joined.file.inputs joined.file.procs ports

  channels_are : channels ≡ row_channels joined.file are.plans
  channels_are = ap (net_channels joined.file.inputs joined.file.procs) (same ∙ are.ports)

  module _ (samples : Name) (mid new : View) (first : OnlyReads (IsOfNetFile net out old) old mid) (rows : RowList)
      (is : IsStreamRead samples channels mid new rows) where
    inputs : length channels ≡ joined.file.inputs
    inputs =
        length-map-range_with_len
        (λ j. channel_of (word_width (net_type j joined.file.procs ports))) 0 joined.file.inputs

    some : 0 < length channels
    some = omega (arith, inputs, are.allowed.inputs.0)

    wide : All (λ (row : List ℤ). length row ≡ length channels) is.stream
    wide =
        All-weaker (IsRow channels) (λ (row : List ℤ). length row ≡ length channels)
        (λ row h. zip_length IsInChannel channels row h) is.stream is.valid

    pub whole_rows : IsRowList rows
    whole_rows = subst IsRowList (sym is.rows_are) (words_are (length channels) some is.stream wide)

    abbrev own_parts : Parts
    own_parts = net_parts joined.file (images_of are.plans) is.stream

    same_parts : parts_given joined.processors.images joined.file rows ≡ own_parts
    same_parts =
        ap₂ (λ (images : List Image) (stream : Rows). net_parts joined.file images stream) are.images
        (ap rows_of is.rows_are ∙ rows_of-words (length channels) some is.stream wide)

    valid : IsStream (row_channels joined.file are.plans) is.stream
    valid = subst (λ (cs : List Channel). IsStream cs is.stream) channels_are is.valid

    pub makes_net : AreParts (parts_given joined.processors.images joined.file rows)
    makes_net =
        subst AreParts (sym same_parts)
        (are_parts joined.file are.allowed are.plans are.count are.prepared are.joints is.stream valid is.few)

    pub was_run : (ran : NetState) (text : Content)
        → IsRunOver (parts_given joined.processors.images joined.file rows) ran text
        → IsRun net samples out ran text old new
    was_run ran text over = record {
      read = through_from samples net_samples_limit old mid new first.unchanged.files is.read;
      made = record {
        file = joined.file;
        plans = are.plans;
        stream = is.stream;
        puts = over.puts;
        specified = λ files at.
            let has = is.specified files (first.unchanged.files ∙ at) in
            record {
              fit = are.fit files at;
              within = has.0;
              rows =
                  subst (λ (cs : List Channel). RowsOf (content_of (files samples)) cs is.stream) channels_are has.1;
            };
        solved =
            is_solved joined.file are.allowed are.plans are.count are.prepared are.joints is.stream valid is.few
            over.puts run.solution;
        ran = run;
        text_is =
            subst (λ (parts : Parts). text ≡ printed (last_put parts over.puts)) same_parts over.text_is;
      };
    }
      where
        run : HasRunAll own_parts ran over.puts
        run = subst (λ (parts : Parts). HasRunAll parts ran over.puts) same_parts over.ran
