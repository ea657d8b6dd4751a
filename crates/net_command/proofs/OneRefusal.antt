-- Files have one refusal at most, and none where they have a net that can be run over SAMPLES.
use Rattle.std.proofs.Common.{◌≡◌, ◌∙◌, ◌<◌, ◌≤◌, ℕ, List, [], ◌∷◌, length, refl, sym, ap, ap₂, subst, inl, inr, ⊎_elim}
use Rattle.std.proofs.Common.{arith}
use Rattle.std.specs.List.{All}
use Rattle.std.proofs.lemmas.List.Elements.{All-nil, All-cons}
use Rattle.std.proofs.lemmas.List.FromFn.{length-map-range_with_len, get_or-map-range_with_len}
use Rattle.lists.specs.Rows.{Rows}
use Rattle.desk_core.specs.View.{Name, Content, Files}
use Rattle.desk_core.specs.Desk.{content_of}
use Rattle.fault_order.specs.Ranked.{IsClear, IsFirst}
use Rattle.fault_order.specs.Rules.{Rules, faults}
use Rattle.fault_order.proofs.FirstFaults.{one_first}
use Rattle.fault_order.proofs.TableFaults.{single_faults}
use Rattle.front_end.proofs.Counts.{checked}
use Rattle.front_end.proofs.OneAnswer.{not_both}
use Rattle.loop_expand.proofs.FlatWords.{input_types_allowed}
use Rattle.net_command.specs.Net.{IsNetRefusal, IsNetRefused, AreBadSamples, HasBadSamples}
use Rattle.net_command.specs.Net.{HasNetStream, net_samples_limit}
use Rattle.net_command.specs.Nets.{HasNet, HasNamedNet, HasNameFault, HasPlannedNet, HasRefusedProc, HasFitNet}
use Rattle.net_command.specs.Nets.{HasJointFault, row_channels}
use Rattle.net_command.specs.Ports.{program_ports}
use Rattle.net_command.specs.Processors.{ProcFiles, ProcPlan, HasProcPlan, HavePlans, IsFirstRefused, files_of}
use Rattle.net_command.specs.Processors.{ports_of}
use Rattle.net_file.proofs.OneNet.{one_net}
use Rattle.net_command.proofs.TypeRanges.{all_narrow}
use Rattle.net_core.specs.declared.fault.NetFault.{NetFault}
use Rattle.net_core.specs.declared.types.NetFile.{NetFile}
use Rattle.net_file.specs.NetRules.{IsNetFileFault, file_rules}
use Rattle.net_fit.specs.Joints.{joint_rules, net_channels, net_type, word_width, HasNarrowInputs}
use Rattle.net_fit.specs.Names.{name_rules}
use Rattle.net_fit.specs.declared.ports.Ports.{Ports}
use Rattle.net_fit.proofs.Widths.{net_narrow}
use Rattle.plan_commands.specs.Plans.{IsPlannable}
use Rattle.plan_commands.specs.Refusals.{IsRefusal, IsRefused}
use Rattle.plan_commands.proofs.Complete.{never_refused}
use Rattle.sample_io.specs.Channels.{AreChannels, IsChannel, channel_of}
use Rattle.sample_io.specs.Samples.{RowsOf}
use Rattle.sample_io.specs.declared.RowFault.{RowFault}
use Rattle.sample_io.specs.declared.channel.Channel.{Channel}
use Rattle.sample_io.proofs.Streams.{RowsOf-no_bad_place, bad_place_once}
use Rattle.sample_io.proofs.Widths.{channel_is}
use Rattle.statuses.specs.declared.status.SampleFault.{SampleFault}
use Rattle.statuses.specs.declared.status.SampleFault.TheVariants.{Row, TooLong}
use Rattle.statuses.specs.declared.status.Status.{Status}
use Rattle.statuses.specs.declared.status.Status.TheVariants.{Samples, Net}

-- Tables of rules.

once : {F : Type 0} (rules : Rules F) (f g : F) → IsFirst (faults rules) f → IsFirst (faults rules) g → f ≡ g
once rules f g = one_first (faults rules) f g (single_faults rules)

-- Processors.

same_ports : (fs : List ProcFiles) (a b : List ProcPlan) → HavePlans fs a → HavePlans fs b → ports_of a ≡ ports_of b
same_ports [] [] [] h k = refl
same_ports [] [] (y ∷ b) h k = absurd k
same_ports [] (x ∷ a) b h k = absurd h
same_ports (f ∷ fs) [] b h k = absurd h
same_ports (f ∷ fs) (x ∷ a) [] h k = absurd k
same_ports (f ∷ fs) (x ∷ a) (y ∷ b) h k =
    ap₂ (λ (p : Ports) (ps : List Ports). p ∷ ps)
    (ap program_ports (k.0.planned.unique x.program h.0.planned.has.read)) (same_ports fs a b h.1 k.1)

plannable : (f : ProcFiles) (its : ProcPlan) → HasProcPlan f its → IsPlannable f.source f.datapath
plannable f its h = (its.path, its.plan, (its.program, h.planned.has))

-- processors that have plans are not refused
never_first : (fs : List ProcFiles) (plans : List ProcPlan) (why : Status)
    → HavePlans fs plans
    → IsRefusal why
    → IsFirstRefused why fs
    → ⊥
never_first [] plans why h is refused = refused
never_first (f ∷ fs) [] why h is refused = absurd h
never_first (f ∷ fs) (its ∷ plans) why h is refused =
    ⊎_elim (λ here. never_refused f.source f.datapath (plannable f its h.0) why is here)
    (λ later. never_first fs plans why h.1 is later.1) refused

-- the types of input words are narrow
all_ports_narrow : (fs : List ProcFiles) (plans : List ProcPlan)
    → HavePlans fs plans
    → All HasNarrowInputs (ports_of plans)
all_ports_narrow [] [] h = All-nil HasNarrowInputs
all_ports_narrow [] (its ∷ plans) h = absurd h
all_ports_narrow (f ∷ fs) [] h = absurd h
all_ports_narrow (f ∷ fs) (its ∷ plans) h =
    let has = h.0.planned.has.read in
    All-cons HasNarrowInputs (program_ports its.program) (ports_of plans)
    (all_narrow _
    (input_types_allowed its.program
    (checked f.source its.program has.read
    (record { names = has.names; elements = has.elements; types = has.types }))))
    (all_ports_narrow fs plans h.1)

-- the channels of the net's row
row_channels_are : (text : Content) (out : Name) (files : Files) (file : NetFile) (plans : List ProcPlan)
    → HasPlannedNet text out files file plans
    → AreChannels (row_channels file plans)
row_channels_are text out files file plans h =
    let channel = λ (j : ℕ). channel_of (word_width (net_type j file.procs (ports_of plans))) in
    let wide : length (row_channels file plans) ≡ file.inputs = length-map-range_with_len channel 0 file.inputs in
    let inputs = h.named.has.allowed.inputs in
    record {
      some = omega (arith, wide, inputs.0);
      few = omega (arith, wide, inputs.1);
      each = λ k d inside.
          let below : k < file.inputs = omega (arith, inside, wide) in
          subst IsChannel (sym (get_or-map-range_with_len channel 0 file.inputs k k d below (omega arith)))
          (channel_is (word_width (net_type k file.procs (ports_of plans)))
          (net_narrow k file.procs (ports_of plans)
          (all_ports_narrow (files_of files file.procs) plans h.planned)));
    }

-- Bytes of SAMPLES.

one_bad : (channels : List Channel) (content : Content) (f g : SampleFault)
    → AreChannels channels
    → AreBadSamples channels content f
    → AreBadSamples channels content g
    → f ≡ g
one_bad channels content TooLong TooLong are h k = refl
one_bad channels content TooLong (Row line at) are h k = let short = k.0 in absurd (omega (arith, h, short))
one_bad channels content (Row line at) TooLong are h k = let short = h.0 in absurd (omega (arith, k, short))
one_bad channels content (Row line at) (Row line' at') are h k =
    ap (λ (place : RowFault). Row place.line place.at)
    (bad_place_once content channels (record { line = line; at = at }) (record { line = line'; at = at' }) are h.1 k.1)

not_bad : (channels : List Channel) (content : Content) (rows : Rows) (f : SampleFault)
    → AreChannels channels
    → length content ≤ net_samples_limit
    → RowsOf content channels rows
    → AreBadSamples channels content f
    → ⊥
not_bad channels content rows TooLong are within of h = omega (arith, within, h)
not_bad channels content rows (Row line at) are within of h =
    RowsOf-no_bad_place content channels rows (record { line = line; at = at }) are of h.1

module _ (net samples out : Name) (files : Files) where
  abbrev text : Content
  text = content_of (files net)

  same_net : (a b : NetFile) → HasNet text a → HasNet text b → a ≡ b
  same_net a b h k = one_net text a b h.described k.described

  no_text : (file : NetFile) (f : NetFault) → HasNet text file → IsNetFileFault text f → ⊥
  no_text file f h k = not_both (faults (file_rules text)) f h.clear k

  no_name : (file : NetFile) (f : NetFault) → HasNamedNet text out file → HasNameFault text out f → ⊥
  no_name file f h k =
      not_both (faults (name_rules k.file out)) f
      (subst (λ (a : NetFile). IsClear (faults (name_rules a out))) (same_net file k.file h.has k.has) h.names) k.first

  one_name : (f g : NetFault) → HasNameFault text out f → HasNameFault text out g → f ≡ g
  one_name f g h k =
      once (name_rules k.file out) f g
      (subst (λ (a : NetFile). IsFirst (faults (name_rules a out)) f) (same_net h.file k.file h.has k.has) h.first)
      k.first

  no_proc : (file : NetFile) (plans : List ProcPlan) (why : Status)
      → HasPlannedNet text out files file plans
      → IsRefusal why
      → HasRefusedProc text out files why
      → ⊥
  no_proc file plans why h is k =
      never_first (files_of files k.file.procs) plans why
      (subst (λ (a : NetFile). HavePlans (files_of files a.procs) plans)
      (same_net file k.file h.named.has k.named.has) h.planned) is k.first

  -- two plannings of the net
  module _ (a b : NetFile) (plans others : List ProcPlan) (h : HasPlannedNet text out files a plans)
      (k : HasPlannedNet text out files b others) where
    ports_once : ports_of plans ≡ ports_of others
    ports_once =
        same_ports (files_of files b.procs) plans others
        (subst (λ (file : NetFile). HavePlans (files_of files file.procs) plans)
        (same_net a b h.named.has k.named.has) h.planned) k.planned

    rules_once : joint_rules a.procs (ports_of plans) ≡ joint_rules b.procs (ports_of others)
    rules_once =
        ap₂ (λ (file : NetFile) (ports : List Ports). joint_rules file.procs ports)
        (same_net a b h.named.has k.named.has) ports_once

    channels_once : row_channels a plans ≡ row_channels b others
    channels_once =
        ap₂ (λ (file : NetFile) (ports : List Ports). net_channels file.inputs file.procs ports)
        (same_net a b h.named.has k.named.has) ports_once

  no_joint : (file : NetFile) (plans : List ProcPlan) (f : NetFault)
      → HasFitNet text out files file plans
      → HasJointFault text out files f
      → ⊥
  no_joint file plans f h k =
      not_both (faults (joint_rules k.file.procs (ports_of k.plans))) f
      (subst (λ (rules : Rules NetFault). IsClear (faults rules))
      (rules_once file k.file plans k.plans h.planned k.planned) h.joints) k.first

  one_joint : (f g : NetFault) → HasJointFault text out files f → HasJointFault text out files g → f ≡ g
  one_joint f g h k =
      once (joint_rules k.file.procs (ports_of k.plans)) f g
      (subst (λ (rules : Rules NetFault). IsFirst (faults rules) f)
      (rules_once h.file k.file h.plans k.plans h.planned k.planned) h.first) k.first

  one_samples : (f g : SampleFault)
      → HasBadSamples net samples out f files
      → HasBadSamples net samples out g files
      → f ≡ g
  one_samples f g h k =
      one_bad (row_channels k.file k.plans) (content_of (files samples)) f g
      (row_channels_are text out files k.file k.plans k.fit.planned)
      (subst (λ (cs : List Channel). AreBadSamples cs (content_of (files samples)) f)
      (channels_once h.file k.file h.plans k.plans h.fit.planned k.fit.planned) h.bad) k.bad

  -- what is refused: NET's text, what it names, a processor, wires, or SAMPLES
  data Cause (why : Status) : Type 0 where
    of_text : (f : NetFault) → IsNetFileFault text f → why ≡ Net f → Cause why
    of_names : (f : NetFault) → HasNameFault text out f → why ≡ Net f → Cause why
    of_proc : IsRefusal why → HasRefusedProc text out files why → Cause why
    of_joints : (f : NetFault) → HasJointFault text out files f → why ≡ Net f → Cause why
    of_samples : (f : SampleFault) → HasBadSamples net samples out f files → why ≡ Samples f → Cause why

  cause : (why : Status) → IsNetRefusal why → IsNetRefused net samples out why files → Cause why
  cause (Net f) is (inl h) = of_text f h refl
  cause (Net f) is (inr (inl h)) = of_names f h refl
  cause (Net f) is (inr (inr h)) = of_joints f h refl
  cause (Samples f) is h = of_samples f h refl
  cause other is h = of_proc is h

  -- files that have a net which can be run over SAMPLES are not refused
  pub never_net_refused : (file : NetFile) (plans : List ProcPlan) (stream : Rows)
      → HasNetStream net samples out file plans stream files
      → (why : Status)
      → IsNetRefusal why
      → IsNetRefused net samples out why files
      → ⊥
  never_net_refused file plans stream has why is refused = by (cause why is refused)
    where
      fit : HasFitNet text out files file plans
      fit = has.fit

      by : Cause why → ⊥
      by (of_text f h e) = no_text file f fit.planned.named.has h
      by (of_names f h e) = no_name file f fit.planned.named h
      by (of_proc is h) = no_proc file plans why fit.planned is h
      by (of_joints f h e) = no_joint file plans f fit h
      by (of_samples f h e) =
          not_bad (row_channels h.file h.plans) (content_of (files samples)) stream f
          (row_channels_are text out files h.file h.plans h.fit.planned) has.within
          (subst (λ (cs : List Channel). RowsOf (content_of (files samples)) cs stream)
          (channels_once file h.file plans h.plans fit.planned h.fit.planned) has.rows) h.bad

  -- where a source has one refusal over a datapath
  module _ (one : (s d : Content) (why other : Status)
      → IsRefusal why
      → IsRefused why s d
      → IsRefusal other
      → IsRefused other s d
      → why ≡ other) where
    one_first_refused : (fs : List ProcFiles) (why other : Status)
        → IsRefusal why
        → IsFirstRefused why fs
        → IsRefusal other
        → IsFirstRefused other fs
        → why ≡ other
    one_first_refused [] why other is h its k = absurd h
    one_first_refused (f ∷ fs) why other is (inl h) its (inl k) = one f.source f.datapath why other is h its k
    one_first_refused (f ∷ fs) why other is (inl h) its (inr k) =
        absurd (never_refused f.source f.datapath k.0 why is h)
    one_first_refused (f ∷ fs) why other is (inr h) its (inl k) =
        absurd (never_refused f.source f.datapath h.0 other its k)
    one_first_refused (f ∷ fs) why other is (inr h) its (inr k) = one_first_refused fs why other is h.1 its k.1

    one_proc : (why other : Status)
        → IsRefusal why
        → HasRefusedProc text out files why
        → IsRefusal other
        → HasRefusedProc text out files other
        → why ≡ other
    one_proc why other is h its k =
        one_first_refused (files_of files k.file.procs) why other is
        (subst (λ (a : NetFile). IsFirstRefused why (files_of files a.procs))
        (same_net h.file k.file h.named.has k.named.has) h.first) its k.first

    one_cause : (why other : Status) → Cause why → Cause other → why ≡ other
    one_cause why other (of_text f h e) (of_text g k d) = e ∙ ap Net (once (file_rules text) f g h k) ∙ sym d
    one_cause why other (of_text f h e) (of_names g k d) = absurd (no_text k.file f k.has h)
    one_cause why other (of_text f h e) (of_proc its k) = absurd (no_text k.file f k.named.has h)
    one_cause why other (of_text f h e) (of_joints g k d) = absurd (no_text k.file f k.planned.named.has h)
    one_cause why other (of_text f h e) (of_samples g k d) = absurd (no_text k.file f k.fit.planned.named.has h)
    one_cause why other (of_names f h e) (of_text g k d) = absurd (no_text h.file g h.has k)
    one_cause why other (of_names f h e) (of_names g k d) = e ∙ ap Net (one_name f g h k) ∙ sym d
    one_cause why other (of_names f h e) (of_proc its k) = absurd (no_name k.file f k.named h)
    one_cause why other (of_names f h e) (of_joints g k d) = absurd (no_name k.file f k.planned.named h)
    one_cause why other (of_names f h e) (of_samples g k d) = absurd (no_name k.file f k.fit.planned.named h)
    one_cause why other (of_proc is h) (of_text g k d) = absurd (no_text h.file g h.named.has k)
    one_cause why other (of_proc is h) (of_names g k d) = absurd (no_name h.file g h.named k)
    one_cause why other (of_proc is h) (of_proc its k) = one_proc why other is h its k
    one_cause why other (of_proc is h) (of_joints g k d) = absurd (no_proc k.file k.plans why k.planned is h)
    one_cause why other (of_proc is h) (of_samples g k d) = absurd (no_proc k.file k.plans why k.fit.planned is h)
    one_cause why other (of_joints f h e) (of_text g k d) = absurd (no_text h.file g h.planned.named.has k)
    one_cause why other (of_joints f h e) (of_names g k d) = absurd (no_name h.file g h.planned.named k)
    one_cause why other (of_joints f h e) (of_proc its k) = absurd (no_proc h.file h.plans other h.planned its k)
    one_cause why other (of_joints f h e) (of_joints g k d) = e ∙ ap Net (one_joint f g h k) ∙ sym d
    one_cause why other (of_joints f h e) (of_samples g k d) = absurd (no_joint k.file k.plans f k.fit h)
    one_cause why other (of_samples f h e) (of_text g k d) = absurd (no_text h.file g h.fit.planned.named.has k)
    one_cause why other (of_samples f h e) (of_names g k d) = absurd (no_name h.file g h.fit.planned.named k)
    one_cause why other (of_samples f h e) (of_proc its k) = absurd (no_proc h.file h.plans other h.fit.planned its k)
    one_cause why other (of_samples f h e) (of_joints g k d) = absurd (no_joint h.file h.plans g h.fit k)
    one_cause why other (of_samples f h e) (of_samples g k d) = e ∙ ap Samples (one_samples f g h k) ∙ sym d

    pub net_one_refusal : (why other : Status)
        → IsNetRefusal why
        → IsNetRefused net samples out why files
        → IsNetRefusal other
        → IsNetRefused net samples out other files
        → why ≡ other
    net_one_refusal why other ours has is h = one_cause why other (cause why ours has) (cause other is h)
