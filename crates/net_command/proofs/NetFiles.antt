-- A net by its files: what was read and joined is what NET and the files that it names have.
use Rattle.std.proofs.Common.{ap, ◌≡◌, ◌∙◌, ◌<◌, List, [], ◌∷◌, length, sym, subst, inl, inr, ⊎_elim, arith}
use Rattle.std.specs.List.{All, AllZip}
use Rattle.std.proofs.lemmas.List.Elements.{All-nil, All-cons}
use Rattle.lists.proofs.Zips.{zip_length}
use Rattle.desk_core.specs.View.{Name, Content, Files, View}
use Rattle.desk_core.specs.Desk.{WhereSpecified, content_of}
use Rattle.desk_core.proofs.WholeLemmas.{through_from}
use Rattle.net_command.specs.Net.{IsOfNetFile, IsJoinRefusal, IsJoinRefused, IsLastPathRead, AreProcsRead}
use Rattle.net_command.specs.Net.{IsJoinReadTo}
use Rattle.net_command.specs.Nets.{HasNamedNet, HasRefusedProc, HasJointFault}
use Rattle.net_command.specs.Processors.{ProcFiles, ProcPlan, HasProcPlan, HavePlans, files_of, names_of}
use Rattle.net_command.specs.Processors.{ports_of}
use Rattle.net_command.proofs.FaultKinds.{wire_told, wire_read}
use Rattle.net_command.specs.Private.Prepared.{IsPrepared, HasInputs, IsPreparedFrom}
use Rattle.net_command.specs.Private.Running.{AreJoined, IsUnjoined, AreRead, AreUnread}
use Rattle.net_command.specs.declared.processors.Processors.{Processors}
use Rattle.net_core.specs.declared.types.NetFile.{NetFile}
use Rattle.net_core.specs.declared.types.NetProc.{NetProc}
use Rattle.plan_commands.specs.Refusals.{IsRefusal}
use Rattle.plan_commands.specs.declared.planning.Inputs.{Inputs}
use Rattle.silc_files.specs.Endings.{IsAmong}
use Rattle.silc_files.specs.Limits.{text_limit}
use Rattle.silc_files.specs.Reading.{OnlyReads}
use Rattle.silc_files.proofs.Endings.{reads_both}
use Rattle.statuses.specs.declared.status.Status.{Status}
use Rattle.statuses.specs.declared.status.Status.TheVariants.{Net}

-- what holds of two lists, through a third
zip_through : {A B C : Type 0} (R : A → B → Type 0) (S : B → C → Type 0) (T : A → C → Type 0)
    → ((x : A) (y : B) (z : C) → R x y → S y z → T x z)
    → (xs : List A) (ys : List B) (zs : List C)
    → AllZip R xs ys
    → AllZip S ys zs
    → AllZip T xs zs
zip_through R S T each [] [] [] rs ss = tt
zip_through R S T each [] [] (z ∷ zs) rs ss = absurd ss
zip_through R S T each [] (y ∷ ys) zs rs ss = absurd rs
zip_through R S T each (x ∷ xs) [] zs rs ss = absurd rs
zip_through R S T each (x ∷ xs) (y ∷ ys) [] rs ss = absurd ss
zip_through R S T each (x ∷ xs) (y ∷ ys) (z ∷ zs) rs ss =
    (each x y z rs.0 ss.0, zip_through R S T each xs ys zs rs.1 ss.1)

have_plans : (files : List ProcFiles) (inputs : List Inputs) (plans : List ProcPlan)
    → AllZip HasInputs files inputs
    → AllZip IsPreparedFrom inputs plans
    → HavePlans files plans
have_plans = zip_through HasInputs IsPreparedFrom HasProcPlan (λ files inputs its these from. from.has files these)

all_prepared : (inputs : List Inputs) (plans : List ProcPlan)
    → AllZip IsPreparedFrom inputs plans
    → All IsPrepared plans
all_prepared [] [] all = All-nil IsPrepared
all_prepared [] (its ∷ plans) all = absurd all
all_prepared (one ∷ inputs) [] all = absurd all
all_prepared (one ∷ inputs) (its ∷ plans) all =
    All-cons IsPrepared its plans all.0.prepared (all_prepared inputs plans all.1)

-- a refusal of a processor as one of the net
join_refusal : (status : Status) → IsRefusal status → IsJoinRefusal status
join_refusal (Net fault) is = absurd is
join_refusal other is = is

join_refused : (net out : Name) (files : Files) (status : Status)
    → IsRefusal status
    → HasRefusedProc (content_of (files net)) out files status
    → IsJoinRefused net out status files
join_refused net out files (Net fault) is h = absurd is
join_refused net out files other is h = h

join_read : (net out : Name) (old new : View) (status : Status)
    → IsRefusal status
    → AreProcsRead net out old new
    → IsJoinReadTo net out status old new
join_read net out old new (Net fault) is h = absurd is
join_read net out old new other is h = h

module _ (net out : Name) (old mid new : View) (file : NetFile)
    (named : WhereSpecified old (λ files. HasNamedNet (content_of (files net)) out file))
    (first : OnlyReads (IsAmong (net ∷ [])) old mid) (procs : List NetProc) (same : procs ≡ file.procs)
    (second : OnlyReads (IsAmong (names_of procs)) mid new) where
  pub reads_net : OnlyReads (IsOfNetFile net out old) old new
  reads_net =
      reads_both (IsAmong (net ∷ [])) (IsAmong (names_of procs)) (IsOfNetFile net out old) old mid new
      (λ name h. inl (⊎_elim (λ e. e) (λ none. absurd none) h))
      (λ name h. inr (λ files at. (
        file,
        named files at,
        subst (λ (ps : List NetProc). IsAmong (names_of ps) name) same h,
      ))) first second

  -- what the files have
  abbrev Have : List Inputs → Type 0
  Have inputs = WhereSpecified mid (λ files. AllZip HasInputs (files_of files procs) inputs)

  have_here : (inputs : List Inputs)
      → Have inputs
      → WhereSpecified old (λ files. AllZip HasInputs (files_of files file.procs) inputs)
  have_here inputs have files at =
      subst (λ (ps : List NetProc). AllZip HasInputs (files_of files ps) inputs) same
      (have files (first.unchanged.files ∙ at))

  -- the files of the processors were read
  module _ (text : Content) (its : HasNamedNet text out file)
      (through : 0 < length procs → IsLastPathRead procs mid new) where
    some : 0 < length procs
    some = omega (arith, ap length same, its.has.allowed.proc_count.0)

    pub procs_read : AreProcsRead net out old new
    procs_read =
        let here = through some in
        record {
          file = file;
          named = named;
          read = record {
            before = here.before;
            last = here.last;
            procs_are = sym same ∙ here.procs_are;
            read = through_from here.last.dp text_limit old mid new first.unchanged.files here.read;
          };
        }

  pub not_joined : (inputs : List Inputs)
      → Have inputs
      → AreProcsRead net out old new
      → (status : Status)
      → IsUnjoined file inputs status
      → AreUnread net out old new status
  not_joined inputs have read status (inl (inl memory)) = inl memory
  not_joined inputs have read status (inl (inr (is, tells))) =
      inr
      (inr (
        join_refusal status is,
        join_read net out old new status is read,
        λ files at.
            join_refused net out files status is (record {
              file = file;
              named = named files at;
              first = tells (files_of files file.procs) (have_here inputs have files at);
            }),
      ))
  not_joined inputs have read status (inr (fault, told, of, mis)) =
      inr
      (inr (
        subst IsJoinRefusal (sym told) of,
        subst (λ (s : Status). IsJoinReadTo net out s old new) (sym told)
            (wire_read net out old new fault
            (wire_told file.procs (ports_of mis.plans) mis.first.rank fault mis.first.here) read),
        λ files at.
            subst (λ (s : Status). IsJoinRefused net out s files) (sym told) (inr (inr (joint files at))),
      ))
    where
      joint : WhereSpecified old (λ files. HasJointFault (content_of (files net)) out files fault)
      joint files at = record {
        file = file;
        plans = mis.plans;
        planned = record {
          named = named files at;
          planned =
              have_plans (files_of files file.procs) inputs mis.plans (have_here inputs have files at) mis.prepared;
        };
        first = mis.first;
      }

  pub are_read : (text : Content)
      → HasNamedNet text out file
      → (inputs : List Inputs)
      → Have inputs
      → length inputs ≡ length procs
      → (processors : Processors)
      → AreJoined file inputs processors
      → AreRead net out old (record { file = file; processors = processors })
  are_read text its inputs have count processors joined = record {
    allowed = its.has.allowed;
    plans = joined.are.plans;
    count = zip_length IsPreparedFrom inputs joined.are.plans joined.are.prepared ∙ count ∙ ap length same;
    prepared = all_prepared inputs joined.are.plans joined.are.prepared;
    images = joined.are.images;
    ports = joined.are.ports;
    joints = joined.joints;
    fit = λ files at. record {
      planned = record {
        named = named files at;
        planned =
            have_plans (files_of files file.procs) inputs joined.are.plans (have_here inputs have files at)
            joined.are.prepared;
      };
      joints = joined.joints;
    };
  }
