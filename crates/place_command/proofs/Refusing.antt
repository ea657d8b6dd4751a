-- Why no microcode is made, from the endings of the parts.
use Rattle.std.proofs.Common.{◌≡◌, ◌⊎◌, ◌∙◌, refl, sym, ap, inl, inr, ⊎_elim, subst, ℕ, ◌≤◌, List, [], ◌∷◌, length}
use Rattle.datapath.specs.declared.types.Datapath.{Datapath}
use Rattle.desk_core.specs.View.{Name, Content, View}
use Rattle.desk_core.specs.Desk.{WhereSpecified, content_of}
use Rattle.desk_core.specs.Whole.{IsUnchangedButInput, IsReadThrough}
use Rattle.desk_core.proofs.DeskLemmas.{rose_later}
use Rattle.desk_core.proofs.WholeLemmas.{through_from}
use Rattle.place_file.specs.Faults.{IsGivenFault}
use Rattle.place_file.specs.declared.fault.GivenFault.{GivenFault}
use Rattle.place_file.specs.declared.fault.GivenFault.TheVariants as of_given
use Rattle.place_file.specs.Given.{IsGivenBy}
use Rattle.place_file.specs.declared.given.Given.{Given}
use Rattle.place_file.specs.Registers.{IsRegistersFault}
use Rattle.place_file.specs.declared.fault.RegistersFault.{RegistersFault}
use Rattle.place_file.specs.declared.fault.RegistersFault.TheVariants as of_text
use Rattle.placed_plan.specs.GivenPlans.{IsGivenPlanFault}
use Rattle.placed_plan.specs.declared.fault.GivenPlanFault.{GivenPlanFault}
use Rattle.placed_plan.specs.declared.fault.GivenPlanFault.TheVariants as of_plan
use Rattle.plan_commands.specs.Compile.{IsWriteAnswerOf}
use Rattle.plan_commands.specs.Planning.{AreRead, AreUnread, IsSourceIn, IsNoSource, IsPathIn, IsNoPath}
use Rattle.plan_commands.specs.Planning.{IsNoInputPlanOf}
use Rattle.plan_commands.specs.Refusals.{IsUnread}
use Rattle.plan_commands.specs.declared.planning.Inputs.{Inputs}
use Rattle.signal_graph.specs.declared.graph.Graph.{Graph}
use Rattle.silage_syntax.specs.Tree.{Program}
use Rattle.silc_files.specs.Endings.{IsAmong}
use Rattle.silc_files.specs.Limits.{text_limit}
use Rattle.silc_files.specs.Reading.{OnlyReads, IsInput, IsInputError}
use Rattle.silc_files.specs.declared.files.Input.{Input}
use Rattle.silc_files.specs.declared.files.Input.TheVariants.{Whole, TooLong}
use Rattle.silc_files.proofs.Endings.{unchanged_trans}
use Rattle.statuses.specs.declared.status.Status.{Status}
use Rattle.statuses.specs.declared.status.Status.TheVariants.{Done, Memory, Desk, FrontEnd, Path}
use Rattle.place_command.specs.Placed.{ArePlaced, IsPlaceAnswer, IsDone}
use Rattle.place_command.specs.Refusals.{text_refusal, plan_refusal, IsUngiven, IsTextRefused, IsInputRefusal}
use Rattle.place_command.specs.Refusals.{IsInputRefused, IsOneUnread, IsPlaceError}
use Rattle.place_command.specs.Private.Endings.{IsWantOfMemory, IsToldAs, IsEndingOf, HaveTheirLines, ArePlanLines}
use Rattle.place_command.specs.Private.Endings.{ArePlanLinesIn, IsUngivenIn, IsPlanless, IsUnplacedIn}
use Rattle.place_command.specs.Private.Endings.{IsNoInputPlacing, IsNotMade}
use Rattle.place_command.specs.declared.ending.PlaceEnding.{PlaceEnding}
use Rattle.place_command.specs.declared.ending.PlaceEnding.TheVariants.{Told, Refused}
use Rattle.place_command.specs.declared.ending.Refusal.{Refusal}
use Rattle.place_command.specs.declared.ending.Refusal.TheVariants as of_refusal
use Rattle.place_command.specs.declared.placer.PlanLines.{PlanLines}
use Rattle.place_command.proofs.Ordinary.{fault_alone}

pub ending_of : (P Q : Refusal → Type 0)
    → ((refusal : Refusal) → P refusal → Q refusal)
    → (ending : PlaceEnding)
    → IsEndingOf P ending
    → IsEndingOf Q ending
ending_of P Q f (Told ending) h = h
ending_of P Q f (Refused refusal) h = f refusal h

-- PLAN's text.

-- it is too long
pub too_long : (d : Datapath) (input : Input) → input ≡ TooLong → IsUngivenIn input d of_refusal.TooLong
too_long d input same = λ text is. inl (refl, subst (IsInput text) same is)

module _ (d : Datapath) (bytes : Content) (short : length bytes ≤ text_limit) where
  -- it has a fault
  pub ungiven_by : (fault : GivenFault)
      → (fault ≡ of_given.Memory) ⊎ IsGivenFault d bytes fault
      → (ending : PlaceEnding)
      → IsToldAs (fault ≡ of_given.Memory) (text_refusal fault) ending
      → IsEndingOf (IsUngiven d bytes) ending
  ungiven_by fault why (Told ending) told = told.1
  ungiven_by fault why (Refused refusal) told = record {
    short = short;
    fault = fault;
    is_fault =
        ⊎_elim (λ (e : fault ≡ of_given.Memory). absurd (told.0 e)) (λ (h : IsGivenFault d bytes fault). h) why;
    told = told.1;
  }

  -- it gives places, and has a fault of registers
  pub registerless_by : (given : Given)
      → IsGivenBy d bytes given
      → (fault : RegistersFault)
      → (fault ≡ of_text.Memory) ⊎ IsRegistersFault d bytes fault
      → (ending : PlaceEnding)
      → IsToldAs (fault ≡ of_text.Memory) (of_refusal.Registers fault) ending
      → IsEndingOf (IsTextRefused d bytes) ending
  registerless_by given gives fault why (Told ending) told = told.1
  registerless_by given gives fault why (Refused refusal) told =
      inr (inr (record {
        short = short;
        given = given;
        gives = gives;
        fault = fault;
        is_fault =
            ⊎_elim (λ (e : fault ≡ of_text.Memory). absurd (told.0 e)) (λ (h : IsRegistersFault d bytes fault). h) why;
        told = told.1;
      }))

  -- what an input gives that was read whole
  module _ (input : Input) (same : input ≡ Whole bytes) where
    pub lines_in : (lines : PlanLines) → ArePlanLines bytes d lines → ArePlanLinesIn input d lines
    lines_in lines are =
        λ text is.
        let its : bytes ≡ text = subst (IsInput text) same is in (
          subst (λ (t : Content). length t ≤ text_limit) its short,
          subst (λ (t : Content). ArePlanLines t d lines) its are,
        )

    pub refused_in : (refusal : Refusal) → IsTextRefused d bytes refusal → IsUngivenIn input d refusal
    refused_in refusal h =
        λ text is.
        let its : bytes ≡ text = subst (IsInput text) same is in
        subst (λ (t : Content). IsTextRefused d t refusal) its h

pub their_lines : (text : Content) (d : Datapath) (lines : PlanLines) → ArePlanLines text d lines → HaveTheirLines lines
their_lines text d lines are = record { places = are.places.count; registers = are.registers.count }

module _ (g : Graph) (d : Datapath) where
  -- there is no plan with what it gives
  pub planless : (lines : PlanLines) (numbers : List ℕ)
      → numbers ≡ lines.places.lines
      → (fault : GivenPlanFault)
      → (fault ≡ of_plan.Memory) ⊎ IsGivenPlanFault lines.places.places g d lines.registers.registers fault
      → (ending : PlaceEnding)
      → IsToldAs (IsWantOfMemory fault) (plan_refusal numbers lines.registers fault) ending
      → IsEndingOf (IsPlanless g d lines) ending
  planless lines numbers same fault why (Told ending) told = told.1
  planless lines numbers same fault why (Refused refusal) told = record {
    fault = fault;
    is_fault =
        ⊎_elim (λ (e : fault ≡ of_plan.Memory). absurd (told.0 (subst IsWantOfMemory (sym e) tt)))
        (λ (h : IsGivenPlanFault lines.places.places g d lines.registers.registers fault). h) why;
    told = told.1 ∙ ap (λ (ns : List ℕ). plan_refusal ns lines.registers fault) same;
  }

  module _ (input : Input) where
    -- it gives no places or no registers
    pub ungiven_over : (refusal : Refusal) → IsUngivenIn input d refusal → IsUnplacedIn input g d refusal
    ungiven_over refusal h = λ text is. inl (h text is)

    -- it gives both, with which there is no plan
    pub planless_over : (lines : PlanLines)
        → ArePlanLinesIn input d lines
        → (refusal : Refusal)
        → IsPlanless g d lines refusal
        → IsUnplacedIn input g d refusal
    planless_over lines are refusal h =
        λ text is.
        let its = are text is in
        inr (record {
          short = its.0;
          given = lines.places;
          gives = its.1.places;
          registers = lines.registers;
          gives_registers = its.1.registers;
          fault = h.fault;
          is_fault = h.is_fault;
          told = h.told;
          ordinary = λ none.
              let alone = fault_alone g d lines.places.places lines.places.lines lines.registers none h.fault h.is_fault
              in
              (alone.0, alone.1, h.told ∙ alone.2);
        })

-- The inputs.

module _ (source datapath : Input) where
  abbrev IsNone : Status → Type 0
  IsNone = IsNoInputPlanOf IsInputRefusal IsInputRefused source datapath

  pub no_source : (status : Status) → IsNoSource source status → IsNone status
  no_source Memory h = inl refl
  no_source (FrontEnd fault) h = inr (h.0, λ s d hs hd. h.1 s hs)
  no_source other h = absurd h

  module _ (program : Program) (g : Graph) (has : IsSourceIn source program g) where
    pub no_path : (status : Status) → IsNoPath datapath status → IsNone status
    no_path Memory h = inl refl
    no_path (Path fault) h = inr (h.0, λ s d hs hd. ((program, (has s hs).read), h.1 d hd))
    no_path other h = absurd h

-- the inputs have a graph and a datapath, and the text no plan of the one over the other
pub no_placing : (inputs : Inputs) (text : Input) (program : Program) (g : Graph)
    → IsSourceIn inputs.source program g
    → (d : Datapath)
    → IsPathIn inputs.datapath d
    → (ending : PlaceEnding)
    → IsEndingOf (IsUnplacedIn text g d) ending
    → IsNoInputPlacing inputs text ending
no_placing inputs text program g has d is_path (Told ending) h = inl h
no_placing inputs text program g has d is_path (Refused refusal) h =
    λ s p t of_source of_path of_text.
    record {
      program = program;
      read = (has s of_source).read;
      graph = g;
      graph_of = (has s of_source).graph;
      path = d;
      described = is_path p of_path;
      refused = h t of_text;
    }

-- The files.

module _ (src datapath plan : Name) (old mid new : View) where
  -- SRC or DP could not be read
  pub inputs_unread : (status : Status)
      → AreUnread src datapath old new status
      → IsPlaceError src datapath plan old new status
  inputs_unread status h = ⊎_elim (λ memory. inl memory) (λ desk. inr (inl (desk.0, among desk.1))) h
    where
      among : IsUnread src datapath old new → IsOneUnread (src ∷ datapath ∷ plan ∷ []) old new
      among u =
          ⊎_elim
          (λ rose. record { unchanged = u.unchanged; name = src; among = inl refl; rose = rose })
          (λ rose. record { unchanged = u.unchanged; name = datapath; among = inr (inl refl); rose = rose })
          u.rose

  module _ (first : OnlyReads (IsAmong (src ∷ datapath ∷ [])) old mid)
      (second : OnlyReads (IsAmong (plan ∷ [])) mid new) where
    unchanged : IsUnchangedButInput old new
    unchanged = unchanged_trans old mid new first.unchanged second.unchanged

    -- PLAN could not
    pub plan_unread : (status : Status)
        → IsInputError plan mid new status
        → IsPlaceError src datapath plan old new status
    plan_unread Memory h = inl (refl, unchanged)
    plan_unread Desk h = inr (inl (
      refl,
      record {
        unchanged = unchanged;
        name = plan;
        among = inr (inr (inl refl));
        rose = rose_later _ _ _ (first.never_fall.reading plan) h;
      },
    ))
    plan_unread other h = absurd h

    -- no memory was left for the microcode
    pub no_memory : (status : Status) → status ≡ Memory → IsPlaceError src datapath plan old new status
    no_memory status e = inl (e, unchanged)

    -- all were read, and have no plan
    pub not_placed : (inputs : Inputs)
        → AreRead src datapath old mid inputs
        → (text : Input)
        → WhereSpecified mid (λ files. IsInput (content_of (files plan)) text)
        → IsReadThrough plan text_limit mid new
        → (ending : PlaceEnding)
        → IsNoInputPlacing inputs text ending
        → IsNotMade src datapath plan old new ending
    not_placed inputs are text text_is through (Told ending) h =
        ⊎_elim (λ memory. inl (memory, unchanged))
        (λ refused. inr (inr (
          refused.0,
          record {
            unchanged = unchanged;
            read = through_from plan text_limit old mid new first.unchanged.files through;
            why = λ files is.
                refused.1 (content_of (files src)) (content_of (files datapath)) (are.source_is files is)
                (are.datapath_is files is);
          },
        )))
        h
    not_placed inputs are text text_is through (Refused refusal) h = record {
      unchanged = unchanged;
      read = through_from plan text_limit old mid new first.unchanged.files through;
      why = λ files is.
          h (content_of (files src)) (content_of (files datapath)) (content_of (files plan)) (are.source_is files is)
          (are.datapath_is files is) (text_is files (first.unchanged.files ∙ is));
    }

-- The answer.

module _ (src datapath plan : Name) (old new : View) where
  not_done : IsPlaceError src datapath plan old new Done → ⊥
  not_done h =
      ⊎_elim (λ memory. absurd (let e : Done ≡ Memory = memory.0 in cc))
      (λ rest. ⊎_elim (λ desk. absurd (let e : Done ≡ Desk = desk.0 in cc)) (λ refused. refused.0) rest) h

  -- what is not made is not done
  pub never_done : (ending : PlaceEnding) → IsNotMade src datapath plan old new ending → IsDone ending → ⊥
  never_done (Told ending) h done =
      not_done (subst (λ (s : Status). IsPlaceError src datapath plan old new s) done h)
  never_done (Refused refusal) h done = done

  answer_of : (out : Name) (status : Status)
      → IsPlaceError src datapath plan old new status
      → IsWriteAnswerOf (ArePlaced src datapath plan) (IsPlaceError src datapath plan) plan out old new status
  answer_of out Done h = absurd (not_done h)
  answer_of out Desk h = inl h
  answer_of out other h = h

  pub not_made_answer : (out : Name) (ending : PlaceEnding)
      → IsNotMade src datapath plan old new ending
      → IsPlaceAnswer src datapath plan out old new ending
  not_made_answer out (Told ending) h = answer_of out ending.status h
  not_made_answer out (Refused refusal) h = h
