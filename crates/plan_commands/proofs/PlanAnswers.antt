-- What the source and the datapath have is what the call of a plan answers, unless memory runs out.
use Rattle.std.proofs.Common.{◌≡◌, refl, sym, subst, ap, ◌∙◌, inl, inr, ⊎_elim, ◌⊎◌, Result, Ok, Err}
use Rattle.std.specs.Prelude.{IsErrAnd}
use Rattle.datapath.specs.Described.{IsPathOf}
use Rattle.datapath.specs.PathRules.{IsPathFault}
use Rattle.datapath.specs.declared.fault.PathFault.{PathFault}
use Rattle.datapath.specs.declared.fault.PathFault.TheVariants as path
use Rattle.datapath.specs.declared.types.Datapath.{Datapath}
use Rattle.datapath.proofs.DescribedPath.{is_read, one_path}
use Rattle.datapath.proofs.FirstPath.{first_read}
use Rattle.desk_core.specs.View.{Content}
use Rattle.fault_order.specs.Ranked.{AnswersFault}
use Rattle.source_faults.specs.Faults.{HasProgram, IsFrontFault}
use Rattle.front_end.specs.GraphOf.{IsProgramGraph}
use Rattle.source_faults.specs.declared.fault.FrontError.{FrontError}
use Rattle.source_faults.specs.declared.fault.FrontError.TheVariants.{Fault, Memory as front_memory}
use Rattle.source_faults.specs.declared.fault.FrontFault.{FrontFault}
use Rattle.front_end.proofs.OneAnswer.{one_program, no_fault}
use Rattle.front_end.proofs.OneGraph.{program_graph_once}
use Rattle.plan_core.specs.declared.plan.Plan.{Plan}
use Rattle.plan_core.specs.IsPlan.{IsPlan}
use Rattle.planner.specs.Faults.{IsPlanFault}
use Rattle.planner.specs.declared.fault.PlanFault.{PlanFault}
use Rattle.planner.specs.declared.fault.PlanFault.TheVariants as plan
use Rattle.delay_memory.specs.declared.fault.LineFault.TheVariants as line
use Rattle.signal_graph.specs.declared.graph.Graph.{Graph}
use Rattle.silage_syntax.specs.Tree.{Program}
use Rattle.plan_commands.specs.Plans.{HasPlan, IsUnplanned, IsUnplannedBy, fault_of}
use Rattle.plan_commands.proofs.OneFault.{no_path}
use Rattle.plan_commands.proofs.Plans.{file_fault}
use Rattle.plan_commands.specs.PlanOf.{AnswersPlan}
use Rattle.plan_commands.specs.Refusals.{IsOfPath, IsRefusal, IsRefusedBy, IsRefused, IsNoPlan}
use Rattle.silc_files.specs.Sources.{IsAcceptedSource}
use Rattle.silc_files.proofs.Results.{error_is}
use Rattle.plan_commands.specs.Planning.{TellsWhy}
use Rattle.statuses.specs.Faults.{of_front, of_path, of_plan}
use Rattle.plan_commands.specs.declared.planning.Planned.{Planned}
use Rattle.statuses.specs.declared.status.Status.{Status}
use Rattle.statuses.specs.declared.status.Status.TheVariants.{Memory, FrontEnd, Path, LinesFull}
use Rattle.statuses.specs.declared.status.Status.TheVariants.{Period, FileFull}
use Rattle.statuses.specs.declared.status.Status.TheVariants as status
use Rattle.statuses.specs.declared.status.UnitRefusal.{UnitRefusal}
use Rattle.statuses.specs.declared.status.UnitRefusal.TheVariants.{NoUnit, NoRoute, TooWide, NoRam, NoAcu}

-- what the planner's answer is for the status that tells why a graph has no plan
module _ (g : Graph) (d : Datapath) where
  status_again : (refusal : UnitRefusal) → of_plan (fault_of refusal) ≡ status.Unit refusal
  status_again (NoUnit kind v) = refl
  status_again (NoRoute u port v) = refl
  status_again (TooWide v) = refl
  status_again (NoRam v) = refl
  status_again (NoAcu ram v) = refl

  -- the fault of a status, which the status tells again
  pub fault_for : (why : Status)
      → IsUnplanned why g d
      → (fault : PlanFault) × IsPlanFault g d fault × (of_plan fault ≡ why)
  fault_for (status.Unit refusal) h = (fault_of refusal, h, status_again refusal)
  fault_for (LinesFull v) h = (plan.Line (line.LinesFull v), h, refl)
  fault_for (Period v) h = (plan.Period v, h, refl)
  fault_for (FileFull u port v) h = (plan.FileFull u port v, h, refl)
  fault_for other h = absurd h

-- what the planner answers is what the graph has
module _ (g : Graph) (d : Datapath) (answer : Result Plan PlanFault)
    (found : (p : Plan) → IsPlan g d p → (answer ≡ Ok p) ⊎ (answer ≡ Err plan.Memory))
    (refused : (fault : PlanFault) → IsPlanFault g d fault → (answer ≡ Err fault) ⊎ (answer ≡ Err plan.Memory)) where
  abbrev bad : PlanFault → Result Plan PlanFault
  bad fault = Err fault

  good : {P : Type 0} (p : Plan) (f : PlanFault) → answer ≡ Ok p → answer ≡ Err f → P
  good p f ok err = absurd (cc)

  same_bad : (f h : PlanFault) → bad f ≡ bad h → f ≡ h
  same_bad f h e = cc

  at_err : (f : PlanFault) (status : Status)
      → answer ≡ Err f
      → status ≡ of_plan f
      → (h : PlanFault)
      → answer ≡ Err h
      → status ≡ of_plan h
  at_err f status is told h e = told ∙ ap of_plan (same_bad f h (sym is ∙ e))

  pub no_plan_found : (f : PlanFault) (status : Status)
      → answer ≡ Err f
      → status ≡ of_plan f
      → (p : Plan)
      → IsPlan g d p
      → status ≡ Memory
  no_plan_found f status is told p has =
      ⊎_elim (λ ok. good p f ok is) (λ memory. at_err f status is told plan.Memory memory) (found p has)

  pub refusal_told : (f : PlanFault) (status : Status)
      → answer ≡ Err f
      → status ≡ of_plan f
      → (why : Status)
      → IsUnplanned why g d
      → (status ≡ why) ⊎ (status ≡ Memory)
  refusal_told f status is told why has =
      let (fault, is_fault, again) = fault_for g d why has in
      ⊎_elim (λ e. inl (at_err f status is told fault e ∙ again)) (λ e. inr (at_err f status is told plan.Memory e))
      (refused fault is_fault)

  pub plan_found : (p : Plan) → answer ≡ Ok p → (q : Plan) → IsPlan g d q → p ≡ q
  plan_found p is q has =
      ⊎_elim (λ ok. let e : Ok p ≡ Ok q = sym is ∙ ok in cc) (λ memory. good p plan.Memory is memory) (found q has)

  pub not_refused : (p : Plan) → answer ≡ Ok p → (why : Status) → IsUnplanned why g d → ⊥
  not_refused p is why has =
      let (fault, is_fault, again) = fault_for g d why has in
      ⊎_elim (λ e. good p fault is e) (λ e. good p plan.Memory is e) (refused fault is_fault)

-- why there is no plan: the source has a fault, the file describes no datapath, or the graph has no plan
module _ (IsWhy : Status → Graph → Datapath → Type 0) (s d : Content) where
  data Cause (why : Status) : Type 0 where
    of_source : (fault : FrontFault) → IsFrontFault s fault → why ≡ FrontEnd fault → Cause why
    of_datapath : (fault : PathFault) → IsAcceptedSource s → IsPathFault d fault → why ≡ of_path fault → Cause why
    of_graph : IsUnplannedBy IsProgramGraph IsWhy why s d → Cause why

  same_status : (fault : PathFault) → IsOfPath fault → Path fault ≡ of_path fault
  same_status path.Memory h = absurd h
  same_status path.TooLong h = refl
  same_status path.NotToml h = refl
  same_status (path.UnknownKey section) h = refl
  same_status (path.Missing section) h = refl
  same_status (path.WrongKind section) h = refl
  same_status (path.Range section) h = refl
  same_status (path.UnknownUnit section) h = refl
  same_status (path.UnknownPort section) h = refl
  same_status (path.Twice section) h = refl

  cause : (why : Status) → IsRefusal why → IsRefusedBy (IsUnplannedBy IsProgramGraph IsWhy) why s d → Cause why
  cause (FrontEnd fault) is h = of_source fault h refl
  cause (Path fault) is h = of_datapath fault h.0 h.1 (same_status fault is)
  cause (status.Unit refusal) is h = of_graph h
  cause (LinesFull v) is h = of_graph h
  cause (Period v) is h = of_graph h
  cause (FileFull u port v) is h = of_graph h
  cause other is h = absurd is

-- the program has this graph, and the file describes this datapath
module _ (s d : Content) (program : Program) (read : HasProgram s program) (g : Graph)
    (graph_of : IsProgramGraph program g) (at : Datapath) (described : IsPathOf d at) where
  same_path : (other : Datapath) → IsPathOf d other → other ≡ at
  same_path other its = one_path d other at its described

  same_graph : (other : Program) → HasProgram s other → (h : Graph) → IsProgramGraph other h → h ≡ g
  same_graph other has h its =
      program_graph_once s program read h g
      (subst (λ (p : Program). IsProgramGraph p h) (one_program s program other read has) its) graph_of

  pub its_plan : (other : Datapath) (p : Plan) → HasPlan s d other p → (at ≡ other) × IsPlan g at p
  its_plan other p (q, has) = (
    sym (same_path other has.described),
    subst (λ (z : Datapath). IsPlan g z p) (same_path other has.described)
        (subst (λ (h : Graph). IsPlan h other p) (same_graph q has.read has.graph has.graph_of) has.planned),
  )

  pub refusal_by : (IsWhy : Status → Graph → Datapath → Type 0) (why : Status)
      → IsRefusal why
      → IsRefusedBy (IsUnplannedBy IsProgramGraph IsWhy) why s d
      → IsWhy why g at
  refusal_by IsWhy why is h = by (cause IsWhy s d why is h)
    where
      by : Cause IsWhy s d why → IsWhy why g at
      by (of_source f has e) = absurd (no_fault s program read f has)
      by (of_datapath f accepted is_f e) =
          absurd (let both : Ok at ≡ Err f = sym (is_read d at described) ∙ first_read d f is_f in cc)
      by (of_graph over) =
          subst (λ (z : Datapath). IsWhy why g z) (same_path over.path over.described)
          (subst (λ (h : Graph). IsWhy why h over.path)
          (same_graph over.program over.read over.graph over.graph_of) over.unplanned)

  pub its_refusal : (why : Status) → IsRefusal why → IsRefused why s d → IsUnplanned why g at
  its_refusal = refusal_by IsUnplanned

module _ (s d : Content) where
  -- the source was refused
  module _ (error : FrontError) (status : Status) (told : status ≡ of_front error)
      (each_program : (program : Program) → HasProgram s program → error ≡ front_memory)
      (each_fault : (fault : FrontFault) → IsFrontFault s fault → (error ≡ Fault fault) ⊎ (error ≡ front_memory)) where
    memory : (program : Program) → HasProgram s program → status ≡ Memory
    memory program has = told ∙ ap of_front (each_program program has)

    pub source_plan : (at : Datapath) (p : Plan) → HasPlan s d at p → status ≡ Memory
    source_plan at p (program, has) = memory program has.read

    pub source_refusal : (why : Status) → IsRefusal why → IsRefused why s d → (status ≡ why) ⊎ (status ≡ Memory)
    source_refusal why is h = by (cause IsUnplanned s d why is h)
      where
        by : Cause IsUnplanned s d why → (status ≡ why) ⊎ (status ≡ Memory)
        by (of_source fault has e) =
            ⊎_elim (λ same. inl (told ∙ ap of_front same ∙ sym e)) (λ none. inr (told ∙ ap of_front none))
            (each_fault fault has)
        by (of_datapath fault (program, has) none e) = inr (memory program has)
        by (of_graph over) = inr (memory over.program over.read)

  -- the source has this program
  module _ (program : Program) (read : HasProgram s program) where
    -- the file describes no datapath
    module _ (fault : PathFault) (status : Status) (told : status ≡ of_path fault)
        (found : (at : Datapath) → IsPathOf d at → (no_path fault ≡ Ok at) ⊎ (no_path fault ≡ Err path.Memory))
        (refused : (f : PathFault)
        → IsPathFault d f
        → (no_path fault ≡ Err f) ⊎ (no_path fault ≡ Err path.Memory)) where
      tells : (f : PathFault) → no_path fault ≡ Err f → status ≡ of_path f
      tells f e = told ∙ ap of_path (let same : fault ≡ f = cc in same)

      no_datapath : (at : Datapath) → IsPathOf d at → status ≡ Memory
      no_datapath at described = ⊎_elim (λ e. absurd (cc)) (λ e. tells path.Memory e) (found at described)

      pub datapath_plan : (at : Datapath) (p : Plan) → HasPlan s d at p → status ≡ Memory
      datapath_plan at p (other, has) = no_datapath at has.described

      pub datapath_refusal : (why : Status) → IsRefusal why → IsRefused why s d → (status ≡ why) ⊎ (status ≡ Memory)
      datapath_refusal why is h = by (cause IsUnplanned s d why is h)
        where
          by : Cause IsUnplanned s d why → (status ≡ why) ⊎ (status ≡ Memory)
          by (of_source f has e) = absurd (no_fault s program read f has)
          by (of_datapath f accepted has e) =
              ⊎_elim (λ same. inl (tells f same ∙ sym e)) (λ none. inr (tells path.Memory none)) (refused f has)
          by (of_graph over) = inr (no_datapath over.path over.described)

-- where the call answers an error
either_is : {A : Type 0} (r : Result A Status) (told : Status)
    → IsErrAnd r (λ (status : Status). status ≡ told)
    → (why : Status)
    → (told ≡ why) ⊎ (told ≡ Memory)
    → (r ≡ Err why) ⊎ (r ≡ Err Memory)
either_is r told is why =
    ⊎_elim (λ e. inl (error_is r told is why e)) (λ e. inr (error_is r told is Memory e))

pub no_plan : (r : Result Planned Status) (told : Status)
    → IsErrAnd r (λ (status : Status). status ≡ told)
    → (at : Datapath) (p : Plan)
    → told ≡ Memory
    → AnswersPlan at p r
no_plan r told is at p e =
    subst (λ (x : Result Planned Status). AnswersPlan at p x) (sym (error_is r told is Memory e)) refl

pub refusal_is : (r : Result Planned Status) (told : Status)
    → IsErrAnd r (λ (status : Status). status ≡ told)
    → (why : Status)
    → (told ≡ why) ⊎ (told ≡ Memory)
    → AnswersFault Memory why r
refusal_is r told is why h =
    ⊎_elim (λ e. subst (λ (x : Result Planned Status). AnswersFault Memory why x) (sym e) (inl refl))
    (λ e. subst (λ (x : Result Planned Status). AnswersFault Memory why x) (sym e) (inr refl))
    (either_is r told is why h)

pub tells_why : (r : Result Plan Status) (told : Status)
    → IsErrAnd r (λ (status : Status). status ≡ told)
    → (why : Status)
    → (told ≡ why) ⊎ (told ≡ Memory)
    → TellsWhy why r
tells_why r told is why h =
    ⊎_elim (λ e. subst (λ (x : Result Plan Status). TellsWhy why x) (sym e) (inl refl))
    (λ e. subst (λ (x : Result Plan Status). TellsWhy why x) (sym e) (inr refl)) (either_is r told is why h)

-- the fault of a file, or no memory, is why a source with a program has no plan
pub no_path_plan : (s d : Content) (program : Program)
    → HasProgram s program
    → (e : PathFault)
    → (e ≡ path.Memory) ⊎ IsPathFault d e
    → IsNoPlan s d (of_path e)
no_path_plan s d program read path.Memory h = inl refl
no_path_plan s d program read path.TooLong h = inr (tt, ((program, read), file_fault d path.TooLong h (λ e. cc)))
no_path_plan s d program read path.NotToml h = inr (tt, ((program, read), file_fault d path.NotToml h (λ e. cc)))
no_path_plan s d program read (path.UnknownKey section) h =
    inr (tt, ((program, read), file_fault d (path.UnknownKey section) h (λ e. cc)))
no_path_plan s d program read (path.Missing section) h =
    inr (tt, ((program, read), file_fault d (path.Missing section) h (λ e. cc)))
no_path_plan s d program read (path.WrongKind section) h =
    inr (tt, ((program, read), file_fault d (path.WrongKind section) h (λ e. cc)))
no_path_plan s d program read (path.Range section) h =
    inr (tt, ((program, read), file_fault d (path.Range section) h (λ e. cc)))
no_path_plan s d program read (path.UnknownUnit section) h =
    inr (tt, ((program, read), file_fault d (path.UnknownUnit section) h (λ e. cc)))
no_path_plan s d program read (path.UnknownPort section) h =
    inr (tt, ((program, read), file_fault d (path.UnknownPort section) h (λ e. cc)))
no_path_plan s d program read (path.Twice section) h =
    inr (tt, ((program, read), file_fault d (path.Twice section) h (λ e. cc)))
