-- The machine of a plan over several stages with places that a text gives, and its run over the files.
use Rattle.std.proofs.Common.{◌≡◌, ◌∙◌, ◌-◌, ◌≤◌, sym, ap, subst, inr, ℕ, [], Result, Ok, Err}
use Rattle.std.specs.Prelude.{IfOk}
use Rattle.cycle_sim.specs.Machine.{Snapshot, state_of}
use Rattle.cycle_sim.specs.Microcode.{micro_of, inputs_of}
use Rattle.datapath.specs.Allowed.{IsDatapath}
use Rattle.datapath.specs.declared.types.Datapath.{Datapath}
use Rattle.desk_core.specs.View.{Name, Content, View}
use Rattle.desk_core.specs.Desk.{WhereSpecified, content_of}
use Rattle.loop_expand.specs.GraphFor.{IsGraphFor}
use Rattle.micro_image.specs.Fields.{Microprogram}
use Rattle.micro_image.specs.Run.{Stands, IsRunOut, spread}
use Rattle.signal_graph.specs.declared.graph.Graph.{Graph}
use Rattle.silage_syntax.specs.Tree.{Program}
use Rattle.plan_soundness.specs.Run.{RunsSolutionLate}
use Rattle.overlap_plan.specs.IsStagePlan.{plan_of}
use Rattle.overlap_sim.specs.Guarded.{of_guarded}
use Rattle.overlap_sim.specs.GuardedOf.{IsGuardedOf}
use Rattle.overlap_sim.specs.Guardable.{IsGuardable}
use Rattle.overlap_sim.specs.Placed.{IsPlacedStagePlan}
use Rattle.overlap_sim.proofs.GuardSteps.{placed_guardable}
use Rattle.placed_stages.specs.StagePlaces.{AtPlaceAround, IsStagePlanAt}
use Rattle.placed_stages.proofs.PlansAt.{at_feasible, at_routed, at_narrow, at_given}
use Rattle.plan_commands.specs.Planning.{AreRead, IsSourceIn, IsPathIn}
use Rattle.plan_commands.specs.declared.planning.Inputs.{Inputs}
use Rattle.plan_commands.proofs.Errors.{read_plan}
use Rattle.plan_commands.proofs.Plans.{input_plan_by}
use Rattle.run_command.specs.Run.{HasPlanInBy}
use Rattle.run_command.proofs.Executing.{its_channels, valid_stream, RanThrough, ran_through, run_error_by}
use Rattle.sample_commands.specs.Streaming.{RunsFiles, IsNotRunOver}
use Rattle.sample_commands.proofs.Simulating.{fresh_puts}
use Rattle.sample_loops.specs.Private.MachineLaws.{runs_clear}
use Rattle.silc_files.specs.Reading.{OnlyReads, IsInput}
use Rattle.silc_files.specs.declared.files.Input.{Input}
use Rattle.stage_commands.specs.Pipe.{staged_out, HasGuardedRun}
use Rattle.stage_commands.proofs.Piping.{staged_runs}
use Rattle.statuses.specs.declared.status.Status.{Status}
use Rattle.statuses.specs.declared.status.Status.TheVariants.{Done}
use Rattle.place_stages_command.specs.Endings.{told}
use Rattle.place_stages_command.specs.Piped.{IsPlacedPlanOf, IsPlacedOver, IsPlacePiped}
use Rattle.place_stages_command.specs.Unpiped.{AreFilesRefused, IsUnpiped}
use Rattle.place_stages_command.specs.Private.Placing.{IsGivenIn, placed_plan, IsInputPlacing, IsMachineOfPlan}
use Rattle.place_stages_command.specs.Private.Placing.{IsGuardedMachine}
use Rattle.place_stages_command.specs.declared.ending.PipeEnding.{PipeEnding}
use Rattle.place_stages_command.specs.declared.piper.Placed.{Placed}

-- the plan of the graph is that of the inputs
pub input_placing : (stages : ℕ) (inputs : Inputs) (text : Input) (program : Program) (g : Graph)
    → IsSourceIn inputs.source program g
    → IsGraphFor program g
    → (d : Datapath)
    → IsPathIn inputs.datapath d
    → IsDatapath d
    → (r : Result Placed PipeEnding)
    → IfOk r (λ (placed : Placed). placed.path ≡ d)
    → IfOk r (λ (placed : Placed). IsStagePlanAt placed.given.places g d stages placed.plan)
    → IfOk r (λ (placed : Placed). IsGivenIn text d placed.given)
    → IfOk r (IsInputPlacing stages inputs text)
input_placing stages inputs text program g has keeps d is_path allowed (Ok placed) same plan gives = record {
  plan =
      input_plan_by (IsPlacedPlanOf stages) inputs.source inputs.datapath program g has keeps d is_path allowed
      placed.path (placed_plan placed) same plan;
  gives = subst (λ (z : Datapath). IsGivenIn text z placed.given) (sym same) gives;
}
input_placing stages inputs text program g has keeps d is_path allowed (Err e) same plan gives = tt

-- a plan of the inputs can be guarded
pub guardable : (stages : ℕ) (inputs : Inputs) (text : Input) (placed : Placed)
    → 1 ≤ stages
    → stages ≤ 4
    → IsInputPlacing stages inputs text placed
    → IsGuardable placed.path placed.plan
guardable stages inputs text placed some few is =
    let p = placed.plan in
    let at = is.plan.plan in
    let same = sym at.placed.stages_are in
    placed_guardable is.plan.graph placed.path p is.plan.allowed is.plan.keeps.sound (subst (λ n. 1 ≤ n) same some)
    (subst (λ n. n ≤ 4) same few)
    (subst
    (λ n.
    IsPlacedStagePlan (AtPlaceAround placed.given.places placed.path p.assigned) is.plan.graph placed.path n p)
    same at.placed)

-- PLAN, SRC and DP were read, and the machine of the plan was made
module _ (stages : ℕ) (some : 1 ≤ stages) (src datapath plan : Name) (old new : View) (text : Input)
    (text_is : WhereSpecified old (λ files. IsInput (content_of (files plan)) text)) (inputs : Inputs)
    (are : AreRead src datapath old new inputs) (placed : Placed) (is : IsInputPlacing stages inputs text placed) where
  pub guarded_machine : (machine : Snapshot)
      → IsMachineOfPlan placed.path placed.plan machine
      → IsGuardedMachine stages src datapath plan old new machine
  guarded_machine machine of =
      let d = placed.path in
      let p = placed.plan in
      let places = placed.given.places in
      let its = of.loaded in
      let r = read_plan (IsPlacedPlanOf stages) src datapath old new inputs are d (placed_plan placed) is.plan in
      let g = r.graph in
      let at = r.plan in
      let same = at.placed.stages_are in
      let late = its.runs g r.keeps.sound (at_feasible g d stages places r.allowed r.keeps.sound some p at) in
      record {
        text = is.gives.text;
        text_is = λ files specified. subst (IsInput (content_of (files plan))) is.gives.whole (text_is files specified);
        planned = record {
          read = r.read;
          fresh = record { sound = of.sound; stands = its.stands };
          program = r.program;
          source = λ files specified. record {
            read = (r.specified files specified).has.read;
            unique = (r.specified files specified).unique;
            solved = r.keeps.keeps.one_solution;
          };
          path = d;
          plan = placed_plan placed;
          planned = λ files specified. record {
            planned = r.specified files specified;
            within = is.gives.within;
            gives = (placed.given.lines, is.gives.gives);
          };
          channels =
              its_channels r.program g r.keeps p.inputs at.placed.inputs (inputs_of machine.code)
              (its.inputs ∙ its.guarded_of.inputs);
          valid = valid_stream r.program g r.keeps;
          runs =
              staged_runs stages r.program g (micro_of machine.code) r.keeps
              (subst (RunsSolutionLate (stages - 1) g) (sym its.obeys)
              (subst (λ n. RunsSolutionLate (n - 1) g (of_guarded its.guarded)) same late));
        };
        given = at_given g d stages places r.allowed r.keeps.sound some p at;
        routed = at_routed g d stages places r.allowed r.keeps.sound some p at;
        narrow = at_narrow g d stages places r.allowed r.keeps.sound some p at;
        guarded = its.guarded;
        guarded_of = subst (λ n. IsGuardedOf n d (plan_of p) its.guarded) same its.guarded_of;
        obeys = its.obeys;
      }

-- the machine was made, and then it ran over the files
module _ {Reads : Name → Type 0} (stages : ℕ) (src datapath plan samples out : Name) (old mid new : View)
    (machine : Snapshot) (first : OnlyReads Reads old mid)
    (is : IsGuardedMachine stages src datapath plan old mid machine) where
  guarded_run : (after : Snapshot)
      → (ran : RanThrough AreFilesRefused (IsPlacedOver stages is.text) (staged_out stages) src datapath samples out old
      mid new machine first is.planned after)
      → HasGuardedRun is.guarded ran.solved.stream after ran.solved.text
  guarded_run after ran =
      let fresh = is.planned.fresh in
      let micro = micro_of machine.code in
      record {
        obeys = ap micro_of ran.code ∙ is.obeys;
        stands =
            subst (λ (m : Microprogram). Stands (state_of after) m (spread m.period ran.solved.stream)) is.obeys
            (ran.given.stands [] fresh.stands);
        rows = ran.puts;
        run = subst (λ (m : Microprogram). IsRunOut m ran.solved.stream ran.puts) is.obeys
            (fresh_puts machine fresh ran.solved.stream ran.puts
            (runs_clear micro (state_of machine) (state_of after) ran.solved.stream ran.puts ran.given));
        text_is = ran.text_is;
      }

  pub pipe_done : (after : Snapshot)
      → RunsFiles samples out machine after mid new Done
      → IsPlacePiped stages src datapath plan samples out after old new
  pipe_done after ran =
      let its =
      ran_through AreFilesRefused (IsPlacedOver stages is.text) (staged_out stages) src datapath samples out old mid new
      machine first is.planned after ran in
      record {
        solved = its.solved;
        path = is.planned.path;
        placed = is.planned.plan;
        planned = λ files at.
            subst (λ (t : Content).
            HasPlanInBy (IsPlacedOver stages t) src datapath its.solved.program is.planned.path is.planned.plan files)
            (is.text_is files at)
            (subst (λ (p : Program).
            HasPlanInBy (IsPlacedOver stages is.text) src datapath p is.planned.path is.planned.plan files)
            (sym its.same) (is.planned.planned files at));
        given = is.given;
        routed = is.routed;
        narrow = is.narrow;
        guarded = is.guarded;
        guarded_of = is.guarded_of;
        ran = guarded_run after its;
      }

  pub pipe_stopped : (ending : Status)
      → IsNotRunOver samples out machine mid new ending
      → IsUnpiped stages src datapath plan samples out old new (told ending)
  pipe_stopped ending not =
      inr (record {
        text = is.text;
        text_is = is.text_is;
        error =
            run_error_by AreFilesRefused (IsPlacedOver stages is.text) (staged_out stages) src datapath samples out old
            mid new machine first is.planned ending not;
      })
