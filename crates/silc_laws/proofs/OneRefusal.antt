-- A source has one refusal over a datapath at most, and microcode one fault.
use Rattle.std.proofs.Common.{◌≡◌, ◌∙◌, refl, sym, ap, arith, ℕ}
use Rattle.datapath.specs.Allowed.{IsDatapath}
use Rattle.datapath.specs.PathRules.{IsPathFault}
use Rattle.datapath.specs.declared.fault.PathFault.{PathFault}
use Rattle.datapath.specs.declared.types.Datapath.{Datapath}
use Rattle.desk_core.specs.View.{Content}
use Rattle.source_faults.specs.Faults.{IsFrontFault, IsOfSource}
use Rattle.source_faults.specs.declared.fault.FrontFault.{FrontFault}
use Rattle.front_end.proofs.OneAnswer.{no_fault}
use Rattle.front_end.proofs.SoundGraph.{program_graph_sound, program_graph_loopless}
use Rattle.micro_file.proofs.FirstFault.{one_fault as one_form_fault}
use Rattle.plan_commands.specs.Plans.{IsUnplanned, IsUnplannedBy}
use Rattle.plan_commands.specs.Refusals.{IsRefusal, IsRefusedBy, IsRefused}
use Rattle.silc_files.specs.Sources.{IsAcceptedSource}
use Rattle.plan_commands.proofs.Complete.{path_allowed}
use Rattle.plan_commands.proofs.OneFault.{one_source_fault, one_path_fault, path_or_not}
use Rattle.plan_commands.proofs.PlanAnswers.{fault_for, refusal_by}
use Rattle.overlap_plan.proofs.OneOutcome.{one_fault}
use Rattle.signal_graph.specs.GraphRules.{IsGraph}
use Rattle.signal_graph.specs.GraphSolves.{IsGraphLoopless}
use Rattle.signal_graph.specs.declared.graph.Graph.{Graph}
use Rattle.stage_commands.specs.StagePlans.{IsStageRefused, IsUnstaged, status_of_fault}
use Rattle.front_end.specs.GraphOf.{IsProgramGraph}
use Rattle.sample_commands.specs.Sim.{IsImageFault}
use Rattle.planner.proofs.OnePlan.{one_plan_fault}
use Rattle.statuses.specs.Faults.{of_plan}
use Rattle.statuses.specs.declared.status.ImageFault.{ImageFault}
use Rattle.statuses.specs.declared.status.ImageFault.TheVariants as image_fault
use Rattle.statuses.specs.declared.status.Status.{Status}
use Rattle.statuses.specs.declared.status.Status.TheVariants.{FrontEnd, Path, LinesFull}
use Rattle.statuses.specs.declared.status.Status.TheVariants.{Period, FileFull}
use Rattle.statuses.specs.declared.status.Status.TheVariants as status

-- A source has one refusal over a datapath, where a graph has one status at most that tells why it has no plan.
module _ (IsWhy : Status → Graph → Datapath → Type 0)
    (one_why : (g : Graph) (d : Datapath)
    → IsDatapath d
    → IsGraph g
    → IsGraphLoopless g
    → (why other : Status)
    → IsWhy why g d
    → IsWhy other g d
    → why ≡ other) (s d : Content) where
  abbrev Tells : Status → Type 0
  Tells why = IsRefusedBy (IsUnplannedBy IsProgramGraph IsWhy) why s d

  -- what is refused: the source, the datapath, or the graph
  data Cause (why : Status) : Type 0 where
    of_source : (fault : FrontFault) → IsOfSource fault → IsFrontFault s fault → why ≡ FrontEnd fault → Cause why
    of_datapath : (fault : PathFault) → IsAcceptedSource s → IsPathFault d fault → why ≡ Path fault → Cause why
    of_graph : IsUnplannedBy IsProgramGraph IsWhy why s d → Cause why

  cause : (why : Status) → IsRefusal why → Tells why → Cause why
  cause (FrontEnd fault) is h = of_source fault is h refl
  cause (Path fault) is h = of_datapath fault h.0 h.1 refl
  cause (status.Unit refusal) is h = of_graph h
  cause (LinesFull v) is h = of_graph h
  cause (Period v) is h = of_graph h
  cause (FileFull u port v) is h = of_graph h
  cause other is h = absurd is

  module _ (why other : Status) (is : IsRefusal other) (h : Tells other) where
    one_unplanned : IsUnplannedBy IsProgramGraph IsWhy why s d → why ≡ other
    one_unplanned over =
        one_why over.graph over.path (path_allowed d over.path over.described)
        (program_graph_sound s over.program over.read over.graph over.graph_of)
        (program_graph_loopless s over.program over.read over.graph over.graph_of) why other over.unplanned
        (refusal_by s d over.program over.read over.graph over.graph_of over.path over.described IsWhy other is h)

    one_cause : Cause why → Cause other → why ≡ other
    one_cause (of_source f ours has e) (of_source g its have k) =
        e ∙ ap FrontEnd (one_source_fault s f g ours has have) ∙ sym k
    one_cause (of_source f ours has e) (of_datapath g (program, read) have k) = absurd (no_fault s program read f has)
    one_cause (of_source f ours has e) (of_graph over) = absurd (no_fault s over.program over.read f has)
    one_cause (of_datapath f (program, read) has e) (of_source g its have k) = absurd (no_fault s program read g have)
    one_cause (of_datapath f accepted has e) (of_datapath g its have k) =
        e ∙ ap Path (one_path_fault d f g has have) ∙ sym k
    one_cause (of_datapath f accepted has e) (of_graph over) = absurd (path_or_not d over.path over.described f has)
    one_cause (of_graph over) (of_source g its have k) = absurd (no_fault s over.program over.read g have)
    one_cause (of_graph over) (of_datapath g its have k) = absurd (path_or_not d over.path over.described g have)
    one_cause (of_graph over) (of_graph its) = one_unplanned over

  pub one_refusal_by : (why other : Status)
      → IsRefusal why
      → Tells why
      → IsRefusal other
      → Tells other
      → why ≡ other
  one_refusal_by why other ours has is h = one_cause why other is h (cause why ours has) (cause other is h)

-- so it is where the plan is that of `compile`
one_unplanned_why : (g : Graph) (d : Datapath)
    → IsDatapath d
    → IsGraph g
    → IsGraphLoopless g
    → (why other : Status)
    → IsUnplanned why g d
    → IsUnplanned other g d
    → why ≡ other
one_unplanned_why g d allowed sound loopless why other first second =
    let (fault, is_fault, again) = fault_for g d why first in
    let (last, is_last, last_again) = fault_for g d other second in
    sym again ∙ ap of_plan (one_plan_fault g d allowed sound loopless fault last is_fault is_last) ∙ last_again

pub one_refusal : (s d : Content) (why other : Status)
    → IsRefusal why
    → IsRefused why s d
    → IsRefusal other
    → IsRefused other s d
    → why ≡ other
one_refusal = one_refusal_by IsUnplanned one_unplanned_why

-- and where it is one over so many stages
one_unstaged_why : (stages : ℕ) (g : Graph) (d : Datapath)
    → IsDatapath d
    → IsGraph g
    → IsGraphLoopless g
    → (why other : Status)
    → IsUnstaged stages why g d
    → IsUnstaged stages other g d
    → why ≡ other
one_unstaged_why stages g d allowed sound loopless why other (first, is_first, told) (last, is_last, told_last) =
    told
    ∙ ap status_of_fault (one_fault g d stages allowed sound loopless first last is_first is_last)
    ∙ sym told_last

pub one_stage_refusal : (stages : ℕ) (s d : Content) (why other : Status)
    → IsRefusal why
    → IsStageRefused stages why s d
    → IsRefusal other
    → IsStageRefused stages other s d
    → why ≡ other
one_stage_refusal stages = one_refusal_by (IsUnstaged stages) (one_unstaged_why stages)

-- microcode has one fault
pub one_image_fault : (content : Content) (f g : ImageFault) → IsImageFault content f → IsImageFault content g → f ≡ g
one_image_fault content image_fault.TooLong image_fault.TooLong x y = refl
one_image_fault content image_fault.TooLong (image_fault.File g) x y =
    let short = y.0 in absurd (omega (arith, x, short))
one_image_fault content (image_fault.File f) image_fault.TooLong x y =
    let short = x.0 in absurd (omega (arith, y, short))
one_image_fault content (image_fault.File f) (image_fault.File g) x y =
    ap image_fault.File (one_form_fault content f g x.1 y.1)
