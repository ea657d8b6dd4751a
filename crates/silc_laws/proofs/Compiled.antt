-- Where `compile` is done, OUT has the image of the plan that SRC's program has over DP's datapath.
use Rattle.std.proofs.Common.{◌≡◌, sym, ap, subst, Some}
use Rattle.datapath.specs.declared.types.Datapath.{Datapath}
use Rattle.desk_core.specs.View.{Name, Content, Files, View}
use Rattle.desk_core.specs.Desk.{content_of}
use Rattle.front_end.proofs.SoundGraph.{program_graph_sound, program_graph_loopless}
use Rattle.micro_file.proofs.Unique.{in_either}
use Rattle.plan_commands.specs.Compile.{IsCompileDone}
use Rattle.plan_commands.specs.Headline.{IsCompiled}
use Rattle.plan_commands.specs.Plans.{HasPlan}
use Rattle.plan_commands.proofs.PlanAnswers.{its_plan}
use Rattle.plan_core.specs.declared.plan.Plan.{Plan}
use Rattle.plan_soundness.specs.ImageOf.{IsImageOf}
use Rattle.sample_commands.specs.Sim.{IsMicrocodeOf}
use Rattle.silc_laws.specs.Complete.{HavePlan, HasImageOf}
use Rattle.planner.proofs.OnePlan.{one_plan}
use Rattle.plan_commands.proofs.Complete.{path_allowed}

module _ (s d : Content) (path : Datapath) (plan : Plan) (has : HasPlan s d path plan) where
  compiled_image : (microcode : Content) (is : IsCompiled s d microcode) → IsImageOf path plan is.image
  compiled_image microcode is =
      let it = is.planned.has in
      let (same, theirs) = its_plan s d is.program it.read it.graph it.graph_of is.path it.described path plan has in
      let plans =
      one_plan it.graph is.path (path_allowed d is.path it.described)
      (program_graph_sound s is.program it.read it.graph it.graph_of)
      (program_graph_loopless s is.program it.read it.graph it.graph_of) is.plan plan it.planned theirs in
      subst (λ (x : Datapath). IsImageOf x plan is.image) same
      (subst (λ (p : Plan). IsImageOf is.path p is.image) plans is.image_of)

pub compiled_plan : (src datapath out : Name) (old new : View)
    → IsCompileDone src datapath out old new
    → (files : Files)
    → old.files ≡ Some files
    → (path : Datapath) (plan : Plan)
    → HavePlan src datapath path plan files
    → (after : Files)
    → new.files ≡ Some after
    → HasImageOf out path plan after
compiled_plan src datapath out old new h files specified path plan has after told =
    let (before, were, put) = h.put after told in
    let is = h.compiled files specified in
    let here = sym (ap content_of put.here) in (
      is.image,
      compiled_image (content_of (files src)) (content_of (files datapath)) path plan has h.microcode is,
      subst (λ (bytes : Content). IsMicrocodeOf bytes is.image) here
          (record { within = is.short; spells = in_either is.spelled.spells }),
    )
