-- Processors whose plans are made, one after the other.
use Rattle.std.proofs.Common.{◌≡◌, ◌∙◌, ◌++◌, ℕ, zero, suc, List, [], ◌∷◌, map, take, Some, refl, sym, ap}
use Rattle.std.proofs.Common.{subst, inl, inr}
use Rattle.std.specs.Prelude.{slice_get}
use Rattle.std.specs.List.{All, AllZip}
use Rattle.std.proofs.lemmas.List.{map-append}
use Rattle.lists.proofs.Zips.{zip_push}
use Rattle.datapath.specs.declared.types.Datapath.{Datapath}
use Rattle.fix_word.specs.declared.types.SigType.{SigType}
use Rattle.micro_image.specs.Valid.{IsValid}
use Rattle.micro_image.specs.declared.image.Image.{Image}
use Rattle.net_command.specs.Ports.{program_ports}
use Rattle.net_command.specs.Processors.{ProcFiles, ProcPlan, IsFirstRefused, images_of, ports_of}
use Rattle.net_command.specs.Private.Prepared.{HasSource, HasInputs, IsPreparedFrom, HasProcessor}
use Rattle.net_command.specs.Private.Prepared.{AreProcessors, IsNoProcessor}
use Rattle.net_command.specs.declared.processors.Processors.{Processors}
use Rattle.net_command.proofs.TypeRanges.{same_channels}
use Rattle.net_fit.specs.declared.ports.Ports.{Ports}
use Rattle.plan_commands.specs.Planning.{IsPathIn, IsNoInputPlan}
use Rattle.plan_commands.specs.Refusals.{IsRefused}
use Rattle.plan_commands.specs.declared.planning.Inputs.{Inputs}
use Rattle.plan_commands.proofs.Compiled.{runs_the_solution}
use Rattle.plan_commands.proofs.Plans.{planned_over}
use Rattle.plan_core.specs.IsPlan.{IsPlan}
use Rattle.plan_core.specs.declared.plan.Plan.{Plan}
use Rattle.plan_soundness.specs.ImageOf.{IsImageOf, width_of}
use Rattle.plan_soundness.specs.Run.{RunsSolution}
use Rattle.sample_commands.proofs.Solving.{program_stream}
use Rattle.sample_io.specs.Channels.{IsStream, channel_of}
use Rattle.sample_io.specs.declared.channel.Channel.{Channel}
use Rattle.sample_loops.specs.Evaluators.{type_channel}
use Rattle.signal_graph.specs.GraphRules.{IsGraph}
use Rattle.signal_graph.specs.Rules.{IsType}
use Rattle.signal_graph.specs.declared.graph.Graph.{Graph}
use Rattle.statuses.specs.declared.status.Status.{Status}

-- the image of the plan of the inputs
pub processor : (inputs : Inputs) (graph : Graph) (ports : Ports)
    → HasSource inputs.source graph ports
    → (d : Datapath)
    → IsPathIn inputs.datapath d
    → (path : Datapath) (plan : Plan)
    → path ≡ d
    → IsPlan graph d plan
    → (image : Image)
    → IsImageOf path plan image
    → IsValid image
    → ((g : Graph) → IsGraph g → IsPlan g path plan → RunsSolution g image)
    → HasProcessor inputs image ports
processor inputs graph ports has d is_path path plan same is image image_of valid runs =
    let planned : IsPlan graph path plan = subst (λ (z : Datapath). IsPlan graph z plan) (sym same) is in
    let described : IsPathIn inputs.datapath path = subst (IsPathIn inputs.datapath) (sym same) is_path in
    let types : plan.inputs ≡ graph.inputs = planned.inputs in
    let widths : image.inputs ≡ map width_of graph.inputs = image_of.inputs ∙ ap (map width_of) types in
    let channels : map channel_of image.inputs ≡ map type_channel graph.inputs =
    ap (map channel_of) widths ∙ same_channels graph.inputs in (
      record { program = has.program; path = path; plan = plan; image = image },
      record {
        prepared = record {
          valid = valid;
          inputs = widths ∙ ap (map width_of) has.keeps.keeps.inputs;
          outs = image_of.outs ∙ planned.outs ∙ has.keeps.keeps.outs;
          types = subst (λ (types : List SigType). All IsType types) has.keeps.keeps.inputs has.keeps.sound.inputs;
          streams = λ stream ranged.
              program_stream has.program graph has.keeps stream
              (subst (λ (cs : List Channel). IsStream cs stream) channels ranged);
          runs = runs_the_solution has.program graph image has.keeps (runs graph has.keeps.sound planned);
          typed = has.typed;
        };
        has = λ files these.
            let read = has.source_is files.source these.source in
            record {
              planned =
                  planned_over files.source files.datapath has.program read.read graph read.graph path
                  (described files.datapath these.datapath) plan planned;
              image_of = image_of;
            };
      },
      refl,
      has.ports_are,
    )

-- the first that has no plan
pub first_refused :
    (status : Status) (inputs : List Inputs) (k : ℕ) (one : Inputs) (files : List ProcFiles) (plans : List ProcPlan)
    → slice_get inputs k ≡ Some one
    → AllZip HasInputs files inputs
    → AllZip IsPreparedFrom (take k inputs) plans
    → ((f : ProcFiles) → HasInputs f one → IsRefused status f.source f.datapath)
    → IsFirstRefused status files
first_refused status [] k one files plans at have prepared refused = absurd (cc)
first_refused status (first ∷ inputs) zero one [] plans at have prepared refused = absurd have
first_refused status (first ∷ inputs) zero one (f ∷ files) plans at have prepared refused =
    let same : first ≡ one = cc in inl (refused f (subst (HasInputs f) same have.0))
first_refused status (first ∷ inputs) (suc k) one [] plans at have prepared refused = absurd have
first_refused status (first ∷ inputs) (suc k) one (f ∷ files) [] at have prepared refused = absurd prepared
first_refused status (first ∷ inputs) (suc k) one (f ∷ files) (its ∷ plans) at have prepared refused =
    let planned = (prepared.0.has f have.0).planned in
    inr (
      (its.path, its.plan, (its.program, planned.has)),
      first_refused status inputs k one files plans at have.1 prepared.1 refused,
    )

pub no_processor : (inputs : List Inputs) (k : ℕ) (one : Inputs) (processors : Processors) (status : Status)
    → slice_get inputs k ≡ Some one
    → AreProcessors (take k inputs) processors
    → IsNoInputPlan one.source one.datapath status
    → IsNoProcessor inputs status
no_processor inputs k one processors status at are (inl memory) = inl memory
no_processor inputs k one processors status at are (inr (is, tells)) =
    inr (
      is,
      λ files have.
          first_refused status inputs k one files are.plans at have are.prepared
          (λ f these. tells f.source f.datapath these.source these.datapath),
    )

-- a processor more
pub processors_more : (inputs : List Inputs) (one : Inputs) (old new : Processors) (image : Image) (ports : Ports)
    → AreProcessors inputs old
    → HasProcessor one image ports
    → new.images ≡ old.images ++ image ∷ []
    → new.ports ≡ old.ports ++ ports ∷ []
    → AreProcessors (inputs ++ one ∷ []) new
processors_more inputs one old new image ports are (its, prepared, image_is, ports_are) images all_ports = record {
  plans = are.plans ++ its ∷ [];
  prepared = zip_push IsPreparedFrom inputs are.plans one its are.prepared prepared;
  images =
      images
      ∙ ap (λ (xs : List Image). xs ++ image ∷ []) are.images
      ∙ ap (λ (x : Image). images_of are.plans ++ x ∷ []) image_is
      ∙ sym (map-append (λ (x : ProcPlan). x.image) are.plans (its ∷ []));
  ports =
      all_ports
      ∙ ap (λ (xs : List Ports). xs ++ ports ∷ []) are.ports
      ∙ ap (λ (x : Ports). ports_of are.plans ++ x ∷ []) ports_are
      ∙ sym (map-append (λ (x : ProcPlan). program_ports x.program) are.plans (its ∷ []));
}
