-- Microcode of a plan with places that a text gives is that of the files, and carries the solution of the source.
use Rattle.std.proofs.Common.{◌≡◌, ◌≢◌, ◌∙◌, sym, ap, subst₂, map, List, [], ◌∷◌, Result, Ok, Err, IfOk}
use Rattle.desk_core.specs.View.{Name, Content, View}
use Rattle.desk_core.specs.Desk.{IfSpecified, WhereSpecified, content_of}
use Rattle.desk_core.specs.Whole.{IsReadThrough, IsWrittenWhole}
use Rattle.desk_core.proofs.WholeLemmas.{through_from}
use Rattle.datapath.specs.declared.types.Datapath.{Datapath}
use Rattle.datapath.specs.Allowed.{IsDatapath}
use Rattle.signal_graph.specs.declared.graph.Graph.{Graph}
use Rattle.loop_expand.specs.GraphFor.{IsGraphFor}
use Rattle.silage_syntax.specs.Tree.{Program}
use Rattle.microcode_asm.specs.Planned.{IsAssemblable}
use Rattle.plan_soundness.specs.ImageOf.{width_of}
use Rattle.given_registers.specs.declared.given.GivenRegister.{GivenRegister}
use Rattle.placed_plan.specs.declared.place.Place.{Place}
use Rattle.placed_plan.proofs.GivenPlans.{given_feasible, given_routed, given_narrow, given_places, given_registers}
use Rattle.place_file.specs.Given.{IsGivenBy}
use Rattle.place_file.specs.Registers.{AreRegistersBy}
use Rattle.silc_files.specs.Endings.{IsAmong}
use Rattle.silc_files.specs.Limits.{text_limit}
use Rattle.silc_files.specs.Reading.{OnlyReads, IsInput}
use Rattle.silc_files.specs.declared.files.Input.{Input}
use Rattle.silc_files.proofs.Endings.{finished}
use Rattle.plan_commands.specs.Compile.{HasTheSolution, IsWrittenOf}
use Rattle.plan_commands.specs.Compiling.{IsMadeOf}
use Rattle.plan_commands.specs.Headline.{CarriesTheSolution}
use Rattle.plan_commands.specs.Planning.{AreRead, IsSourceIn, IsPathIn}
use Rattle.plan_commands.specs.declared.planning.Inputs.{Inputs}
use Rattle.plan_commands.proofs.Compiled.{runs_the_solution}
use Rattle.plan_commands.proofs.Errors.{read_plan}
use Rattle.plan_commands.proofs.Plans.{input_plan_by}
use Rattle.plan_commands.proofs.Making.{compile_done, written_at}
use Rattle.place_command.specs.Placed.{IsPlanWith, IsPlaced, ArePlaced, HasThePlan}
use Rattle.place_command.specs.Private.Endings.{ArePlanLinesIn}
use Rattle.place_command.specs.Private.Placing.{AreGivenIn, AreRegistersIn, IsInputPlacing, IsFeasibleMicrocode}
use Rattle.place_command.specs.declared.ending.PlaceEnding.{PlaceEnding}
use Rattle.place_command.specs.declared.placer.Placed.{Placed}
use Rattle.place_command.specs.declared.placer.PlanLines.{PlanLines}
use Rattle.place_command.proofs.Ordinary.{plan_alone}

-- the plan of the graph is that of the inputs
pub input_placing : (inputs : Inputs) (text : Input) (program : Program) (g : Graph)
    → IsSourceIn inputs.source program g
    → IsGraphFor program g
    → (d : Datapath)
    → IsPathIn inputs.datapath d
    → IsDatapath d
    → (r : Result Placed PlaceEnding)
    → IfOk r (λ (placed : Placed). placed.path ≡ d)
    → IfOk r (λ (placed : Placed). IsPlanWith placed.places placed.registers g d placed.plan)
    → IfOk r (λ (placed : Placed). AreGivenIn text placed.path placed.places)
    → IfOk r (λ (placed : Placed). AreRegistersIn text placed.path placed.registers)
    → IfOk r (IsInputPlacing inputs text)
input_placing inputs text program g has keeps d is_path allowed (Ok placed) same plan gives gives_registers = record {
  plan =
      input_plan_by (IsPlanWith placed.places placed.registers) inputs.source inputs.datapath program g has keeps d
      is_path allowed placed.path placed.plan same plan;
  gives = gives;
  gives_registers = gives_registers;
}
input_placing inputs text program g has keeps d is_path allowed (Err e) same plan gives gives_registers = tt

-- what is placed with the lines of the input has what these give
module _ (input : Input) (d : Datapath) (lines : PlanLines) (are : ArePlanLinesIn input d lines) where
  pub places_given : (r : Result Placed PlaceEnding)
      → IfOk r (λ (placed : Placed). placed.path ≡ d)
      → IfOk r (λ (placed : Placed). placed.places ≡ lines.places.places)
      → IfOk r (λ (placed : Placed). AreGivenIn input placed.path placed.places)
  places_given (Ok placed) path same =
      λ text is.
      let its = are text is in (
        its.0,
        (
          lines.places.lines,
          subst₂ (λ (z : Datapath) (ps : List Place).
              IsGivenBy z text (record { places = ps; lines = lines.places.lines })) (sym path) (sym same) its.1.places,
        ),
      )
  places_given (Err e) path same = tt

  pub registers_given : (r : Result Placed PlaceEnding)
      → IfOk r (λ (placed : Placed). placed.path ≡ d)
      → IfOk r (λ (placed : Placed). placed.registers ≡ lines.registers.registers)
      → IfOk r (λ (placed : Placed). AreRegistersIn input placed.path placed.registers)
  registers_given (Ok placed) path same =
      λ text is.
      let its = are text is in (
        lines.registers.lines,
        subst₂ (λ (z : Datapath) (rs : List GivenRegister).
            AreRegistersBy z text (record { registers = rs; lines = lines.registers.lines })) (sym path) (sym same)
            its.1.registers,
      )
  registers_given (Err e) path same = tt

-- a plan of the inputs can be assembled
pub assemblable : (inputs : Inputs) (text : Input) (placed : Placed)
    → IsInputPlacing inputs text placed
    → IsAssemblable placed.path placed.plan
assemblable inputs text placed is =
    let its = is.plan in
    let p = its.plan in
    record {
      graph = its.graph;
      sound = its.keeps.sound;
      plan =
          given_feasible its.graph placed.path placed.places placed.registers its.allowed its.keeps.sound
          its.keeps.loopless placed.plan p;
      arcs = p.timed.arcs_are.order;
      slot_count = p.timed.schedule.count;
      register_count = p.registers.registers.count;
      copies = p.registers.registers.copies;
    }

module _ (src datapath plan : Name) (old mid new : View) (inputs : Inputs) (are : AreRead src datapath old mid inputs)
    (first : OnlyReads (IsAmong (src ∷ datapath ∷ [])) old mid) (text : Input)
    (text_is : WhereSpecified mid (λ files. IsInput (content_of (files plan)) text))
    (through : IsReadThrough plan text_limit mid new) (placed : Placed) (is : IsInputPlacing inputs text placed) where
  -- its microcode is that of the files
  pub made : (microcode : Content)
      → IsFeasibleMicrocode placed.path placed.plan microcode
      → IsMadeOf (ArePlaced src datapath plan) plan old new microcode
  made microcode of =
      let d = placed.path in
      let p = placed.plan in
      let places = placed.places in
      let registers = placed.registers in
      let r = read_plan (IsPlanWith places registers) src datapath old mid inputs are d p is.plan in
      let g = r.graph in
      let keeps = r.keeps in
      let at = r.plan in
      record {
        read = through_from plan text_limit old mid new first.unchanged.files through;
        compiled = λ files specified.
            let here = text_is files (first.unchanged.files ∙ specified) in
            let its = is.gives (content_of (files plan)) here in
            let planned = r.specified files specified in
            record {
              program = r.program;
              path = d;
              places = places;
              within = its.0;
              gives = its.1;
              registers = registers;
              gives_registers = is.gives_registers (content_of (files plan)) here;
              plan = p;
              planned = planned;
              ordinary = λ none. plan_alone planned.has.graph d places registers none p planned.has.planned;
              given = given_places g d places registers r.allowed keeps.sound keeps.loopless p at;
              given_registers = given_registers g d places registers r.allowed keeps.sound keeps.loopless p at;
              routed = given_routed g d places registers r.allowed keeps.sound keeps.loopless p at;
              narrow = given_narrow g d places registers r.allowed keeps.sound keeps.loopless p at;
              image = of.image;
              image_of = of.image_of;
              spelled = of.spelled;
              short = of.short;
              inputs = of.image_of.inputs ∙ ap (map width_of) (at.inputs ∙ keeps.keeps.inputs);
              outs = of.image_of.outs ∙ at.outs ∙ keeps.keeps.outs;
              runs =
                  runs_the_solution r.program g of.image keeps
                  (of.runs g keeps.sound
                  (given_feasible g d places registers r.allowed keeps.sound keeps.loopless p at));
              period = of.image_of.period;
            };
      }

-- what is placed carries the solution
carries : (source datapath text microcode : Content)
    → IsPlaced source datapath text microcode
    → CarriesTheSolution source datapath microcode
carries source datapath text microcode h =
    let over = h.planned.has in
    record {
      tokens = over.read.read.tokens;
      lexed = over.read.read.lexed;
      program = h.program;
      parsed = over.read.read.parsed.is;
      path = h.path;
      described = over.described;
      image = h.image;
      spelled = h.spelled;
      inputs = h.inputs;
      outs = h.outs;
      runs = h.runs;
      period = h.period;
    }

module _ (src datapath plan out : Name) (old mid new : View) (microcode : Content) (apart : out ≢ plan)
    (same : mid.files ≡ old.files) (of : IsMadeOf (ArePlaced src datapath plan) plan old mid microcode)
    (whole : IsWrittenWhole out microcode mid new) where
  pub written : IsWrittenOf (ArePlaced src datapath plan) plan out old new
  written =
      compile_done (ArePlaced src datapath plan) plan out microcode old mid new same of
      (finished plan out text_limit microcode old mid new apart of.read whole) whole.files

  -- OUT has the plan where it is written
  pub has_plan : IfSpecified (HasThePlan src datapath plan out) old.files new.files
  has_plan = written_at (ArePlaced src datapath plan) plan out old new written

  -- and the solution
  pub has_solution : IfSpecified (HasTheSolution src datapath out) old.files new.files
  has_solution after is =
      let (before, were, done) = has_plan after is in (
        before,
        were,
        record {
          microcode = done.microcode;
          compiled =
              carries (content_of (before src)) (content_of (before datapath)) (content_of (before plan))
              done.microcode done.compiled;
          put = done.put;
        },
      )
