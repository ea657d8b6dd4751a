-- Files have one answer: one refusal at most, and none where they have microcode.
use Rattle.std.proofs.Common.{◌≡◌, ◌≢◌, ◌⊎◌, ◌∙◌, inl, inr, refl, sym, ap, subst, subst₂, arith, ⊎_elim, ◌<◌, ◌≤◌}
use Rattle.std.proofs.Common.{List, length, Some, Result, Ok, Err}
use Rattle.datapath.specs.Allowed.{IsDatapath}
use Rattle.datapath.specs.Described.{IsPathOf}
use Rattle.datapath.specs.declared.types.Datapath.{Datapath}
use Rattle.datapath.proofs.DescribedPath.{one_path}
use Rattle.desk_core.specs.View.{Name, Content, Files, View}
use Rattle.desk_core.specs.Desk.{content_of}
use Rattle.front_end.specs.GraphOf.{IsProgramGraph}
use Rattle.front_end.proofs.OneAnswer.{one_program, no_fault}
use Rattle.front_end.proofs.OneGraph.{program_graph_once}
use Rattle.front_end.proofs.SoundGraph.{program_graph_sound, program_graph_loopless}
use Rattle.place_file.specs.Given.{IsGivenBy}
use Rattle.place_file.specs.declared.given.Given.{Given}
use Rattle.place_file.proofs.OneAnswer.{given_or_not, one_given, one_fault}
use Rattle.place_file.specs.Registers.{AreRegistersBy}
use Rattle.place_file.specs.declared.registers.GivenRegisters.{GivenRegisters}
use Rattle.place_file.proofs.RegisterReading.{given_or_not as registers_or_not, one_given as one_registers}
use Rattle.place_file.proofs.RegisterReading.{one_fault as one_registers_fault}
use Rattle.given_registers.specs.declared.given.GivenRegister.{GivenRegister}
use Rattle.placed_plan.specs.GivenPlans.{IsPlanGiven, IsGivenPlanFault}
use Rattle.placed_plan.specs.declared.place.Place.{Place}
use Rattle.placed_plan.specs.declared.fault.GivenPlanFault.{GivenPlanFault}
use Rattle.placed_plan.specs.declared.fault.GivenPlanFault.TheVariants as of_plan
use Rattle.placed_plan.proofs.GivenPlans.{finds_given, answers_given}
use Rattle.plan_commands.specs.Compile.{IsWriteAnswerOf}
use Rattle.plan_commands.proofs.Complete.{path_allowed}
use Rattle.plan_commands.proofs.OneFault.{one_source_fault, one_path_fault, path_or_not}
use Rattle.plan_core.specs.declared.plan.Plan.{Plan}
use Rattle.signal_graph.specs.GraphRules.{IsGraph}
use Rattle.signal_graph.specs.GraphSolves.{IsGraphLoopless}
use Rattle.signal_graph.specs.declared.graph.Graph.{Graph}
use Rattle.silage_syntax.specs.Tree.{Program}
use Rattle.silc_files.specs.Limits.{text_limit}
use Rattle.source_faults.specs.Faults.{HasProgram}
use Rattle.statuses.specs.declared.status.Status.{Status}
use Rattle.statuses.specs.declared.status.Status.TheVariants.{Done, Memory, Desk, FrontEnd, Path}
use Rattle.place_command.specs.Placed.{IsPlaced, ArePlaced, IsPlaceAnswer}
use Rattle.place_command.specs.Refusals.{text_refusal, plan_refusal, IsTextRefused, IsMisplaced, IsRefusedPlan}
use Rattle.place_command.specs.Refusals.{IsInputRefusal, IsInputRefused, IsPlaceError}
use Rattle.place_command.specs.declared.ending.PlaceEnding.{PlaceEnding}
use Rattle.place_command.specs.declared.ending.PlaceEnding.TheVariants.{Told, Refused}
use Rattle.place_command.specs.declared.ending.Refusal.{Refusal}
use Rattle.place_command.specs.declared.ending.Refusal.TheVariants.{Registers}

-- Places and registers have one plan or one fault, and not both.

module _ (g : Graph) (d : Datapath) (places : List Place) (given : List GivenRegister) (allowed : IsDatapath d)
    (sound : IsGraph g) (loopless : IsGraphLoopless g) where
  abbrev IsFault : GivenPlanFault → Type 0
  IsFault = IsGivenPlanFault places g d given

  refuted : (r : Result Plan GivenPlanFault) (p : Plan) (f : GivenPlanFault)
      → r ≡ Ok p
      → (r ≡ Err f) ⊎ (r ≡ Err of_plan.Memory)
      → ⊥
  refuted r p f is (inl e) = cc
  refuted r p f is (inr e) = cc

  plan_or_not : (p : Plan) → IsPlanGiven places g d given p → (f : GivenPlanFault) → IsFault f → ⊥
  plan_or_not p is f h =
      refuted (Ok p) p f refl ((finds_given g d places given allowed sound loopless p is).refused f h)

  same_told : (r : Result Plan GivenPlanFault) (f h : GivenPlanFault)
      → r ≡ Err f
      → IsFault f
      → (r ≡ Err h) ⊎ (r ≡ Err of_plan.Memory)
      → f ≡ h
  same_told r f h is x (inl e) = cc
  same_told r f h is x (inr e) = let memory : f ≡ of_plan.Memory = cc in absurd (subst IsFault memory x)

  one_plan_fault : (f h : GivenPlanFault) → IsFault f → IsFault h → f ≡ h
  one_plan_fault f h x y =
      same_told (Err f) f h refl x
      ((answers_given g d places given allowed sound loopless (Err f) f refl (inr x)).refused h y)

-- The text, where the graph and the datapath are known.

module _ (g : Graph) (d : Datapath) (text : Content) (allowed : IsDatapath d) (sound : IsGraph g)
    (loopless : IsGraphLoopless g) where
  abbrev IsRefused : Refusal → Type 0
  IsRefused refusal = IsTextRefused d text refusal ⊎ IsMisplaced g d text refusal

  not_both : text_limit < length text → length text ≤ text_limit → ⊥
  not_both above short = absurd (omega (arith, above, short))

  -- a text that gives places and registers is not refused for itself
  gives_or_not : (given : Given) (registers : GivenRegisters)
      → length text ≤ text_limit
      → IsGivenBy d text given
      → AreRegistersBy d text registers
      → (refusal : Refusal)
      → IsTextRefused d text refusal
      → ⊥
  gives_or_not given registers short gives registers_are refusal (inl long) = not_both long.1 short
  gives_or_not given registers short gives registers_are refusal (inr (inl u)) =
      given_or_not d text allowed given gives u.fault u.is_fault
  gives_or_not given registers short gives registers_are refusal (inr (inr u)) =
      registers_or_not d text allowed registers registers_are u.fault u.is_fault

  -- nor for these, where there is a plan with them
  pub plan_or_refused : (given : Given) (registers : GivenRegisters) (plan : Plan)
      → length text ≤ text_limit
      → IsGivenBy d text given
      → AreRegistersBy d text registers
      → IsPlanGiven given.places g d registers.registers plan
      → (refusal : Refusal)
      → IsRefused refusal
      → ⊥
  plan_or_refused given registers plan short gives registers_are is refusal (inl h) =
      gives_or_not given registers short gives registers_are refusal h
  plan_or_refused given registers plan short gives registers_are is refusal (inr m) =
      plan_or_not g d given.places registers.registers allowed sound loopless plan is m.fault
      (subst₂ (λ (its : Given) (rs : GivenRegisters). IsGivenPlanFault its.places g d rs.registers m.fault)
      (one_given d text allowed m.given given m.gives gives)
      (one_registers d text allowed m.registers registers m.gives_registers registers_are) m.is_fault)

  one_text : (r q : Refusal) → IsTextRefused d text r → IsTextRefused d text q → r ≡ q
  one_text r q (inl x) (inl y) = x.0 ∙ sym y.0
  one_text r q (inl x) (inr (inl y)) = absurd (not_both x.1 y.short)
  one_text r q (inl x) (inr (inr y)) = absurd (not_both x.1 y.short)
  one_text r q (inr (inl x)) (inl y) = absurd (not_both y.1 x.short)
  one_text r q (inr (inr x)) (inl y) = absurd (not_both y.1 x.short)
  one_text r q (inr (inl x)) (inr (inl y)) =
      x.told ∙ ap text_refusal (one_fault d text allowed x.fault y.fault x.is_fault y.is_fault) ∙ sym y.told
  one_text r q (inr (inl x)) (inr (inr y)) = absurd (given_or_not d text allowed y.given y.gives x.fault x.is_fault)
  one_text r q (inr (inr x)) (inr (inl y)) = absurd (given_or_not d text allowed x.given x.gives y.fault y.is_fault)
  one_text r q (inr (inr x)) (inr (inr y)) =
      x.told ∙ ap Registers (one_registers_fault d text allowed x.fault y.fault x.is_fault y.is_fault) ∙ sym y.told

  one_misplaced : (r q : Refusal) → IsMisplaced g d text r → IsMisplaced g d text q → r ≡ q
  one_misplaced r q m n =
      let places = one_given d text allowed m.given n.given m.gives n.gives in
      let registers = one_registers d text allowed m.registers n.registers m.gives_registers n.gives_registers in
      let fault =
      one_plan_fault g d n.given.places n.registers.registers allowed sound loopless m.fault n.fault
      (subst₂ (λ (its : Given) (rs : GivenRegisters). IsGivenPlanFault its.places g d rs.registers m.fault) places
      registers m.is_fault) n.is_fault in
      m.told ∙ ap (λ (its : Given). plan_refusal its.lines m.registers m.fault) places
      ∙ ap (λ (rs : GivenRegisters). plan_refusal n.given.lines rs m.fault) registers
      ∙ ap (plan_refusal n.given.lines n.registers) fault ∙ sym n.told

  pub one_refused : (r q : Refusal) → IsRefused r → IsRefused q → r ≡ q
  one_refused r q (inl x) (inl y) = one_text r q x y
  one_refused r q (inl x) (inr n) =
      absurd (gives_or_not n.given n.registers n.short n.gives n.gives_registers r x)
  one_refused r q (inr m) (inl y) =
      absurd (gives_or_not m.given m.registers m.short m.gives m.gives_registers q y)
  one_refused r q (inr m) (inr n) = one_misplaced r q m n

-- The files.

module _ (s p t : Content) where
  -- the source has a program with this graph, and the file describes this datapath
  module _ (program : Program) (read : HasProgram s program) (g : Graph) (graph_of : IsProgramGraph program g)
      (d : Datapath) (described : IsPathOf p d) where
    refused_here : (r : Refusal) → IsRefusedPlan r s p t → IsTextRefused d t r ⊎ IsMisplaced g d t r
    refused_here r h =
        subst (λ (at : Datapath). IsTextRefused at t r ⊎ IsMisplaced g at t r)
        (one_path p h.path d h.described described)
        (subst (λ (its : Graph). IsTextRefused h.path t r ⊎ IsMisplaced its h.path t r)
        (program_graph_once s program read h.graph g
        (subst (λ (other : Program). IsProgramGraph other h.graph) (one_program s program h.program read h.read)
        h.graph_of) graph_of) h.refused)

    -- neither the source nor the file is refused
    pub read_or_not : (why : Status) → IsInputRefusal why → IsInputRefused why s p → ⊥
    read_or_not (FrontEnd fault) is h = no_fault s program read fault h
    read_or_not (Path fault) is h = path_or_not p d described fault h.1
    read_or_not other is h = absurd is

  pub one_refusal : (r q : Refusal) → IsRefusedPlan r s p t → IsRefusedPlan q s p t → r ≡ q
  one_refusal r q h k =
      one_refused h.graph h.path t (path_allowed p h.path h.described)
      (program_graph_sound s h.program h.read h.graph h.graph_of)
      (program_graph_loopless s h.program h.read h.graph h.graph_of) r q h.refused
      (refused_here h.program h.read h.graph h.graph_of h.path h.described q k)

  pub placed_or_refused : (microcode : Content) → IsPlaced s p t microcode → (r : Refusal) → IsRefusedPlan r s p t → ⊥
  placed_or_refused microcode is r h =
      let has = is.planned.has in
      plan_or_refused has.graph is.path t (path_allowed p is.path has.described)
      (program_graph_sound s is.program has.read has.graph has.graph_of)
      (program_graph_loopless s is.program has.read has.graph has.graph_of)
      (record { places = is.places; lines = is.gives.0 })
      (record { registers = is.registers; lines = is.gives_registers.0 }) is.plan is.within is.gives.1
      is.gives_registers.1 has.planned r
      (refused_here is.program has.read has.graph has.graph_of is.path has.described r h)

  pub one_input_refusal : (why other : Status)
      → IsInputRefusal why
      → IsInputRefused why s p
      → IsInputRefusal other
      → IsInputRefused other s p
      → why ≡ other
  one_input_refusal (FrontEnd f) (FrontEnd g) is h its k = ap FrontEnd (one_source_fault s f g is h k)
  one_input_refusal (FrontEnd f) (Path g) is h its k = absurd (no_fault s k.0.0 k.0.1 f h)
  one_input_refusal (Path f) (FrontEnd g) is h its k = absurd (no_fault s h.0.0 h.0.1 g k)
  one_input_refusal (Path f) (Path g) is h its k = ap Path (one_path_fault p f g h.1 k.1)
  one_input_refusal (FrontEnd f) other is h its k = absurd its
  one_input_refusal (Path f) other is h its k = absurd its
  one_input_refusal why other is h its k = absurd is

-- The desk.

-- memory sufficed, and no file failed
abbrev pub IsJudged : PlaceEnding → Type 0
IsJudged (Told ending) = (ending.status ≢ Memory) × (ending.status ≢ Desk)
IsJudged (Refused refusal) = Unit {0}

-- both tell the same status, or the same refusal
abbrev pub TellTheSame : PlaceEnding → PlaceEnding → Type 0
TellTheSame (Told ending) (Told other) = ending.status ≡ other.status
TellTheSame (Refused refusal) (Refused other) = refusal ≡ other
TellTheSame ending other = ⊥

module _ (src datapath plan out : Name) (old : View) (files : Files) (are : old.files ≡ Some files) where
  abbrev s : Content
  s = content_of (files src)

  abbrev p : Content
  p = content_of (files datapath)

  abbrev t : Content
  t = content_of (files plan)

  -- what an answer tells of the files
  abbrev Tells : PlaceEnding → Type 0
  Tells (Told ending) =
      ((ending.status ≡ Done) × (microcode : Content) × IsPlaced s p t microcode)
      ⊎ (IsInputRefusal ending.status × IsInputRefused ending.status s p)
  Tells (Refused refusal) = IsRefusedPlan refusal s p t

  tells_status : (new : View) (status : Status)
      → status ≢ Memory
      → status ≢ Desk
      → IsWriteAnswerOf (ArePlaced src datapath plan) (IsPlaceError src datapath plan) plan out old new status
      → ((status ≡ Done) × (microcode : Content) × IsPlaced s p t microcode)
      ⊎ (IsInputRefusal status × IsInputRefused status s p)
  tells_status new Done other unread h = inl (refl, h.microcode, h.compiled files are)
  tells_status new Desk other unread h = absurd (unread refl)
  tells_status new status other unread h =
      ⊎_elim (λ memory. absurd (other memory.0))
      (λ rest.
      ⊎_elim (λ desk. absurd (unread desk.0)) (λ refused. inr (refused.0, refused.1.why files are)) rest) h

  tells : (new : View) (ending : PlaceEnding)
      → IsJudged ending
      → IsPlaceAnswer src datapath plan out old new ending
      → Tells ending
  tells new (Told ending) judged h = tells_status new ending.status judged.0 judged.1 h
  tells new (Refused refusal) judged h = h.why files are

  placed_not_input : (microcode : Content) (why : Status)
      → IsPlaced s p t microcode
      → IsInputRefusal why
      → IsInputRefused why s p
      → ⊥
  placed_not_input microcode why is its refused =
      let has = is.planned.has in
      read_or_not s p t is.program has.read has.graph has.graph_of is.path has.described why its refused

  both_tell : (x y : PlaceEnding) → Tells x → Tells y → TellTheSame x y
  both_tell (Told x) (Told y) (inl h) (inl k) = h.0 ∙ sym k.0
  both_tell (Told x) (Told y) (inl h) (inr k) = absurd (placed_not_input h.1 y.status h.2 k.0 k.1)
  both_tell (Told x) (Told y) (inr h) (inl k) = absurd (placed_not_input k.1 x.status k.2 h.0 h.1)
  both_tell (Told x) (Told y) (inr h) (inr k) = one_input_refusal s p t x.status y.status h.0 h.1 k.0 k.1
  both_tell (Told x) (Refused q) (inl h) k = placed_or_refused s p t h.1 h.2 q k
  both_tell (Told x) (Refused q) (inr h) k =
      read_or_not s p t k.program k.read k.graph k.graph_of k.path k.described x.status h.0 h.1
  both_tell (Refused r) (Told y) h (inl k) = placed_or_refused s p t k.1 k.2 r h
  both_tell (Refused r) (Told y) h (inr k) =
      read_or_not s p t h.program h.read h.graph h.graph_of h.path h.described y.status k.0 k.1
  both_tell (Refused r) (Refused q) h k = one_refusal s p t r q h k

  -- Which answer comes is settled by the files as they are at the start, but for want of memory and files that fail.
  pub one_answer : (new later : View) (x y : PlaceEnding)
      → IsJudged x
      → IsJudged y
      → IsPlaceAnswer src datapath plan out old new x
      → IsPlaceAnswer src datapath plan out old later y
      → TellTheSame x y
  one_answer new later x y judged its h k = both_tell x y (tells new x judged h) (tells later y its k)
