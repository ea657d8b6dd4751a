-- Processors that fit one another make a net, and its programs put the rows of their solutions.
use Rattle.std.proofs.Common.{◌≡◌, ◌+◌, ◌<◌, ◌^◌, ℕ, zero, suc, List, [], ◌∷◌, length, map, get_or, Option, Some, None}
use Rattle.std.proofs.Common.{refl, sym, ap, ◌∙◌, subst, arith, true, ℤ, pos}
use Rattle.std.specs.Prelude.{slice_get}
use Rattle.std.specs.List.{All, AllZip}
use Rattle.std.specs.Option.{option_and_then}
use Rattle.std.proofs.lemmas.List.{length-map}
use Rattle.std.proofs.lemmas.List.Elements.{All-contains, All-head, All-tail, All-weaker}
use Rattle.std.proofs.lemmas.List.FromFn.{length-map-range_with_len, get_or-map-range_with_len}
use Rattle.std.proofs.lemmas.Option.{slice_get-get_or, slice_get_within}
use Rattle.lists.specs.Rows.{Rows}
use Rattle.lists.proofs.Zips.{zip_length}
use Rattle.lists.proofs.Places.{contains_at, some_at}
use Rattle.fault_order.specs.Ranked.{IsClear}
use Rattle.fault_order.specs.Rules.{faults}
use Rattle.fix_word.specs.declared.types.SigType.{SigType}
use Rattle.loop_expand.specs.InTypes.{IsOutputRow}
use Rattle.micro_image.specs.Fields.{microprogram_of}
use Rattle.micro_image.specs.Run.{IsRunOut}
use Rattle.micro_image.specs.Valid.{IsValid}
use Rattle.micro_image.specs.declared.image.Image.{Image}
use Rattle.net_command.specs.Nets.{row_channels, net_parts, IsSolvedNet}
use Rattle.net_command.specs.Ports.{program_ports}
use Rattle.net_command.specs.Processors.{ProcPlan, programs_of, images_of, ports_of}
use Rattle.net_command.specs.Private.Prepared.{IsPrepared}
use Rattle.net_command.proofs.Places.{get_or-map_at, map_from}
use Rattle.net_command.proofs.TypeRanges.{same_width, alike_type, in_range}
use Rattle.net_core.specs.Allowed.{IsNetFile, IsProc, IsWire, AreProcsFrom}
use Rattle.net_core.specs.declared.types.NetFile.{NetFile}
use Rattle.net_core.specs.declared.types.NetProc.{NetProc}
use Rattle.net_core.specs.declared.types.Wire.{Wire}
use Rattle.net_core.specs.declared.types.Wire.TheVariants.{Input, From}
use Rattle.net_fit.specs.Joints.{joint_rules, net_type, fits, are_alike, inputs_at, no_ports}
use Rattle.net_fit.specs.Joints.{word_width}
use Rattle.net_fit.specs.declared.ports.Ports.{Ports}
use Rattle.net_fit.proofs.Joined.{Fits as FitTypes, all_fit, alike_width}
use Rattle.net_solution.specs.Solutions.{Parts, no_image, image_of, feed_to, fed, IsNetSolution, IsStreamFor}
use Rattle.net_solution.specs.Solutions.{RunsAll, Fits, IsPart, AreParts}
use Rattle.net_solution.proofs.Solving.{fed_valid}
use Rattle.plan_soundness.specs.ImageOf.{width_of}
use Rattle.sample_commands.specs.Eval.{IsSolutionRows}
use Rattle.sample_io.specs.Channels.{IsInChannel, IsRow, IsStream, channel_of}
use Rattle.sample_io.specs.declared.channel.Channel.{Channel}
use Rattle.signal_graph.specs.Rules.{IsType}
use Rattle.signal_graph.proofs.Members.{zip_at}
use Rattle.silage_meaning.specs.Solves.{input_types, output_types, out}
use Rattle.silage_meaning.specs.Types.{IsInType}
use Rattle.silage_syntax.specs.Tree.{Program}

-- processor p of a net file
proc_at : (inputs k : ℕ) (procs : List NetProc) (i : ℕ) (proc : NetProc)
    → AreProcsFrom inputs k procs
    → slice_get procs i ≡ Some proc
    → IsProc inputs (k + i) proc
proc_at inputs k [] i proc are is = absurd (cc)
proc_at inputs k (first ∷ procs) zero proc are is =
    let same : first ≡ proc = cc in
    let none : k ≡ k + 0 = omega arith in
    subst (λ (n : ℕ). IsProc inputs n proc) none (subst (IsProc inputs k) same are.0)
proc_at inputs k (first ∷ procs) (suc i) proc are is =
    let more : k + 1 + i ≡ k + suc i = omega arith in
    subst (λ (n : ℕ). IsProc inputs n proc) more (proc_at inputs (k + 1) procs i proc are.1 is)

-- what two types have that fit
two_fit : (source : Option SigType) (ty : SigType)
    → fits source (Some ty) ≡ true
    → (found : SigType) × (source ≡ Some found) × (are_alike found ty ≡ true)
two_fit None ty h = absurd (cc)
two_fit (Some found) ty h = (found, refl, h)

-- the same of the type at a place of another list
out_found : (ports : List Ports) (q j : ℕ) (ty : SigType)
    → option_and_then (λ (its : Ports). slice_get its.outs j) (slice_get ports q) ≡ Some ty
    → (its : Ports) × (slice_get ports q ≡ Some its) × (slice_get its.outs j ≡ Some ty)
out_found ports q j ty h = by (slice_get ports q) refl h
  where
    by : (found : Option Ports)
        → slice_get ports q ≡ found
        → option_and_then (λ (its : Ports). slice_get its.outs j) found ≡ Some ty
        → (its : Ports) × (slice_get ports q ≡ Some its) × (slice_get its.outs j ≡ Some ty)
    by None is h = absurd (cc)
    by (Some its) is h = (its, is, h)

-- wires to input words of these types
zip_widths : (R : Wire → SigType → Type 0) (T : Wire → ℕ → Type 0) (P : Wire → Type 0)
    → ((wire : Wire) (ty : SigType) → P wire → IsType ty → R wire ty → T wire (width_of ty))
    → (wires : List Wire) (types : List SigType)
    → All P wires
    → All IsType types
    → AllZip R wires types
    → AllZip T wires (map width_of types)
zip_widths R T P each [] [] ps ts all = tt
zip_widths R T P each [] (ty ∷ types) ps ts all = absurd all
zip_widths R T P each (wire ∷ wires) [] ps ts all = absurd all
zip_widths R T P each (wire ∷ wires) (ty ∷ types) ps ts all = (
  each wire ty (All-head P wire wires ps) (All-head IsType ty types ts) all.0,
  zip_widths R T P each wires types (All-tail P wire wires ps) (All-tail IsType ty types ts) all.1,
)

module _ (file : NetFile) (allowed : IsNetFile file) (plans : List ProcPlan)
    (count : length plans ≡ length file.procs) (prepared : All IsPrepared plans)
    (joints : IsClear (faults (joint_rules file.procs (ports_of plans)))) (stream : Rows)
    (valid : IsStream (row_channels file plans) stream) (few : length stream < 2 ^ 47) where
  abbrev parts : Parts
  parts = net_parts file (images_of plans) stream

  abbrev ports : List Ports
  ports = ports_of plans

  images_count : length (images_of plans) ≡ length plans
  images_count = length-map plans (λ its. its.image)

  -- processor p
  module _ (p : ℕ) (its : ProcPlan) (there : slice_get plans p ≡ Some its) where
    image_is : image_of parts p ≡ its.image
    image_is = get_or-map_at (λ (x : ProcPlan). x.image) plans p its no_image there

    its_prepared : IsPrepared its
    its_prepared = All-contains IsPrepared plans its prepared (contains_at plans p its there)

    inputs_are : inputs_at ports p ≡ input_types its.program
    inputs_are =
        ap (λ (x : Ports). x.inputs)
        (get_or-map_at (λ (x : ProcPlan). program_ports x.program) plans p its no_ports there)

    -- over rows in its ranges, the words that it puts are in the types of its output words
    in_types : (rows puts : Rows) (j : ℕ) (ty : SigType)
        → IsStreamFor its.image rows
        → IsRunOut (microprogram_of its.image) rows puts
        → slice_get (output_types its.program) j ≡ Some ty
        → All (λ (row : List ℤ). IsInType ty (get_or row j (pos 0))) puts
    in_types rows puts j ty ranged run at =
        let row_valid = its_prepared.streams rows ranged in
        let (words, one, ran) = its_prepared.runs rows row_valid in
        let same : out its.program words (length rows) ≡ puts = ran.put ∙ sym run.put in
        All-weaker (IsOutputRow its.program) (λ (row : List ℤ). IsInType ty (get_or row j (pos 0)))
        (λ row typed. zip_at IsInType (output_types its.program) row j ty (pos 0) typed at) puts
        (subst (All (IsOutputRow its.program)) same (its_prepared.typed.rows rows words row_valid one.solves))

  -- word j of the net's row
  row_word : (j : ℕ) (row : List ℤ)
      → j < file.inputs
      → IsRow (row_channels file plans) row
      → (j < length row) × IsInChannel (channel_of (word_width (net_type j file.procs ports))) (get_or row j (pos 0))
  row_word j row h is =
      let channel = λ (k : ℕ). channel_of (word_width (net_type k file.procs ports)) in
      let wide : length (row_channels file plans) ≡ file.inputs = length-map-range_with_len channel 0 file.inputs in
      let inside : j < length (row_channels file plans) = omega (arith, h, wide) in
      let at : slice_get (row_channels file plans) j ≡ Some (channel j) =
      slice_get-get_or (row_channels file plans) j (channel j) inside
      ∙ ap (λ (c : Channel). Some c)
      (get_or-map-range_with_len channel 0 file.inputs j j (channel j) h (omega arith)) in (
        omega (arith, h, wide, zip_length IsInChannel (row_channels file plans) row is),
        zip_at IsInChannel (row_channels file plans) row j (channel j) (pos 0) is at,
      )

  wire_fits : (p : ℕ) (wire : Wire) (ty : SigType)
      → p < length plans
      → IsWire file.inputs p wire
      → IsType ty
      → FitTypes file.procs ports wire ty
      → Fits parts p wire (width_of ty)
  wire_fits p (Input j) ty inside is sound fit =
      let (found, source, alike) = two_fit (net_type j file.procs ports) ty fit in
      let width : word_width (net_type j file.procs ports) ≡ width_of ty =
      ap word_width source ∙ alike_width found ty alike ∙ same_width ty in (
        All-weaker (IsRow (row_channels file plans)) (λ (row : List ℤ). j < length row)
            (λ row h. (row_word j row is h).0) stream valid,
        All-weaker (IsRow (row_channels file plans))
            (λ (row : List ℤ). IsInChannel (channel_of (width_of ty)) (get_or row j (pos 0)))
            (λ row h.
            subst (λ (w : ℕ). IsInChannel (channel_of w) (get_or row j (pos 0))) width (row_word j row is h).1) stream
            valid,
      )
  wire_fits p (From q j) ty inside is sound fit =
      let (found, source, alike) = two_fit _ ty fit in
      let (own, own_is, out_is) = out_found ports q j found source in
      let (its, there, ports_are) = map_from (λ (x : ProcPlan). program_ports x.program) plans q own own_is in
      let typed : slice_get (output_types its.program) j ≡ Some found =
      subst (λ (x : Ports). slice_get x.outs j ≡ Some found) (sym ports_are) out_is in
      let outs : j < its.image.outs =
      omega (arith, slice_get_within (output_types its.program) j found typed, (its_prepared q its there).outs) in (
        is.0,
        subst (λ (image : Image). j < image.outs) (sym (image_is q its there)) outs,
        λ rows puts ranged run.
            All-weaker (λ (row : List ℤ). IsInType found (get_or row j (pos 0)))
            (λ (row : List ℤ). IsInChannel (channel_of (width_of ty)) (get_or row j (pos 0)))
            (λ row h. in_range ty (get_or row j (pos 0)) sound (alike_type found ty (get_or row j (pos 0)) alike h))
            puts
            (in_types q its there rows puts j found
            (subst (λ (image : Image). IsStreamFor image rows) (image_is q its there) ranged)
            (subst (λ (image : Image). IsRunOut (microprogram_of image) rows puts) (image_is q its there) run) typed),
      )

  is_part : (p : ℕ) → p < length (images_of plans) → IsPart parts p
  is_part p h =
      let inside : p < length plans = omega (arith, h, images_count) in
      let (its, there) = some_at plans p inside in
      let (proc, proc_is) = some_at file.procs p (omega (arith, inside, count)) in
      let own = its_prepared p its there in
      let feed : feed_to parts p ≡ proc.feed =
      get_or-map_at (λ (x : NetProc). x.feed) file.procs p proc [] proc_is in
      let allowed_proc : IsProc file.inputs p proc =
      subst (λ (n : ℕ). IsProc file.inputs n proc) (let e : 0 + p ≡ p = omega arith in e)
      (proc_at file.inputs 0 file.procs p proc allowed.procs proc_is) in
      let wires : AllZip (Fits parts p) proc.feed (map width_of (input_types its.program)) =
      zip_widths (FitTypes file.procs ports) (Fits parts p) (IsWire file.inputs p)
      (λ wire ty is sound fit. wire_fits p wire ty inside is sound fit) proc.feed (input_types its.program)
      allowed_proc.feed own.types
      (subst (λ (types : List SigType). AllZip (FitTypes file.procs ports) proc.feed types) (inputs_are p its there)
      (all_fit file.procs ports joints p proc proc_is)) in
      record {
        valid = subst IsValid (sym (image_is p its there)) own.valid;
        runs =
            subst RunsAll (sym (image_is p its there))
            (λ rows ranged. let (words, one, ran) = own.runs rows (own.streams rows ranged) in (_, ran));
        wires =
            subst (λ (feed_in : List Wire). AllZip (Fits parts p) feed_in (image_of parts p).inputs) (sym feed)
            (subst (AllZip (Fits parts p) proc.feed)
            (sym (ap (λ (image : Image). image.inputs) (image_is p its there) ∙ own.inputs)) wires);
      }

  -- so they are parts of a net
  pub are_parts : AreParts parts
  are_parts = record {
    count = (
      omega (arith, allowed.proc_count.0, count, images_count),
      omega (arith, allowed.proc_count.1, count, images_count),
    );
    feeds = length-map file.procs (λ proc. proc.feed) ∙ sym count ∙ sym images_count;
    capacity = allowed.capacity;
    samples = few;
    each = is_part;
  }

  -- and each program puts the rows of its solution
  pub is_solved : (puts : List Rows) → IsNetSolution parts puts → IsSolvedNet (programs_of plans) parts puts
  is_solved puts is = record {
    count = is.count ∙ images_count ∙ sym (length-map plans (λ its. its.program));
    solved = each;
  }
    where
      each : (p : ℕ) (program : Program)
          → slice_get (programs_of plans) p ≡ Some program
          → IsSolutionRows program (fed parts puts p) (get_or puts p [])
      each p program at =
          let (its, there, same) = map_from (λ (x : ProcPlan). x.program) plans p program at in
          let own = its_prepared p its there in
          let inside : p < length (images_of plans) =
          omega (arith, slice_get_within plans p its there, images_count) in
          let ranged : IsStreamFor its.image (fed parts puts p) =
          subst (λ (image : Image). IsStreamFor image (fed parts puts p)) (image_is p its there)
          (fed_valid parts are_parts puts p is inside) in
          let run : IsRunOut (microprogram_of its.image) (fed parts puts p) (get_or puts p []) =
          subst (λ (image : Image). IsRunOut (microprogram_of image) (fed parts puts p) (get_or puts p []))
          (image_is p its there) (is.runs p inside) in
          let (words, one, ran) = own.runs (fed parts puts p) (own.streams (fed parts puts p) ranged) in
          subst (λ (x : Program). IsSolutionRows x (fed parts puts p) (get_or puts p [])) same
          (record { words = words; one = one; puts_are = run.put ∙ sym ran.put })
