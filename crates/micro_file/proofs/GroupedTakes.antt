-- The reader of the takes of a word of version 2, unit by unit and file by file.
use Rattle.std.proofs.Common.{◌≡◌, ◌==◌, eqb, cond, ℕ, zero, suc, ◌+◌, ◌-◌, ◌^◌, ◌<◌, ◌≤◌, inl, inr, List, [], ◌∷◌}
use Rattle.std.proofs.Common.{◌++◌, length, Some, Ok, ℤ, refl, sym, ap, ap₂, subst, ◌∙◌, append_assoc, arith}
use Rattle.std.specs.Prelude.{slice_get}
use Rattle.std.specs.List.{All, flat_map, filter, range_with_len}
use Rattle.std.proofs.lemmas.List.{append-nil, length-append}
use Rattle.std.proofs.lemmas.List.Concat.{flat_map-cons}
use Rattle.std.proofs.lemmas.List.Elements.{All-nil, All-cons, All-tail}
use Rattle.std.proofs.lemmas.Option.{slice_get-get_or, slice_get_within, get_or_from_slice_get}
use Rattle.operations.specs.declared.units.PortRef.{PortRef}
use Rattle.micro_image.specs.declared.image.Image.{Image}
use Rattle.micro_image.specs.declared.image.Take.{Take}
use Rattle.micro_image.specs.declared.image.UnitDesc.{UnitDesc}
use Rattle.micro_image.specs.Bits.{bits, take_bits, takes_bits, ports_bits}
use Rattle.micro_image.specs.Fields.{nth, no_unit}
use Rattle.micro_image.specs.Valid.{IsTake, IsRegister, HasRegister, TakeBefore}
use Rattle.micro_bits.proofs.Bits.{IsDigits}
use Rattle.micro_file.specs.Private.Bits.{number_at, number_below}
use Rattle.micro_file.specs.Private.Fields.{Reading, ◌>>=◌, kept, refused, last_of}
use Rattle.micro_file.specs.Private.Order.{is_next, take_before}
use Rattle.micro_file.specs.Private.PackedWords.{most_takes, taken_at, takes_at, file_takes_at, unit_takes_at}
use Rattle.micro_file.specs.Private.PackedWords.{word_takes_at}
use Rattle.micro_file.proofs.BitLeaves.{below_reader}
use Rattle.micro_file.proofs.Flags.{IsFlag, flag_took, no_flag, a_flag, last_behind}
use Rattle.micro_file.proofs.Groups.{TookGroup, ReadsGroup, such_group, groups_reader, group_reader, all_map}
use Rattle.micro_file.proofs.Issues.{AllHave, some_and}
use Rattle.micro_file.proofs.Readers.{bit_values, Takes, ◌⨟◌, IsReader, such_reader, bound, was_kept, ok_is, joined}
use Rattle.micro_file.proofs.Readers.{well}
use Rattle.micro_file.proofs.Several.{Grows, Whole, More, Behind, Rising, risen_all, risen_beside, grows_risen}
use Rattle.micro_file.proofs.Steps.{bound2, joined2}
use Rattle.micro_file.proofs.Transfers.{AreTakes, next_sound, next_whole, take_sound, take_whole, is_register}

-- ---- values of which there are not too many

module _ {A : Type 0} (Next : List A → A → Type 0) (most : ℕ) where
  -- it is allowed, and there is room for it
  abbrev HasRoom : List A → A → Type 0
  HasRoom front x = Next front x × (length front < most)

  -- there is room for values that are not too many
  has_room : (front xs : List A)
      → Grows Next front xs
      → length front + length xs ≤ most
      → Grows HasRoom front xs
  has_room front [] g few = Whole front
  has_room front (x ∷ xs) (More _ _ _ next g) few =
      More front x xs (next, omega (arith, few))
      (has_room (front ++ x ∷ []) xs g (omega (arith, few, length-append front (x ∷ []))))

  -- values for which there was room are not too many
  had_room : (front xs : List A)
      → Grows HasRoom front xs
      → length front ≤ most
      → Grows Next front xs × (length front + length xs ≤ most)
  had_room front [] g few = (Whole front, omega (arith, few))
  had_room front (x ∷ xs) (More _ _ _ next g) few =
      let size = length-append front (x ∷ []) in
      let more = had_room (front ++ x ∷ []) xs g (omega (arith, next.1, size)) in
      (More front x xs next.0 more.0, omega (arith, more.1, size))

-- ---- takes

-- by the number of its unit
abbrev unit_of : Take → ℕ
unit_of take = take.port.unit

-- by its port
abbrev port_of : Take → ℕ
port_of take = take.port.port

-- a take, and those behind it
takes_more : (take : Take) (takes : List Take) → takes_bits (take ∷ takes) ≡ take_bits take ++ takes_bits takes
unfolding takes_bits
takes_more take takes =
    ap (λ (t : List ℕ). t ++ 0 ∷ []) (flat_map-cons take_bits take takes)
    ∙ append_assoc (take_bits take) (flat_map take_bits takes) (0 ∷ [])

module _ (image : Image) (have : AllHave image) (few_buses : image.buses ≤ 32) where
  -- a take that may come behind those in front, and if there is room for it
  abbrev Rises : List Take → Take → Type 0
  Rises = Rising (IsTake image) TakeBefore

  abbrev Next : List Take → Take → Type 0
  Next = HasRoom Rises most_takes

  -- a take comes after the one in front of it
  comes_after : (front : List Take) (x y : Take) → Next (front ++ x ∷ []) y → TakeBefore x y
  comes_after front x y next = rw (last_behind front x) at (next.0.1)

  abbrev unit_at : ℕ → UnitDesc
  unit_at u = nth image.units u no_unit

  abbrev file_at : ℕ → ℕ → List ℤ
  file_at u p = nth (unit_at u).files p []

  -- its unit has the port
  abbrev HasPort : Take → Type 0
  HasPort take = take.port.port < length (unit_at take.port.unit).files

  abbrev IsOf : ℕ → Take → Type 0
  IsOf u take = take.port.unit ≡ u

  module _ (u : ℕ) (there : u < length image.units) (p : ℕ) (there_too : p < length (unit_at u).files) where
    abbrev this_port : PortRef
    this_port = record { unit = u; port = p }

    abbrev size : ℕ
    size = length (file_at u p)

    abbrev made : ℕ → ℕ → Take
    made bus reg = record { port = this_port; bus = bus; reg = reg }

    -- it is into the file
    abbrev IsAt : Take → Type 0
    IsAt take = IsOf u take × (take.port.port ≡ p)

    unit_there : slice_get image.units u ≡ Some (unit_at u)
    unit_there = slice_get-get_or image.units u no_unit there

    file_there : slice_get (unit_at u).files p ≡ Some (file_at u p)
    file_there = slice_get-get_or (unit_at u).files p [] there_too

    few_registers : size ≤ 2 ^ 8
    few_registers = omega (arith, (have u no_unit there).registers p there_too)

    buses_reader : IsReader bit_values (λ n. n < image.buses) (bits 5) (number_below 5 image.buses)
    buses_reader = below_reader 5 image.buses (omega (arith, few_buses))

    registers_reader : IsReader bit_values (λ n. n < size) (bits 8) (number_below 8 size)
    registers_reader = below_reader 8 size few_registers

    -- a take into the file has its port, a bus and a register
    is_made : (take : Take) → IsAt take → made take.bus take.reg ≡ take
    is_made take is =
        ap₂ (λ (a b : ℕ). record { port = record { unit = a; port = b }; bus = take.bus; reg = take.reg }) (sym is.0)
        (sym is.1)

    register_there : (reg : ℕ) → IsRegister image this_port reg → reg < size
    register_there reg is = rw (unit_there, file_there) at is

    register_of : (take : Take) → IsAt take → IsTake image take → take.reg < size
    register_of take is ok =
        register_there take.reg
        (subst (λ (t : Take). IsRegister image t.port take.reg) (sym (is_made take is)) ok.register)

    -- ---- a take behind its flag

    record Taken (front : List Take) (left : List ℕ) (x : Take × List ℕ) : Type 0 where
      is : IsAt x.0
      rises : Rises front x.0
      text : Takes bit_values left (bits 5 x.0.bus ++ bits 8 x.0.reg) x.1

    abbrev register_behind : ℕ × List ℕ → Reading ℕ
    register_behind bus = number_below 8 size bus.1

    abbrev whole_take : List Take → List ℕ → ℕ × List ℕ → ℕ × List ℕ → Reading Take
    whole_take front flag bus reg =
        kept flag (is_next take_before (last_of front) (made bus.0 reg.0)) (made bus.0 reg.0, reg.1)

    -- a take was taken
    taken_took : (front : List Take) (flag left : List ℕ)
        → IsDigits bit_values left
        → (x : Take × List ℕ)
        → taken_at image this_port size front flag left ≡ Ok x
        → Taken front left x
    unfolding taken_at
    taken_took front flag left fits x e =
        let s = bound2 (number_below 5 image.buses left) register_behind (whole_take front flag) x e in
        let bus = buses_reader.took left fits s.0 s.2 in
        let reg = registers_reader.took s.0.1 bus.text.rest_fits s.1 s.3 in
        let take = made s.0.0 s.1.0 in
        let k = was_kept flag (is_next take_before (last_of front) take) (take, s.1.1) x s.4 in
        subst (λ (y : Take × List ℕ). Taken front left y) k.1 (record {
          is = (refl, refl);
          rises = (
            record {
              register = is_register image take (unit_at u) (file_at u p) unit_there file_there reg.allowed;
              bus = bus.allowed;
            },
            next_sound take_before TakeBefore take_sound (last_of front) take k.0,
          );
          text = bus.text ⨟ reg.text;
        })

    -- and is read again
    made_again : (front : List Take) (flag rest : List ℕ) (bus reg : ℕ)
        → bus < image.buses
        → reg < size
        → Behind TakeBefore (last_of front) (made bus reg)
        → taken_at image this_port size front flag (bits 5 bus ++ (bits 8 reg ++ rest)) ≡ Ok (made bus reg, rest)
    unfolding taken_at
    made_again front flag rest bus reg bus_lt reg_lt behind =
        joined2 (number_below 5 image.buses (bits 5 bus ++ (bits 8 reg ++ rest))) register_behind
        (whole_take front flag) (bus, bits 8 reg ++ rest) (reg, rest)
        (buses_reader.again bus (bits 8 reg ++ rest) bus_lt) (registers_reader.again reg rest reg_lt)
        ∙ rw (next_whole take_before TakeBefore take_whole (last_of front) (made bus reg) behind) refl

    taken_again : (front : List Take) (flag rest : List ℕ) (take : Take)
        → IsAt take
        → Rises front take
        → taken_at image this_port size front flag (bits 5 take.bus ++ (bits 8 take.reg ++ rest)) ≡ Ok (take, rest)
    taken_again front flag rest take is rises =
        let same = is_made take is in
        made_again front flag rest take.bus take.reg rises.0.bus (register_of take is rises.0)
        (subst (λ (t : Take). Behind TakeBefore (last_of front) t) (sym same) rises.1)
        ∙ ap (λ (t : Take). Ok (t, rest)) same

    -- ---- the takes into a file

    -- no take more
    ended : (front : List Take) (left rest : List ℕ) (x : List Take × List ℕ)
        → Takes bit_values left (0 ∷ []) rest
        → well (front, rest) ≡ Ok x
        → TookGroup Next IsAt takes_bits front left x
    unfolding takes_bits
    ended front left rest x off e =
        let none : TookGroup Next IsAt takes_bits front left (front, rest) = record {
          back = [];
          whole = sym (append-nil front);
          each = All-nil IsAt;
          grows = Whole front;
          text = off;
        } in
        subst (λ (y : List Take × List ℕ). TookGroup Next IsAt takes_bits front left y) (ok_is (front, rest) x e) none

    -- a take, and more of them
    one_more : (front : List Take) (left after : List ℕ) (take : Take × List ℕ) (x : List Take × List ℕ)
        → length front < most_takes
        → Takes bit_values left (1 ∷ []) after
        → Taken front after take
        → TookGroup Next IsAt takes_bits (front ++ take.0 ∷ []) take.1 x
        → TookGroup Next IsAt takes_bits front left x
    unfolding take_bits
    one_more front left after take x room on taken more =
        let text : Takes bit_values left (take_bits take.0 ++ takes_bits more.back) x.1 =
        on ⨟ taken.text ⨟ more.text in
        record {
          back = take.0 ∷ more.back;
          whole = more.whole ∙ append_assoc front (take.0 ∷ []) more.back;
          each = All-cons IsAt take.0 more.back taken.is more.each;
          grows = More front take.0 more.back (taken.rises, room) more.grows;
          text = rw (takes_more take.0 more.back) text;
        }

    abbrev no_room : List Take → List ℕ → ℕ × List ℕ → Reading (List Take)
    no_room front left flag = cond (eqb flag.0 0) (Ok (front, flag.1)) (refused left)

    abbrev more_takes : ℕ → List Take → Take × List ℕ → Reading (List Take)
    more_takes room front take = takes_at image this_port size room (front ++ take.0 ∷ []) take.1

    abbrev some_room : ℕ → List Take → List ℕ → ℕ × List ℕ → Reading (List Take)
    some_room room front left flag =
        cond (eqb flag.0 0) (Ok (front, flag.1))
        (taken_at image this_port size front left flag.1 >>= more_takes room front)

    -- takes were taken
    no_room_took : (front : List Take) (left : List ℕ) (flag : ℕ × List ℕ) (x : List Take × List ℕ)
        → IsFlag left flag
        → no_room front left flag ≡ Ok x
        → TookGroup Next IsAt takes_bits front left x
    no_room_took front left flag x (inl off) e =
        ended front left flag.1 x off.1 (rw off.0 at e)
    no_room_took front left flag x (inr on) e = absurd (is_refused (rw on.0 at e))
      where
        is_refused : refused left ≡ Ok x → ⊥
        is_refused e = absurd cc

    takes_took : (room : ℕ) (front : List Take) (left : List ℕ)
        → most_takes - length front ≡ room
        → IsDigits bit_values left
        → (x : List Take × List ℕ)
        → takes_at image this_port size room front left ≡ Ok x
        → TookGroup Next IsAt takes_bits front left x
    unfolding takes_at
    takes_took zero front left same fits x e =
        let s = bound (number_at 1 left) (no_room front left) x e in
        no_room_took front left s.0 x (flag_took left fits s.0 s.1) s.2
    takes_took (suc room) front left same fits x e =
        let s = bound (number_at 1 left) (some_room room front left) x e in
        by s.0 (flag_took left fits s.0 s.1) s.2
        (λ take taken go.
        takes_took room (front ++ take.0 ∷ []) take.1 (omega (arith, same, length-append front (take.0 ∷ [])))
        taken.text.rest_fits x go)
      where
        by : (flag : ℕ × List ℕ)
            → IsFlag left flag
            → some_room room front left flag ≡ Ok x
            → ((take : Take × List ℕ)
            → Taken front flag.1 take
            → more_takes room front take ≡ Ok x
            → TookGroup Next IsAt takes_bits (front ++ take.0 ∷ []) take.1 x)
            → TookGroup Next IsAt takes_bits front left x
        by flag (inl off) e more =
            ended front left flag.1 x off.1 (rw off.0 at e)
        by flag (inr on) e more =
            let s =
            bound (taken_at image this_port size front left flag.1) (more_takes room front) x (rw on.0 at e) in
            let taken = taken_took front left flag.1 on.1.rest_fits s.0 s.1 in
            one_more front left flag.1 s.0 x (omega (arith, same)) on.1 taken (more s.0 taken s.2)

    -- and are read again
    takes_again : (room : ℕ) (front back : List Take) (rest : List ℕ)
        → most_takes - length front ≡ room
        → All IsAt back
        → Grows Next front back
        → takes_at image this_port size room front (takes_bits back ++ rest) ≡ Ok (front ++ back, rest)
    unfolding takes_at takes_bits take_bits
    takes_again zero front [] rest same all g =
        rw (no_flag rest) (ap (λ (xs : List Take). Ok (xs, rest)) (sym (append-nil front)))
    takes_again (suc room) front [] rest same all g =
        rw (no_flag rest) (ap (λ (xs : List Take). Ok (xs, rest)) (sym (append-nil front)))
    takes_again zero front (x ∷ xs) rest same all (More _ _ _ next g) = absurd (omega (arith, same, next.1))
    takes_again (suc room) front (x ∷ xs) rest same all (More _ _ _ next g) =
        let B = bits 5 x.bus in
        let R = bits 8 x.reg in
        let more = takes_bits xs ++ rest in
        let texts : takes_bits (x ∷ xs) ++ rest ≡ 1 ∷ (B ++ (R ++ more)) =
        ap (λ (t : List ℕ). t ++ rest) (takes_more x xs)
        ∙ append_assoc (take_bits x) (takes_bits xs) rest
        ∙ ap (λ (t : List ℕ). 1 ∷ t) (append_assoc B R more) in
        let left = 1 ∷ (B ++ (R ++ more)) in
        let head : taken_at image this_port size front left (B ++ (R ++ more)) ≡ Ok (x, more) =
        taken_again front left more x (all 0 x (omega arith)) next.0 in
        let flag : takes_at image this_port size (suc room) front left
        ≡ (taken_at image this_port size front left (B ++ (R ++ more)) >>= more_takes room front) =
        rw (a_flag (B ++ (R ++ more))) refl in
        ap (takes_at image this_port size (suc room) front) texts ∙ flag
        ∙ joined (taken_at image this_port size front left (B ++ (R ++ more))) (more_takes room front) (x, more)
        (Ok (front ++ x ∷ xs, rest)) head
        (takes_again room (front ++ x ∷ []) xs rest (omega (arith, same, length-append front (x ∷ [])))
        (All-tail IsAt x xs all) g
        ∙ ap (λ (ys : List Take). Ok (ys, rest)) (append_assoc front (x ∷ []) xs))

    -- the takes into a file
    file_reader : ReadsGroup Next (λ _. Unit {0}) IsAt takes_bits (λ front. file_takes_at image u front p)
    unfolding file_takes_at
    file_reader = record {
      took = λ front left all fits x e. takes_took (most_takes - length front) front left refl fits x e;
      again = λ front back rest all g. takes_again (most_takes - length front) front back rest refl all g;
    }

  -- ---- the takes into the files of a unit, and of all units

  module _ (u : ℕ) (there : u < length image.units) where
    -- the ports of a unit's takes rise
    mounts : (front : List Take) (x y : Take)
        → Next (front ++ x ∷ []) y
        → IsOf u x
        → IsOf u y
        → x.port.port ≤ y.port.port
    mounts front x y next first second = omega (arith, comes_after front x y next, first, second)

    abbrev ports_of : ℕ
    ports_of = length (unit_at u).files

    -- the takes into the files of a unit
    unit_reader :
        ReadsGroup Next (λ _. Unit {0}) (λ take. HasPort take × IsOf u take) (ports_bits ports_of)
        (λ front. unit_takes_at image front u)
    unfolding unit_takes_at ports_bits
    unit_reader =
        such_group (λ take h. h)
        (λ take is. (
          subst (λ (k : ℕ). take.port.port < length (unit_at k).files) (sym is.0) is.1,
          is.0,
        ))
        (λ take is. (is.1, subst (λ (k : ℕ). take.port.port < length (unit_at k).files) is.1 is.0))
        (groups_reader port_of (IsOf u) (λ _ _. Unit {0}) Next (λ _. takes_bits) (file_takes_at image u) ports_of
        (λ take is. tt) (λ k take is. tt) mounts (file_reader u there))

  -- the units of takes rise
  unit_mounts : (front : List Take) (x y : Take)
      → Next (front ++ x ∷ []) y
      → HasPort x
      → HasPort y
      → x.port.unit ≤ y.port.unit
  unit_mounts front x y next first second = omega (arith, comes_after front x y next)

  -- a take's unit is there, and its port
  has_both : (take : Take) → IsTake image take → HasPort take × (take.port.unit < length image.units)
  has_both take is =
      let unit =
      some_and (λ (unit : UnitDesc). HasRegister unit take.port.port take.reg) (slice_get image.units take.port.unit)
      is.register in
      let file =
      some_and (λ (file : List ℤ). take.reg < length file) (slice_get unit.0.files take.port.port) unit.2 in
      let same : unit_at take.port.unit ≡ unit.0 =
      get_or_from_slice_get image.units take.port.unit unit.0 no_unit unit.1 in
      let has : take.port.port < length unit.0.files =
      slice_get_within unit.0.files take.port.port file.0 file.1 in (
        subst (λ (d : UnitDesc). take.port.port < length d.files) (sym same) has,
        slice_get_within image.units take.port.unit unit.0 unit.1,
      )

  -- the takes of a word
  pub word_takes_reader :
      IsReader bit_values (AreTakes image) (λ takes.
      flat_map
      (λ u. ports_bits (length (nth image.units u no_unit).files) (filter (λ take. take.port.unit == u) takes))
      (range_with_len 0 (length image.units)))
      (word_takes_at image)
  unfolding word_takes_at
  word_takes_reader =
      such_reader
      (λ takes h.
      let room = had_room Rises most_takes [] takes h.1 (omega arith) in (
        (omega arith, omega (arith, room.1)),
        risen_all (IsTake image) TakeBefore takes room.0,
        risen_beside (IsTake image) TakeBefore takes room.0,
      ))
      (λ takes h. (
        all_map (IsTake image) (λ take. HasPort take × (take.port.unit < length image.units)) takes has_both h.1,
        has_room Rises most_takes [] takes (grows_risen (IsTake image) TakeBefore takes h.1 h.2)
            (omega (arith, h.0)),
      ))
      (group_reader
      (groups_reader unit_of HasPort (λ _ _. Unit {0}) Next (λ u. ports_bits (length (unit_at u).files))
      (unit_takes_at image) (length image.units) (λ take is. tt) (λ k take is. tt) unit_mounts unit_reader))
