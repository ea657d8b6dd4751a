-- The reader of the enables of a word of version 2, unit by unit and bus by bus.
use Rattle.std.proofs.Common.{◌≡◌, ℕ, zero, suc, ◌+◌, ◌*◌, ◌<◌, ◌≤◌, inl, inr, List, [], ◌∷◌, ◌++◌, length, Ok, refl}
use Rattle.std.proofs.Common.{sym, ap, subst, arith, ◌==◌, eqb, cond, get_or}
use Rattle.std.specs.List.{All, AllAdjacentBelow, flat_map, filter, range_with_len}
use Rattle.std.proofs.lemmas.List.{append-nil}
use Rattle.std.proofs.lemmas.List.Elements.{All-nil, All-cons}
use Rattle.micro_image.specs.declared.image.Enable.{Enable}
use Rattle.micro_image.specs.declared.image.Image.{Image}
use Rattle.micro_image.specs.Bits.{enable_bit, enable_bits}
use Rattle.micro_image.specs.Valid.{IsEnable, EnableBefore, LexBelow}
use Rattle.micro_bits.proofs.Bits.{IsDigits}
use Rattle.micro_file.specs.Private.Bits.{number_at}
use Rattle.micro_file.specs.Private.Fields.{Reading}
use Rattle.micro_file.specs.Private.PackedWords.{drive_at, unit_drives_at, drives_at}
use Rattle.micro_file.proofs.Flags.{IsFlag, flag_took, no_flag, a_flag, behind_each, last_behind}
use Rattle.micro_file.proofs.Groups.{TookGroup, ReadsGroup, such_group, groups_reader, group_reader, all_map}
use Rattle.micro_file.proofs.Readers.{bit_values, IsReader, such_reader, bound, ok_is}
use Rattle.micro_file.proofs.Several.{Grows, Whole, More, Rising, risen_all, risen_beside, grows_risen}
use Rattle.micro_file.proofs.Transfers.{AreEnables}

-- by the number of its unit
abbrev unit_of : Enable → ℕ
unit_of enable = enable.unit

-- by the number of its bus
abbrev bus_of : Enable → ℕ
bus_of enable = enable.bus

module _ (image : Image) where
  -- an enable that may come behind those in front
  abbrev Next : List Enable → Enable → Type 0
  Next = Rising (IsEnable image) EnableBefore

  -- those of a bus
  abbrev bit_of : ℕ → List Enable → List ℕ
  bit_of bus enables = enable_bit enables ∷ []

  -- an enable comes after the one in front of it
  comes_after : (front : List Enable) (x y : Enable) → Next (front ++ x ∷ []) y → EnableBefore x y
  comes_after front x y next = rw (last_behind front x) at (next.1)

  module _ (u : ℕ) (there : u < length image.units) where
    -- it is of the unit
    abbrev IsOf : Enable → Type 0
    IsOf enable = enable.unit ≡ u

    -- it is of a unit before this one, or of a bus before this one
    abbrev IsUnder : ℕ → Enable → Type 0
    IsUnder bus enable = LexBelow enable.unit u (enable.bus < bus)

    -- it drives the bus from the unit
    abbrev IsAt : ℕ → Enable → Type 0
    IsAt bus enable = IsOf enable × (enable.bus ≡ bus)

    module _ (bus : ℕ) (lt : bus < image.buses) where
      abbrev this : Enable
      this = record { unit = u; bus = bus }

      abbrev behind_flag : List Enable → ℕ × List ℕ → Reading (List Enable)
      behind_flag front flag = Ok (cond (eqb flag.0 0) front (front ++ this ∷ []), flag.1)

      -- whether a unit drives a bus was taken
      drive_is : (front : List Enable) (left : List ℕ) (flag : ℕ × List ℕ) (x : List Enable × List ℕ)
          → All (IsUnder bus) front
          → IsFlag left flag
          → behind_flag front flag ≡ Ok x
          → TookGroup Next (IsAt bus) (bit_of bus) front left x
      drive_is front left flag x under (inl off) e =
          subst (λ (p : List Enable × List ℕ). TookGroup Next (IsAt bus) (bit_of bus) front left p)
          (ok_is (front, flag.1) x (rw off.0 at e)) (record {
            back = [];
            whole = sym (append-nil front);
            each = All-nil (IsAt bus);
            grows = Whole front;
            text = off.1;
          })
      drive_is front left flag x under (inr on) e =
          let next : Next front this = (
            record { unit = there; bus = lt },
            behind_each EnableBefore front this under,
          ) in
          subst (λ (p : List Enable × List ℕ). TookGroup Next (IsAt bus) (bit_of bus) front left p)
          (ok_is (front ++ this ∷ [], flag.1) x (rw on.0 at e)) (record {
            back = this ∷ [];
            whole = refl;
            each = All-cons (IsAt bus) this [] (refl, refl) (All-nil (IsAt bus));
            grows = More front this [] next (Whole (front ++ this ∷ []));
            text = on.1;
          })

      drive_took : (front : List Enable) (left : List ℕ)
          → All (IsUnder bus) front
          → IsDigits bit_values left
          → (x : List Enable × List ℕ)
          → drive_at u front bus left ≡ Ok x
          → TookGroup Next (IsAt bus) (bit_of bus) front left x
      unfolding drive_at
      drive_took front left under fits x e =
          let s = bound (number_at 1 left) (behind_flag front) x e in
          drive_is front left s.0 x under (flag_took left fits s.0 s.1) s.2

      -- and is read again
      drive_again : (front back : List Enable) (rest : List ℕ)
          → All (IsAt bus) back
          → Grows Next front back
          → drive_at u front bus (bit_of bus back ++ rest) ≡ Ok (front ++ back, rest)
      unfolding drive_at
      drive_again front [] rest all g =
          rw (no_flag rest) (ap (λ (xs : List Enable). Ok (xs, rest)) (sym (append-nil front)))
      drive_again front (x ∷ []) rest all g =
          let at = all 0 x (omega arith) in
          rw (a_flag rest, at.0, at.1) refl
      drive_again front (x ∷ y ∷ ys) rest all (More _ _ _ next (More _ _ _ second g)) =
          absurd
          (omega (arith, comes_after front x y second, (all 0 x (omega arith)), (all 1 x (omega arith))))

      -- whether a unit drives a bus
      drive_reader : ReadsGroup Next (IsUnder bus) (IsAt bus) (bit_of bus) (λ front. drive_at u front bus)
      drive_reader = record { took = drive_took; again = drive_again }

    -- an enable is in front of the next buses'
    passed : (enable : Enable) → IsOf enable → IsUnder (enable.bus + 1) enable
    passed enable is = inr (is, omega arith)

    stays : (k : ℕ) (enable : Enable) → IsUnder k enable → IsUnder (k + 1) enable
    stays k enable (inl lt) = inl lt
    stays k enable (inr at) = inr (at.0, omega (arith, at.1))

    -- the buses of a unit's enables rise
    mounts : (front : List Enable) (x y : Enable)
        → Next (front ++ x ∷ []) y
        → IsOf x
        → IsOf y
        → x.bus ≤ y.bus
    mounts front x y next first second = omega (arith, comes_after front x y next, first, second)

    -- the enables of the unit
    unit_reader :
        ReadsGroup Next (λ enable. enable.unit < u) (λ enable. (enable.bus < image.buses) × (enable.unit ≡ u))
        (enable_bits image.buses) (λ front. unit_drives_at image front u)
    unfolding unit_drives_at enable_bits
    unit_reader =
        such_group (λ enable lt. inl lt) (λ enable is. (is.1, is.0)) (λ enable is. (is.1, is.0))
        (groups_reader bus_of IsOf IsUnder Next bit_of (drive_at u) image.buses passed stays mounts drive_reader)

  -- the units of enables rise
  unit_mounts : (front : List Enable) (x y : Enable)
      → Next (front ++ x ∷ []) y
      → x.bus < image.buses
      → y.bus < image.buses
      → x.unit ≤ y.unit
  unit_mounts front x y next first second = omega (arith, comes_after front x y next)

  -- an enable's number is at least its place
  past_place : (enables : List Enable)
      → image.buses ≤ 32
      → All (IsEnable image) enables
      → AllAdjacentBelow EnableBefore enables (length enables)
      → (k : ℕ) (d : Enable)
      → k < length enables
      → k ≤ 32 * (get_or enables k d).unit + (get_or enables k d).bus
  past_place enables few all rise zero d lt = omega arith
  past_place enables few all rise (suc k) d lt =
      let same : k + 1 ≡ suc k = omega arith in
      let before : EnableBefore (get_or enables k d) (get_or enables (k + 1) d) = rise k d (omega (arith, lt)) in
      let step : EnableBefore (get_or enables k d) (get_or enables (suc k) d) =
      subst (λ (j : ℕ). EnableBefore (get_or enables k d) (get_or enables j d)) same before in
      omega (
        arith,
        step,
        few,
        (all k d (omega (arith, lt))).bus,
        past_place enables few all rise k d (omega (arith, lt)),
      )

  -- a word has at most 1024 enables
  enable_count : (enables : List Enable)
      → image.buses ≤ 32
      → length image.units ≤ 32
      → All (IsEnable image) enables
      → AllAdjacentBelow EnableBefore enables (length enables)
      → length enables ≤ 1024
  enable_count [] few units all rise = omega arith
  enable_count (x ∷ xs) few units all rise =
      let last = past_place (x ∷ xs) few all rise (length xs) x (omega arith) in
      let is = all (length xs) x (omega arith) in
      omega (arith, last, few, units, is.unit, is.bus)

  -- the enables of a word
  pub drives_reader : (image.buses ≤ 32) × (length image.units ≤ 32)
      → IsReader bit_values (AreEnables image) (λ enables.
      flat_map (λ u. enable_bits image.buses (filter (λ enable. enable.unit == u) enables))
      (range_with_len 0 (length image.units)))
      (drives_at image)
  unfolding drives_at
  drives_reader few =
      such_reader
      (λ enables h.
      let all = risen_all (IsEnable image) EnableBefore enables h.1 in
      let rise = risen_beside (IsEnable image) EnableBefore enables h.1 in
      ((omega arith, enable_count enables few.0 few.1 all rise), all, rise))
      (λ enables h. (
        all_map (IsEnable image) (λ enable. (enable.bus < image.buses) × (enable.unit < length image.units)) enables
            (λ enable is. (is.bus, is.unit)) h.1,
        grows_risen (IsEnable image) EnableBefore enables h.1 h.2,
      ))
      (group_reader
      (groups_reader unit_of (λ enable. enable.bus < image.buses) (λ k enable. enable.unit < k) Next
      (λ _. enable_bits image.buses) (unit_drives_at image) (length image.units)
      (λ enable _. omega arith) (λ k enable less. omega (arith, less)) unit_mounts unit_reader))
