-- The reader of the issues of a word of version 2, unit by unit.
use Rattle.std.proofs.Common.{◌≡◌, ℕ, ◌<◌, ◌≤◌, inl, inr, List, [], ◌∷◌, ◌++◌, length, Some, Ok, refl, sym, ap, subst}
use Rattle.std.proofs.Common.{◌∙◌, arith, ◌==◌, eqb, cond}
use Rattle.std.proofs.lemmas.List.{append-nil}
use Rattle.std.specs.Prelude.{slice_get}
use Rattle.std.specs.List.{All, flat_map, filter, range_with_len}
use Rattle.std.proofs.lemmas.List.Elements.{All-nil, All-cons}
use Rattle.std.proofs.lemmas.Option.{slice_get-get_or, slice_get_within}
use Rattle.lists.proofs.Places.{some_is}
use Rattle.micro_image.specs.declared.image.Image.{Image}
use Rattle.micro_image.specs.declared.image.Issue.{Issue}
use Rattle.micro_image.specs.declared.image.UnitDesc.{UnitDesc}
use Rattle.micro_image.specs.Bits.{in_bits, issue_bits}
use Rattle.micro_image.specs.Fields.{nth, no_unit}
use Rattle.micro_image.specs.Form.{spelled_operation}
use Rattle.micro_image.specs.Valid.{IsIssueOn, IsIssue}
use Rattle.micro_bits.proofs.Bits.{IsDigits}
use Rattle.micro_file.specs.Private.Bits.{at_bits, number_at}
use Rattle.micro_file.specs.Private.Fields.{Reading}
use Rattle.micro_file.specs.Private.Hardware.{issue_on_at}
use Rattle.micro_file.specs.Private.PackedWords.{put_behind, slot_at, slots_at}
use Rattle.micro_file.proofs.BitsForm.{reads_bits}
use Rattle.micro_file.proofs.Flags.{IsFlag, flag_took, no_flag, a_flag, behind_each, last_behind}
use Rattle.micro_file.proofs.Groups.{TookGroup, ReadsGroup, groups_reader, group_reader, all_map}
use Rattle.micro_file.proofs.IssueOnReader.{HasFewWords, IsOn, issue_on_reader}
use Rattle.micro_file.proofs.Issues.{HasFiles, AllHave, UnitBelow, AreIssues, is_issue, some_and, rise_from}
use Rattle.micro_file.proofs.Issues.{rise_beside}
use Rattle.micro_file.proofs.Readers.{bit_values, ◌⨟◌, IsReader, such_reader, bound, ok_is}
use Rattle.micro_file.proofs.Several.{Grows, Whole, More, Rising, risen_all, risen_beside, grows_risen}

-- by the number of its unit
abbrev unit_of : Issue → ℕ
unit_of issue = issue.unit

module _ (image : Image) (few : HasFewWords image) (have : AllHave image) where
  -- an issue that may come behind those in front
  abbrev Next : List Issue → Issue → Type 0
  Next = Rising (IsIssue image) UnitBelow

  -- it is on the unit
  abbrev IsAt : ℕ → Issue → Type 0
  IsAt k issue = Unit {0} × (issue.unit ≡ k)

  -- it is on a unit before this one
  abbrev IsUnder : ℕ → Issue → Type 0
  IsUnder k issue = issue.unit < k

  module _ (k : ℕ) (lt : k < length image.units) where
    abbrev unit_k : UnitDesc
    unit_k = nth image.units k no_unit

    there : slice_get image.units k ≡ Some unit_k
    there = slice_get-get_or image.units k no_unit lt

    has : HasFiles unit_k
    has = have k no_unit lt

    -- an issue on the unit
    on_unit : IsReader bit_values (IsOn image k unit_k) (spelled_operation in_bits) (issue_on_at at_bits image k unit_k)
    on_unit = issue_on_reader reads_bits image few k unit_k has.registers has.count

    -- what stands behind the flag
    abbrev behind_flag : List Issue → ℕ × List ℕ → Reading (List Issue)
    behind_flag front flag =
        cond (eqb flag.0 0) (Ok (front, flag.1)) (put_behind front (issue_on_at at_bits image k unit_k flag.1))

    -- the issue is put behind those in front
    abbrev put : List Issue → Issue × List ℕ → Reading (List Issue)
    put front y = Ok (front ++ y.0 ∷ [], y.1)

    -- what a unit issues was taken
    slot_is : (front : List Issue) (left : List ℕ) (flag : ℕ × List ℕ) (x : List Issue × List ℕ)
        → All (IsUnder k) front
        → IsFlag left flag
        → behind_flag front flag ≡ Ok x
        → TookGroup Next (IsAt k) issue_bits front left x
    unfolding issue_bits
    slot_is front left flag x under (inl off) e =
        let same : (front, flag.1) ≡ x = ok_is (front, flag.1) x (rw off.0 at e) in
        subst (λ (p : List Issue × List ℕ). TookGroup Next (IsAt k) issue_bits front left p) same (record {
          back = [];
          whole = sym (append-nil front);
          each = All-nil (IsAt k);
          grows = Whole front;
          text = off.1;
        })
    slot_is front left flag x under (inr on) e =
        let step : put_behind front (issue_on_at at_bits image k unit_k flag.1) ≡ Ok x = rw on.0 at e in
        let s = bound (issue_on_at at_bits image k unit_k flag.1) (put front) x step in
        let t = on_unit.took flag.1 on.1.rest_fits s.0 s.1 in
        let at_k : s.0.0.unit ≡ k = t.allowed.unit_number in
        let next : Next front s.0.0 = (
          is_issue image k unit_k s.0.0 at_k there t.allowed.on,
          behind_each UnitBelow front s.0.0
              (all_map (IsUnder k) (λ y. y.unit < s.0.0.unit) front (λ y less. omega (arith, less, at_k)) under),
        ) in
        subst (λ (p : List Issue × List ℕ). TookGroup Next (IsAt k) issue_bits front left p)
        (ok_is (front ++ s.0.0 ∷ [], s.0.1) x s.2) (record {
          back = s.0.0 ∷ [];
          whole = refl;
          each = All-cons (IsAt k) s.0.0 [] (tt, at_k) (All-nil (IsAt k));
          grows = More front s.0.0 [] next (Whole (front ++ s.0.0 ∷ []));
          text = on.1 ⨟ t.text;
        })

    slot_took : (front : List Issue) (left : List ℕ)
        → All (IsUnder k) front
        → IsDigits bit_values left
        → (x : List Issue × List ℕ)
        → slot_at image front k left ≡ Ok x
        → TookGroup Next (IsAt k) issue_bits front left x
    unfolding slot_at
    slot_took front left under fits x e =
        let s = bound (number_at 1 left) (behind_flag front) x e in
        slot_is front left s.0 x under (flag_took left fits s.0 s.1) s.2

    -- and is read again
    slot_again : (front back : List Issue) (rest : List ℕ)
        → All (IsAt k) back
        → Grows Next front back
        → slot_at image front k (issue_bits back ++ rest) ≡ Ok (front ++ back, rest)
    unfolding slot_at issue_bits
    slot_again front [] rest all g =
        rw (no_flag rest) (ap (λ (xs : List Issue). Ok (xs, rest)) (sym (append-nil front)))
    slot_again front (x ∷ []) rest all (More _ _ _ next g) =
        let is = some_and (IsIssueOn (length image.inputs) image.outs x) (slice_get image.units x.unit) next.0 in
        let at_k : x.unit ≡ k = (all 0 x (omega arith)).1 in
        let same : is.0 ≡ unit_k =
        some_is is.0 unit_k (sym is.1 ∙ ap (slice_get image.units) at_k ∙ there) in
        let on : IsIssueOn (length image.inputs) image.outs x unit_k =
        subst (IsIssueOn (length image.inputs) image.outs x) same is.2 in
        rw (
          a_flag (spelled_operation in_bits x ++ rest),
          on_unit.again x rest (record { unit_number = at_k; on = on }),
        )
        refl
    slot_again front (x ∷ y ∷ ys) rest all (More _ _ _ next (More _ _ _ second g)) =
        let above : x.unit < y.unit = rw (last_behind front x) at (second.1) in
        absurd (omega (arith, above, (all 0 x (omega arith)).1, (all 1 x (omega arith)).1))

    -- what a unit issues
    slot_reader : ReadsGroup Next (IsUnder k) (IsAt k) issue_bits (λ front. slot_at image front k)
    slot_reader = record { took = slot_took; again = slot_again }

  -- the units of issues rise
  mounts : (front : List Issue) (x y : Issue)
      → Next (front ++ x ∷ []) y
      → Unit {0}
      → Unit {0}
      → x.unit ≤ y.unit
  mounts front x y next a b =
      let above : x.unit < y.unit = rw (last_behind front x) at (next.1) in
      omega (arith, above)

  -- an issue's unit is there
  has_unit : (issue : Issue) → IsIssue image issue → issue.unit < length image.units
  has_unit issue is =
      let there = some_and (IsIssueOn (length image.inputs) image.outs issue) (slice_get image.units issue.unit) is in
      slice_get_within image.units issue.unit there.0 there.1

  -- the issues of a word
  pub slots_reader :
      IsReader bit_values (AreIssues image) (λ issues.
      flat_map (λ u. issue_bits (filter (λ issue. issue.unit == u) issues)) (range_with_len 0 (length image.units)))
      (slots_at image)
  unfolding slots_at
  slots_reader =
      such_reader
      (λ issues h. (
        risen_all (IsIssue image) UnitBelow issues h.1,
        rise_from issues (risen_beside (IsIssue image) UnitBelow issues h.1),
      ))
      (λ issues h. (
        all_map (IsIssue image) (λ issue. Unit {0} × (issue.unit < length image.units)) issues
            (λ issue is. (tt, has_unit issue is)) h.0,
        grows_risen (IsIssue image) UnitBelow issues h.0 (rise_beside issues h.1),
      ))
      (group_reader
      (groups_reader unit_of (λ _. Unit {0}) IsUnder Next (λ _. issue_bits) (slot_at image) (length image.units)
      (λ issue _. omega arith) (λ k issue less. omega (arith, less)) mounts slot_reader))
