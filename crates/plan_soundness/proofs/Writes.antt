-- What a cycle of the run writes is the live words that are written then, and all places hold what is wanted of them.
use Rattle.std.proofs.Common.{◌≡◌, ℕ, ◌+◌, ◌-◌, ◌*◌, ◌%◌, ◌<◌, ◌≤◌, nat_le, refl, sym, ap, ap₂, ◌∙◌, arith, List, []}
use Rattle.std.proofs.Common.{◌∷◌, length, ℤ, Bool, true, false, Option, Some, None, subst, if◌then◌else◌}
use Rattle.std.specs.List.{range_with_len}
use Rattle.std.proofs.Math.Nat.{add-mul, mod-mod_of_dvd, dvd_of_mod-eq-zero, add-mod, zero-add, mod-mod}
use Rattle.lists.specs.Rows.{Rows}
use Rattle.fix_word.specs.declared.operation.Op.{Op}
use Rattle.fix_word.specs.declared.operation.Op.TheVariants as op
use Rattle.operations.specs.Ranges.{to_nat}
use Rattle.operations.specs.declared.units.PortRef.{PortRef}
use Rattle.datapath.specs.declared.types.Datapath.{Datapath}
use Rattle.plan_core.specs.Hardware.{latency_on}
use Rattle.plan_core.specs.declared.plan.Plan.{Plan}
use Rattle.micro_image.specs.declared.image.Enable.{Enable}
use Rattle.micro_image.specs.declared.image.Issue.{Issue}
use Rattle.micro_image.specs.declared.image.Take.{Take}
use Rattle.micro_image.specs.Fields.{Microprogram, nth, unit_of, issue_at, driver_at, began, ending}
use Rattle.micro_image.specs.Log.{Place, Register, Latch, Cell, Entry, same_place, Log, operand, value, entries_by}
use Rattle.micro_image.specs.Log.{entry_of, taken, taken_from, written, written_of, written_by, result_by}
use Rattle.micro_image.proofs.Each.{In, here, Each, none, more, Each-append, Each-flat_map}
use Rattle.plan_soundness.specs.Parts.{nodes_of, node_at, unit_at, cycle_at, arc_at, line_at, register_at, ends_at}
use Rattle.plan_soundness.specs.Samples.{past}
use Rattle.plan_soundness.specs.Overlap.{Overlap, shift_of}
use Rattle.plan_soundness.specs.Memory.{store_of, StoresTo}
use Rattle.plan_soundness.specs.Private.Solution.{Counted, LoweredSolves}
use Rattle.plan_soundness.specs.Feasible.{IsFeasibleOver, IsFeasibleArc}
use Rattle.plan_soundness.specs.Executes.{ExecutesOver, IsIssueIn, IsTakeIn, register_in}
use Rattle.plan_soundness.proofs.Elements.{Contains-from_In}
use Rattle.plan_soundness.proofs.Samples.{below_count}
use Rattle.plan_soundness.proofs.Slots.{right}
use Rattle.plan_soundness.proofs.LiveWords.{LiveWord, in_register, in_cell, in_latch, place_of, written_at, word_of}
use Rattle.plan_soundness.proofs.LiveWords.{stored_in, stored_late}
use Rattle.plan_soundness.proofs.ReadsRight.{AllRight, near_now, issue_right, store_right, store_place, result_right}

-- places that test as one are one
pub same_sound : (a b : Place) → same_place a b ≡ true → a ≡ b
same_sound (Register u p r) (Register v q s) h = grind (arith, h)
same_sound (Register u p r) (Cell v c) h = absurd (cc)
same_sound (Register u p r) (Latch j) h = absurd (cc)
same_sound (Cell u c) (Register v q s) h = absurd (cc)
same_sound (Cell u c) (Cell v d) h = grind (arith, h)
same_sound (Cell u c) (Latch j) h = absurd (cc)
same_sound (Latch j) (Register v q s) h = absurd (cc)
same_sound (Latch j) (Cell v d) h = absurd (cc)
same_sound (Latch j) (Latch k) h = grind (arith, h)

pub same_self : (a : Place) → same_place a a ≡ true
same_self (Register u p r) = grind arith
same_self (Cell u c) = grind arith
same_self (Latch j) = grind arith

pub not_same : (a b : Place) (same : Bool) → same_place a b ≡ same → (a ≡ b → ⊥) → same_place a b ≡ false
not_same a b true is other = absurd (other (same_sound a b is))
not_same a b false is other = is

-- `past` counts as 0 where copies are counted
pub in_turn : (copies unroll n : ℕ)
    → unroll % copies ≡ 0
    → past % unroll ≡ 0
    → (past + n) % copies ≡ n % copies
in_turn copies unroll n divides turns =
    let none : past % copies ≡ 0 =
    sym (mod-mod_of_dvd copies past (dvd_of_mod-eq-zero copies divides)) ∙ ap (λ m. m % copies) turns ∙ grind arith in
    add-mod past n copies
    ∙ ap (λ m. (m + n % copies) % copies) none
    ∙ ap (λ m. m % copies) (zero-add (n % copies))
    ∙ mod-mod n copies

pub from_past : (s : ℕ) → past ≤ s → s ≡ past + (s - past)
from_past s from = omega arith

one_of : {A : Type 0} (P : A → Type 0) {xs ys : List A} → xs ≡ ys → Each P ys → Each P xs
one_of P e each = subst (Each P) (sym e) each

pub in_one : {A : Type 0} (x : A) (xs : List A) → xs ≡ x ∷ [] → In x xs
in_one x xs e = subst (In x) (sym e) here

pub some_same : {A : Type 0} (a b : A) (o : Option A) → o ≡ Some a → o ≡ Some b → a ≡ b
some_same a b o e f = cc

-- a write of a cycle, from a unit
abbrev pub write : Place → (cycle unit : ℕ) → ℤ → Entry
write place cycle unit value = record { place = place; cycle = cycle; unit = unit; value = value }

pub output_no_address : (o : Op) → o ≡ op.Output → o ≡ op.Addr → ⊥
output_no_address o e f = absurd (cc)

output_no_store : (o : Op) → o ≡ op.Output → o ≡ op.Store → ⊥
output_no_store o e f = absurd (cc)

module _ {o : Overlap} (d : Datapath) (p : Plan) (words : Counted) (plan : IsFeasibleOver o d p) (micro : Microprogram)
    (z stream : Rows) (runs : ExecutesOver o d p micro) (solves : LoweredSolves d p stream words)
    (rows : (n c : ℕ) → c < d.period → nth z (n * d.period + c) [] ≡ nth stream n []) where
  abbrev RightAt : ℕ → Type 0
  RightAt t = AllRight d p words plan micro z stream runs solves rows t

  -- the write of cycle t is of a live word that is written then
  pub record IsOfWord (t : ℕ) (e : Entry) : Type 0 where
    pub live : LiveWord o p
    pub starts : written_at o d p words live ≡ past * d.period + t
    pub place : e.place ≡ place_of o d p words live
    pub value : e.value ≡ word_of o d p words live

  taken_is : (log : List Entry) (t : ℕ) (take : Take) (driver : Enable) (v : ℤ)
      → driver_at micro t take.bus ≡ Some driver
      → result_by micro z log t driver.unit ≡ Some v
      → taken micro z log t take ≡ write (Register take.port.unit take.port.port take.reg) t driver.unit v ∷ []
  taken_is log t take driver v drives result =
      ap (taken_from micro z log t take) drives
      ∙ ap (entry_of (Register take.port.unit take.port.port take.reg) t driver.unit) result

  -- the word of a lifetime in sample n
  abbrev pub live_in : (k n : ℕ) → k < length p.arcs → LiveWord o p
  live_in k n there = in_register k (past + n) there (omega (arith, plan.first))

  -- the write of a take
  pub taken_word : (k n t : ℕ) (take : Take) (there : k < length p.arcs)
      → n < length stream
      → t ≡ n * d.period + ends_at d p (arc_at p k).node
      → RightAt t
      → IsTakeIn d p micro k n t take
      → (u : ℕ)
      × (taken micro z (Log micro z t) t take
      ≡ write (place_of o d p words (live_in k n there)) t u (words (arc_at p k).node (past + n)) ∷ [])
  taken_word k n t take in-k in-n at right is =
      let driver = is.driver.0 in
      let arc : IsFeasibleArc d p k = plan.arcs k in-k in
      let result : result_by micro z (Log micro z t) t driver.unit ≡ Some (words (arc_at p k).node (past + n)) =
      ap (result_by micro z (Log micro z t) t) is.driver.2
      ∙ subst
      (λ t. result_by micro z (Log micro z t) t (unit_at p (arc_at p k).node)
      ≡ Some (words (arc_at p k).node (past + n)))
      (sym at)
      (result_right d p words plan micro z stream runs solves rows (arc_at p k).node n (subst RightAt at right) arc.node
      in-n arc.result) in
      let reg : take.reg ≡ register_in d p k (past + n) =
      is.reg
      ∙ ap (register_at p k)
      (sym (in_turn (arc_at p k).copies p.unroll (n + shift_of d p k) arc.lifetime.turns plan.turns)
      ∙ ap (λ s. s % (arc_at p k).copies) (behind n (shift_of d p k))) in
      let place : Register take.port.unit take.port.port take.reg ≡ place_of o d p words (live_in k n in-k) =
      ap₂ (λ (port : PortRef) (r : ℕ). Register port.unit port.port r) is.port reg in (
        driver.unit,
        taken_is (Log micro z t) t take driver _ is.driver.1 result
            ∙ ap (λ place. write place t driver.unit (words (arc_at p k).node (past + n)) ∷ []) place,
      )
    where
      behind : (n shift : ℕ) → past + (n + shift) ≡ past + n + shift
      behind n shift = omega arith

  start_of : (w n t : ℕ) → t ≡ n * d.period + w → w + (past + n) * d.period ≡ past * d.period + t
  start_of w n t at =
      let whole : (past + n) * d.period ≡ past * d.period + n * d.period = add-mul past n d.period in omega arith

  -- the write of a lifetime is that of the end of its node
  pub take_start : (k n t : ℕ)
      → k < length p.arcs
      → t ≡ n * d.period + ends_at d p (arc_at p k).node
      → (arc_at p k).w + (past + n + shift_of d p k) * d.period ≡ past * d.period + t
  take_start k n t in-k at =
      omega (
        arith,
        at,
        (plan.arcs k in-k).written,
        add-mul (past + n) (shift_of d p k) d.period,
        add-mul past n d.period,
      )

  take_each : (t : ℕ) (take : Take)
      → t < length stream * d.period
      → RightAt t
      → In take (micro.word_at t).takes
      → Each (IsOfWord t) (taken micro z (Log micro z t) t take)
  take_each t take below right in-word =
      let only = runs.take_only t take (Contains-from_In in-word) in
      let k : ℕ = only.0 in
      let n : ℕ = only.1 in
      let in-k : k < length p.arcs = only.2 in
      let at : t ≡ n * d.period + ends_at d p (arc_at p k).node = only.3 in
      let in-n : n < length stream = below_count n d.period t (length stream) (omega (arith, at)) below in
      let made = taken_word k n t take in-k in-n at right only.4 in
      one_of (IsOfWord t) made.1
      (more (record {
        live = live_in k n in-k;
        starts = take_start k n t in-k at;
        place = refl;
        value = refl;
      }) none)

  written_each_by : (o : Op) (log : List Entry) (t b : ℕ) (issue : Issue) (P : Entry → Type 0)
      → (o ≡ op.Output → P (write (Latch (to_nat issue.arg)) t issue.unit (value micro z log b issue)))
      → (o ≡ op.Store
      → P (write (Cell issue.unit (to_nat (operand micro log b issue 0))) t issue.unit (value micro z log b issue)))
      → Each P (written_by o micro z log t b issue)
  written_each_by op.Output log t b issue P latch cell = more (latch refl) none
  written_each_by op.Store log t b issue P latch cell = more (cell refl) none
  written_each_by _ log t b issue P latch cell = none

  -- an issue that ends in cycle t is that of node v in sample n
  pub record EndsAs (t u : ℕ) (issue : Issue) (v n : ℕ) : Type 0 where
    pub node : v < length (nodes_of p)
    pub unit : unit_at p v ≡ u
    pub at : t ≡ n * d.period + ends_at d p v
    pub is : IsIssueIn d p micro v n issue
    pub begun : began micro t u ≡ n * d.period + cycle_at p v

  ends_as : (t u : ℕ) (issue : Issue)
      → ending micro t u ≡ Some issue
      → (v : ℕ) × (n : ℕ) × EndsAs t u issue v n
  ends_as t u issue e = by (nat_le back t) refl e
    where
      back : ℕ
      back = (unit_of micro u).latency - 1

      by : (b : Bool)
          → nat_le back t ≡ b
          → (if b then issue_at micro (t - back) u else None) ≡ Some issue
          → (v : ℕ) × (n : ℕ) × EndsAs t u issue v n
      by false le at = absurd (cc)
      by true le at =
          let from : back ≤ t = grind (arith, le) in
          let b : ℕ = t - back in
          let only = runs.issue_only b u issue at in
          let v : ℕ = only.0 in
          let n : ℕ = only.1 in
          let in-v : v < length (nodes_of p) = only.2 in
          let unit : unit_at p v ≡ u = only.3 in
          let begun : b ≡ n * d.period + cycle_at p v = only.4 in
          let latency : back ≡ latency_on d (unit_at p v) - 1 =
          ap (λ l. l - 1) (runs.latency u) ∙ ap (λ u. latency_on d u - 1) (sym unit) in
          let its = runs.issue v n in-v in
          let same : its.0 ≡ issue =
          some_same its.0 issue (issue_at micro b u) (ap₂ (issue_at micro) begun (sym unit) ∙ its.1) at in (
            v,
            n,
            record {
              node = in-v;
              unit = unit;
              at = omega arith;
              is = subst (IsIssueIn d p micro v n) same its.2;
              begun = begun;
            },
          )

  store_start : (l v n t : ℕ)
      → store_of (line_at p l) ≡ v
      → t ≡ n * d.period + ends_at d p v
      → stored_in (past + n) (ends_at d p (store_of (line_at p l))) + (past + n) * d.period ≡ past * d.period + t
  store_start l v n t its at =
      let late : stored_in (past + n) (ends_at d p (store_of (line_at p l))) ≡ ends_at d p (store_of (line_at p l)) =
      stored_late (past + n) (ends_at d p (store_of (line_at p l))) (omega arith) in
      omega (arith, late, ap (ends_at d p) its, at, add-mul past n d.period)

  written_each : (t u : ℕ) (e : Option Issue)
      → t < length stream * d.period
      → RightAt t
      → ending micro t u ≡ e
      → Each (IsOfWord t) (written_of micro z (Log micro z t) t (began micro t u) e)
  written_each t u None below right e = none
  written_each t u (Some issue) below right e =
      let ends = ends_as t u issue e in
      let v : ℕ = ends.0 in
      let n : ℕ = ends.1 in
      let as' : EndsAs t u issue v n = ends.2 in
      let in-v : v < length (nodes_of p) = as'.node in
      let at : t ≡ n * d.period + ends_at d p v = as'.at in
      let is : IsIssueIn d p micro v n issue = as'.is in
      let in-n : n < length stream = below_count n d.period t (length stream) (omega arith) below in
      written_each_by issue.op (Log micro z t) t (began micro t u) issue (IsOfWord t)
      (λ output. record {
        live = in_latch v (past + n) in-v (sym is.op ∙ output) (omega arith);
        starts = start_of (ends_at d p v) n t at;
        place = ap (λ a. Latch (to_nat a))
            (is.arg (output_no_address (node_at p v).op (sym is.op ∙ output)));
        value = ap (λ b. value micro z (Log micro z t) b issue) as'.begun
            ∙ issue_right d p words plan micro z stream runs solves rows t v n issue right in-v in-n
            (output_no_store (node_at p v).op (sym is.op ∙ output)) is (omega arith);
      })
      (λ store.
      let stores = plan.memory.stores v in-v (sym is.op ∙ store) in
      let l : ℕ = stores.0 in
      let to : StoresTo d p v l = stores.1 in
      record {
        live = in_cell l (past + n) to.there (near_now n (line_at p l).depth);
        starts = store_start l v n t to.its_number at;
        place = ap (λ b. Cell issue.unit (to_nat (operand micro (Log micro z t) b issue 0))) as'.begun
            ∙ store_place d p words plan micro z stream runs solves rows t v n l issue right in-v in-n to is
            (omega arith);
        value = ap (λ b. value micro z (Log micro z t) b issue) as'.begun
            ∙ store_right d p words plan micro z stream runs solves rows t v n l issue right in-v in-n to is
            (omega arith);
      })

  -- each write of a cycle is of a live word that is written then
  pub writes_of_words : (t : ℕ)
      → t < length stream * d.period
      → RightAt t
      → Each (IsOfWord t) (entries_by micro z (Log micro z t) t)
  unfolding entries_by
  writes_of_words t below right =
      Each-append
      (Each-flat_map (IsOfWord t) (taken micro z (Log micro z t) t) (micro.word_at t).takes
      (λ take in-word. take_each t take below right in-word))
      (Each-flat_map (IsOfWord t) (written micro z (Log micro z t) t) (range_with_len 0 (length micro.units))
      (λ u in-units. written_each t u (ending micro t u) below right refl))
