-- The units of each kind, and those to whose ports a bus leads from each unit.
use Rattle.std.proofs.Common.{◌≡◌, ◌↔◌, ◌∙◌, sym, ap, subst, arith, ⊎_elim, ℕ, ◌+◌, ◌*◌, ◌/◌, ◌%◌, ◌<◌, ◌≤◌, List, []}
use Rattle.std.proofs.Common.{◌∷◌, ◌++◌, length, slice_index_or}
use Rattle.std.proofs.lemmas.Bool.{cases_lt}
use Rattle.std.proofs.lemmas.List.{get_or_append_left, get_or_push, get_or_read, length_push}
use Rattle.operations.specs.declared.units.Kind.{Kind}
use Rattle.operations.specs.declared.units.Kind.TheVariants as kind
use Rattle.datapath.specs.declared.types.Datapath.{Datapath}
use Rattle.plan_core.specs.Hardware.{port_of, HasRoute, IsOfKind}
use Rattle.unit_assign.specs.Private.UnitSets.{Has, none_of_32, set_at}
use Rattle.unit_assign.specs.Private.Kinds.{set_of, AreKinds}
use Rattle.unit_assign.specs.Private.Drivers.{most_ports, place, AreDrivers}
use Rattle.unit_assign.specs.Private.Wiring.{AreTakers}
use Rattle.unit_assign.specs.declared.kinds.Kinds.{Kinds}
use Rattle.bit_sets.specs.declared.set32.Set32.{Set32}

abbrev IsKindSet : Datapath → Kind → Set32 → Type 0
IsKindSet d unit_kind set = (u : ℕ) → Has set u ↔ IsOfKind d unit_kind u

pub are_kinds : (d : Datapath) (kinds : Kinds)
    → IsKindSet d kind.Input kinds.input
    → IsKindSet d kind.Output kinds.output
    → IsKindSet d kind.Rom kinds.rom
    → IsKindSet d kind.Alu kinds.alu
    → IsKindSet d kind.Mul kinds.mul
    → IsKindSet d kind.Sel kinds.sel
    → IsKindSet d kind.Ram kinds.ram
    → IsKindSet d kind.Acu kinds.acu
    → AreKinds d kinds
are_kinds d kinds input output rom alu mul sel ram acu = record { each = by }
  where
    by : (unit_kind : Kind) → IsKindSet d unit_kind (set_of kinds unit_kind)
    by kind.Input = input
    by kind.Output = output
    by kind.Rom = rom
    by kind.Alu = alu
    by kind.Mul = mul
    by kind.Sel = sel
    by kind.Ram = ram
    by kind.Acu = acu

pub takers_none : (d : Datapath) → AreTakers d 0 []
takers_none d = record { count = omega arith; takers = λ unit port u within few. absurd (omega arith) }

module _ (d : Datapath) (drivers : List Set32) (are : AreDrivers d drivers) (n : ℕ) (old new : List Set32)
    (set : Set32) (within : n < length d.units * most_ports) (before : AreTakers d n old)
    (pushed : new ≡ old ++ set ∷ [])
    (set_is : (u : ℕ) → Has set u
    ↔ ((u < length d.units) × Has (set_at drivers (place u (n % 3))) (n / 3))) where
  abbrev Takes : (unit port u : ℕ) → Set32 → Type 0
  Takes unit port u all = Has all u ↔ ((u < length d.units) × HasRoute d unit (port_of u port))

  last : (unit port u : ℕ) → port < most_ports → place unit port ≡ n → Takes unit port u set
  last unit port u few at =
      let unit_is : n / 3 ≡ unit = omega arith in
      let port_is : n % 3 ≡ port = omega arith in
      let its : Has set u ↔ ((u < length d.units) × Has (set_at drivers (place u port)) unit) =
      subst (λ (x : ℕ). Has set u ↔ ((u < length d.units) × Has (set_at drivers (place u port)) x)) unit_is
      (subst (λ (q : ℕ). Has set u ↔ ((u < length d.units) × Has (set_at drivers (place u q)) (n / 3))) port_is
      (set_is u)) in (
        λ h. let two = its.0 h in (two.0, (are.drivers u port unit two.0 few).0 two.1),
        λ h. its.1 (h.0, (are.drivers u port unit h.0 few).1 h.1),
      )

  pub takers_more : AreTakers d (n + 1) new
  takers_more = record {
    count = ap length pushed ∙ length_push old set ∙ ap (λ (k : ℕ). k + 1) before.count;
    takers = λ unit port u inside few.
        subst (λ (sets : List Set32). Takes unit port u (set_at sets (place unit port))) (sym pushed)
        (⊎_elim
        (λ (less : place unit port < n).
        subst (Takes unit port u)
        (sym (get_or_append_left old (set ∷ []) none_of_32 (place unit port) (let c = before.count in omega arith)))
        (before.takers unit port u less few))
        (λ (more : n ≤ place unit port).
        let at : place unit port ≡ n = omega arith in
        subst (Takes unit port u)
        (sym (get_or_push old set none_of_32 (place unit port) (before.count ∙ sym at)))
        (last unit port u few at))
        (cases_lt (place unit port) n));
  }

pub takers_at : (d : Datapath) (sets : List Set32) (unit port at : ℕ) (item : Set32)
    → AreTakers d (length d.units * most_ports) sets
    → unit < length d.units
    → port < most_ports
    → at ≡ place unit port
    → item ≡ slice_index_or sets at item
    → (u : ℕ)
    → u < length d.units
    → Has item u ↔ HasRoute d unit (port_of u port)
takers_at d sets unit port at item are there few at_is item_is u inside =
    let count = are.count in
    let read : item ≡ set_at sets (place unit port) =
    get_or_read sets at item (omega arith) item_is none_of_32 ∙ ap (λ (k : ℕ). set_at sets k) at_is in
    let its = are.takers unit port u (omega arith) few in
    subst (λ (s : Set32). Has s u ↔ HasRoute d unit (port_of u port)) (sym read)
    (λ h. (its.0 h).1, λ h. its.1 (inside, h))
