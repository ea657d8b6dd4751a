-- Transfers that are taken one by one.
use Rattle.std.proofs.Common.{◌≡◌, ◌≢◌, ◌∙◌, ℕ, ◌+◌, ◌<◌, ◌⊎◌, ◌↔◌, List, [], ◌∷◌, ◌++◌, length, take, map, get_or}
use Rattle.std.proofs.Common.{arith, sym, ap, ap₂, subst, ⊎_elim, inl, inr}
use Rattle.std.specs.List.{All}
use Rattle.std.proofs.lemmas.Bool.{cases_eq}
use Rattle.std.proofs.lemmas.List.{take-take, take_more, get_or-take, length-take, map-append}
use Rattle.std.proofs.lemmas.List.Elements.{All-more, All-take}
use Rattle.operations.specs.declared.units.PortRef.{PortRef}
use Rattle.plan_core.specs.Hardware.{port_of}
use Rattle.plan_core.specs.declared.schedule.Transfer.{Transfer}
use Rattle.bus_alloc.specs.Sets.{mark}
use Rattle.bus_alloc.specs.Private.Rows.{IsPortIn, file_row, bus_words}
use Rattle.bus_alloc.specs.Private.Taking.{TakesTransfer, TakesTransfers}
use Rattle.bus_alloc.specs.declared.rows.Rows.{Rows}

-- two ports are the same, or not
pub cases_port : (p q : PortRef) → (p ≡ q) ⊎ (p ≢ q)
cases_port p q = elim (cases_eq p.unit q.unit) [
  | inl unit ↦ elim (cases_eq p.port q.port) [
    | inl port ↦ inl (ap₂ (λ (u n : ℕ). port_of u n) unit port)
    | inr other ↦ inr (λ same. other (ap (λ (r : PortRef). r.port) same))
  ]
  | inr other ↦ inr (λ same. other (ap (λ (r : PortRef). r.unit) same))
]

-- the bits of what transfers take in a cycle, one more transfer
module _ {Key : Type 0} (key : Transfer → Key) (cases_key : (a b : Key) → (a ≡ b) ⊎ (a ≢ b)) (IsIn : Key → Type 0)
    (old between new : Key → ℕ → ℕ) (transfers : List Transfer) (cycle : ℕ) where
  -- where it is in none of the transfers
  AreOthers : List Transfer → (w : ℕ) → Key → Type 0
  AreOthers ts w x = w ≡ cycle → All (λ (transfer : Transfer). key transfer ≢ x) ts

  module _ (k : ℕ) (d : Transfer) (within : k < length transfers)
      (before : (x : Key) (w : ℕ) → IsIn x → (between x w ≡ 0)
      ↔ ((old x w ≡ 0) × (w ≡ cycle → All (λ (transfer : Transfer). key transfer ≢ x) (take k transfers))))
      (here : new (key (get_or transfers k d)) cycle ≡ 1)
      (else : (x : Key) (w : ℕ) → IsIn x → (x ≢ key (get_or transfers k d)) ⊎ (w ≢ cycle) → new x w ≡ between x w) where
    not_here : (x : Key) (w : ℕ) → new x w ≡ 0 → w ≡ cycle → key (get_or transfers k d) ≢ x
    not_here x w zero at same =
        let one : new x w ≡ 1 = subst (λ (v : ℕ). new x v ≡ 1) (sym at) (subst (λ (y : Key). new y cycle ≡ 1) same
        here) in
        omega (arith, zero, one)

    unchanged : (x : Key) (w : ℕ) → IsIn x → (w ≡ cycle → key (get_or transfers k d) ≢ x) → new x w ≡ between x w
    unchanged x w is_in differ = ⊎_elim (λ at. else x w is_in (inl (λ same. differ at (sym same)))) (λ other. else x
        w is_in (inr other)) (cases_eq w cycle)

    pub bits_more : (x : Key) (w : ℕ)
        → IsIn x
        → (new x w ≡ 0)
        ↔ ((old x w ≡ 0) × (w ≡ cycle → All (λ (transfer : Transfer). key transfer ≢ x) (take (k + 1) transfers)))
    bits_more x w is_in = (
      λ zero.
          let was = (before x w is_in).0 (sym (unchanged x w is_in (not_here x w zero)) ∙ zero) in (
            was.0,
            λ at. All-more (λ (transfer : Transfer). key transfer ≢ x) transfers k d within (was.1 at)
                (not_here x w zero at),
          ),
      λ both. unchanged x w is_in (last x w both.1) ∙ (before x w is_in).1 (both.0, λ at. fewer x (both.1 at)),
    )
      where
        n : ℕ
        n = k + 1

        fewer : (x : Key)
            → All (λ (transfer : Transfer). key transfer ≢ x) (take (k + 1) transfers)
            → All (λ (transfer : Transfer). key transfer ≢ x) (take k transfers)
        fewer x all =
            subst (All (λ (transfer : Transfer). key transfer ≢ x)) (take-take k n transfers (omega arith))
            (All-take (λ (transfer : Transfer). key transfer ≢ x) k (take (k + 1) transfers) all)

        last : (x : Key) (w : ℕ)
            → (w ≡ cycle → All (λ (transfer : Transfer). key transfer ≢ x) (take (k + 1) transfers))
            → w ≡ cycle
            → key (get_or transfers k d) ≢ x
        last x w all at =
            subst (λ (t : Transfer). key t ≢ x) (get_or-take n transfers k d (omega arith))
            (all at k d (omega (arith, length-take {A = Transfer})))

pub takes_more : (old : Rows) (transfers : List Transfer) (k : ℕ) (d : Transfer) (cycle : ℕ) (between new : Rows)
    → k < length transfers
    → TakesTransfers old (take k transfers) cycle between
    → TakesTransfer between (get_or transfers k d) cycle new
    → TakesTransfers old (take (k + 1) transfers) cycle new
takes_more old transfers k d cycle between new within before one = record {
  period = one.period ∙ before.period;
  units = one.units ∙ before.units;
  files = one.files ∙ before.files;
  buses = one.buses ∙ before.buses;
  sources = λ port. one.sources port ∙ before.sources port;
  written = bits_more (λ (t : Transfer). t.port) cases_port (IsPortIn old) (λ port w. mark (file_row old
      port).written.words w)
      (λ port w. mark (file_row between port).written.words w) (λ port w. mark (file_row new port).written.words w)
      transfers cycle k d within before.written one.file_here
      (λ port w is_in. one.file_else port w (subst (λ units. (port.unit < length units) × (port.port < 3)) (sym
      before.units) is_in));
  used = λ b w. bits_more (λ (t : Transfer). t.bus) cases_eq (λ _. Unit {0}) (λ b w. mark (bus_words old b) w)
      (λ b w. mark (bus_words between b) w) (λ b w. mark (bus_words new b) w)
      transfers cycle k d within (λ b w _. before.used b w) one.bus_here (λ b w _. one.bus_else b w) b w tt;
}

-- the ports of transfers, one more transfer
pub ports_more : (transfers new : List Transfer) (dests : List PortRef) (k : ℕ) (d : PortRef) (bus : ℕ)
    → k < length dests
    → map (λ (t : Transfer). t.port) transfers ≡ take k dests
    → new ≡ transfers ++ record { port = get_or dests k d; bus = bus } ∷ []
    → map (λ (t : Transfer). t.port) new ≡ take (k + 1) dests
ports_more transfers new dests k d bus within so_far is =
    ap (map (λ (t : Transfer). t.port)) is
    ∙ map-append (λ (t : Transfer). t.port) transfers (record { port = get_or dests k d; bus = bus } ∷ [])
    ∙ ap (λ (ports : List PortRef). ports ++ get_or dests k d ∷ []) so_far
    ∙ sym (take_more dests k d within)
