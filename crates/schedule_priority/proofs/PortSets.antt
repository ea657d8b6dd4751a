-- The ports of a set, from the first on.
use Rattle.std.proofs.Common.{Result, Ok, Err, ◌≡◌, ◌∙◌, sym, ap, subst, arith, inl, inr, ⊎_elim, ℕ, ◌/◌, ◌%◌, ◌<◌, ◌≤◌}
use Rattle.std.proofs.Common.{List, [], ◌∷◌, ◌++◌, map, All}
use Rattle.std.specs.Prelude.{slice_index_or, OnErr}
use Rattle.std.proofs.lemmas.Bool.{cases_lt}
use Rattle.std.proofs.lemmas.List.{get_or_default, map-append}
use Rattle.std.proofs.lemmas.List.Elements.{All-map}
use Rattle.operations.specs.declared.units.PortRef.{PortRef}
use Rattle.bit_sets.specs.Bits.{Has, IsFirstOf}
use Rattle.bit_sets.proofs.Taking.{AreTaken, none_taken, one_taken, all_taken, pairs_map, contains_map}
use Rattle.plan_core.specs.ListSchedule.{IsPortBefore}
use Rattle.schedule_priority.specs.Private.Ports.{place, port_in, IsPortOf, ArePortsOf}

-- the ports that are not left any more
pub record IsListing (set left : ℕ) (ports : List PortRef) : Type 0 where
  pub numbers : List ℕ
  pub taken : AreTaken set left numbers
  pub are : ports ≡ map port_in numbers

pub none_listed : (set : ℕ) (ports : List PortRef) → ports ≡ [] → IsListing set set ports
none_listed set ports none = record { numbers = []; taken = none_taken set; are = none }

pub one_listed : (set old new : ℕ) (ports more : List PortRef) (k : ℕ)
    → IsListing set old ports
    → IsFirstOf old k new
    → more ≡ ports ++ port_in k ∷ []
    → IsListing set new more
one_listed set old new ports more k before takes is = record {
  numbers = before.numbers ++ k ∷ [];
  taken = one_taken set old new before.numbers k before.taken takes;
  are = is ∙ ap (λ (xs : List PortRef). xs ++ port_in k ∷ []) before.are
      ∙ sym (map-append port_in before.numbers (k ∷ []));
}

place_back : (k : ℕ) → place (k / 3) (k % 3) ≡ k
place_back k = omega arith

before_by : (j k : ℕ) → j < k → IsPortBefore (port_in j) (port_in k)
before_by j k less =
    ⊎_elim (λ (low : j / 3 < k / 3). inl low)
    (λ (not : k / 3 ≤ j / 3). inr (omega arith, omega arith))
    (cases_lt (j / 3) (k / 3))

is_port : (set k : ℕ) → Has set k → IsPortOf set (port_in k)
is_port set k h = record { number = omega arith; there = subst (Has set) (sym (place_back k)) h }

-- each is in the set
pub listed_in : (set left : ℕ) (ports : List PortRef) → IsListing set left ports → All (IsPortOf set) ports
listed_in set left ports is =
    subst (All (IsPortOf set)) (sym is.are)
    (All-map (IsPortOf set) port_in is.numbers
    (λ i d less. is_port set (slice_index_or is.numbers i d)
    (is.taken.only (slice_index_or is.numbers i d)
    (i, less, get_or_default is.numbers i (slice_index_or is.numbers i d) d less))))

-- also where memory ran out at one more
pub some_listed : {A E : Type 0} (r : Result A E) (set left : ℕ) (ports same : List PortRef)
    → IsListing set left ports
    → same ≡ ports
    → OnErr r (All (IsPortOf set) same)
some_listed (Ok x) set left ports same is kept = tt
some_listed (Err e) set left ports same is kept = subst (All (IsPortOf set)) (sym kept) (listed_in set left ports is)

pub all_listed : (set left : ℕ) (ports : List PortRef)
    → IsListing set left ports
    → ((k : ℕ) → ¬ Has left k)
    → ArePortsOf set ports
all_listed set left ports is none =
    let are = all_taken set left is.numbers is.taken none in
    subst (ArePortsOf set) (sym is.are) (record {
      order = pairs_map port_in (λ (a b : ℕ). a < b) IsPortBefore before_by is.numbers are.rise;
      each = subst (All (IsPortOf set)) is.are (listed_in set left ports is);
      every = λ k h. contains_map port_in is.numbers k ((are.each k).1 h);
    })
