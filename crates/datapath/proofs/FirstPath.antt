-- The first fault of a file is the one that is met.
use Rattle.std.proofs.Common.{◌≡◌, ◌^◌, ℕ, true, false, List, [], length, map, Option, Some, None, Ok, Err, nat_lt}
use Rattle.std.proofs.Common.{nat_le, refl, ap, sym, ◌∙◌, subst, inl, inr, arith}
use Rattle.std.proofs.lemmas.Bool.{cases_lt}
use Rattle.std.proofs.lemmas.Bool.Decides.{nat_tests}
use Rattle.toml.specs.Data.{Members}
use Rattle.fault_order.specs.Rules.{none, ◌▸◌, faults}
use Rattle.fault_order.specs.Private.FirstMet.{first, first_in}
use Rattle.fault_order.proofs.FirstFaults.{Answers, one_first}
use Rattle.fault_order.proofs.TableFaults.{then_ok, first_answers, single_faults}
use Rattle.datapath.specs.declared.fault.Section.TheVariants as section
use Rattle.datapath.specs.declared.fault.PathFault.{PathFault}
use Rattle.datapath.specs.declared.types.Datapath.{Datapath}
use Rattle.datapath.specs.declared.types.Unit as of_unit
use Rattle.datapath.specs.Table as row
use Rattle.datapath.specs.Table.{top_keys}
use Rattle.datapath.specs.Reading.{Read, ◌>>=◌, key, only, in_turn}
use Rattle.datapath.specs.PathOf.{path_at, path_in, path_of, units_of, bus_at}
use Rattle.datapath.specs.PathRules.{value_or, named_unit, units_rules, buses_rules, path_rules, document_rules}
use Rattle.datapath.specs.PathRules.{file_rules, IsPathFault}
use Rattle.datapath.proofs.Document.{document}
use Rattle.datapath.proofs.FirstRules.{fault_of, reads_first, key_first, value_is, only_first}
use Rattle.datapath.proofs.FirstUnits.{bare, units_first}
use Rattle.datapath.proofs.FirstBuses.{buses_first}

-- the buses, of units that are named by their tables
buses_at : (us units : List of_unit.Unit) (tables bus : List Members)
    → us ≡ map bare units
    → tables ≡ bus
    → first (buses_rules us tables) ≡ fault_of (in_turn (bus_at units) [] bus)
buses_at us units tables bus same is =
    ap (λ (vs : List of_unit.Unit). first (buses_rules vs tables)) same
    ∙ ap (λ (ts : List Members). first (buses_rules (map bare units) ts)) is ∙ buses_first units bus

path_first : (t : Members) → first (path_rules t) ≡ fault_of (path_at t)
unfolding path_at
path_first t =
    reads_first (only section.Top t top_keys) _ _ _ (only_first section.Top t top_keys) (λ u ue.
    reads_first (key section.Top t row.period) _ _ _ (key_first section.Top t row.period) (λ period pe.
    reads_first (key section.Top t row.word) _ _ _ (key_first section.Top t row.word) (λ word we.
    reads_first (key section.Top t row.hold) _ _ _ (key_first section.Top t row.hold) (λ hold he.
    reads_first (key section.Top t row.unit) _ _ _ (key_first section.Top t row.unit) (λ unit unit_e.
    reads_first (key section.Top t row.bus) _ _ _ (key_first section.Top t row.bus) (λ bus bus_e.
    let f : List of_unit.Unit → Read Datapath = λ units.
    in_turn (bus_at units) [] bus >>= λ buses.
    Ok (record { period = period; word = word; hold = hold; units = units; buses = buses }) in
    subst
    (λ (ts : List Members). first_in (units_rules ts (buses_rules (map named_unit ts) (value_or [] row.bus t) ▸ none))
    ≡ fault_of (units_of unit >>= f)) (sym (value_is section.Top [] t row.unit unit unit_e))
    (units_first unit f (buses_rules (map named_unit unit) (value_or [] row.bus t) ▸ none) (λ units e bares.
    reads_first (in_turn (bus_at units) [] bus) _ _ _
    (buses_at _ units _ bus bares (value_is section.Top [] t row.bus bus bus_e)) (λ buses be. refl)))))))))

document_first : (o : Option Members) → first (document_rules o) ≡ fault_of (path_in o)
document_first None = refl
document_first (Some t) = path_first t

file_first : (bytes : List ℕ) → first (file_rules bytes) ≡ fault_of (path_of bytes)
unfolding path_of
file_first bytes =
    elim (cases_lt (2 ^ 20) (length bytes)) [
      | inl long ↦
          let is_long : nat_lt (2 ^ 20) (length bytes) ≡ true = grind (arith, nat_tests) in
          let is_not_short : nat_le (length bytes) (2 ^ 20) ≡ false = grind (arith, nat_tests) in
          rw (is_long, is_not_short) refl
      | inr short ↦
          let is_not_long : nat_lt (2 ^ 20) (length bytes) ≡ false = grind (arith, nat_tests) in
          let is_short : nat_le (length bytes) (2 ^ 20) ≡ true = grind (arith, nat_tests) in
          rw (is_not_long, is_short) (then_ok _ ∙ document_first (document bytes))
    ]

module _ (bytes : List ℕ) (f : PathFault) where
  answers : (r : Read Datapath) → path_of bytes ≡ r → Answers (faults (file_rules bytes)) (fault_of r)
  answers r e =
      subst (Answers (faults (file_rules bytes))) (file_first bytes ∙ ap fault_of e) (first_answers (file_rules bytes))

  -- the fault that is read is the first by rank
  pub is_first : path_of bytes ≡ Err f → IsPathFault bytes f
  is_first e = answers (Err f) e

  -- and the first by rank is read
  pub first_read : IsPathFault bytes f → path_of bytes ≡ Err f
  first_read is = by (path_of bytes) refl
    where
      by : (r : Read Datapath) → path_of bytes ≡ r → path_of bytes ≡ Err f
      by (Ok d) e = absurd (answers (Ok d) e is.rank f is.here)
      by (Err g) e =
          e
          ∙ ap Err (one_first (faults (file_rules bytes)) g f (single_faults (file_rules bytes)) (answers (Err g) e) is)
