-- A file without a fault describes an allowed datapath.
use Rattle.std.proofs.Common.{◌≡◌, ◌≤◌, ℕ, [], length, Ok, Err, Result, subst, arith}
use Rattle.std.specs.Prelude.{IfOk}
use Rattle.lists.proofs.Places.{some_is as some_same}
use Rattle.toml.specs.Data.{Members}
use Rattle.datapath.specs.declared.fault.Section.TheVariants as section
use Rattle.datapath.specs.declared.fault.PathFault.{PathFault}
use Rattle.datapath.specs.declared.types.Datapath.{Datapath}
use Rattle.datapath.specs.Values.{a_table}
use Rattle.datapath.specs.Table as row
use Rattle.datapath.specs.Table.{top_keys}
use Rattle.datapath.specs.Reading.{Gives, key, only, in_turn}
use Rattle.datapath.specs.PathOf.{path_at, units_of, bus_at}
use Rattle.datapath.specs.Allowed.{IsWithin, IsDatapath}
use Rattle.datapath.proofs.Kept.{bind_ok, same_Ok, key_ok, within_ok}
use Rattle.datapath.proofs.AllowedUnits.{whole_ok, no_default, units_ok}
use Rattle.datapath.proofs.AllowedBuses.{buses_ok}

no_more : (most n : ℕ) → IsWithin 0 most n → n ≤ most
no_more most n h = omega (arith, h.1)

path_ok : (t : Members) (d : Datapath) → path_at t ≡ Ok d → IsDatapath d
unfolding path_at
path_ok t d h =
    let (k, ke, h1) = bind_ok (only section.Top t top_keys) _ d h in
    let (period, pe, h2) = bind_ok (key section.Top t row.period) _ d h1 in
    let (word, we, h3) = bind_ok (key section.Top t row.word) _ d h2 in
    let (hold, he, h4) = bind_ok (key section.Top t row.hold) _ d h3 in
    let (unit, ue, h5) = bind_ok (key section.Top t row.unit) _ d h4 in
    let (bus, be, h6) = bind_ok (key section.Top t row.bus) _ d h5 in
    let (units, used, h7) = bind_ok (units_of unit) _ d h6 in
    let (buses, bse, h8) = bind_ok (in_turn (bus_at units) [] bus) _ d h7 in
    let same : record { period = period; word = word; hold = hold; units = units; buses = buses } ≡ d = same_Ok _ _ h8
    in
    let of_units = units_ok unit units used in
    let of_buses = buses_ok units bus buses bse in
    let tables : IsWithin 1 32 (length unit) = key_ok section.Top t row.unit unit ue (λ ts. IsWithin 1 32 (length ts))
    (λ d ts e. (within_ok 1 32 a_table d ts e).0) (no_default (λ ts. IsWithin 1 32 (length ts))) in
    let more : IsWithin 1 32 (length bus) = key_ok section.Top t row.bus bus be (λ ts. IsWithin 1 32 (length ts))
    (λ d ts e. (within_ok 1 32 a_table d ts e).0) (no_default (λ ts. IsWithin 1 32 (length ts))) in
    subst IsDatapath same (record {
      period = key_ok section.Top t row.period period pe (IsWithin 1 4096) (whole_ok 1 4096)
          (no_default (IsWithin 1 4096));
      word = key_ok section.Top t row.word word we (IsWithin 8 40) (whole_ok 8 40) (no_default (IsWithin 8 40));
      hold = key_ok section.Top t row.hold hold he (λ n. n ≤ 3) (λ d n e. no_more 3 n (whole_ok 0 3 d n e))
          (λ n e. no_more 3 n (omega (arith, some_same 0 n e), omega (arith, some_same 0 n e)));
      unit_count = rw of_units.count_is tables;
      units = of_units.allowed;
      unit_names = of_units.distinct;
      bus_count = rw of_buses.1 more;
      buses = of_buses.0.allowed;
      bus_names = of_buses.0.distinct;
      to_count = of_buses.0.entries;
    })

-- as `read` answers
pub allowed_from_gives : (t : Members) (r : Result Datapath PathFault) → Gives r (path_at t) → IfOk r IsDatapath
allowed_from_gives t (Ok d) h = path_ok t d h
allowed_from_gives t (Err e) h = tt
