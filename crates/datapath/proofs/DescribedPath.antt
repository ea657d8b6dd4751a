-- What a file describes is what is read of it, so a file describes one datapath at most.
use Rattle.std.proofs.Common.{◌≡◌, ◌^◌, ℕ, Bool, true, false, List, [], length, Option, Some, None, Ok, Err, nat_lt}
use Rattle.std.proofs.Common.{if◌then◌else◌, refl, sym, ◌∙◌, subst, arith}
use Rattle.std.specs.Str.{is_utf8}
use Rattle.std.proofs.lemmas.Bool.Decides.{nat_tests}
use Rattle.toml.specs.Data.{Members}
use Rattle.toml.specs.Parse.{parse_document}
use Rattle.datapath.specs.declared.fault.Section.TheVariants as section
use Rattle.datapath.specs.declared.fault.PathFault.TheVariants.{TooLong}
use Rattle.datapath.specs.declared.types.Datapath.{Datapath}
use Rattle.datapath.specs.Table as row
use Rattle.datapath.specs.Table.{top_keys}
use Rattle.datapath.specs.Reading.{Read, key, only, in_turn}
use Rattle.datapath.specs.PathOf.{path_at, path_in, path_of, units_of, bus_at}
use Rattle.datapath.specs.Described.{IsPathIn, IsPathOf}
use Rattle.datapath.proofs.Kept.{bind_ok, same_Ok}
use Rattle.datapath.proofs.AllowedUnits.{units_ok}
use Rattle.datapath.proofs.AllowedBuses.{buses_ok}
use Rattle.datapath.proofs.DescribedKeys.{value_of_key, key_of_value, has_only, only_has, bind_to}
use Rattle.datapath.proofs.DescribedUnits.{units_described, units_read}
use Rattle.datapath.proofs.DescribedBuses.{buses_described, buses_read}
use Rattle.datapath.proofs.Document.{document, not_long}

path_described : (t : Members) (d : Datapath) → path_at t ≡ Ok d → IsPathIn t d
unfolding path_at
path_described t d h =
    let (k, ke, h1) = bind_ok (only section.Top t top_keys) _ d h in
    let (period, pe, h2) = bind_ok (key section.Top t row.period) _ d h1 in
    let (word, we, h3) = bind_ok (key section.Top t row.word) _ d h2 in
    let (hold, he, h4) = bind_ok (key section.Top t row.hold) _ d h3 in
    let (unit, ue, h5) = bind_ok (key section.Top t row.unit) _ d h4 in
    let (bus, be, h6) = bind_ok (key section.Top t row.bus) _ d h5 in
    let (units, used, h7) = bind_ok (units_of unit) _ d h6 in
    let (buses, bse, h8) = bind_ok (in_turn (bus_at units) [] bus) _ d h7 in
    let same : record { period = period; word = word; hold = hold; units = units; buses = buses } ≡ d = same_Ok _ _ h8
    in
    let of_buses = (buses_ok units bus buses bse).0 in
    subst (IsPathIn t) same (record {
      keys = has_only section.Top t top_keys k ke;
      period = value_of_key section.Top t row.period period pe;
      word = value_of_key section.Top t row.word word we;
      hold = value_of_key section.Top t row.hold hold he;
      unit = unit;
      unit_is = value_of_key section.Top t row.unit unit ue;
      bus = bus;
      bus_is = value_of_key section.Top t row.bus bus be;
      units = units_described unit units used;
      unit_names = (units_ok unit units used).distinct;
      buses = buses_described units bus buses bse;
      bus_names = of_buses.distinct;
      to_count = of_buses.entries;
    })

path_read : (t : Members) (d : Datapath) → IsPathIn t d → path_at t ≡ Ok d
unfolding path_at
path_read t d is =
    bind_to (only section.Top t top_keys) _ tt _ (only_has section.Top t top_keys is.keys)
    (bind_to (key section.Top t row.period) _ d.period _ (key_of_value section.Top t row.period d.period is.period)
    (bind_to (key section.Top t row.word) _ d.word _ (key_of_value section.Top t row.word d.word is.word)
    (bind_to (key section.Top t row.hold) _ d.hold _ (key_of_value section.Top t row.hold d.hold is.hold)
    (bind_to (key section.Top t row.unit) _ is.unit _ (key_of_value section.Top t row.unit is.unit is.unit_is)
    (bind_to (key section.Top t row.bus) _ is.bus _ (key_of_value section.Top t row.bus is.bus is.bus_is)
    (bind_to (units_of is.unit) _ d.units _ (units_read is.unit d.units is.units is.unit_names)
    (bind_to (in_turn (bus_at d.units) [] is.bus) _ d.buses _
    (buses_read d.units is.unit_names is.bus d.buses is.bus_names is.to_count is.buses) refl)))))))

module _ (bytes : List ℕ) (d : Datapath) where
  pub described : path_of bytes ≡ Ok d → IsPathOf bytes d
  unfolding path_of
  described h = by (nat_lt (2 ^ 20) (length bytes)) refl h
    where
      in_table : (text : Bool)
          → is_utf8 bytes ≡ text
          → (o : Option Members)
          → parse_document bytes ≡ o
          → nat_lt (2 ^ 20) (length bytes) ≡ false
          → path_in (if text then o else None) ≡ Ok d
          → IsPathOf bytes d
      in_table true utf8 (Some t) parsed small g = record {
        short = grind (arith, nat_tests);
        text = utf8;
        table = t;
        toml = parsed;
        path = path_described t d g;
      }
      in_table true utf8 None parsed small g = absurd (cc)
      in_table false utf8 o parsed small g = absurd (cc)

      by : (long : Bool)
          → nat_lt (2 ^ 20) (length bytes) ≡ long
          → ◌≡◌ {A = Read Datapath} (if long then Err TooLong else path_in (document bytes)) (Ok d)
          → IsPathOf bytes d
      by true e g = absurd (cc)
      by false e g = in_table (is_utf8 bytes) refl (parse_document bytes) refl e g

  pub is_read : IsPathOf bytes d → path_of bytes ≡ Ok d
  unfolding path_of
  is_read is = rw (not_long (length bytes) is.short, is.text, is.toml) (path_read is.table d is.path)

-- a file describes one datapath at most
pub one_path : (bytes : List ℕ) (d e : Datapath) → IsPathOf bytes d → IsPathOf bytes e → d ≡ e
one_path bytes d e a b = same_Ok d e (sym (is_read bytes d a) ∙ is_read bytes e b)
