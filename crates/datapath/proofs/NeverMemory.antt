-- What is read of a file is never the fault `Memory`, which is of a call alone.
use Rattle.std.proofs.Common.{◌≢◌, ℕ, Bool, true, false, List, [], ◌∷◌, ◌++◌, length, map, Option, Some, None}
use Rattle.std.proofs.Common.{option_map, Result, Ok, Err, if◌then◌else◌, nat_lt, ap}
use Rattle.std.specs.Option.{ok_or}
use Rattle.std.specs.Str.{is_utf8}
use Rattle.toml.specs.Data.{Members, get_member}
use Rattle.toml.specs.Parse.{parse_document}
use Rattle.datapath.specs.declared.fault.Section.{Section}
use Rattle.datapath.specs.declared.fault.Section.TheVariants as section
use Rattle.datapath.specs.declared.fault.Misfit.{Misfit}
use Rattle.datapath.specs.declared.fault.Misfit.TheVariants as misfit
use Rattle.datapath.specs.declared.fault.PathFault.{PathFault}
use Rattle.datapath.specs.declared.fault.PathFault.TheVariants as fault
use Rattle.datapath.specs.declared.types.Bus.{Bus}
use Rattle.datapath.specs.declared.types.Unit as of_unit
use Rattle.datapath.specs.Table as row
use Rattle.datapath.specs.Table.{Row, ports, is_ram, is_acu, top_keys, unit_keys, bus_keys}
use Rattle.datapath.specs.Reading.{Read, ◌>>=◌, found, key, keys_among, only, where_has, in_turn}
use Rattle.datapath.specs.Names.{new_name, unit_named, ram_named, driver, last_dot, port_of, ports_at, sink}
use Rattle.datapath.specs.PathOf.{kind_known, unit_in, unit_at, unit_name_at, is_known_acu, ram_in, ram_at, with_rams}
use Rattle.datapath.specs.PathOf.{units_of, room_after, bus_in, bus_at, path_at, path_in, path_of}
use Rattle.operations.specs.declared.units.PortRef.{PortRef}

-- the file decides what is read
abbrev IsDecided : {A : Type 0} → Read A → Type 0
IsDecided read = read ≢ Err fault.Memory

module _ {A : Type 0} where
  is_read : (x : A) → IsDecided {A = A} (Ok x)
  is_read x h = absurd (cc)

  ends_with : (e : PathFault) → e ≢ fault.Memory → IsDecided {A = A} (Err e)
  ends_with e other h = other (cc)

  either : (b : Bool) (r s : Read A) → IsDecided r → IsDecided s → IsDecided (if b then r else s)
  either true r s left right = left
  either false r s left right = right

  or_fault : (o : Option A) (e : PathFault) → e ≢ fault.Memory → IsDecided (ok_or o e)
  or_fault (Some x) e other = is_read x
  or_fault None e other = ends_with e other

  found_decided : (s : Section) (default : Option A) (o : Option (Result A Misfit)) → IsDecided (found s default o)
  found_decided s (Some x) None = is_read x
  found_decided s None None = ends_with (fault.Missing s) (λ h. absurd (cc))
  found_decided s default (Some (Ok x)) = is_read x
  found_decided s default (Some (Err misfit.WrongKind)) = ends_with (fault.WrongKind s) (λ h. absurd (cc))
  found_decided s default (Some (Err misfit.Range)) = ends_with (fault.Range s) (λ h. absurd (cc))

  key_decided : (s : Section) (t : Members) (r : Row A) → IsDecided (key s t r)
  unfolding key
  key_decided s t r = found_decided s r.default (option_map r.value (get_member r.key t))

  where_decided : (b : Bool) (r : Read A) (none : A) → IsDecided r → IsDecided (where_has b r none)
  where_decided true r none is = is
  where_decided false r none is = is_read none

then_decided : {A B : Type 0} (r : Read A) (f : A → Read B)
    → IsDecided r
    → ((x : A) → IsDecided (f x))
    → IsDecided (r >>= f)
then_decided (Ok x) f first rest = rest x
then_decided (Err e) f first rest = ends_with e (λ same. first (ap Err same))

turns_decided : {A B : Type 0} (one : List B → A → Read B)
    → ((before : List B) (x : A) → IsDecided (one before x))
    → (xs : List A) (before : List B)
    → IsDecided (in_turn one before xs)
unfolding in_turn
turns_decided one each [] before = is_read before
turns_decided one each (x ∷ xs) before =
    then_decided (one before x) _ (each before x) (λ y. turns_decided one each xs (before ++ y ∷ []))

only_decided : (s : Section) (t : Members) (names : List (List ℕ)) → IsDecided (only s t names)
unfolding only
only_decided s t names =
    either (keys_among names t) (Ok tt) _ (is_read tt) (ends_with (fault.UnknownKey s) (λ h. absurd (cc)))

-- a name or an entry that none of the earlier ones is
new_decided : {A : Type 0} (s : Section) (b : Bool) (x : A)
    → IsDecided {A = A} (if b then Err (fault.Twice s) else Ok x)
new_decided s b x = either b _ (Ok x) (ends_with (fault.Twice s) (λ h. absurd (cc))) (is_read x)

driver_decided : (s : Section) (units : List of_unit.Unit) (before : List ℕ) (name : List ℕ)
    → IsDecided (driver s units before name)
unfolding driver
driver_decided s units before name =
    then_decided (ok_or (unit_named units name) (fault.UnknownUnit s)) _
    (or_fault (unit_named units name) (fault.UnknownUnit s) (λ h. absurd (cc)))
    (λ unit. new_decided s _ unit)

sink_decided : (s : Section) (units : List of_unit.Unit) (before : List PortRef) (text : List ℕ)
    → IsDecided (sink s units before text)
unfolding sink
sink_decided s units before text =
    then_decided (ok_or (last_dot text) (fault.UnknownPort s)) _
    (or_fault (last_dot text) (fault.UnknownPort s) (λ h. absurd (cc)))
    (λ parts. then_decided (ok_or (unit_named units parts.0) (fault.UnknownUnit s)) _
    (or_fault (unit_named units parts.0) (fault.UnknownUnit s) (λ h. absurd (cc)))
    (λ unit. then_decided (ok_or (port_of (ports_at units unit) parts.1) (fault.UnknownPort s)) _
    (or_fault (port_of (ports_at units unit) parts.1) (fault.UnknownPort s) (λ h. absurd (cc)))
    (λ port. new_decided s _ (record { unit = unit; port = port }))))

unit_decided : (s : Section) (t : Members) → IsDecided (unit_in s t)
unfolding unit_in
unit_decided s t =
    then_decided (only s t (unit_keys (kind_known t))) _ (only_decided s t (unit_keys (kind_known t)))
    (λ known. then_decided (key s t row.name) _ (key_decided s t row.name)
    (λ name. then_decided (key s t row.kind) _ (key_decided s t row.kind)
    (λ kind. then_decided (key s t row.latency) _ (key_decided s t row.latency)
    (λ latency. then_decided (key s t (row.gap latency)) _ (key_decided s t (row.gap latency))
    (λ gap. then_decided (key s t (row.files (ports kind))) _ (key_decided s t (row.files (ports kind)))
    (λ files. then_decided (where_has (is_ram kind) (key s t row.cells) 0) _
    (where_decided (is_ram kind) (key s t row.cells) 0 (key_decided s t row.cells))
    (λ cells. then_decided (where_has (is_acu kind) (key s t row.ram) []) _
    (where_decided (is_acu kind) (key s t row.ram) [] (key_decided s t row.ram))
    (λ ram. is_read _))))))))

ram_decided : (s : Section) (units : List of_unit.Unit) (t : Members) → IsDecided (ram_in s units t)
unfolding ram_in
ram_decided s units t =
    where_decided (is_known_acu (kind_known t)) _ 0
    (then_decided (key s t row.ram) _ (key_decided s t row.ram)
    (λ name. or_fault (ram_named units name) (fault.UnknownUnit s) (λ h. absurd (cc))))

units_decided : (tables : List Members) → IsDecided (units_of tables)
unfolding units_of
units_decided tables =
    then_decided (in_turn unit_at [] tables) _
    (turns_decided unit_at (λ before t. unit_decided (section.Unit (length before)) t) tables [])
    (λ units. then_decided (in_turn unit_name_at [] (map (λ unit. unit.name) units)) _
    (turns_decided unit_name_at (λ before name. new_decided (section.Unit (length before)) _ name)
    (map (λ unit. unit.name) units) [])
    (λ names. then_decided (in_turn (ram_at units) [] tables) _
    (turns_decided (ram_at units) (λ before t. ram_decided (section.Unit (length before)) units t) tables [])
    (λ rams. is_read (with_rams units rams))))

bus_decided : (s : Section) (units : List of_unit.Unit) (before : List Bus) (t : Members)
    → IsDecided (bus_in s units before t)
unfolding bus_in
bus_decided s units before t =
    then_decided (only s t bus_keys) _ (only_decided s t bus_keys)
    (λ known. then_decided (key s t row.name) _ (key_decided s t row.name)
    (λ name. then_decided (key s t row.from) _ (key_decided s t row.from)
    (λ from. then_decided (key s t (row.to (room_after before))) _ (key_decided s t (row.to (room_after before)))
    (λ to. then_decided (new_name s (map (λ bus. bus.name) before) name) _ (new_decided s _ name)
    (λ fresh. then_decided (in_turn (driver s units) [] from) _
    (turns_decided (driver s units) (driver_decided s units) from [])
    (λ drivers. then_decided (in_turn (sink s units) [] to) _
    (turns_decided (sink s units) (sink_decided s units) to [])
    (λ sinks. is_read _)))))))

path_decided : (t : Members) → IsDecided (path_at t)
unfolding path_at
path_decided t =
    then_decided (only section.Top t top_keys) _ (only_decided section.Top t top_keys)
    (λ known. then_decided (key section.Top t row.period) _ (key_decided section.Top t row.period)
    (λ period. then_decided (key section.Top t row.word) _ (key_decided section.Top t row.word)
    (λ word. then_decided (key section.Top t row.hold) _ (key_decided section.Top t row.hold)
    (λ hold. then_decided (key section.Top t row.unit) _ (key_decided section.Top t row.unit)
    (λ unit. then_decided (key section.Top t row.bus) _ (key_decided section.Top t row.bus)
    (λ bus. then_decided (units_of unit) _ (units_decided unit)
    (λ units. then_decided (in_turn (bus_at units) [] bus) _
    (turns_decided (bus_at units) (λ before t. bus_decided (section.Bus (length before)) units before t) bus [])
    (λ buses. is_read _))))))))

document_decided : (o : Option Members) → IsDecided (path_in o)
document_decided None = ends_with fault.NotToml (λ h. absurd (cc))
document_decided (Some t) = path_decided t

-- no file has the fault
pub never_memory : (bytes : List ℕ) → path_of bytes ≢ Err fault.Memory
unfolding path_of
never_memory bytes =
    either (nat_lt _ (length bytes)) _ (path_in (if is_utf8 bytes then parse_document bytes else None))
    (ends_with fault.TooLong (λ h. absurd (cc)))
    (document_decided (if is_utf8 bytes then parse_document bytes else None))
