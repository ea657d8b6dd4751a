-- The rules of a net file, as a table in the order of its faults: each is a test, with the fault where it fails.
use Rattle.std.specs.Prelude.{ℕ, nat_le, ◌^◌, List, [], length, false, Option, Some, None, if◌then◌else◌}
use Rattle.std.specs.Str.{is_utf8}
use Rattle.toml.specs.Data.{Members}
use Rattle.toml.specs.Parse.{parse_document}
use Rattle.fault_order.specs.Ranked.{IsFirst, IsClear}
use Rattle.fault_order.specs.Rules.{Rules, parts, own, none, ◌▸◌, unless, each_from, faults}
use Rattle.toml_rows.specs.Reading.{TableFault, UnknownKey, Missing, WrongKind, Range}
use Rattle.toml_rows.specs.RowRules.{key_rules, only_rules}
use Rattle.toml_rows.specs.Rows.{value_or}
use Rattle.net_core.specs.declared.fault.NetSection.{NetSection}
use Rattle.net_core.specs.declared.fault.NetSection.TheVariants.{Top, Proc}
use Rattle.net_core.specs.declared.fault.NetFault.{NetFault}
use Rattle.net_core.specs.declared.fault.NetFault.TheVariants as fault
use Rattle.net_file.specs.Table as row
use Rattle.net_file.specs.Table.{top_keys, proc_keys}

-- what a table of the file can have against it
abbrev pub in_table : NetSection → TableFault → NetFault
in_table s UnknownKey = fault.UnknownKey s
in_table s Missing = fault.Missing s
in_table s WrongKind = fault.WrongKind s
in_table s Range = fault.Range s

-- the rules of processor p, in a net whose row has so many words
abbrev pub proc_rules : (inputs p : ℕ) → Members → Rules NetFault
proc_rules inputs p t =
    parts (
    only_rules (in_table (Proc p)) t proc_keys
    ▸ key_rules (in_table (Proc p)) t row.src
    ▸ key_rules (in_table (Proc p)) t row.dp
    ▸ key_rules (in_table (Proc p)) t (row.feed inputs p)
    ▸ none)

-- The top table, then each processor's. Where the number of words or the tables have a fault of their own, others stand
-- for them: their fault comes first.
abbrev pub net_rules : Members → Rules NetFault
net_rules t =
    parts (
    only_rules (in_table Top) t top_keys
    ▸ key_rules (in_table Top) t row.inputs
    ▸ key_rules (in_table Top) t row.capacity
    ▸ key_rules (in_table Top) t row.proc
    ▸ parts (each_from (proc_rules (value_or 1 row.inputs t)) 0 (value_or [] row.proc t))
    ▸ none)

abbrev pub document_rules : Option Members → Rules NetFault
document_rules None = unless false fault.NotToml
document_rules (Some t) = net_rules t

-- the bytes are not too many, they are TOML, and the tables keep their rules
abbrev pub file_rules : List ℕ → Rules NetFault
file_rules bytes =
    own (nat_le (length bytes) (2 ^ 20)) fault.TooLong
    (document_rules (if is_utf8 bytes then parse_document bytes else None) ▸ none)

-- the first fault of the file
abbrev pub IsNetFileFault : List ℕ → NetFault → Type 0
IsNetFileFault bytes f = IsFirst (faults (file_rules bytes)) f

-- the file has no fault
abbrev pub HasNoFault : List ℕ → Type 0
HasNoFault bytes = IsClear (faults (file_rules bytes))
