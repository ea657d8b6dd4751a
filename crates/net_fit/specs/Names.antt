-- The rules of what a net says without its programs, as a table in the order of their faults.
use Rattle.std.specs.Prelude.{ℕ, List, Bool, not, ◌||◌}
use Rattle.std.specs.List.{list_any, range_with_len}
use Rattle.std.specs.Str.{bytes_eq}
use Rattle.fault_order.specs.Rules.{Rules, parts, unless, each, each_from, none, ◌▸◌}
use Rattle.net_core.specs.declared.fault.NetFault.{NetFault}
use Rattle.net_core.specs.declared.fault.NetFault.TheVariants as fault
use Rattle.net_core.specs.declared.types.NetFile.{NetFile}
use Rattle.net_core.specs.declared.types.NetProc.{NetProc}
use Rattle.net_fit.specs.Joints.{is_input}

-- a processor reads word j of the net's row
abbrev pub is_read : List NetProc → ℕ → Bool
is_read procs j = list_any (λ proc. list_any (is_input j) proc.feed) procs

abbrev pub read_rule : List NetProc → ℕ → Rules NetFault
read_rule procs j = unless (is_read procs j) (fault.Unfed j)

-- a file of the processor has this name
abbrev pub has_file : List ℕ → NetProc → Bool
has_file name proc = bytes_eq proc.src name || bytes_eq proc.dp name

abbrev pub output_rule : List ℕ → (p : ℕ) → NetProc → Rules NetFault
output_rule out p proc = unless (not (has_file out proc)) (fault.Overwrites p)

-- each word of the net's row is read, and then no file of a processor has the name of the output
abbrev pub name_rules : NetFile → (out : List ℕ) → Rules NetFault
name_rules net out =
    parts (
    parts (each (read_rule net.procs) (range_with_len 0 net.inputs))
    ▸ parts (each_from (output_rule out) 0 net.procs)
    ▸ none)
