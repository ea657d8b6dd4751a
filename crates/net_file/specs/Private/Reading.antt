-- Reading a net file table by table, up to the first fault.
use Rattle.std.specs.Prelude.{ℕ, nat_lt, ◌^◌, List, [], length, Option, Some, None, Result, Ok, Err, if◌then◌else◌}
use Rattle.std.specs.Str.{is_utf8}
use Rattle.toml.specs.Data.{Members}
use Rattle.toml.specs.Parse.{parse_document}
use Rattle.toml_rows.specs.Reading.{◌>>=◌, key, only, in_turn}
use Rattle.net_core.specs.declared.fault.NetSection.TheVariants.{Top, Proc}
use Rattle.net_core.specs.declared.fault.NetFault.{NetFault}
use Rattle.net_core.specs.declared.fault.NetFault.TheVariants as fault
use Rattle.net_core.specs.declared.types.NetFile.{NetFile}
use Rattle.net_core.specs.declared.types.NetProc.{NetProc}
use Rattle.net_file.specs.NetRules.{in_table}
use Rattle.net_file.specs.Table as row
use Rattle.net_file.specs.Table.{top_keys, proc_keys}

-- what is read, or the first fault
abbrev pub Read : Type 0 → Type 0
Read A = Result A NetFault

-- processor p
unfoldable pub proc_in : (inputs p : ℕ) → Members → Read NetProc
proc_in inputs p t = do
  known ← only (in_table (Proc p)) t proc_keys
  src ← key (in_table (Proc p)) t row.src
  dp ← key (in_table (Proc p)) t row.dp
  feed ← key (in_table (Proc p)) t (row.feed inputs p)
  Ok (record { src = src; dp = dp; feed = feed })

abbrev pub proc_at : (inputs : ℕ) → List NetProc → Members → Read NetProc
proc_at inputs before t = proc_in inputs (length before) t

-- the top table, then each processor's
unfoldable pub net_in : Members → Read NetFile
net_in t = do
  known ← only (in_table Top) t top_keys
  inputs ← key (in_table Top) t row.inputs
  capacity ← key (in_table Top) t row.capacity
  proc ← key (in_table Top) t row.proc
  procs ← in_turn (proc_at inputs) [] proc
  Ok (record { inputs = inputs; capacity = capacity; procs = procs })

abbrev pub document_in : Option Members → Read NetFile
document_in None = Err fault.NotToml
document_in (Some t) = net_in t

-- what the bytes describe, or their first fault
unfoldable pub net_of : List ℕ → Read NetFile
net_of bytes =
    if nat_lt (2 ^ 20) (length bytes) then Err fault.TooLong
    else document_in (if is_utf8 bytes then parse_document bytes else None)
