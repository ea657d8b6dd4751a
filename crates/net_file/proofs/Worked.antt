-- Tables worked out: the capacity where its key is missing, counts and wires out of range, a key that is not known.
use Rattle.std.proofs.Common.{◌≡◌, ℕ, List, [], ◌∷◌, pos, Ok, Err, refl}
use Rattle.std.specs.Prelude.{codes}
use Rattle.std.specs.Fmt.{digits}
use Rattle.toml.specs.Data.{Items, no_items, item, Members, no_members, member, string, integer, array, table}
use Rattle.toml_rows.specs.Reading.{key, only, in_turn}
use Rattle.net_core.specs.declared.fault.NetFault.TheVariants as fault
use Rattle.net_core.specs.declared.fault.NetSection.TheVariants.{Top, Proc}
use Rattle.net_core.specs.declared.types.Wire.TheVariants.{Input}
use Rattle.net_file.specs.Spelling.{spelling, wire_spelled}
use Rattle.net_file.specs.Private.Reading.{proc_in, net_in}

-- a processor with one wire
abbrev proc_table : List ℕ → Members
proc_table wire =
    member (codes "dp") (string (codes "d"))
    (member (codes "feed") (array (item (string wire) no_items)) (member (codes "src") (string (codes "s")) no_members))

-- a net of one input word
abbrev top_table : Items → Members
top_table procs = member (codes "inputs") (integer (pos 1)) (member (codes "proc") (array procs) no_members)

abbrev more : Items → Items
more procs = item (table (proc_table (codes "in.0"))) procs

default_capacity : net_in (top_table (more no_items))
    ≡ Ok (record {
      inputs = 1;
      capacity = 1;
      procs = record { src = codes "s"; dp = codes "d"; feed = Input 0 ∷ [] } ∷ [];
    })
unfolding net_in proc_in only key in_turn wire_spelled spelling digits
default_capacity = refl

no_processor : net_in (top_table no_items) ≡ Err (fault.Range Top)
unfolding net_in only key
no_processor = refl

nine_processors : net_in (top_table (more (more (more (more (more (more (more (more (more no_items))))))))))
    ≡ Err (fault.Range Top)
unfolding net_in only key
nine_processors = refl

feeds_itself : net_in (top_table (item (table (proc_table (codes "0.0"))) no_items)) ≡ Err (fault.Range (Proc 0))
unfolding net_in proc_in only key in_turn wire_spelled spelling digits
feeds_itself = refl

unknown_first : net_in (member (codes "port") (integer (pos 1)) no_members) ≡ Err (fault.UnknownKey Top)
unfolding net_in only
unknown_first = refl
