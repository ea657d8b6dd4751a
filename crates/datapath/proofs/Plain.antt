-- Two files that are read in the proof: PLAIN, and one with a fault.
use Rattle.std.proofs.Common.{◌≡◌, [], ◌∷◌, codes, Ok, Err, refl}
use Rattle.std.specs.Str.{is_utf8, chars}
use Rattle.toml.proofs.OnLiterals.{toml_on_literals}
use Rattle.datapath.specs.declared.fault.PathFault.TheVariants.{UnknownPort}
use Rattle.datapath.specs.declared.fault.Section.TheVariants as section
use Rattle.operations.specs.declared.units.Kind.TheVariants.{Input, Rom, Alu, Output}
use Rattle.datapath.specs.Reading.{key, only, in_turn}
use Rattle.datapath.specs.Names.{driver, sink}
use Rattle.datapath.specs.PathOf.{kind_known, unit_in, ram_in, with_rams, units_of, bus_in, path_at, path_of}

plain :
    path_of (codes
    "period = 16\nword = 16\nhold = 0\n[[unit]]\nname = \"inp\"\nkind = \"in\"\n[[unit]]\nname = \"rom\"\nkind = \"rom\"\n[[unit]]\nname = \"add\"\nkind = \"alu\"\nfiles = [8, 8]\n[[unit]]\nname = \"outp\"\nkind = \"out\"\nfiles = [2]\n[[bus]]\nname = \"b0\"\nfrom = [\"inp\", \"rom\", \"add\"]\nto = [\"add.0\", \"add.1\", \"outp.0\"]\n")
    ≡ Ok (record {
      period = 16;
      word = 16;
      hold = 0;
      units =
          record { name = codes "inp"; kind = Input; latency = 1; gap = 1; files = []; cells = 0; ram = 0 }
          ∷ record { name = codes "rom"; kind = Rom; latency = 1; gap = 1; files = []; cells = 0; ram = 0 }
          ∷ record { name = codes "add"; kind = Alu; latency = 1; gap = 1; files = 8 ∷ 8 ∷ []; cells = 0; ram = 0 }
          ∷ record { name = codes "outp"; kind = Output; latency = 1; gap = 1; files = 2 ∷ []; cells = 0; ram = 0 }
          ∷ [];
      buses =
          record {
            name = codes "b0";
            from = 0 ∷ 1 ∷ 2 ∷ [];
            to = record { unit = 2; port = 0 } ∷ record { unit = 2; port = 1 } ∷ record { unit = 3; port = 0 } ∷ [];
          } ∷ [];
    })
unfolding toml_on_literals path_of path_at key only in_turn unit_in kind_known ram_in with_rams units_of bus_in driver
    sink is_utf8 chars
plain = refl

no_port :
    path_of (codes
    "period = 3\nword = 8\n[[unit]]\nname = \"inp\"\nkind = \"in\"\n[[bus]]\nname = \"b0\"\nfrom = [\"inp\"]\nto = [\"inp.0\"]\n")
    ≡ Err (UnknownPort (section.Bus 0))
unfolding toml_on_literals path_of path_at key only in_turn unit_in kind_known ram_in with_rams units_of bus_in driver
    sink is_utf8 chars
no_port = refl
