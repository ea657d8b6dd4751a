-- What the desk of the host means. It specifies no content, counts as reading and writing every name, and has one
-- counter for all of its faults.
use Rattle.std.specs.Prelude.{ℕ, None, true}
use Rattle.desk_core.specs.Desk.{IsOutputSpecified}
use Rattle.desk_core.specs.View.{View}

abbrev pub host_view : ℕ → ℕ → View
host_view place faults = record {
  files = None;
  place = place;
  input_name = None;
  input_bytes = None;
  output = None;
  printed = None;
  reads = λ name. true;
  writes = λ name. true;
  read_faults = λ name. faults;
  write_faults = λ name. faults;
  print_faults = faults;
}

pub never_specifies_files : (place faults : ℕ) → IsOutputSpecified (host_view place faults)
never_specifies_files place faults files specified = absurd (cc)
