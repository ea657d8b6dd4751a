-- The words of a line of a register, as they are read.
use Rattle.std.specs.Prelude.{◌≡◌, ℕ, codes, Option, Some, None}
use Rattle.datapath.specs.declared.types.Datapath.{Datapath}
use Rattle.given_registers.specs.declared.given.GivenRegister.{GivenRegister}
use Rattle.place_file.specs.Registers.{RegisterSaid, SaysRegister, IsBadRegisterLine}
use Rattle.place_file.specs.declared.register_line.RegisterWords.{RegisterWords}
use Rattle.place_file.specs.declared.fault.RegistersFault.{RegistersFault}
use Rattle.place_file.specs.declared.fault.RegistersFault.TheVariants.{Line}

-- the words that were read
abbrev pub words_read : RegisterWords → RegisterSaid
words_read words = record {
  head = words.head.now;
  register = words.register.now;
  unit_label = words.unit_label.now;
  unit = words.unit.now;
  port_label = words.port_label.now;
  port = words.port.now;
  node_label = words.node_label.now;
  node = words.node.now;
  copy_label = words.copy_label.now;
  copy = words.copy.now;
}

module _ (d : Datapath) (said : RegisterSaid) where
  -- what a line says, if it begins with `register`
  abbrev pub IsReadRegister : Option GivenRegister → Type 0
  IsReadRegister None = said.head ≡ codes "register" → ⊥
  IsReadRegister (Some g) = (said.head ≡ codes "register") × SaysRegister d said g

  -- why it says nothing, where it has this number
  abbrev pub IsUnreadRegister : (number : ℕ) → RegistersFault → Type 0
  IsUnreadRegister number (Line line cause) =
      (line ≡ number) × (said.head ≡ codes "register") × IsBadRegisterLine d said cause
  IsUnreadRegister number _ = ⊥
