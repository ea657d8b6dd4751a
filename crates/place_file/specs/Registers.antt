-- Which registers a text gives, in lines as `register 2 unit add port 0 node 3 copy 0`.
use Rattle.std.specs.Prelude.{◌≡◌, ◌⊎◌, ℕ, ◌+◌, ◌<◌, ◌^◌, List, length, slice_index_or, codes}
use Rattle.std.specs.List.{AllPairs}
use Rattle.datapath.specs.declared.types.Datapath.{Datapath}
use Rattle.given_registers.specs.Around.{given_at}
use Rattle.given_registers.specs.declared.given.GivenRegister.{GivenRegister}
use Rattle.place_file.specs.Lines.{lines_of, line_at, word_at}
use Rattle.place_file.specs.Given.{IsNumber, IsUnitNamed}
use Rattle.place_file.specs.declared.registers.GivenRegisters.{GivenRegisters}
use Rattle.place_file.specs.declared.fault.RegistersFault.{RegistersFault}
use Rattle.place_file.specs.declared.fault.RegistersFault.TheVariants.{Line, Memory}
use Rattle.place_file.specs.declared.fault.RegisterLineCause.{RegisterLineCause}
use Rattle.place_file.specs.declared.fault.RegisterLineCause.TheVariants.{Form, Number, Unit as UnknownUnit}

-- the words of such a line; what comes behind them is not looked at
pub record RegisterSaid : Type 0 where
  pub head : List ℕ
  pub register : List ℕ
  pub unit_label : List ℕ
  pub unit : List ℕ
  pub port_label : List ℕ
  pub port : List ℕ
  pub node_label : List ℕ
  pub node : List ℕ
  pub copy_label : List ℕ
  pub copy : List ℕ

abbrev pub words_by : (line : List ℕ) → RegisterSaid
words_by line = record {
  head = word_at line 0;
  register = word_at line 1;
  unit_label = word_at line 2;
  unit = word_at line 3;
  port_label = word_at line 4;
  port = word_at line 5;
  node_label = word_at line 6;
  node = word_at line 7;
  copy_label = word_at line 8;
  copy = word_at line 9;
}

module _ (d : Datapath) (said : RegisterSaid) where
  -- the words behind the first one say the register of a copy
  pub record SaysRegister (g : GivenRegister) : Type 0 where
    pub register : IsNumber (2 ^ 8) said.register g.register
    pub unit_label : said.unit_label ≡ codes "unit"
    pub unit : IsUnitNamed d said.unit g.port.unit
    pub port_label : said.port_label ≡ codes "port"
    pub port : IsNumber (2 ^ 8) said.port g.port.port
    pub node_label : said.node_label ≡ codes "node"
    pub node : IsNumber (2 ^ 32) said.node g.node
    pub copy_label : said.copy_label ≡ codes "copy"
    pub copy : IsNumber (2 ^ 8) said.copy g.copy

  -- the words before word k, from 0 on, are right behind the first one
  pub record AreRightBefore (k : ℕ) : Type 0 where
    pub register : 1 < k → (n : ℕ) × IsNumber (2 ^ 8) said.register n
    pub unit_label : 2 < k → said.unit_label ≡ codes "unit"
    pub unit : 3 < k → (u : ℕ) × IsUnitNamed d said.unit u
    pub port_label : 4 < k → said.port_label ≡ codes "port"
    pub port : 5 < k → (n : ℕ) × IsNumber (2 ^ 8) said.port n
    pub node_label : 6 < k → said.node_label ≡ codes "node"
    pub node : 7 < k → (n : ℕ) × IsNumber (2 ^ 32) said.node n
    pub copy_label : 8 < k → said.copy_label ≡ codes "copy"
    pub copy : 9 < k → (n : ℕ) × IsNumber (2 ^ 8) said.copy n

  -- word k is the first that is wrong
  pub record IsFirstWrong (k : ℕ) : Type 0 where
    pub before : AreRightBefore k
    pub wrong : AreRightBefore (k + 1) → ⊥

  -- the first word that is wrong: one for which another stands, no number, or no name of a unit
  abbrev pub IsBadRegisterLine : RegisterLineCause → Type 0
  IsBadRegisterLine Form = IsFirstWrong 2 ⊎ IsFirstWrong 4 ⊎ IsFirstWrong 6 ⊎ IsFirstWrong 8
  IsBadRegisterLine Number = IsFirstWrong 1 ⊎ IsFirstWrong 5 ⊎ IsFirstWrong 7 ⊎ IsFirstWrong 9
  IsBadRegisterLine UnknownUnit = IsFirstWrong 3

module _ (d : Datapath) (text : List ℕ) where
  -- line i of the text, from 0 on, is there and begins with the word `register`
  pub record HasRegisterLine (i : ℕ) : Type 0 where
    pub there : i < length (lines_of text)
    pub head : (words_by (line_at text i)).head ≡ codes "register"

  -- it gives this register
  pub record GivesRegister (i : ℕ) (g : GivenRegister) : Type 0 where
    pub line : HasRegisterLine i
    pub says : SaysRegister d (words_by (line_at text i)) g

  -- These registers are given, and no others, in the order of their lines, whose numbers are told from 1 on.
  pub record AreRegistersBy (given : GivenRegisters) : Type 0 where
    pub count : length given.lines ≡ length given.registers
    pub each : (n : ℕ)
        → n < length given.registers
        → (i : ℕ) × (slice_index_or given.lines n 0 ≡ i + 1) × GivesRegister i (given_at given.registers n)
    pub all : (i : ℕ)
        → HasRegisterLine i
        → (n : ℕ) × (n < length given.registers) × (slice_index_or given.lines n 0 ≡ i + 1)
    pub order : AllPairs (λ (x y : ℕ). x < y) given.lines

  -- these are the registers that it gives, whatever the numbers of the lines are
  abbrev pub GivesRegisters : List GivenRegister → Type 0
  GivesRegisters registers =
      (lines : List ℕ) × AreRegistersBy (record { registers = registers; lines = lines })

  -- the first line that begins with the word `register` and gives none, from 1
  pub record HasBadRegisterLine (line : ℕ) (cause : RegisterLineCause) : Type 0 where
    pub i : ℕ
    pub is : line ≡ i + 1
    pub register_line : HasRegisterLine i
    pub bad : IsBadRegisterLine d (words_by (line_at text i)) cause
    pub before : (j : ℕ) → j < i → HasRegisterLine j → (g : GivenRegister) × GivesRegister j g

  abbrev pub IsRegistersFault : RegistersFault → Type 0
  IsRegistersFault (Line line cause) = HasBadRegisterLine line cause
  IsRegistersFault Memory = ⊥
