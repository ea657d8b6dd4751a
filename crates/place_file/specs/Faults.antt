-- Why a text gives no places.
use Rattle.std.specs.Prelude.{◌≡◌, ◌≢◌, ◌⊎◌, ℕ, ◌+◌, ◌<◌, ◌^◌, List, codes}
use Rattle.datapath.specs.declared.types.Datapath.{Datapath}
use Rattle.placed_plan.specs.declared.place.Place.{Place}
use Rattle.place_file.specs.Lines.{line_at, Said, said_by}
use Rattle.place_file.specs.Given.{IsNumber, IsUnitNamed, IsPlaceLine, HasNodeLine, Gives}
use Rattle.place_file.specs.declared.fault.GivenFault.{GivenFault}
use Rattle.place_file.specs.declared.fault.GivenFault.TheVariants.{Line, Missing, Memory}
use Rattle.place_file.specs.declared.fault.LineCause.{LineCause}
use Rattle.place_file.specs.declared.fault.LineCause.TheVariants.{Form, Number, Unit as UnknownUnit, Twice}

-- what a line that begins with the word `node` has, word by word
module _ (said : Said) where
  abbrev pub HasNode : Type 0
  HasNode = (v : ℕ) × IsNumber (2 ^ 32) said.node v

  pub record IsToCycle : Type 0 where
    pub node : HasNode
    pub label : said.cycle_label ≡ codes "cycle"

  pub record HasCycle : Type 0 where
    pub before : IsToCycle
    pub cycle : (t : ℕ) × IsNumber (2 ^ 16) said.cycle t

  pub record IsToUnit : Type 0 where
    pub before : HasCycle
    pub label : said.unit_label ≡ codes "unit"

-- the first word of the line that is wrong: one for which another stands, no number, or no name of a unit
abbrev pub IsBadLine : Datapath → Said → LineCause → Type 0
IsBadLine d said Form =
    (HasNode said × (said.cycle_label ≢ codes "cycle")) ⊎ (HasCycle said × (said.unit_label ≢ codes "unit"))
IsBadLine d said Number =
    (HasNode said → ⊥) ⊎ (IsToCycle said × ((t : ℕ) → IsNumber (2 ^ 16) said.cycle t → ⊥))
IsBadLine d said UnknownUnit = IsToUnit said × ((u : ℕ) → IsUnitNamed d said.unit u → ⊥)
IsBadLine d said Twice = ⊥

module _ (d : Datapath) (text : List ℕ) where
  -- a line gives a place
  abbrev pub GivesSome : ℕ → Type 0
  GivesSome i = (v : ℕ) × (place : Place) × IsPlaceLine d (said_by (line_at text i)) v place

  -- the first line that begins with the word `node` and gives no place, from 1
  pub record HasBadLine (line : ℕ) (cause : LineCause) : Type 0 where
    pub i : ℕ
    pub is : line ≡ i + 1
    pub node_line : HasNodeLine d text i
    pub bad : IsBadLine d (said_by (line_at text i)) cause
    pub before : (j : ℕ) → j < i → HasNodeLine d text j → GivesSome j

  -- line i gives node v its place
  abbrev pub GivesNode : (i v : ℕ) → Type 0
  GivesNode i v = (place : Place) × Gives d text i v place

  -- one line does, and no other
  pub record HasOneLine (v : ℕ) : Type 0 where
    pub i : ℕ
    pub gives : GivesNode i v
    pub only : (j : ℕ) → GivesNode j v → j ≡ i

  -- each line that begins with the word `node` gives a place, and node v is the first that has not one line
  pub record IsFirstWithoutOne (v : ℕ) : Type 0 where
    pub all : (i : ℕ) → HasNodeLine d text i → GivesSome i
    pub before : (u : ℕ) → u < v → HasOneLine u

  -- node v has none, and one behind it has
  pub record LacksLine (v : ℕ) : Type 0 where
    pub first : IsFirstWithoutOne v
    pub none : (i : ℕ) → GivesNode i v → ⊥
    pub next : (w : ℕ) × (i : ℕ) × (v < w) × GivesNode i w

  -- it has two, and this is the second, from 1
  pub record HasSecondLine (line : ℕ) : Type 0 where
    pub v : ℕ
    pub first : IsFirstWithoutOne v
    pub i : ℕ
    pub j : ℕ
    pub is : line ≡ i + 1
    pub gives : GivesNode i v
    pub earlier : j < i
    pub before : GivesNode j v
    pub only : (k : ℕ) → k < i → GivesNode k v → k ≡ j

  -- The fault is the first bad line, else that of the first node that has not one line. To be out of memory is none.
  abbrev pub IsGivenFault : GivenFault → Type 0
  IsGivenFault (Line line Twice) = HasSecondLine line
  IsGivenFault (Line line cause) = HasBadLine line cause
  IsGivenFault (Missing v) = LacksLine v
  IsGivenFault Memory = ⊥
