-- What the elements of a phase need: reads that are there and not too long ago.
use Rattle.std.specs.Prelude.{ℕ, ◌<◌, ◌≤◌, List, [], All}
use Rattle.signal_graph.specs.Flat.{Expr, raw, read, calculation, Parts, no_part, part, Body, word, value, Element}
use Rattle.signal_graph.specs.Rules.{max_delay}
use Rattle.rate_unfold.specs.declared.phases.Phase.{Phase}
use Rattle.rate_unfold.specs.Frames.{Rates}

pub record IsPhase (phase : Phase) : Type 0 where
  pub first : 1 ≤ phase.phases
  pub last : phase.phases ≤ 8
  pub number : phase.number < phase.phases
  pub elements : phase.elements ≤ 8192

abbrev pub rates_of : Phase → Rates
rates_of phase = record { phases = phase.phases; down = []; up = phase.up.now }

module _ (elements : ℕ) where
  pub record IsShortRead (e ago : ℕ) : Type 0 where
    pub element : e < elements
    pub delay : ago ≤ max_delay

  abbrev mutual
    pub HasShortReads : Expr → Type 0
    HasShortReads (raw m) = Unit {0}
    HasShortReads (read e ago) = IsShortRead e ago
    HasShortReads (calculation o fmt parts) = HaveShortReads parts

    pub HaveShortReads : Parts → Type 0
    HaveShortReads no_part = Unit {0}
    HaveShortReads (part x rest) = HasShortReads x × HaveShortReads rest

  abbrev pub IsShortBody : Body → Type 0
  IsShortBody (word j) = j < 16
  IsShortBody (value x) = HasShortReads x

  abbrev pub IsShort : Element → Type 0
  IsShort element = IsShortBody element.body

  abbrev pub AreShort : List Element → Type 0
  AreShort elems = All IsShort elems
