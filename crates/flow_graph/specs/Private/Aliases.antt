-- Aliases, one after another: where the chain of an element ends.
use Rattle.std.specs.Prelude.{◌≡◌, ℕ, ◌+◌, ◌<◌, ◌≤◌, ◌⊎◌, nat_lt, ◌||◌, Bool, if◌then◌else◌, List, length}
use Rattle.std.specs.Prelude.{slice_index_or}
use Rattle.signal_graph.specs.Flat.{raw, read, calculation, Body, word, value, Program}
use Rattle.signal_graph.specs.FlatSolves.{element_of}
use Rattle.signal_graph.specs.GraphOf.{Target, is_delayed, IsAlias, IsNodeOf}

-- the element that an alias reads, and itself for any other
abbrev pub alias : Bool → ℕ → Body → ℕ
alias is_delayed e (word j) = e
alias is_delayed e (value (raw m)) = e
alias is_delayed e (value (read d ago)) = if nat_lt 0 ago || is_delayed then e else d
alias is_delayed e (value (calculation o fmt parts)) = e

-- the node of element d is that of element e
abbrev pub IsNamed : Program → (e d : ℕ) → Type 0
IsNamed p e d = (t : Target) → IsNodeOf p d t → IsNodeOf p e t

-- the element is no alias of another
abbrev pub IsEnd : Program → ℕ → Type 0
IsEnd p e = (d : ℕ) → ¬ IsAlias p e (read d 0)

abbrev pub IsInside : List ℕ → Type 0
IsInside leads = (e : ℕ) → e < length leads → slice_index_or leads e 0 < length leads

-- element e leads to element d, which is the end of its chain or this far along
pub record JumpsTo (p : Program) (height : ℕ → ℕ) (far e d : ℕ) : Type 0 where
  pub named : IsNamed p e d
  pub stays : IsEnd p e → d ≡ e
  pub falls : IsEnd p d ⊎ (height d + far ≤ height e)

pub record Jumps (p : Program) (height : ℕ → ℕ) (far : ℕ) (leads : List ℕ) : Type 0 where
  pub at : (e : ℕ) → e < length leads → JumpsTo p height far e (slice_index_or leads e 0)

-- each element leads to the one that it reads where it is an alias, and to itself where not
pub record AreAliases (p : Program) (aliases : List ℕ) : Type 0 where
  pub size : length aliases ≡ length p.elems
  pub at : (e : ℕ) → e < length p.elems
      → slice_index_or aliases e 0 ≡ alias (is_delayed p e) e (element_of p e).body

-- each element leads to the end of its chain
pub record AreEnds (p : Program) (leads : List ℕ) : Type 0 where
  pub named : (e : ℕ) → e < length leads → IsNamed p e (slice_index_or leads e 0)
  pub ends : (e : ℕ) → e < length leads → IsEnd p (slice_index_or leads e 0)
