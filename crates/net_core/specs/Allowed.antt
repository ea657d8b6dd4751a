-- What a net may be: numbers in their ranges, and each wire from the net's row or from a processor of a smaller number.
use Rattle.std.specs.Prelude.{◌≢◌, ◌<◌, ℕ, ◌+◌, List, [], ◌∷◌, length}
use Rattle.std.specs.List.{All}
pub use Rattle.operations.specs.Ranges.{IsWithin}
use Rattle.net_core.specs.declared.types.NetFile.{NetFile}
use Rattle.net_core.specs.declared.types.NetProc.{NetProc}
use Rattle.net_core.specs.declared.types.Wire.{Wire}
use Rattle.net_core.specs.declared.types.Wire.TheVariants.{Input, From}

-- how many words a row has at most
abbrev pub most_words : ℕ
most_words = 16

-- a wire to processor p, in a net whose row has so many words
abbrev pub IsWire : (inputs p : ℕ) → Wire → Type 0
IsWire inputs p (Input j) = j < inputs
IsWire inputs p (From q j) = (q < p) × (j < most_words)

-- processor p of such a net
pub record IsProc (inputs p : ℕ) (proc : NetProc) : Type 0 where
  pub src : proc.src ≢ []
  pub dp : proc.dp ≢ []
  pub feed_count : IsWithin 1 most_words (length proc.feed)
  pub feed : All (IsWire inputs p) proc.feed

-- the processors from number p on
abbrev pub AreProcsFrom : (inputs p : ℕ) → List NetProc → Type 0
AreProcsFrom inputs p [] = Unit {0}
AreProcsFrom inputs p (proc ∷ procs) = IsProc inputs p proc × AreProcsFrom inputs (p + 1) procs

pub record IsNetFile (net : NetFile) : Type 0 where
  pub inputs : IsWithin 1 most_words net.inputs
  pub capacity : IsWithin 1 64 net.capacity
  pub proc_count : IsWithin 1 8 (length net.procs)
  pub procs : AreProcsFrom net.inputs 0 net.procs
