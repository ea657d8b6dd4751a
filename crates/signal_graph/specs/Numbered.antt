-- Equations of numbered elements with initial values: those of flat programs and those of graphs.
use Rattle.std.specs.Prelude.{◌≡◌, ℕ, ◌<◌, List, ℤ}
use Rattle.recurrences.specs.Systems.{System}
use Rattle.signal_graph.specs.Rules.{max_delay, word_before}
use Rattle.signal_graph.specs.Values.{Words}

-- an element has its initial values or 0 before sample 0, and from there on what its equation gives over all words
abbrev pub numbered : (count samples : ℕ)
    → (inits : ℕ → List (ℕ × ℤ))
    → (gives : (e n : ℕ) → Words → ℤ)
    → (Reads : (e d ago : ℕ) → Type 0)
    → System ℕ ℤ
numbered count samples inits gives Reads = record {
  IsElement = λ e. e < count;
  past = max_delay;
  samples = samples;
  Starts = λ e j word. word ≡ word_before (inits e) j;
  Gives = λ e n words word. word ≡ gives e n words;
  Reads = Reads;
}
