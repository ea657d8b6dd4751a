-- Equations of numbered elements have one solution.
use Rattle.std.proofs.Common.{◌≡◌, refl, sym, ◌∙◌, ℕ, ◌+◌, ◌<◌, ◌≤◌, Bool, true, List}
use Rattle.std.specs.Prelude.{ℤ}
use Rattle.recurrences.specs.Systems.{System, Solves, IsOneSolution, HasNoDelaylessLoop}
use Rattle.recurrences.proofs.Determined.{IsDetermined, HasHeights}
use Rattle.recurrences.proofs.Heights.{has_heights}
use Rattle.recurrences.proofs.OneSolution.{loopless_solution}
use Rattle.recurrences.proofs.Unique.{same}
use Rattle.signal_graph.specs.Rules.{max_delay, word_before}
use Rattle.signal_graph.specs.Numbered.{numbered}
use Rattle.signal_graph.specs.Values.{Words}
use Rattle.signal_graph.proofs.Values.{Agree}

-- what an equation gives depends only on what it reads, and it reads elements that are there, not too long ago
pub record IsLocal (count : ℕ) (gives : (e n : ℕ) → Words → ℤ) (Reads : (e d ago : ℕ) → Type 0) : Type 0 where
  pub same : (e n : ℕ) (x y : Words) → Agree x y n (Reads e) → gives e n x ≡ gives e n y
  pub elements : (e d ago : ℕ) → e < count → Reads e d ago → d < count
  pub delays : (e d ago : ℕ) → e < count → Reads e d ago → ago ≤ max_delay
  -- whether one is read without a delay
  pub test : (e d : ℕ) → Bool
  pub tests : (e d : ℕ) → (test e d ≡ true → Reads e d 0) × (Reads e d 0 → test e d ≡ true)

module _ (count samples : ℕ) (inits : ℕ → List (ℕ × ℤ)) (gives : (e n : ℕ) → Words → ℤ) (Reads : (e d ago : ℕ) → Type 0)
    (is : IsLocal count gives Reads) where
  abbrev system : System ℕ ℤ
  system = numbered count samples inits gives Reads

  pub determined : IsDetermined system
  determined = record {
    start = λ e j. word_before (inits e) (j + 1);
    starts = λ e j el lt. refl;
    starts_once = λ e j v w el a b. a ∙ sym b;
    give = gives;
    gives = λ e n x el lt. refl;
    gives_once = λ e n x y v w el agree a b. a ∙ is.same e n x y agree ∙ sym b;
    elements = is.elements;
    delays = is.delays;
  }

  module _ (loopless : HasNoDelaylessLoop Reads (λ e. e < count)) where
    pub heights : HasHeights system
    heights = has_heights system determined count (λ e el. el) is.test is.tests loopless

    pub its_solution : (x : Words) × IsOneSolution system x
    its_solution = loopless_solution system determined count (λ e el. el) is.test is.tests loopless

    -- each solution is the one
    pub once : (x : Words) → Solves system x → IsOneSolution system x
    once x solves = record { solves = solves; unique = λ y h. same system determined heights y x h solves }
