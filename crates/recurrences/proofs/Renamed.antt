-- Two elements of which each is the other at the same sample, which has many solutions; and the same two with their
-- names exchanged. Each keeps all solutions of the other, and neither keeps the one solution, since there is none.
use Rattle.std.proofs.Common.{◌≡◌, refl, sym, ◌∙◌, arith, ℕ, ◌+◌, ◌-◌, ◌<◌}
use Rattle.std.specs.Prelude.{ℤ, pos, negsuc}
use Rattle.recurrences.specs.Systems.{Signals, System, Solves, AreSame}
use Rattle.recurrences.specs.Kept.{KeepsSolutions, KeepsAllSolutions}
use Rattle.recurrences.proofs.Kept.{keeps_all_back}

-- before sample 0 the first is 6 and the second 7
abbrev pair : System ℕ ℕ
pair = record {
  IsElement = λ e. e < 2;
  past = 1;
  samples = 3;
  Starts = λ e j v. v ≡ 6 + e;
  Gives = λ e n x v. v ≡ x (1 - e) (pos n);
  Reads = λ e d ago. (d ≡ 1 - e) × (ago ≡ 0);
}

-- before sample 0 the first is 7 and the second 6
abbrev exchanged : System ℕ ℕ
exchanged = record {
  IsElement = λ e. e < 2;
  past = 1;
  samples = 3;
  Starts = λ e j v. v ≡ 7 - e;
  Gives = λ e n x v. v ≡ x (1 - e) (pos n);
  Reads = λ e d ago. (d ≡ 1 - e) × (ago ≡ 0);
}

-- each of the two has the signal of the other
abbrev AreExchanged : Signals ℕ ℕ → Signals ℕ ℕ → Type 0
AreExchanged x y = (e : ℕ) (n : ℤ) → e < 2 → y e n ≡ x (1 - e) n

abbrev exchange : Signals ℕ ℕ → Signals ℕ ℕ
exchange x e n = x (1 - e) n

twice : (e : ℕ) → e < 2 → 1 - (1 - e) ≡ e
twice e less = omega arith

back_again : (x : Signals ℕ ℕ) → AreExchanged (exchange x) x
back_again x e n less = rw (twice e less) refl

there : (x : Signals ℕ ℕ) → Solves pair x → Solves exchanged (exchange x)
there x solves = record {
  past = λ e j el lt. solves.past (1 - e) j (omega arith) lt ∙ omega arith;
  present = λ e n el lt. solves.present (1 - e) n (omega arith) lt;
}

and_back : (y : Signals ℕ ℕ) → Solves exchanged y → Solves pair (exchange y)
and_back y solves = record {
  past = λ e j el lt. solves.past (1 - e) j (omega arith) lt ∙ omega arith;
  present = λ e n el lt. solves.present (1 - e) n (omega arith) lt;
}

same_there : (x w y z : Signals ℕ ℕ)
    → AreExchanged x y
    → AreExchanged w z
    → AreSame pair x w
    → AreSame exchanged y z
same_there x w y z a b same = record {
  past = λ e j el lt. a e _ el ∙ same.past (1 - e) j (omega arith) lt ∙ sym (b e _ el);
  present = λ e n el lt. a e _ el ∙ same.present (1 - e) n (omega arith) lt ∙ sym (b e _ el);
}

exchanged_back : (x y : Signals ℕ ℕ) → AreExchanged x y → AreExchanged y x
exchanged_back x y a e n less =
    let at = a (1 - e) n (omega arith) in let own = back_again x e n less in sym (at ∙ sym own)

same_back : (x w y z : Signals ℕ ℕ)
    → AreExchanged x y
    → AreExchanged w z
    → AreSame exchanged y z
    → AreSame pair x w
same_back x w y z a b same = record {
  past = λ e j el lt.
      exchanged_back x y a e _ el ∙ same.past (1 - e) j (omega arith) lt ∙ sym (exchanged_back w z b e _ el);
  present = λ e n el lt.
      exchanged_back x y a e _ el ∙ same.present (1 - e) n (omega arith) lt ∙ sym (exchanged_back w z b e _ el);
}

kept : KeepsAllSolutions pair exchanged AreExchanged
kept = record {
  forth = λ x solves. (exchange x, there x solves, λ e n less. refl);
  back = λ y solves. (exchange y, and_back y solves, back_again y);
  one = λ x w y z a b. (same_there x w y z a b, same_back x w y z a b);
}

kept_back : KeepsAllSolutions exchanged pair (λ y x. AreExchanged x y)
kept_back = keeps_all_back pair exchanged AreExchanged kept

-- the same number in both, at each sample from 0 on
abbrev level : ℕ → Signals ℕ ℕ
level v e (pos n) = v
level v e (negsuc j) = 6 + e

level_solves : (v : ℕ) → Solves pair (level v)
level_solves v = record { past = λ e j el lt. refl; present = λ e n el lt. refl }

not_the_one : KeepsSolutions pair exchanged AreExchanged → ⊥
not_the_one keeps =
    let (y, only, equal) = keeps.forth (level 0) (level_solves 0) in
    let (x, one, same) = keeps.back y only.solves in
    let low = (one.unique (level 0) (level_solves 0)).present 0 0 (omega arith) (omega arith) in
    let high = (one.unique (level 1) (level_solves 1)).present 0 0 (omega arith) (omega arith) in
    let clash : 0 ≡ 1 = low ∙ sym high in
    absurd (omega (arith, clash))
