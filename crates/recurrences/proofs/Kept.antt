-- What keeps solutions one after another keeps them together. What keeps them all keeps the one.
use Rattle.std.proofs.Common.{sym, ◌∙◌, refl}
use Rattle.recurrences.specs.Systems.{Signals, System, Solves, AreSame, IsOneSolution}
use Rattle.recurrences.specs.Kept.{KeepsSolutions, KeepsAllSolutions}

-- the first signals are equal to some that are equal to the last
abbrev pub AreEqualThrough : {E F G A : Type 0}
    → (Signals E A → Signals F A → Type 0)
    → (Signals F A → Signals G A → Type 0)
    → Signals E A
    → Signals G A
    → Type 0
AreEqualThrough {F = F} {A = A} First Second x z = (y : Signals F A) × First x y × Second y z

pub keeps_through :
    {E F G A : Type 0} (s : System E A) (t : System F A) (u : System G A) (First : Signals E A → Signals F A → Type 0)
    (Second : Signals F A → Signals G A → Type 0)
    → KeepsSolutions s t First
    → KeepsSolutions t u Second
    → KeepsSolutions s u (AreEqualThrough First Second)
keeps_through s t u First Second a b = record {
  forth = λ x solves.
      let (y, middle, first) = a.forth x solves in
      let (z, last, second) = b.forth y middle.solves in
      (z, last, (y, first, second));
  back = λ z solves.
      let (y, middle, second) = b.back z solves in
      let (x, one, first) = a.back y middle.solves in
      (x, one, (y, first, second));
}

pub keeps_all_through :
    {E F G A : Type 0} (s : System E A) (t : System F A) (u : System G A) (First : Signals E A → Signals F A → Type 0)
    (Second : Signals F A → Signals G A → Type 0)
    → KeepsAllSolutions s t First
    → KeepsAllSolutions t u Second
    → KeepsAllSolutions s u (AreEqualThrough First Second)
keeps_all_through s t u First Second a b = record {
  forth = λ x solves.
      let (y, middle, first) = a.forth x solves in
      let (z, last, second) = b.forth y middle in
      (z, last, (y, first, second));
  back = λ z solves.
      let (y, middle, second) = b.back z solves in
      let (x, one, first) = a.back y middle in
      (x, one, (y, first, second));
  one = λ x v z w here there.
      let (y, first, second) = here in
      let (k, third, fourth) = there in
      let near = a.one x v y k first third in
      let far = b.one y k z w second fourth in
      (λ h. far.0 (near.0 h), λ h. near.1 (far.1 h));
}

-- the other way round
pub keeps_all_back : {E F A : Type 0} (s : System E A) (t : System F A) (AreEqual : Signals E A → Signals F A → Type 0)
    → KeepsAllSolutions s t AreEqual
    → KeepsAllSolutions t s (λ y x. AreEqual x y)
keeps_all_back s t AreEqual keeps = record {
  forth = keeps.back;
  back = keeps.forth;
  one = λ y z x w a b. let both = keeps.one x w y z a b in (both.1, both.0);
}

module _ {E A : Type 0} (s : System E A) where
  pub same_itself : (x : Signals E A) → AreSame s x x
  same_itself x = record { past = λ e j el lt. refl; present = λ e n el lt. refl }

  pub same_back : {x y : Signals E A} → AreSame s x y → AreSame s y x
  same_back a = record { past = λ e j el lt. sym (a.past e j el lt); present = λ e n el lt. sym (a.present e n el lt) }

  pub same_chain : {x y z : Signals E A} → AreSame s x y → AreSame s y z → AreSame s x z
  same_chain a b = record {
    past = λ e j el lt. a.past e j el lt ∙ b.past e j el lt;
    present = λ e n el lt. a.present e n el lt ∙ b.present e n el lt;
  }

  -- where there is one solution, each solution is the one
  pub each_is_one : {one : Signals E A} → IsOneSolution s one → (x : Signals E A) → Solves s x → IsOneSolution s x
  each_is_one only x solves = record {
    solves = solves;
    unique = λ others theirs. same_chain (only.unique others theirs) (same_back (only.unique x solves));
  }

module _ {E F A : Type 0} (s : System E A) (t : System F A) (AreEqual : Signals E A → Signals F A → Type 0)
    (keeps : KeepsAllSolutions s t AreEqual) where
  -- a solution that is equal to the one solution is the one
  pub equal_to_one : (x : Signals E A) (y : Signals F A)
      → Solves s x
      → AreEqual x y
      → IsOneSolution t y
      → IsOneSolution s x
  equal_to_one x y solves equal only = record {
    solves = solves;
    unique = λ others theirs.
        let (there, solved, as_there) = keeps.forth others theirs in
        (keeps.one others x there y as_there equal).1 (only.unique there solved);
  }

  -- where the second system has one solution, the first has one too, and it is kept
  pub keeps_the_one : (one : Signals F A) → IsOneSolution t one → KeepsSolutions s t AreEqual
  keeps_the_one one only = record {
    forth = λ x solves.
        let (y, solved, equal) = keeps.forth x solves in
        (y, each_is_one t only y solved, equal);
    back = λ y solved.
        let (x, solves, equal) = keeps.back y solved in
        (x, equal_to_one x y solves equal (each_is_one t only y solved), equal);
  }
