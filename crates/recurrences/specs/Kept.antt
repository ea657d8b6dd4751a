-- What it is for a system to keep the solutions of another.
use Rattle.std.specs.Prelude.{◌↔◌}
use Rattle.recurrences.specs.Systems.{Signals, System, Solves, AreSame, IsOneSolution}

module _ {E F A : Type 0} (s : System E A) (t : System F A) (AreEqual : Signals E A → Signals F A → Type 0) where
  -- Each solution of the first system gives the one solution of the second, and each solution of the second comes from
  -- the one solution of the first, with signals that are equal in this sense.
  pub record KeepsSolutions : Type 0 where
    pub forth : (x : Signals E A) → Solves s x → (y : Signals F A) × IsOneSolution t y × AreEqual x y
    pub back : (y : Signals F A) → Solves t y → (x : Signals E A) × IsOneSolution s x × AreEqual x y

  -- However many solutions there are, those of the two systems correspond one to one: each solution of either system is
  -- equal to one of the other, and solutions are the same exactly where those that they are equal to are.
  pub record KeepsAllSolutions : Type 0 where
    pub forth : (x : Signals E A) → Solves s x → (y : Signals F A) × Solves t y × AreEqual x y
    pub back : (y : Signals F A) → Solves t y → (x : Signals E A) × Solves s x × AreEqual x y
    pub one : (x w : Signals E A) (y z : Signals F A)
        → AreEqual x y
        → AreEqual w z
        → AreSame s x w ↔ AreSame t y z
