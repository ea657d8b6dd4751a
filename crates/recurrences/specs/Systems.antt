-- Systems of recurrence equations: the value of each element at a sample comes from values at the same sample and at
-- earlier ones.
use Rattle.std.specs.Prelude.{◌≡◌, ℕ, ◌+◌, ◌<◌, ℤ, pos, negsuc}

-- the value of each element at each sample
abbrev pub Signals : Type 0 → Type 0 → Type 0
Signals E A = E → ℤ → A

-- elements of any kind, with values of any kind
pub record System (E A : Type 0) : Type 1 where
  pub IsElement : E → Type 0
  -- how many samples there are before sample 0, and from sample 0 on
  pub past : ℕ
  pub samples : ℕ
  -- the element has this value at sample -j
  pub Starts : E → (j : ℕ) → A → Type 0
  -- the element has this value at sample n, where the signals are these
  pub Gives : E → (n : ℕ) → (E → ℤ → A) → A → Type 0
  -- the value of the first element comes from the second, this many samples ago
  pub Reads : E → E → (ago : ℕ) → Type 0

module _ {E A : Type 0} where
  -- The signals meet the equations: each element has its initial values at the samples before sample 0, and what its
  -- equation gives at each sample from there on. negsuc j is -(j + 1).
  pub record Solves (s : System E A) (x : Signals E A) : Type 0 where
    pub past : (e : E) (j : ℕ) → s.IsElement e → j < s.past → s.Starts e (j + 1) (x e (negsuc j))
    pub present : (e : E) (n : ℕ) → s.IsElement e → n < s.samples → s.Gives e n x (x e (pos n))

  -- the signals agree at each element and sample of the system; others do not count
  pub record AreSame (s : System E A) (x y : Signals E A) : Type 0 where
    pub past : (e : E) (j : ℕ) → s.IsElement e → j < s.past → x e (negsuc j) ≡ y e (negsuc j)
    pub present : (e : E) (n : ℕ) → s.IsElement e → n < s.samples → x e (pos n) ≡ y e (pos n)

  -- the signals solve the system, and no others do
  pub record IsOneSolution (s : System E A) (x : Signals E A) : Type 0 where
    pub solves : Solves s x
    pub unique : (others : Signals E A) → Solves s others → AreSame s others x

module _ {E : Type 0} (Reads : E → E → (ago : ℕ) → Type 0) where
  -- the first element depends on the second without a delay, in one step or more
  pub data DependsNow : E → E → Type 0 where
    direct : {e c : E} → Reads e c 0 → DependsNow e c
    by_way_of : {e c : E} (d : E) → Reads e d 0 → DependsNow d c → DependsNow e c

  -- no element depends on itself without a delay: there is no delay-free loop
  abbrev pub HasNoDelaylessLoop : (IsElement : E → Type 0) → Type 0
  HasNoDelaylessLoop IsElement = (e : E) → IsElement e → DependsNow e e → ⊥
