-- The nesting limits of a source: the weight of an outermost expression, and how deep loops are nested.
use Rattle.std.specs.Prelude.{◌≡◌, ℕ, ◌+◌, ◌-◌, ◌≤◌, ◌<◌, List, take, fold, slice_get, Some, length}
use Rattle.silage_lex.specs.declared.Token.{Token}
use Rattle.silage_syntax.specs.Tree.{Program}
use Rattle.silage_syntax.specs.Grammar.{Role, Starts, Weighs, Enters, Leaves, HasRoles}

-- the weight of the outermost expression that began last
abbrev pub weigh : ℕ → Role → ℕ
weigh w Starts = 0
weigh w Weighs = w + 1
weigh w _ = w

-- how many loops are open
abbrev pub enter : ℕ → Role → ℕ
enter d Enters = d + 1
enter d Leaves = d - 1
enter d _ = d

-- how many tokens may count in an outermost expression, and how many loops may be nested
abbrev pub max_weight : ℕ
max_weight = 256

abbrev pub max_loops : ℕ
max_loops = 16

-- token k is the 257th that counts in its outermost expression, or the `begin` of a loop inside 16 loops
pub data Passes (roles : List Role) (k : ℕ) : Type 0 where
  too_heavy : slice_get roles k ≡ Some Weighs → fold weigh 0 (take k roles) ≡ max_weight → Passes roles k
  too_deep : slice_get roles k ≡ Some Enters → fold enter 0 (take k roles) ≡ max_loops → Passes roles k

-- no token passes a limit
abbrev pub AreWithin : List Role → Type 0
AreWithin roles = (k : ℕ) → ¬ Passes roles k

-- two lists of tokens have the same first tokens
abbrev pub AgreeBelow : List Token → List Token → ℕ → Type 0
AgreeBelow ts us k = (m : ℕ) → m < k → slice_get ts m ≡ slice_get us m

-- the first k tokens are a viable prefix: some program begins with them
pub record Begins (ts : List Token) (k : ℕ) : Type 0 where
  pub all : List Token
  pub program : Program
  pub roles : List Role
  pub long : k ≤ length all
  pub agrees : AgreeBelow ts all k
  pub derives : HasRoles all program roles

-- token k passes a limit, as the tokens up to it tell
pub record IsDeep (ts : List Token) (k : ℕ) : Type 0 where
  pub within : k < length ts
  pub begins : Begins ts (k + 1)
  pub passes : Passes begins.roles k
