-- Faults with ranks, and the first of them.
use Rattle.std.specs.Prelude.{◌≡◌, ◌<◌, ◌⊎◌, ℕ, zero, suc, List, [], ◌∷◌, Result, Ok, Err}

-- in the order of a dictionary, where a prefix comes first
abbrev pub StandsBefore : List ℕ → List ℕ → Type 0
StandsBefore [] s = Unit {0}
StandsBefore (k ∷ r) [] = ⊥
StandsBefore (k ∷ r) (l ∷ s) = (k < l) ⊎ ((k ≡ l) × StandsBefore r s)

module _ (F : Type 0) where
  -- which faults a thing has at which ranks
  abbrev pub FaultSet : Type 1
  FaultSet = List ℕ → F → Type 0

  -- the same for a row of things, by position
  abbrev pub FaultRow : Type 1
  FaultRow = ℕ → List ℕ → F → Type 0

module _ {F : Type 0} where
  abbrev pub no_faults : FaultRow F
  no_faults k r f = ⊥

  -- the faults of the first thing of a row, then those of the others
  infixr 20 ◌before◌
  abbrev pub ◌before◌ : FaultSet F → FaultRow F → FaultRow F
  (H before R) zero r f = H r f
  (H before R) (suc k) r f = R k r f

  -- a thing has the faults of its parts, in their order
  abbrev pub faults_in : FaultRow F → FaultSet F
  faults_in R [] f = ⊥
  faults_in R (k ∷ r) f = R k r f

  -- a rule of the thing itself: where it is broken the fault is g, before the faults of the parts
  abbrev pub own_fault : (IsBroken : Type 0) → F → FaultRow F → FaultSet F
  own_fault IsBroken g R [] f = IsBroken × (f ≡ g)
  own_fault IsBroken g R (k ∷ r) f = R k r f

  -- one rule alone
  abbrev pub fault_where : (IsBroken : Type 0) → F → FaultSet F
  fault_where IsBroken g = own_fault IsBroken g no_faults

  -- there is no fault
  abbrev pub IsClear : FaultSet F → Type 0
  IsClear H = (r : List ℕ) (f : F) → H r f → ⊥

  -- the fault has the least rank
  pub record IsFirst (H : FaultSet F) (e : F) : Type 0 where
    pub rank : List ℕ
    pub here : H rank e
    pub least : (s : List ℕ) (f : F) → H s f → StandsBefore rank s

  -- the call answers Ok, or it is out of memory
  abbrev pub AnswersOk : {A : Type 0} → (memory : F) → Result A F → Type 0
  AnswersOk memory (Ok x) = Unit {0}
  AnswersOk memory (Err e) = e ≡ memory

  -- the call answers this fault, or it is out of memory
  abbrev pub AnswersFault : {A : Type 0} → (memory fault : F) → Result A F → Type 0
  AnswersFault memory fault (Ok x) = ⊥
  AnswersFault memory fault (Err e) = (e ≡ fault) ⊎ (e ≡ memory)
