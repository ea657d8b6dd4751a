-- The heights of nodes on units are the only ones.
use Rattle.std.proofs.Common.{◌≡◌, ap, arith, ℕ, zero, suc, ◌+◌, ◌<◌, ◌≤◌, ◌⊎◌, inl, inr, ⊎_elim, le_antisymm, length}
use Rattle.std.proofs.lemmas.Bool.{cases_lt}
use Rattle.std.proofs.lemmas.List.{get_or_past}
use Rattle.datapath.specs.Allowed.{IsDatapath}
use Rattle.datapath.specs.declared.types.Unit.{Unit as FunctionalUnit}
use Rattle.datapath.specs.declared.types.Datapath.{Datapath}
use Rattle.plan_core.specs.Hardware.{no_unit, unit_of, latency_on}
use Rattle.plan_core.specs.Assigned.{unit_in}
use Rattle.plan_core.specs.Heights.{ReadsNow, latency_of, AreHeights}
use Rattle.plan_core.specs.declared.schedule.Assigned.{Assigned}
use Rattle.plan_core.proofs.Readers.{reader_there}

pub neither_less : (m n : ℕ) → (m < n → ⊥) → (n < m → ⊥) → m ≡ n
neither_less m n up down =
    ⊎_elim (λ h. absurd (up h)) (λ h. ⊎_elim (λ k. absurd (down k)) (λ k. omega arith) (cases_lt n m)) (cases_lt m n)

-- an operation takes a cycle at least
pub live_of : (d : Datapath) → IsDatapath d → (u : ℕ) → 1 ≤ latency_on d u
live_of d is u =
    ⊎_elim (λ h. (is.units u no_unit h).latency.0) (λ h. past (get_or_past d.units u no_unit h))
    (cases_lt u (length d.units))
  where
    past : unit_of d u ≡ no_unit → 1 ≤ latency_on d u
    past e = let same = ap (λ (x : FunctionalUnit). x.latency) e in omega arith

module _ (d : Datapath) (a : Assigned) (live : (u : ℕ) → 1 ≤ latency_on d u) where
  height-below : (g h : ℕ → ℕ)
      → AreHeights d a g
      → AreHeights d a h
      → (m v : ℕ)
      → v < length a.lowered.nodes
      → g v ≤ m
      → g v ≤ h v
  height-below g h gs hs zero v there small = omega arith
  height-below g h gs hs (suc m) v there small =
      by (λ c c_there lower. height-below g h gs hs m c c_there lower) (gs v there).reached
    where
      by : ((c : ℕ) → c < length a.lowered.nodes → g c ≤ m → g c ≤ h c)
          → (g v ≡ latency_of d a v)
          ⊎ ((c : ℕ) × (q : ℕ) × ReadsNow a.lowered.nodes c q v × (g v ≡ latency_of d a v + g c))
          → g v ≤ h v
      by rest (inl e) = let alone = (hs v there).alone in omega arith
      by rest (inr x) =
          let positive = live (unit_in a.units v) in let e = x.3 in
          let c_there = reader_there a.lowered.nodes x.0 x.1 v x.2.reads in
          let less = rest x.0 c_there (omega arith) in
          let above = (hs v there).above x.0 x.1 x.2 in
          omega arith

  pub one_height : (g h : ℕ → ℕ)
      → AreHeights d a g
      → AreHeights d a h
      → (v : ℕ)
      → v < length a.lowered.nodes
      → g v ≡ h v
  one_height g h gs hs v there =
      le_antisymm (height-below g h gs hs (g v) v there (omega arith))
      (height-below h g hs gs (h v) v there (omega arith))
