-- First-fit colouring of cyclic lifetimes: in each register file, by the cycle of the write, then by node, then by
-- copy, each copy gets the least register in which no copy before it shares a cycle with it.
use Rattle.std.specs.Prelude.{◌≡◌, ℕ, ◌<◌, ◌⊎◌, List, [], length, slice_index_or}
use Rattle.plan_core.specs.Arcs.{arc_of, IsWrittenBefore}
use Rattle.plan_core.specs.Circle.{AreApart}
use Rattle.plan_core.specs.declared.registers.Arc.{Arc}

-- the register of copy i of arc k
abbrev pub register_of : List (List ℕ) → (k i : ℕ) → ℕ
register_of regs k i = slice_index_or (slice_index_or regs k []) i 0

-- copy i of the one arc gets its register before copy j of the other
abbrev pub IsCopyBefore : Arc → ℕ → Arc → ℕ → Type 0
IsCopyBefore a i b j = IsWrittenBefore a b ⊎ ((a.w ≡ b.w) × (a.node ≡ b.node) × (i < j))

-- copy j of arc l stands before copy i of arc k in a list of arcs
abbrev pub IsListedBefore : (l j k i : ℕ) → Type 0
IsListedBefore l j k i = (l < k) ⊎ ((l ≡ k) × (j < i))

module _ (period unroll : ℕ) (arcs : List Arc) (regs : List (List ℕ)) where
  -- copy i of arc k stands in this register before copy j of arc l of the same file gets one
  pub record StandsIn (register k i l j : ℕ) : Type 0 where
    pub there : k < length arcs
    pub copy : i < (arc_of arcs k).copies
    pub file : (arc_of arcs k).port ≡ (arc_of arcs l).port
    pub before : IsCopyBefore (arc_of arcs k) i (arc_of arcs l) j
    pub its_register : register_of regs k i ≡ register

  -- the register is free for copy j of arc l
  abbrev pub IsFree : (l j register : ℕ) → Type 0
  IsFree l j register =
      (k i : ℕ) → StandsIn register k i l j → AreApart period unroll (arc_of arcs k) i (arc_of arcs l) j

  -- copy j of arc l has the least register that is free for it
  pub record IsFirstFree (l j : ℕ) : Type 0 where
    pub free : IsFree l j (register_of regs l j)
    pub least : (register : ℕ) → register < register_of regs l j → IsFree l j register → ⊥

  -- the registers are those of the arcs' copies by first fit
  pub record IsFirstFit : Type 0 where
    pub count : length regs ≡ length arcs
    pub copies : (k : ℕ) → k < length arcs → length (slice_index_or regs k []) ≡ (arc_of arcs k).copies
    pub each : (k i : ℕ) → k < length arcs → i < (arc_of arcs k).copies → IsFirstFree k i
