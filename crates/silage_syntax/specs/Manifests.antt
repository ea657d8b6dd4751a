-- Manifest constants: compile-time integers, which are known once the indices of the loops have values.
use Rattle.std.specs.Prelude.{◌≡◌, ℕ, ◌-◌, ◌^◌, ◌≤◌, ◌&&◌, if◌then◌else◌, List, find, Option, Some, None, option_map}
use Rattle.std.specs.Prelude.{option_and_then, ℤ, pos, neg_ℤ, ◌+ℤ◌, ◌-ℤ◌, ◌*ℤ◌, int_le, bytes_eq}
use Rattle.silage_syntax.specs.declared.tree.MOp.{MOp}
use Rattle.silage_syntax.specs.declared.tree.MOp.TheVariants as mop
use Rattle.silage_syntax.specs.Tree.{Manifest, whole, counter, minus, both}

-- the indices of the loops around an item, outermost first, each with its value
abbrev pub Indices : Type 0
Indices = List (List ℕ × ℤ)

-- the value of an index, if a loop around the item has it
abbrev pub index_value : Indices → List ℕ → Option ℤ
index_value indices name =
    option_map (λ (index : List ℕ × ℤ). index.1) (find (λ (index : List ℕ × ℤ). bytes_eq index.0 name) indices)

-- the number, if it is in -2^31 .. 2^31-1
abbrev pub in_range : ℤ → Option ℤ
in_range z = if int_le (neg_ℤ (pos (2 ^ 31))) z && int_le z (pos (2 ^ 31 - 1)) then Some z else None

-- the exact sum, difference or product
abbrev pub combined : MOp → ℤ → ℤ → ℤ
combined mop.Add a b = a +ℤ b
combined mop.Sub a b = a -ℤ b
combined mop.Mul a b = a *ℤ b

-- the value of a manifest constant, if each index in it has a value and each intermediate value is in the range
abbrev pub manifest_value : Indices → Manifest → Option ℤ
manifest_value indices (whole n at) = in_range (pos n)
manifest_value indices (counter name at) = index_value indices name
manifest_value indices (minus at m) = option_and_then (λ a. in_range (neg_ℤ a)) (manifest_value indices m)
manifest_value indices (both at o l r) =
    option_and_then (λ a. option_and_then (λ b. in_range (combined o a b)) (manifest_value indices r))
    (manifest_value indices l)

-- the manifest constant has the value k
abbrev pub HasValue : Indices → Manifest → ℕ → Type 0
HasValue indices m k = manifest_value indices m ≡ Some (pos k)

-- the widest shift, in bits, and the longest delay, in samples
abbrev pub max_shift : ℕ
max_shift = 31

abbrev pub max_delay : ℕ
max_delay = 1023

-- the manifest constant is the amount of a shift
pub record IsAmount (indices : Indices) (m : Manifest) (k : ℕ) : Type 0 where
  pub value : HasValue indices m k
  pub most : k ≤ max_shift

-- a read with this delay looks this many samples back: none where it has no delay
pub data LooksBack (indices : Indices) : Option Manifest → ℕ → Type 0 where
  no_delay : LooksBack indices None 0
  delay : {m : Manifest} {k : ℕ} → HasValue indices m k → k ≤ max_delay → LooksBack indices (Some m) k
