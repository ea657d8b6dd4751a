-- Turns of loops inside each other.
use Rattle.std.specs.Prelude.{◌≡◌, ◌<◌, ℕ, ℤ, pos, List, [], ◌∷◌, ◌++◌, map, length, slice_get, slice_index_or, Some}
use Rattle.std.specs.Prelude.{IsSome, ⊤}
use Rattle.std.specs.List.{range_with_len}
use Rattle.silage_syntax.specs.Tree.{Manifest}
use Rattle.silage_syntax.specs.Manifests.{Indices, manifest_value}
use Rattle.element_rules.specs.ElementRules.{loop_turns}
use Rattle.loop_expand.specs.declared.columns.Column.{Column as RustColumn}
use Rattle.loop_expand.specs.declared.columns.Turns.{Turns}
use Rattle.loop_expand.specs.declared.columns.InnerTurn.{InnerTurn}
use Rattle.loop_expand.specs.declared.values.Values.{Values}
use Rattle.loop_expand.specs.declared.values.Values.TheVariants.{Same, Index, Each}

abbrev pub at : List ℤ → (k : ℕ) → ℤ
at values k = slice_index_or values k (pos 0)

-- the values of a manifest constant
abbrev pub value_in : Values → (k : ℕ) → ℤ
value_in (Same value) k = value
value_in (Index values) k = at values.now k
value_in (Each values) k = at values.items k

-- there is a value in turn k
abbrev pub HasTurn : Values → (k : ℕ) → Type 0
HasTurn (Same value) k = ⊤
HasTurn (Index values) k = k < length values.now
HasTurn (Each values) k = k < length values.items

-- there is one in each of so many turns, and in no other
abbrev pub HasTurns : Values → (count : ℕ) → Type 0
HasTurns (Same value) count = ⊤
HasTurns (Index values) count = length values.now ≡ count
HasTurns (Each values) count = length values.items ≡ count

abbrev pub view_column : RustColumn → List ℕ × List ℤ
view_column c = (c.index.now, c.values.items)

abbrev pub view_columns : List RustColumn → List (List ℕ × List ℤ)
view_columns columns = map view_column columns

abbrev pub index_at : (k : ℕ) → List ℕ × List ℤ → List ℕ × ℤ
index_at k column = (column.0, at column.1 k)

abbrev pub row_at : List (List ℕ × List ℤ) → (k : ℕ) → Indices
row_at columns k = map (index_at k) columns

-- the indices of the loops around turn k
abbrev pub indices_at : Turns → (k : ℕ) → Indices
indices_at turns k = row_at (view_columns turns.columns.items) k

abbrev pub view_turns : Turns → List Indices
view_turns turns = map (indices_at turns) (range_with_len 0 turns.count)

-- the manifest constant has a value in each turn
abbrev pub HasValues : Turns → Manifest → Type 0
HasValues turns m = (k : ℕ) → k < turns.count → IsSome (manifest_value (indices_at turns k) m)

-- these are its values in the turns
abbrev pub AreValues : Turns → Manifest → Values → Type 0
AreValues turns m values = (k : ℕ) → k < turns.count → manifest_value (indices_at turns k) m ≡ Some (value_in values k)

-- the turns of a loop in each turn of those around it
abbrev pub turns_within : List Indices → (index : List ℕ) → (lo hi : Manifest) → List Indices
turns_within [] index lo hi = []
turns_within (outer ∷ rest) index lo hi =
    map (λ turn. outer ++ (index, turn) ∷ []) (loop_turns (manifest_value outer lo) (manifest_value outer hi))
    ++ turns_within rest index lo hi

abbrev pub inner_at : (outer : ℕ) → (index : ℤ) → InnerTurn
inner_at outer index = record { outer = outer; index = index }

-- each is inside one of so many turns
abbrev pub AreInside : (count : ℕ) → List InnerTurn → Type 0
AreInside count inner = (i : ℕ) (turn : InnerTurn) → slice_get inner i ≡ Some turn → turn.outer < count

-- the turns of a loop that has these in turn k around it
abbrev pub inner_of : (turns : ℕ → List ℤ) → (around : List ℕ) → List InnerTurn
inner_of turns [] = []
inner_of turns (k ∷ ks) = map (inner_at k) (turns k) ++ inner_of turns ks

abbrev pub inner_columns : (outer : List (List ℕ × List ℤ)) → (index : List ℕ) → List InnerTurn → List (List ℕ × List ℤ)
inner_columns outer index inner =
    map (λ (c : List ℕ × List ℤ). (c.0, map (λ (i : InnerTurn). at c.1 i.outer) inner)) outer
    ++ (index, map (λ (i : InnerTurn). i.index) inner) ∷ []
