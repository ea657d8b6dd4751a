-- The items of a function that are no loops, in groups: those of a loop, with its turns in all turns of the loops
-- around it.
use denote.Ref.{Bor}
use Rattle.std.specs.Prelude.{◌<◌, ℕ, ℤ, List, [], ◌∷◌, ◌++◌, map, Bool, true, false, if◌then◌else◌, IsSome, ⊤}
use Rattle.silage_syntax.specs.Manifests.{Indices, manifest_value}
use Rattle.silage_meaning.specs.Instances.{IsTurn}
use Rattle.type_rules.specs.TypedTree as typed
use Rattle.type_rules.specs.declared.typed.TypedItem.{TypedItem as RustItem}
use Rattle.loop_expand.specs.declared.groups.Group.{Group as RustGroup}
use Rattle.loop_expand.specs.declared.columns.Turns.{Turns}
use Rattle.loop_expand.specs.Private.Turns.{indices_at, view_turns, turns_within}

pub record Group : Type 0 where
  pub turns : List Indices
  pub items : List typed.TypedItem

abbrev pub view_ref : Bor RustItem → typed.TypedItem
view_ref x = typed.view_item x.now

abbrev pub view_group : RustGroup → Group
view_group g = record { turns = view_turns g.turns; items = map view_ref g.items.items }

abbrev pub view_groups : List RustGroup → List Group
view_groups groups = map view_group groups

abbrev pub is_loop : typed.TypedItem → Bool
is_loop (typed.equation place x) = false
is_loop (typed.call places func args at) = false
is_loop (typed.loop index lo hi items) = true
is_loop (typed.initial place k word) = false

abbrev pub plain : typed.TypedItem → List typed.TypedItem
plain x = if is_loop x then [] else x ∷ []

abbrev pub plain_items : typed.TypedItems → List typed.TypedItem
plain_items typed.no_item = []
plain_items (typed.item x rest) = plain x ++ plain_items rest

-- the groups of items in these turns, with those of the loops among the items: none where there are no turns
abbrev pub grouped : List Indices → typed.TypedItems → (loops : List Group) → List Group
grouped [] items loops = []
grouped (t ∷ turns) items loops = loops ++ record { turns = t ∷ turns; items = plain_items items } ∷ []

abbrev mutual
  pub loop_groups : List Indices → typed.TypedItem → List Group
  loop_groups turns (typed.equation place x) = []
  loop_groups turns (typed.call places func args at) = []
  loop_groups turns (typed.loop index lo hi items) =
      grouped (turns_within turns index lo hi) items (loops_groups (turns_within turns index lo hi) items)
  loop_groups turns (typed.initial place k word) = []

  pub loops_groups : List Indices → typed.TypedItems → List Group
  loops_groups turns typed.no_item = []
  loops_groups turns (typed.item x rest) = loop_groups turns x ++ loops_groups turns rest

abbrev pub groups_in : List Indices → typed.TypedItems → List Group
groups_in turns items = grouped turns items (loops_groups turns items)

-- the bounds of each loop have values in the turns around it
abbrev mutual
  pub HasBounds : Indices → typed.TypedItem → Type 0
  HasBounds outer (typed.loop index lo hi items) =
      IsSome (manifest_value outer lo) × IsSome (manifest_value outer hi)
      × ((turn : ℤ) → IsTurn outer lo hi turn → HaveBounds (outer ++ (index, turn) ∷ []) items)
  HasBounds outer _ = ⊤

  pub HaveBounds : Indices → typed.TypedItems → Type 0
  HaveBounds outer typed.no_item = ⊤
  HaveBounds outer (typed.item x rest) = HasBounds outer x × HaveBounds outer rest

-- the same in each of these turns
abbrev pub HaveBoundsIn : Turns → typed.TypedItems → Type 0
HaveBoundsIn turns items = (k : ℕ) → k < turns.count → HaveBounds (indices_at turns k) items

-- outside of loops there is one turn, with no index
abbrev pub groups_of : typed.TypedItems → List Group
groups_of items = groups_in ([] ∷ []) items
