-- A depth-first walk along arcs, which finds the strongly connected components of the arc graph.
use Rattle.std.specs.Prelude.{◌≡◌, ◌⊎◌, ℕ, ◌+◌, ◌-◌, ◌*◌, ◌<◌, ◌≤◌, Bool, true, false, List, [], Contains, length}
use Rattle.std.specs.Prelude.{count_by, sum_by, replicate, slice_get, slice_index_or, Option, Some, None}
use Rattle.std.specs.List.{AllPairs}
use Rattle.digraph.specs.Arcs.{Reaches}
use Rattle.digraph.specs.Arcs.{HasArc, IsWithin}
use Rattle.digraph.specs.declared.walk.Group.{Group}
use Rattle.digraph.specs.declared.walk.Mark.{Mark}
use Rattle.digraph.specs.declared.walk.Mark.TheVariants.{New, Active, Closed}
use Rattle.digraph.specs.declared.walk.Walk.{Walk}

-- arcs lead from f to g, or these are one vertex
abbrev pub Leads : List (List ℕ) → ℕ → ℕ → Type 0
Leads arcs f g = (f ≡ g) ⊎ Reaches (HasArc arcs) f g

-- what a walk has come to
pub record State : Type 0 where
  pub marks : List Mark
  pub active : List ℕ
  pub pending : List ℕ
  pub groups : List Group
  pub closed : ℕ

abbrev pub state_of : Walk → State
state_of w = record {
  marks = w.marks.items;
  active = w.active.items;
  pending = w.pending.items;
  groups = w.groups.items;
  closed = w.closed;
}

abbrev pub start : ℕ → State
start vertices = record { marks = replicate vertices New; active = []; pending = []; groups = []; closed = 0 }

abbrev pub IsMark : List Mark → ℕ → Mark → Type 0
IsMark marks f mark = slice_get marks f ≡ Some mark

abbrev pub IsActiveAt : State → ℕ → ℕ → Type 0
IsActiveAt s i f = slice_get s.active i ≡ Some f

-- the one group begins where the other does, or before it
pub record IsBefore (a b : Group) : Type 0 where
  pub active : a.active ≤ b.active
  pub pending : a.pending ≤ b.pending

abbrev pub IsLast : List Group → Group → Type 0
IsLast groups group = slice_get groups (length groups - 1) ≡ Some group

-- there is a last group, and it begins behind this position
pub record LastBeginsAfter (groups : List Group) (position : ℕ) : Type 0 where
  pub last : Group
  pub is_last : IsLast groups last
  pub behind : position < last.active

-- position j among the active vertices is in the group of position i, or in a later one
abbrev pub IsNotEarlier : List Group → (i j : ℕ) → Type 0
IsNotEarlier groups i j = (group : Group) → Contains groups group → group.active ≤ i → group.active ≤ j

-- the arc of g by the active vertex at position i has been followed, or it is pending in a group that is not
-- earlier, or due
pub data IsHandled (due : Option ℕ) (s : State) (i g : ℕ) : Type 0 where
  closed : {component : ℕ} → IsMark s.marks g (Closed component) → IsHandled due s i g
  active : {j : ℕ} → IsActiveAt s j g → IsNotEarlier s.groups i j → IsHandled due s i g
  pending : {q : ℕ}
      → slice_get s.pending q ≡ Some g
      → ((group : Group) → Contains s.groups group → group.active ≤ i → group.pending ≤ q)
      → IsHandled due s i g
  due : due ≡ Some g → IsHandled due s i g

-- a pending arc at position q is one of an active vertex of the same group
pub record IsPending (arcs : List (List ℕ)) (s : State) (q g : ℕ) : Type 0 where
  pub position : ℕ
  pub tail : ℕ
  pub active : IsActiveAt s position tail
  pub arc : HasArc arcs tail g
  pub begun : (group : Group) → Contains s.groups group → group.pending ≤ q → group.active ≤ position
  pub not_begun : (group : Group) → Contains s.groups group → q < group.pending → position < group.active

-- a head of a closed vertex f is closed, in the same component or in one that was closed before it
pub record IsDone (arcs : List (List ℕ)) (marks : List Mark) (f component g : ℕ) : Type 0 where
  pub number : ℕ
  pub closed : IsMark marks g (Closed number)
  pub falls : number ≤ component
  pub back : number ≡ component → Leads arcs g f

abbrev pub is_new : Mark → Bool
is_new New = true
is_new (Active i) = false
is_new (Closed component) = false

abbrev pub component_of : Mark → Option ℕ
component_of New = None
component_of (Active i) = None
component_of (Closed component) = Some component

-- the walk stands here, but for an arc of one vertex that is due to be followed
pub record IsWalk (arcs : List (List ℕ)) (due : Option ℕ) (s : State) : Type 0 where
  pub inside : IsWithin arcs
  pub size : length s.marks ≡ length arcs
  pub total : s.closed + length s.active + count_by is_new s.marks ≡ length arcs
  pub position : (i f : ℕ) → IsActiveAt s i f → IsMark s.marks f (Active i)
  pub at_position : (i f : ℕ) → IsMark s.marks f (Active i) → IsActiveAt s i f
  pub rising : AllPairs IsBefore s.groups
  pub within : (group : Group)
      → Contains s.groups group
      → (group.active ≤ length s.active) × (group.pending ≤ length s.pending)
  pub begun : 0 < length s.active → (group : Group) × Contains s.groups group × (group.active ≡ 0)
  pub leads : (i j f g : ℕ) → IsActiveAt s i f → IsActiveAt s j g → IsNotEarlier s.groups i j → Leads arcs f g
  pub handled : (i f g : ℕ) → IsActiveAt s i f → HasArc arcs f g → IsHandled due s i g
  pub pends : (q g : ℕ) → slice_get s.pending q ≡ Some g → IsPending arcs s q g
  pub numbered : (f component : ℕ) → IsMark s.marks f (Closed component) → component < s.closed
  pub done : (f component g : ℕ)
      → IsMark s.marks f (Closed component)
      → HasArc arcs f g
      → IsDone arcs s.marks f component g

-- all active vertices lead to the vertex whose arc is due
abbrev pub IsDue : List (List ℕ) → State → ℕ → Type 0
IsDue arcs s g = (i f : ℕ) → IsActiveAt s i f → Leads arcs f g

-- the groups that begin up to this position are kept
pub record KeepsGroups (groups : List Group) (position : ℕ) (groups' : List Group) : Type 0 where
  pub kept : (group : Group) → Contains groups group → group.active ≤ position → Contains groups' group
  pub only : (group : Group) → Contains groups' group → Contains groups group × (group.active ≤ position)
  pub rising : AllPairs IsBefore groups'
  pub fewer : length groups' ≤ length groups

-- these vertices are closed, and no others
pub record ClosesAll (marks : List Mark) (vertices : List ℕ) (component : ℕ) (marks' : List Mark) : Type 0 where
  pub size : length marks' ≡ length marks
  pub these : (f : ℕ) → Contains vertices f → IsMark marks' f (Closed component)
  pub others : (f : ℕ) → ¬ Contains vertices f → slice_get marks' f ≡ slice_get marks f
  pub news : ((f : ℕ) → Contains vertices f → ¬ IsMark marks f New) → count_by is_new marks' ≡ count_by is_new marks

-- falls with each step: a vertex's arcs are added once, when the walk meets it
abbrev pub work_left : List (List ℕ) → State → ℕ
work_left arcs s = count_by is_new s.marks * (sum_by length arcs + 1) + length s.pending + length s.groups

-- the walk goes on, and forgets no vertex
pub record WalksOn (arcs : List (List ℕ)) (s s' : State) : Type 0 where
  pub walk : IsWalk arcs None s'
  pub met : (f : ℕ) → IsMark s'.marks f New → IsMark s.marks f New
  pub less : work_left arcs s' ≤ work_left arcs s

-- this arc of the last group is followed next
pub record IsNext (arcs : List (List ℕ)) (s : State) (g : ℕ) (s' : State) : Type 0 where
  pub walk : IsWalk arcs (Some g) s'
  pub due : IsDue arcs s' g
  pub within : g < length arcs
  pub same : s'.marks ≡ s.marks
  pub less : work_left arcs s' < work_left arcs s

-- the vertex and all that it reaches are closed
pub record Visits (arcs : List (List ℕ)) (s : State) (f : ℕ) (s' : State) : Type 0 where
  pub walk : IsWalk arcs None s'
  pub idle : s'.groups ≡ []
  pub met : (g : ℕ) → IsMark s'.marks g New → IsMark s.marks g New
  pub not_new : ¬ IsMark s'.marks f New

-- Each vertex has the number of its component: the numbers of heads are not above its own, and a head of the same
-- component leads back.
pub record AreComponents (arcs : List (List ℕ)) (marks : List Mark) : Type 0 where
  pub size : length marks ≡ length arcs
  pub closed : (f : ℕ) → f < length arcs → (component : ℕ) × IsMark marks f (Closed component)
  pub done : (f component g : ℕ) → IsMark marks f (Closed component) → HasArc arcs f g
      → IsDone arcs marks f component g

-- one of the heads is in the vertex's component
abbrev pub HasHeadInOwnComponent : List Mark → (vertex : ℕ) → (heads : List ℕ) → Type 0
HasHeadInOwnComponent marks vertex heads = (g : ℕ) × Contains heads g
    × (component_of (slice_index_or marks g New) ≡ component_of (slice_index_or marks vertex New))
