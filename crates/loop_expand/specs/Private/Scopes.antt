-- What the code knows where it expands an instance.
use Rattle.std.specs.Prelude.{◌≡◌, ◌≤◌, ℕ, ◌+◌, nat_eq, slice_get, IsTrue, IsSome, Bool, if◌then◌else◌, List, [], ◌∷◌}
use Rattle.std.specs.Prelude.{◌++◌, map, find, Option, Some, None}
use Rattle.std.specs.List.{list_any}
use Rattle.silage_syntax.specs.declared.tree.Decl.{Decl}
use Rattle.silage_syntax.specs.Names.{element_count}
use Rattle.element_rules.specs.ElementRules.{elements_of}
use Rattle.element_rules.specs.declared.elements.Instance.{Instance}
use Rattle.type_rules.specs.declared.typed.TypedConst.{TypedConst}
use Rattle.type_rules.specs.TypedTree.{TypedFunc, view_func}
use Rattle.loop_expand.specs.declared.body.Signal.{Signal as RustSignal}
use Rattle.loop_expand.specs.declared.body.Body.{Body as RustBody}
use Rattle.element_rules.specs.Sizes.{AreSized}
use Rattle.loop_expand.specs.Private.Sizes.{decls_of}
use Rattle.loop_expand.specs.Private.Groups.{Group, view_groups, HaveBounds, groups_of}

-- a parameter, a result or a local, with the number of its first element among those of an instance
pub record Signal : Type 0 where
  pub decl : Decl
  pub first : ℕ

-- a function that has an instance: its signals, its results among them, how many elements an instance of it has, and
-- the groups of its items
pub record Body : Type 0 where
  pub of : TypedFunc
  pub signals : List Signal
  pub results : List Signal
  pub size : ℕ
  pub groups : List Group

-- an instance among all, with the numbers of their first elements
pub record Scope : Type 0 where
  pub tables : List TypedConst
  pub bodies : List Body
  pub instances : List Instance
  pub firsts : List ℕ
  pub number : ℕ
  pub first : ℕ
  pub signals : List Signal

abbrev pub view_signal : RustSignal → Signal
view_signal s = record { decl = s.decl.now; first = s.first }

abbrev pub view_signals : List RustSignal → List Signal
view_signals signals = map view_signal signals

abbrev pub view_body : RustBody → Body
view_body b = record {
  of = view_func b.func.now;
  signals = view_signals b.signals.items;
  results = view_signals b.results.items;
  size = b.size;
  groups = view_groups b.groups.items;
}

abbrev pub view_bodies : List RustBody → List Body
view_bodies bodies = map view_body bodies

-- declarations one behind the other, of which the first has its first element at this number
abbrev pub signals_from : ℕ → List Decl → List Signal
signals_from n [] = []
signals_from n (d ∷ ds) = record { decl = d; first = n } ∷ signals_from (n + element_count d.dims) ds

abbrev pub body_of : List Body → ℕ → Option Body
body_of bodies func = find (λ (b : Body). nat_eq b.of.func func) bodies

abbrev pub body_for : TypedFunc → Body
body_for f = record {
  of = f;
  signals = signals_from 0 (decls_of f);
  results = signals_from (elements_of f.params) f.results;
  size = elements_of (decls_of f);
  groups = groups_of f.items;
}

abbrev pub has_instance : List Instance → (func : ℕ) → Bool
has_instance instances func = list_any (λ (i : Instance). nat_eq i.func func) instances

-- an instance of the function has loops with bounds and few elements
pub record IsBounded (f : TypedFunc) : Type 0 where
  pub loops : HaveBounds [] f.items
  pub sized : AreSized (decls_of f)
  pub few : elements_of (decls_of f) ≤ 8192

-- so has each function that has an instance
abbrev pub AreBounded : List Instance → List TypedFunc → Type 0
AreBounded instances funcs =
    (k : ℕ) (f : TypedFunc) → slice_get funcs k ≡ Some f → IsTrue (has_instance instances f.func) → IsBounded f

-- the function, if it has an instance
abbrev pub body_in : List Instance → TypedFunc → List Body
body_in instances f = if has_instance instances f.func then body_for f ∷ [] else []

abbrev pub bodies_for : List Instance → List TypedFunc → List Body
bodies_for instances [] = []
bodies_for instances (f ∷ fs) = body_in instances f ++ bodies_for instances fs

abbrev pub size_in : Option Body → ℕ
size_in None = 0
size_in (Some b) = b.size

-- how many elements instances have
abbrev pub total_of : List Body → List Instance → ℕ
total_of bodies [] = 0
total_of bodies (i ∷ is) = size_in (body_of bodies i.func) + total_of bodies is

-- and how many there are in all
abbrev pub total : Scope → ℕ
total c = total_of c.bodies c.instances

-- the numbers of the first elements of instances, of which the first has this one
abbrev pub firsts_from : List Body → ℕ → List Instance → List ℕ
firsts_from bodies n [] = []
firsts_from bodies n (i ∷ is) = n ∷ firsts_from bodies (n + size_in (body_of bodies i.func)) is

abbrev pub HaveBodies : List Body → List Instance → Type 0
HaveBodies bodies instances = (k : ℕ) (i : Instance) → slice_get instances k ≡ Some i → IsSome (body_of bodies i.func)

abbrev pub body_at : List Body → Option Instance → Option Body
body_at bodies None = None
body_at bodies (Some i) = body_of bodies i.func
