-- What is known where items are expanded: the names in them have their meanings there.
use Rattle.std.specs.Prelude.{◌≡◌, ◌<◌, ◌≤◌, ℕ, ◌+◌, List, length, slice_get, slice_index_or, Option, Some, None}
use Rattle.std.specs.Prelude.{IsSome, ⊤}
use Rattle.silage_syntax.specs.Tree.{Manifest, Place}
use Rattle.silage_syntax.specs.Names.{element_count, IsOffset}
use Rattle.type_rules.specs.declared.typed.TypedConst.{TypedConst}
use Rattle.silage_syntax.specs.Manifests.{Indices, LooksBack}
use Rattle.type_rules.specs.TypedTree as typed
use Rattle.loop_expand.specs.Private.Amounts.{IsKnownAmount}
use Rattle.loop_expand.specs.Private.Facts.{signal_named, typed_named, number_at}
use Rattle.loop_expand.specs.Private.Scopes.{Signal, Body, Scope, total}

module _ (c : Scope) where
  -- a name that is no signal's is a table's
  abbrev pub IsKnown : List ℕ → Type 0
  IsKnown name = signal_named c.signals name ≡ None → IsSome (typed_named c.tables name)

  -- the subscripts of a place pick an element of its signal, or a number of its table
  abbrev pub IsPlaced : Indices → Place → Type 0
  IsPlaced indices place =
      (s : Signal) → signal_named c.signals place.name ≡ Some s
      → (k : ℕ) × IsOffset indices s.decl.dims place.subs k × (c.first + s.first + k < total c)

  abbrev pub IsEntry : Indices → Place → Type 0
  IsEntry indices place =
      (t : TypedConst) → signal_named c.signals place.name ≡ None → typed_named c.tables place.name ≡ Some t
      → (k : ℕ) × IsOffset indices t.dims place.subs k

  -- the signal with the name has so many elements
  abbrev pub HasElements : (name : List ℕ) → (count : ℕ) → Type 0
  HasElements name count = (s : Signal) → signal_named c.signals name ≡ Some s → c.first + s.first + count ≤ total c

  -- the name of an array with so many elements, or of a table with so many numbers
  pub record IsNamedArray (name : List ℕ) (count : ℕ) : Type 0 where
    pub known : IsKnown name
    pub elements : HasElements name count
    pub numbers : (t : TypedConst)
        → signal_named c.signals name ≡ None
        → typed_named c.tables name ≡ Some t
        → count ≤ length t.words

  -- the name of such an array as an argument
  abbrev pub IsKnownArray : (count : ℕ) → typed.TypedExpr → Type 0
  IsKnownArray count (typed.read place delay) = IsNamedArray place.name count
  IsKnownArray count _ = ⊥

  module _ (indices : Indices) where
    -- a read has its place, and looks back
    pub record IsKnownRead (place : Place) (delay : Option Manifest) : Type 0 where
      pub known : IsKnown place.name
      pub placed : IsPlaced indices place
      pub entry : IsEntry indices place
      pub back : (ago : ℕ) × LooksBack indices delay ago

    -- each read and each shift in an expression is known
    abbrev mutual
      pub IsKnownExpr : typed.TypedExpr → Type 0
      IsKnownExpr (typed.raw z) = ⊤
      IsKnownExpr (typed.read place delay) = IsKnownRead place delay
      IsKnownExpr (typed.node o fmt parts amount) = IsKnownAmount indices fmt amount × AreKnownParts parts

      pub AreKnownParts : typed.Parts → Type 0
      AreKnownParts typed.no_part = ⊤
      AreKnownParts (typed.part x rest) = IsKnownExpr x × AreKnownParts rest

    -- what a parameter takes, of an instance whose first element has this number: an expression, or an array
    pub record IsKnownArgument (first : ℕ) (s : Signal) (x : typed.TypedExpr) : Type 0 where
      pub room : first + s.first + element_count s.decl.dims ≤ total c
      pub one : length s.decl.dims ≡ 0 → IsKnownExpr x
      pub all : (length s.decl.dims ≡ 0 → ⊥) → IsKnownArray (element_count s.decl.dims) x

    -- the place names an element
    abbrev pub IsKnownTarget : Place → Type 0
    IsKnownTarget place = IsSome (number_at c indices place) × IsPlaced indices place

    -- what takes a result of such an instance: an element, or an array
    pub record IsKnownTaker (first : ℕ) (s : Signal) (place : Place) : Type 0 where
      pub room : first + s.first + element_count s.decl.dims ≤ total c
      pub one : length s.decl.dims ≡ 0 → IsKnownTarget place
      pub known : (length s.decl.dims ≡ 0 → ⊥) → IsSome (signal_named c.signals place.name)
      pub all : (length s.decl.dims ≡ 0 → ⊥) → HasElements place.name (element_count s.decl.dims)

    abbrev pub AreKnownArguments : (first : ℕ) → List Signal → List typed.TypedExpr → Type 0
    AreKnownArguments first params args =
        (k : ℕ) (s : Signal) (x : typed.TypedExpr)
        → slice_get params k ≡ Some s
        → slice_get args k ≡ Some x
        → IsKnownArgument first s x

    abbrev pub AreKnownTakers : (first : ℕ) → List Signal → List Place → Type 0
    AreKnownTakers first results places =
        (k : ℕ) (s : Signal) (place : Place)
        → slice_get results k ≡ Some s
        → slice_get places k ≡ Some place
        → IsKnownTaker first s place

    -- a call of the function, which makes the child: no more arguments and places than it has signals and results
    pub record IsKnownCall (child : ℕ) (b : Body) (places : List Place) (args : List typed.TypedExpr) : Type 0 where
      pub few_args : length args ≤ length b.signals
      pub few_places : length places ≤ length b.results
      pub passed : AreKnownArguments (slice_index_or c.firsts child 0) b.signals args
      pub taken : AreKnownTakers (slice_index_or c.firsts child 0) b.results places
