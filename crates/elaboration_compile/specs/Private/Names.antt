-- What the names of an item stand for, where no rule on names is broken.
use Rattle.std.specs.Prelude.{◌≡◌, ◌≤◌, ◌++◌, ℕ, List, [], ◌∷◌, All, length, nat_eq}
use Rattle.std.specs.Prelude.{Bool, true, false, IsSome, IsSomeAnd}
use Rattle.silage_syntax.specs.declared.tree.Decl.{Decl}
use Rattle.silage_syntax.specs.Tree.{Place}
use Rattle.silage_syntax.specs.Tree.{Expr, literal, read, negate, not as denied, binary, shift, cast, choose}
use Rattle.silage_syntax.specs.Tree.{Branches, no_branch, branch}
use Rattle.silage_syntax.specs.Tree.{Item, equation, call, loop, initial, Items, no_item, item}
use Rattle.silage_syntax.specs.Tree.{Func, Top, table, function, Program}
use Rattle.silage_syntax.specs.Names.{function_named}
use Rattle.element_rules.specs.ElementRules.{Range, readable}
use Rattle.elaboration_code.specs.KnownIndices.{IsKnown, AreKnown, IsKnownDelay}
use Rattle.elaboration_code.specs.ItemActions.{located}

-- the place is one element of a signal
abbrev pub IsElementOf : Func → Place → Type 0
IsElementOf f place = IsSomeAnd (located f place.name) (λ (q : ℕ × Decl). length q.1.dims ≡ length place.subs)

abbrev pub IsSignalOf : Func → Place → Type 0
IsSignalOf f place = IsSome (located f place.name)

-- the place takes the result: an element an element, and a signal an array
abbrev pub TakesAs : (scalar : Bool) → Func → Place → Type 0
TakesAs true f place = IsElementOf f place
TakesAs false f place = IsSignalOf f place

abbrev pub Takes : Func → (loops : List (List ℕ)) → Decl → Place → Type 0
Takes f loops result place = TakesAs (nat_eq (length result.dims) 0) f place × AreKnown loops place.subs

abbrev pub TakeEach : Func → (loops : List (List ℕ)) → List Decl → List Place → Type 0
TakeEach f loops (result ∷ results) (place ∷ places) = Takes f loops result place × TakeEach f loops results places
TakeEach f loops _ _ = Unit {0}

-- the places take the results, each the one at its position
abbrev pub TakeAll : Func → (loops : List (List ℕ)) → List Decl → List Place → Type 0
TakeAll f loops results places = (length results ≡ length places) × TakeEach f loops results places

module _ (p : Program) (f : Func) where
  -- what is read is there, with no more subscripts than dims: with none of them it is a whole array
  abbrev mutual
    pub HasReads : (loops : List (List ℕ)) → Expr → Type 0
    HasReads loops (literal l) = Unit {0}
    HasReads loops (read place delay) =
        IsSomeAnd (readable p f place.name) (λ (r : List ℕ × Range). length place.subs ≤ length r.0)
        × AreKnown loops place.subs
        × IsKnownDelay loops delay
    HasReads loops (negate at x) = HasReads loops x
    HasReads loops (denied at x) = HasReads loops x
    HasReads loops (binary at o x y) = HasReads loops x × HasReads loops y
    HasReads loops (shift at left x amount) = HasReads loops x × IsKnown loops amount
    HasReads loops (cast at ty x) = HasReads loops x
    HasReads loops (choose at branches last) = HaveReads loops branches × HasReads loops last

    pub HaveReads : (loops : List (List ℕ)) → Branches → Type 0
    HaveReads loops no_branch = Unit {0}
    HaveReads loops (branch condition x rest) = HasReads loops condition × HasReads loops x × HaveReads loops rest

  -- the function that is called is there, with places for its results
  abbrev pub IsCallee : (loops : List (List ℕ)) → List ℕ → List Place → Type 0
  IsCallee loops name places = IsSomeAnd (function_named p name) (λ (g : Func). TakeAll f loops g.results places)

  abbrev mutual
    pub HasNames : (loops : List (List ℕ)) → Item → Type 0
    HasNames loops (equation place x) = IsElementOf f place × AreKnown loops place.subs × HasReads loops x
    HasNames loops (call places name args at) = IsCallee loops name places × All (HasReads loops) args
    HasNames loops (loop index lo hi items at) =
        IsKnown loops lo × IsKnown loops hi × HaveNames (loops ++ index ∷ []) items
    HasNames loops (initial place amount value) =
        IsElementOf f place × AreKnown loops place.subs × IsKnown loops amount

    pub HaveNames : (loops : List (List ℕ)) → Items → Type 0
    HaveNames loops no_item = Unit {0}
    HaveNames loops (item x rest) = HasNames loops x × HaveNames loops rest

abbrev pub HasTopNames : Program → Top → Type 0
HasTopNames p (table c) = Unit {0}
HasTopNames p (function f) = HaveNames p f [] f.items
