-- What the rules on names and the tokens of a source give: types of allowed sizes, and short numbers.
use Rattle.std.specs.Prelude.{◌≡◌, ℕ, List, All, slice_get, Some, IsSome, IsTrue}
use Rattle.fix_word.specs.declared.types.SigType.{SigType}
use Rattle.fix_word.specs.declared.types.SigType.TheVariants.{Fix}
use Rattle.silage_syntax.specs.declared.tree.Decl.{Decl}
use Rattle.silage_syntax.specs.Tree.{Place, Expr, literal, read, negate, not, binary, shift, cast, choose}
use Rattle.silage_syntax.specs.Tree.{Branches, no_branch, branch}
use Rattle.silage_syntax.specs.Tree.{Item, equation, call, loop, initial, Items, no_item, item}
use Rattle.silage_syntax.specs.Tree.{Func, Top, table, function, Program}
use Rattle.silage_syntax.specs.Names.{function_named}
use Rattle.silage_meaning.specs.Types.{name_type}
use Rattle.name_rules.specs.Meanings.{is_signal_type}
use Rattle.type_rules.specs.Numbers.{IsShort}

abbrev pub IsSoundType : SigType → Type 0
IsSoundType ty = IsTrue (is_signal_type ty)

-- its numbers are short, and its casts have allowed types
abbrev mutual
  pub IsSound : Expr → Type 0
  IsSound (literal l) = IsShort l
  IsSound (read place delay) = Unit {0}
  IsSound (negate at x) = IsSound x
  IsSound (not at x) = IsSound x
  IsSound (binary at o x y) = IsSound x × IsSound y
  IsSound (shift at left x amount) = IsSound x
  IsSound (cast at c x) = IsSoundType (Fix c) × IsSound x
  IsSound (choose at branches last) = AreSound branches × IsSound last

  pub AreSound : Branches → Type 0
  AreSound no_branch = Unit {0}
  AreSound (branch condition x rest) = IsSound condition × IsSound x × AreSound rest

abbrev mutual
  pub IsSoundItem : Item → Type 0
  IsSoundItem (equation place x) = IsSound x
  IsSoundItem (call places name args at) = All IsSound args
  IsSoundItem (loop index lo hi items at) = AreSoundItems items
  IsSoundItem (initial place k value) = IsShort value

  pub AreSoundItems : Items → Type 0
  AreSoundItems no_item = Unit {0}
  AreSoundItems (item x rest) = IsSoundItem x × AreSoundItems rest

-- what names mean in a function of the program
module _ (p : Program) (f : Func) where
  abbrev pub HasType : Place → Type 0
  HasType place = IsSome (name_type p f place.name)

  -- what an expression reads has a type
  abbrev mutual
    pub HasTypedReads : Expr → Type 0
    HasTypedReads (literal l) = Unit {0}
    HasTypedReads (read place delay) = HasType place
    HasTypedReads (negate at x) = HasTypedReads x
    HasTypedReads (not at x) = HasTypedReads x
    HasTypedReads (binary at o x y) = HasTypedReads x × HasTypedReads y
    HasTypedReads (shift at left x amount) = HasTypedReads x
    HasTypedReads (cast at c x) = HasTypedReads x
    HasTypedReads (choose at branches last) = HaveTypedReads branches × HasTypedReads last

    pub HaveTypedReads : Branches → Type 0
    HaveTypedReads no_branch = Unit {0}
    HaveTypedReads (branch condition x rest) = HasTypedReads condition × HasTypedReads x × HaveTypedReads rest

  -- what an item reads and what it gives a value have types, and a function that it calls is there
  abbrev mutual
    pub HasTypedNames : Item → Type 0
    HasTypedNames (equation place x) = HasType place × HasTypedReads x
    HasTypedNames (call places name args at) =
        IsSome (function_named p name) × All HasType places × All HasTypedReads args
    HasTypedNames (loop index lo hi items at) = HaveTypedNames items
    HasTypedNames (initial place k value) = HasType place

    pub HaveTypedNames : Items → Type 0
    HaveTypedNames no_item = Unit {0}
    HaveTypedNames (item x rest) = HasTypedNames x × HaveTypedNames rest

-- the names that may be read in a function, and the parameters of the functions that may be called
pub record HasSoundTypes (p : Program) (f : Func) : Type 0 where
  pub names : (name : List ℕ) (ty : SigType) → name_type p f name ≡ Some ty → IsSoundType ty
  pub callees : (name : List ℕ) (g : Func) (k : ℕ) (d : Decl)
      → function_named p name ≡ Some g
      → slice_get g.params k ≡ Some d
      → IsSoundType d.ty

abbrev pub IsSoundTop : Program → Top → Type 0
IsSoundTop p (table c) = IsSoundType (Fix c.ty) × All IsShort c.words
IsSoundTop p (function f) = HasSoundTypes p f × AreSoundItems f.items × HaveTypedNames p f f.items
