-- The size of the numbers in a program, which its source's tokens limit.
use Rattle.std.specs.Prelude.{◌<◌, ◌≤◌, ◌^◌, All}
use Rattle.silage_syntax.specs.declared.tree.Lit.{Lit}
use Rattle.silage_syntax.specs.declared.tree.Lit.TheVariants.{Number, Truth}
use Rattle.silage_syntax.specs.Tree.{Expr, literal, read, negate, not, binary, shift, cast, choose}
use Rattle.silage_syntax.specs.Tree.{Branches, no_branch, branch}
use Rattle.silage_syntax.specs.Tree.{Item, equation, call, loop, initial, Items, no_item, item}
use Rattle.silage_syntax.specs.Tree.{Top, table, function, Program}

-- a number has at most 18 digits, of which one is before the point
abbrev pub IsShort : Lit → Type 0
IsShort (Number negative digits places at) = (digits < 10 ^ 18) × (places ≤ 17)
IsShort (Truth value at) = Unit {0}

abbrev mutual
  pub HasShortNumbers : Expr → Type 0
  HasShortNumbers (literal l) = IsShort l
  HasShortNumbers (read place delay) = Unit {0}
  HasShortNumbers (negate at x) = HasShortNumbers x
  HasShortNumbers (not at x) = HasShortNumbers x
  HasShortNumbers (binary at o x y) = HasShortNumbers x × HasShortNumbers y
  HasShortNumbers (shift at left x amount) = HasShortNumbers x
  HasShortNumbers (cast at c x) = HasShortNumbers x
  HasShortNumbers (choose at branches last) = HaveShortNumbers branches × HasShortNumbers last

  pub HaveShortNumbers : Branches → Type 0
  HaveShortNumbers no_branch = Unit {0}
  HaveShortNumbers (branch condition x rest) =
      HasShortNumbers condition × HasShortNumbers x × HaveShortNumbers rest

abbrev mutual
  pub IsItemShort : Item → Type 0
  IsItemShort (equation place x) = HasShortNumbers x
  IsItemShort (call places name args at) = All HasShortNumbers args
  IsItemShort (loop index lo hi items at) = AreItemsShort items
  IsItemShort (initial place k value) = IsShort value

  pub AreItemsShort : Items → Type 0
  AreItemsShort no_item = Unit {0}
  AreItemsShort (item x rest) = IsItemShort x × AreItemsShort rest

abbrev pub IsTopShort : Top → Type 0
IsTopShort (table c) = All IsShort c.words
IsTopShort (function f) = AreItemsShort f.items

-- each number of the program is so short
abbrev pub AreNumbersShort : Program → Type 0
AreNumbersShort p = All IsTopShort p.tops
