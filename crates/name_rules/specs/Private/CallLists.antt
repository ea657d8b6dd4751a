-- The calls of each function as a list of positions.
use Rattle.std.specs.Prelude.{ℕ, List, map, position, Option, bytes_eq}
use Rattle.std.specs.List.{filter_map}
use Rattle.silage_syntax.specs.Tree.{Program}
use Rattle.name_rules.specs.TopNames.{top_names}
use Rattle.name_rules.specs.Calls.{called_by}

-- the first place of a name, and of each name that has one
abbrev pub place : List (List ℕ) → List ℕ → Option ℕ
place names name = position (bytes_eq name) names

abbrev pub places : List (List ℕ) → List (List ℕ) → List ℕ
places names called = filter_map (place names) called

-- for each table and function the positions of what it calls
abbrev pub call_lists : Program → List (List ℕ)
call_lists p = map (λ top. places (top_names p) (called_by top)) p.tops
