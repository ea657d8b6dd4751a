-- The items of a loop as a tree holds them are the list of them; and the end of a block.
use Rattle.std.proofs.Common.{◌≡◌, ℕ, List, [], ◌∷◌, map, refl, ◌∙◌, Result, Ok, Err}
use Rattle.std.specs.declared.alloc.Global.{Global}
use Rattle.std.specs.declared.vec.Vec.{Vec}
use Rattle.silage_syntax.specs.declared.tree.Manifest.{Manifest}
use Rattle.silage_syntax.specs.declared.tree.Item.{Item}
use Rattle.silage_syntax.specs.declared.tree.Item.TheVariants.{Loop}
use Rattle.silage_syntax.specs.Tree.{loop, items_of, view_item, view_manifest}
use Rattle.silage_syntax.proofs.Rows.{view_Loop}
use Rattle.silage_lex.specs.declared.punctuation.TheConstants as punctuation
use Rattle.silage_lex.specs.declared.keywords.TheConstants as keyword
use Rattle.silage_parse.specs.declared.ParseFault.{ParseFault}
use Rattle.silage_parse.specs.declared.parser.Parser.{Parser}
use Rattle.silage_parse.specs.Private.ParseTable.{Punctuation, Keyword, Effect, Outside}
use Rattle.silage_parse.specs.Private.Parsed.{Matches, Passes, ReadsBlockEnd, block_end}
use Rattle.silage_parse.proofs.Steps.{start, matches, stops_at}

pub loop_made :
    (index : List ℕ) {name : List ℕ} (lo hi : Manifest) (v : Vec Item Global) {xs : List Item} (at : ℕ) {from : ℕ}
    → v.items ≡ xs
    → name ≡ index
    → from ≡ at
    → view_item (Loop index lo hi v at)
    ≡ loop name (view_manifest lo) (view_manifest hi) (items_of (map view_item xs)) from
loop_made index lo hi v at same named where_ = view_Loop index lo hi v at ∙ rw (same, named, where_) refl

-- a `;` after the `end` of a block is the end of the block
pub block_ended : {from mid : Parser} (e : Effect) (to : Parser) (r : Result Unit ParseFault)
    → Matches (Keyword keyword.END ∷ []) e from mid
    → Passes (Punctuation punctuation.SEMICOLON ∷ []) Outside mid to r
    → ReadsBlockEnd e from to r
block_ended {from} e to (Ok x) closed ended =
    (closed.token, ended.token, matches (matches (start (block_end e) from []) closed) ended)
block_ended {from} e to (Err f) closed stop = stops_at f (matches (start (block_end e) from []) closed) stop
