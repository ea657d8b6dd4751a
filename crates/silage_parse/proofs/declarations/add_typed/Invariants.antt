use Rattle.std.proofs.Common.{◌≡◌, ◌++◌, map, length}
use Rattle.std.specs.Vec.Iter.{into_iter_items, into_iter_len}
use Rattle.silage_syntax.specs.Grammar.{typed}
use Rattle.silage_parse.specs.Private.Parsed.{view_declared}
use Rattle.silage_parse.proofs.declarations.add_typed.Given as goal

-- what is there and what is still to come are what shall be there
abbrev pub invariant-loop-declared : goal.invariant-loop-declared
invariant-loop-declared l =
    (into_iter_len l.declared-iterator ≡ length (into_iter_items l.declared-iterator))
    × (l.list ++ map (typed l.ty) (map view_declared (into_iter_items l.declared-iterator))
    ≡ l.fn.list ++ map (typed l.ty) (map view_declared l.fn.names))
