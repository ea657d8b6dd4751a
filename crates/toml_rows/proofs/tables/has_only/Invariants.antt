use Rattle.std.proofs.Common.{◌≡◌, map}
use Rattle.toml.specs.View.{members_view, table_view}
use Rattle.toml_rows.specs.Rows.{keys_among}
use Rattle.toml_rows.proofs.tables.has_only.Given as goal

abbrev pub invariant-loop-key : goal.invariant-loop-key
invariant-loop-key l =
    (goal.iterator-loop-key).can_next l.key-iterator ×
    (goal.iterator-loop-key).is_finite l.key-iterator ×
    (keys_among (map (λ k. k.now) l.names) (members_view l.key-iterator) ≡ keys_among (map (λ k. k.now) l.names)
    (table_view l.table))
