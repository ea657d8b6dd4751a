use Rattle.std.proofs.Common.{sym, ◌∙◌}
use Rattle.std.proofs.lemmas.Bool.{false≢true}
use Rattle.toml.specs.View.{table_view}
use Rattle.datapath.proofs.Document.{path_of-reads, path_of-refused}
use Rattle.datapath.proofs.AllowedPath.{allowed_from_gives}
use Rattle.datapath.proofs.reader.read_in_order.Goals as goal

pub returns-in-Ok-clause-path : goal.returns-in-Ok-clause-path
returns-in-Ok-clause-path c =
    path_of-reads c.args.text.now (table_view c.in-Ok.table) c.path_at.result c.if-text-gt-MOST_BYTES.false
    c.in-Ok.ensures.ok.0 c.in-Ok.ensures.ok.1 c.path_at.ensures

pub returns-else-is_memory-clause-path : goal.returns-else-is_memory-clause-path
returns-else-is_memory-clause-path c =
    λ _. path_of-refused c.args.text.now c.if-text-gt-MOST_BYTES.false
    (c.in-Err.ensures.refused (λ m. false≢true (sym c.if-is_memory.false ∙ c.is_memory.ensures.1 m)))

pub returns-in-Ok-clause-allowed : goal.returns-in-Ok-clause-allowed
returns-in-Ok-clause-allowed c = allowed_from_gives (table_view c.in-Ok.table) c.path_at.result c.path_at.ensures
