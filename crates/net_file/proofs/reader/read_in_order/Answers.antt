use Rattle.std.proofs.Common.{sym, ◌∙◌}
use Rattle.std.proofs.lemmas.Bool.{false≢true}
use Rattle.toml.specs.View.{table_view}
use Rattle.net_file.proofs.Described.{net_of-reads, net_of-refused}
use Rattle.net_file.proofs.reader.read_in_order.Goals as goal

pub returns-in-Ok-clause-net : goal.returns-in-Ok-clause-net
returns-in-Ok-clause-net c =
    net_of-reads c.args.text.now (table_view c.in-Ok.table) c.net_in.result c.if-text-gt-MOST_BYTES.false
    c.in-Ok.ensures.ok.0 c.in-Ok.ensures.ok.1 c.net_in.ensures.net

pub returns-else-is_memory-clause-net : goal.returns-else-is_memory-clause-net
returns-else-is_memory-clause-net c =
    λ _. net_of-refused c.args.text.now c.if-text-gt-MOST_BYTES.false
    (c.in-Err.ensures.refused (λ m. false≢true (sym c.if-is_memory.false ∙ c.is_memory.ensures.1 m)))
