-- Rows of the channels of types are rows of words in the ranges of the types.
use Rattle.std.proofs.Common.{◌≡◌, subst, ◌∙◌, ap, arith, ℕ, ◌≤◌, List, length, map}
use Rattle.std.specs.List.{All}
use Rattle.std.proofs.lemmas.List.{length-map}
use Rattle.lists.specs.Rows.{Rows}
use Rattle.fix_word.specs.declared.types.SigType.{SigType}
use Rattle.sample_io.specs.declared.channel.Channel.{Channel}
use Rattle.sample_io.specs.Channels.{IsChannel, AreChannels, IsStream}
use Rattle.sample_io.specs.Samples.{RowsOf}
use Rattle.sample_io.proofs.Streams.{RowsOf-stream}
use Rattle.signal_graph.specs.Keeps.{IsStreamOf}
use Rattle.signal_graph.specs.Rules.{IsType}
use Rattle.sample_loops.specs.Evaluators.{type_channel}
use Rattle.sample_loops.proofs.TypedRows.{graph_stream}

pub rows_read : (bytes : List ℕ) (channels : List Channel) (rows : Rows)
    → RowsOf bytes channels rows
    → IsStream channels rows
rows_read = RowsOf-stream

pub typed_stream : (types : List SigType) (channels : List Channel) (stream : Rows)
    → All IsType types
    → channels ≡ map type_channel types
    → IsStream channels stream
    → IsStreamOf types stream
typed_stream types channels stream all are h =
    graph_stream types stream all (subst (λ list. IsStream list stream) are h)

pub are_channels : (types : List SigType) (channels : List Channel)
    → 1 ≤ length types
    → length types ≤ 16
    → channels ≡ map type_channel types
    → All IsChannel channels
    → AreChannels channels
are_channels types channels some few are each =
    let count : length channels ≡ length types = ap length are ∙ length-map types type_channel in
    record { some = omega (arith, count, some); few = omega (arith, count, few); each = each }
