-- The rows of a microprogram's channels are rows of its input words.
use Rattle.std.proofs.Common.{◌≡◌, ◌≤◌, ◌∙◌, ap, subst, arith, ℕ, List, length, map, ℤ}
use Rattle.std.specs.List.{All}
use Rattle.std.proofs.lemmas.List.{length-map}
use Rattle.std.proofs.lemmas.List.Elements.{All-weaker}
use Rattle.lists.specs.Rows.{Rows}
use Rattle.sample_io.specs.declared.channel.Channel.{Channel}
use Rattle.sample_io.specs.Channels.{AreChannels, IsChannel, IsRow, IsStream, channel_of}
use Rattle.sample_loops.proofs.RowWords.{row_words, row_count}
use Rattle.silc_show.specs.Trace.{AreInputRows, IsInputRow}

input_row : (widths : List ℕ) (row : List ℤ)
    → All (λ width. width ≤ 40) widths
    → IsRow (map channel_of widths) row
    → IsInputRow widths row
input_row widths row all h = record { count = row_count widths row h; words = row_words widths row all h }

pub input_rows : (widths : List ℕ) (channels : List Channel) (rows : Rows)
    → All (λ width. width ≤ 40) widths
    → channels ≡ map channel_of widths
    → IsStream channels rows
    → AreInputRows widths rows
input_rows widths channels rows all are h =
    All-weaker (IsRow (map channel_of widths)) (IsInputRow widths) (λ row is. input_row widths row all is) rows
    (subst (λ list. IsStream list rows) are h)

pub are_channels : (widths : List ℕ) (channels : List Channel)
    → 1 ≤ length widths
    → length widths ≤ 16
    → channels ≡ map channel_of widths
    → All IsChannel channels
    → AreChannels channels
are_channels widths channels some few are each =
    let count : length channels ≡ length widths = ap length are ∙ length-map widths channel_of in
    record { some = omega (arith, count, some); few = omega (arith, count, few); each = each }
