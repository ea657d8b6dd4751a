-- An evaluator over a stream of samples: it evaluates each row of the stream.
use Rattle.std.specs.Prelude.{◌≡◌, ℕ, List, ◌++◌, length, map}
use Rattle.std.specs.List.{range_with_len}
use Rattle.lists.specs.Rows.{Rows}
use Rattle.equation_eval.specs.Evaluation.{Evaluation}
use Rattle.fix_word.specs.declared.types.SigType.{SigType}
use Rattle.fix_word.specs.declared.types.SigType.TheVariants as sig
use Rattle.sample_io.specs.declared.channel.Channel.{Channel}
use Rattle.sample_io.specs.Channels.{channel_of}
use Rattle.signal_graph.specs.GraphSolves.{GraphSolves, out_row}
use Rattle.signal_graph.specs.Values.{Words}
use Rattle.signal_graph.specs.declared.graph.Graph.{Graph}

-- the width of the channel of a type's words
abbrev pub channel_width : SigType → ℕ
channel_width (sig.Fix t) = t.shape.w
channel_width sig.Bool = 0

abbrev pub type_channel : SigType → Channel
type_channel ty = channel_of (channel_width ty)

-- a channel for each input word
abbrev pub graph_channels : Graph → List Channel
graph_channels graph = map type_channel graph.inputs

-- the output rows of the samples of `rows` in a solution over `before` and `rows`
abbrev pub rows_solved : Graph → Words → (before rows : Rows) → Rows
rows_solved graph words before rows = map (out_row graph words) (range_with_len (length before) (length rows))

-- over these rows the evaluator puts these: the output rows of each solution of the graph over the rows that it ran
-- and these
abbrev pub SolvesRows : Evaluation → (rows puts : Rows) → Type 0
SolvesRows evaluator rows puts =
    (words : Words)
    → GraphSolves evaluator.graph (evaluator.ran ++ rows) words
    → puts ≡ rows_solved evaluator.graph words evaluator.ran rows

-- from the first the evaluator becomes the second by running these rows, and puts these
pub record EvaluatesRows (old : Evaluation) (rows puts : Rows) (new : Evaluation) : Type 0 where
  pub graph : new.graph ≡ old.graph
  pub ran : new.ran ≡ old.ran ++ rows
  pub put : SolvesRows old rows puts
