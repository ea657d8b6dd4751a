-- What it is to run a graph.
use Rattle.std.specs.Prelude.{ℕ, length, pos, ◌-ℤ◌, int_lt, if◌then◌else◌}
use Rattle.lists.specs.Rows.{Rows}
use Rattle.signal_graph.specs.Values.{Words}
use Rattle.signal_graph.specs.GraphSolves.{GraphSolves, graph_out}
use Rattle.signal_graph.specs.declared.graph.Graph.{Graph}
use Rattle.micro_image.specs.Fields.{Microprogram, microprogram_of}
use Rattle.micro_image.specs.Run.{IsRunOut}
use Rattle.micro_image.specs.declared.image.Image.{Image}

-- On every stream the image runs without a conflict, and its output rows are those of the solution of the graph.
abbrev pub RunsSolution : Graph → Image → Type 0
RunsSolution g image =
    (stream : Rows) (words : Words)
    → GraphSolves g stream words → IsRunOut (microprogram_of image) stream (graph_out g words (length stream))

-- the words of so many samples ago, and 0 before there are any
abbrev pub late_words : (late : ℕ) → Words → Words
late_words late words v n = if int_lt n (pos late) then pos 0 else words v (n -ℤ pos late)

-- On every stream the microprogram runs without a conflict, and its output rows are those of the solution, so many
-- samples late.
abbrev pub RunsSolutionLate : (late : ℕ) → Graph → Microprogram → Type 0
RunsSolutionLate late g micro =
    (stream : Rows) (words : Words)
    → GraphSolves g stream words → IsRunOut micro stream (graph_out g (late_words late words) (length stream))
