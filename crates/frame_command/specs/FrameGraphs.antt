-- Programs over frames: which graph a program has where a machine does several of its samples in one, and what that
-- graph keeps.
use Rattle.std.specs.Prelude.{◌≡◌, ℕ, ◌*◌, length}
use Rattle.lists.specs.Rows.{Rows}
use Rattle.flow_graph.specs.PrunedGraph.{IsPrunedGraphOf}
use Rattle.front_end.specs.ProgramFlat.{IsProgramFlat}
use Rattle.rate_unfold.specs.Faults.{HasNoFrameFault}
use Rattle.rate_unfold.specs.Frames.{Rates, frame_types, fast, frame_out}
use Rattle.rate_unfold.specs.Unfolded.{IsUnfolded}
use Rattle.signal_graph.specs.Flat as flat
use Rattle.signal_graph.specs.GraphRules.{IsGraph}
use Rattle.signal_graph.specs.GraphSolves.{IsGraphLoopless, GraphSolves, graph_out}
use Rattle.signal_graph.specs.Keeps.{IsStreamOf}
use Rattle.signal_graph.specs.Values as numbered
use Rattle.signal_graph.specs.declared.graph.Graph.{Graph}
use Rattle.silage_meaning.specs.Solves.{IsOneSolution, input_types, output_types, out}
use Rattle.silage_meaning.specs.Value.{Words}
use Rattle.silage_syntax.specs.Tree.{Program}

module _ (r : Rates) where
  -- The graph of a flat program over frames: that of the unfolded program, without the nodes from which no output is
  -- reached. A program that has a fault of frames has none.
  pub record IsGraphOfFrames (f : flat.Program) (g : Graph) : Type 0 where
    pub fits : HasNoFrameFault r f
    pub unfolded : flat.Program
    pub unfolded_of : IsUnfolded r f unfolded
    pub graph : IsPrunedGraphOf unfolded g

  -- the graph of a program over frames
  pub record IsFrameGraph (p : Program) (g : Graph) : Type 0 where
    pub flat_program : flat.Program
    pub flat_of : IsProgramFlat p flat_program
    pub graph_of : IsGraphOfFrames flat_program g

module _ (r : Rates) (p : Program) where
  -- a valid frame has a word for each place of its row, in the range of the word's type
  abbrev pub AreFrames : Rows → Type 0
  AreFrames frames = IsStreamOf (frame_types r.phases r.up (input_types p)) frames

  -- the rows of the program that frames have, phase by phase
  abbrev pub rows_in : (frames : Rows) → Rows
  rows_in frames = fast r (length (input_types p)) frames

  -- the frames of the program's output rows, so many frames
  abbrev pub frames_out : Words → (count : ℕ) → Rows
  frames_out words count = frame_out r (length (output_types p)) (out p words (count * r.phases))

  -- Over the rows of the frames the program has exactly one solution. The graph has one over the frames, whose output
  -- rows are the frames of those of the program.
  pub record KeepsFrames (g : Graph) (frames : Rows) : Type 0 where
    pub words : Words
    pub one : IsOneSolution p (rows_in frames) words
    pub others : numbered.Words
    pub solves : GraphSolves g frames others
    pub rows : graph_out g others (length frames) ≡ frames_out words (length frames)

  -- the graph can be planned, and keeps the solutions of the program over each stream of valid frames
  pub record IsGraphForFrames (g : Graph) : Type 0 where
    pub sound : IsGraph g
    pub loopless : IsGraphLoopless g
    pub keeps : (frames : Rows) → AreFrames frames → KeepsFrames g frames
