-- The graph of a program over frames keeps the solutions of the program.
use Rattle.std.proofs.Common.{◌≡◌, ℕ, ◌*◌, List, length, sym, ap, ap₂, ◌∙◌, subst, arith}
use Rattle.lists.specs.Rows.{Rows}
use Rattle.element_rules.specs.Numbers.{IsNumberOf}
use Rattle.fix_word.specs.declared.types.SigType.{SigType}
use Rattle.flow_graph.specs.PrunedGraph.{KeepsFlatRows}
use Rattle.frame_command.specs.FrameGraphs.{AreFrames, rows_in, frames_out, KeepsFrames, IsGraphForFrames}
use Rattle.frame_command.specs.Planning.{IsFlatIn, KeepsFrameRows}
use Rattle.loop_expand.proofs.ProgramKeeps.{rows_are}
use Rattle.loop_expand.proofs.ProgramSystem.{one_system}
use Rattle.rate_unfold.specs.Frames.{Rates, frame_types, fast, frame_out}
use Rattle.rate_unfold.specs.Solutions.{KeepsFrames as KeepsUnfolded, fast_of}
use Rattle.rate_unfold.proofs.UnfoldedValues.{length_fast}
use Rattle.signal_graph.specs.Flat as flat
use Rattle.signal_graph.specs.FlatSolves.{flat_out}
use Rattle.signal_graph.specs.GraphRules.{IsGraph}
use Rattle.signal_graph.specs.GraphSolves.{IsGraphLoopless}
use Rattle.signal_graph.specs.Keeps.{IsStreamOf}
use Rattle.signal_graph.specs.Values as flat_words
use Rattle.signal_graph.specs.declared.graph.Graph.{Graph}
use Rattle.signal_graph.proofs.Members.{zip_length}
use Rattle.signal_graph.proofs.OneSolution.{flat_solution}
use Rattle.silage_meaning.specs.Solves.{IsStream, IsOneSolution, input_types, output_types, out}
use Rattle.silage_meaning.specs.Value.{Words}
use Rattle.silage_meaning.proofs.InputRows.{outputs_length}
use Rattle.silage_syntax.specs.Tree.{Program}
use Rattle.silc_files.specs.declared.files.Input.{Input}

-- the graph of the unfolded program gives the frames of the program
pub keeps_frame_rows : (r : Rates) (f unfolded : flat.Program) (g : Graph)
    → unfolded.inputs ≡ frame_types r.phases r.up f.inputs
    → KeepsUnfolded r f unfolded
    → KeepsFlatRows unfolded g
    → KeepsFrameRows r f g
keeps_frame_rows r f unfolded g inputs keeps rows = record {
  stream = λ frames are. keeps.stream frames (of_unfolded frames are);
  solutions = λ frames are words solves.
      let (theirs, unfolded_solves, equal) = (keeps.keeps frames).forth words solves in
      let (others, one, out) = (rows frames (of_unfolded frames are)).forth theirs unfolded_solves in
      (others, one.solves, out ∙ keeps.rows frames words theirs (length frames) equal (omega arith));
}
  where
    of_unfolded : (frames : Rows)
        → IsStreamOf (frame_types r.phases r.up f.inputs) frames
        → IsStreamOf unfolded.inputs frames
    of_unfolded frames = subst (λ (types : List SigType). IsStreamOf types frames) (sym inputs)

module _ (r : Rates) (input : Input) (p : Program) (f : flat.Program) (is : IsFlatIn input p f) (g : Graph)
    (keeps : KeepsFrameRows r f g) where
  inputs : f.inputs ≡ input_types p
  inputs = is.flat_of.flat_of.inputs

  outs : length f.outs ≡ length (output_types p)
  outs = zip_length (IsNumberOf is.flat_of.elements) f.outs _ is.flat_of.flat_of.outs ∙ outputs_length p

  module _ (frames : Rows) (are : AreFrames r p frames) where
    flat_frames : IsStreamOf (frame_types r.phases r.up f.inputs) frames
    flat_frames =
        subst (λ (types : List SigType). IsStreamOf (frame_types r.phases r.up types) frames) (sym inputs) are

    valid : IsStream p (fast_of r f frames)
    valid =
        (rows_are p (fast_of r f frames)).1
        (subst (λ (types : List SigType). IsStreamOf types (fast_of r f frames)) inputs
        (keeps.stream frames flat_frames))

    same_rows : fast_of r f frames ≡ rows_in r p frames
    same_rows = ap (λ (types : List SigType). fast r (length types) frames) inputs

    same_frames : (theirs : flat_words.Words) (words : Words)
        → flat_out f theirs (length (fast_of r f frames)) ≡ out p words (length (fast_of r f frames))
        → frame_out r (length f.outs) (flat_out f theirs (length frames * r.phases))
        ≡ frames_out r p words (length frames)
    same_frames theirs words equal =
        ap₂ (frame_out r) outs
        (subst (λ (n : ℕ). flat_out f theirs n ≡ out p words n) (length_fast r (length f.inputs) frames) equal)

    kept : KeepsFrames r p g frames
    kept =
        let (numbered, one) = flat_solution f is.sound (fast_of r f frames) is.loopless in
        let (words, its, equal) =
        (is.keeps is.flat_of.elements is.flat_of.expansion (fast_of r f frames) valid).back numbered one.solves in
        let (others, solves, rows) = keeps.solutions frames flat_frames numbered one.solves in
        record {
          words = words;
          one = subst (λ (stream : Rows). IsOneSolution p stream words) same_rows
              ((one_system p (fast_of r f frames) words).1 its);
          others = others;
          solves = solves;
          rows = rows ∙ same_frames numbered words equal.rows;
        }

  pub graph_for_frames : IsGraph g → IsGraphLoopless g → IsGraphForFrames r p g
  graph_for_frames sound loopless = record { sound = sound; loopless = loopless; keeps = kept }
