-- SRC's program with its evaluator, and what its evaluation over SAMPLES comes to.
use Rattle.std.specs.Prelude.{◌≡◌, ◌⊎◌, ◌+◌, []}
use Rattle.desk_core.specs.View.{Name, View}
use Rattle.desk_core.specs.Desk.{WhereSpecified, ReadFaultsRose, FaultsNeverFall}
use Rattle.desk_core.specs.Whole.{IsReadThrough}
use Rattle.equation_eval.specs.Evaluation.{Evaluation}
use Rattle.source_faults.specs.Faults.{IsOfSource}
use Rattle.loop_expand.specs.GraphFor.{IsGraphFor}
use Rattle.silc_files.specs.Sources.{IsProgramIn, HasFrontFault}
use Rattle.sample_commands.specs.Streaming.{IsOpened, IsNotOpened}
use Rattle.sample_commands.specs.StreamEnds.{EndsStream}
use Rattle.sample_loops.specs.Evaluators.{graph_channels, EvaluatesRows, SolvesRows}
use Rattle.sample_loops.specs.Streams.{ChangesOutputAlone}
use Rattle.signal_graph.specs.declared.graph.Graph.{Graph}
use Rattle.silage_syntax.specs.Tree.{Program}
use Rattle.silc_files.specs.Limits.{text_limit, samples_limit}
use Rattle.statuses.specs.declared.status.Status.{Status}
use Rattle.statuses.specs.declared.status.Status.TheVariants.{Memory, Desk, FrontEnd}

-- the program of SRC, which was read through, and its graph
pub record IsSourceRead (src : Name) (old new : View) (p : Program) (g : Graph) : Type 0 where
  pub read : IsReadThrough src text_limit old new
  pub graph : IsGraphFor p g
  pub specified : WhereSpecified old (IsProgramIn src p)

-- why SRC has no program
abbrev pub IsSourceError : Name → View → View → Status → Type 0
IsSourceError src old new Memory = Unit {0}
IsSourceError src old new Desk = ReadFaultsRose src old new
IsSourceError src old new (FrontEnd fault) =
    IsOfSource fault × IsReadThrough src text_limit old new × WhereSpecified old (HasFrontFault src fault)
IsSourceError src old new _ = ⊥

-- the evaluator of the program of SRC, which was read through, before its first sample
pub record IsEvaluatorOf (src : Name) (old new : View) (evaluator : Evaluation) : Type 0 where
  pub program : Program
  pub source : IsSourceRead src old new program evaluator.graph
  pub fresh : evaluator.ran ≡ []

-- the files were opened, and then the stream of the one was evaluated into the other
pub record EvaluatesFiles (samples out : Name) (evaluator : Evaluation) (old new : View) (ending : Status)
    : Type 0 where
  pub mid : View
  pub after : Evaluation
  pub never_fall : FaultsNeverFall old mid
  pub opened : IsOpened samples out old mid
  pub only : ChangesOutputAlone mid new
  pub ends :
      EndsStream (samples_limit + 1) (graph_channels evaluator.graph)
      (λ ran puts. EvaluatesRows evaluator ran puts after) (SolvesRows evaluator) (λ rows conflict. ⊥) mid new ending

-- the files could not be opened, or the stream was evaluated
abbrev pub IsEvalOver : Name → Name → Evaluation → View → View → Status → Type 0
IsEvalOver samples out evaluator old new ending =
    ((ending ≡ Desk) × IsNotOpened samples out old new) ⊎ EvaluatesFiles samples out evaluator old new ending
