-- The text of a schedule over several stages: a head line, and then the lines of the nodes as in the text of
-- a schedule.
use Rattle.std.specs.Prelude.{ℕ, List, [], ◌∷◌, ◌++◌, length, codes, decimal}
use Rattle.datapath.specs.declared.types.Datapath.{Datapath}
use Rattle.microcode_asm.specs.OperationText.{line_feed}
use Rattle.microcode_asm.specs.ScheduleText.{node_lines}
use Rattle.overlap_plan.specs.declared.plan.StagePlan.{StagePlan}

module _ (d : Datapath) (p : StagePlan) where
  unfoldable pub head_line : List ℕ
  head_line =
      codes "period " ++ decimal d.period ++ codes " stages " ++ decimal p.stages
      ++ codes " unroll " ++ decimal p.unroll
      ++ codes " nodes " ++ decimal (length p.assigned.lowered.nodes) ++ line_feed ∷ []

  unfoldable pub stage_text : List ℕ
  stage_text = head_line ++ node_lines d p.assigned p.schedule p.arcs p.registers
