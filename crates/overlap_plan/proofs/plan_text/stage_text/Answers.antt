use Rattle.overlap_plan.proofs.StageTexts.{printable}
use Rattle.overlap_plan.proofs.plan_text.stage_text.Goals as goal

pub put_node_lines-requires : goal.put_node_lines-requires
put_node_lines-requires c = printable c.args.datapath.now c.args.plan.now c.requires.datapath c.requires.plan
