use Rattle.microcode_asm.proofs.Printables.{printable}
use Rattle.microcode_asm.proofs.plan_text.schedule_text.Goals as goal

pub put_node_lines-requires : goal.put_node_lines-requires
put_node_lines-requires c = printable c.args.datapath.now c.args.plan.now c.requires.datapath c.requires.plan
