-- The texts of two worked plans over two stages, which the prover computes.
use Rattle.std.proofs.Common.{◌≡◌, refl, ◌++◌, codes}
use Rattle.std.specs.Fmt.{digits}
use Rattle.plan_core.proofs.Rows.{increment_plan}
use Rattle.plan_core.proofs.WorkedStages.{three_cycles}
use Rattle.microcode_asm.specs.ScheduleText.{node_line, placing_part, operation_part, destination}
use Rattle.overlap_plan.specs.StageText.{stage_text, head_line}
use Rattle.overlap_plan.proofs.WorkedPlans.{over_stages, delay_path, delay_plan}

-- y = x + 1
increment_text : stage_text three_cycles (over_stages 2 increment_plan)
    ≡ codes "period 3 stages 2 unroll 1 nodes 4\n"
    ++ codes "node 0 cycle 0 unit inp op input 0 to add.0 bus b0 regs 0\n"
    ++ codes "node 1 cycle 1 unit rom op const 1 to add.1 bus b0 regs 0\n"
    ++ codes "node 2 cycle 2 unit add op add 0 1 fmt 0 trunc 8 to outp.0 bus b0 regs 0\n"
    ++ codes "node 3 cycle 3 unit outp op output 0 2\n"
unfolding digits stage_text head_line node_line placing_part operation_part destination
increment_text = refl

-- y = x@3
delay_text : stage_text delay_path (over_stages 2 delay_plan)
    ≡ codes "period 32 stages 2 unroll 1 nodes 7\n"
    ++ codes "node 0 cycle 0 unit inp op input 0 to mem.1 bus b0 regs 0\n"
    ++ codes "node 1 cycle 1 unit adr op addr 0 to mem.0 bus b6 regs 0\n"
    ++ codes "node 2 cycle 2 unit mem op store 1 0\n"
    ++ codes "node 3 cycle 0 unit adr op addr 3 to mem.0 bus b6 regs 0\n"
    ++ codes "node 4 cycle 1 unit mem op load 3 to add.0 bus b5 regs 0\n"
    ++ codes "node 5 cycle 2 unit add op pass 4 fmt 0 trunc 8 to outp.0 bus b2 regs 0\n"
    ++ codes "node 6 cycle 32 unit outp op output 0 5\n"
unfolding digits stage_text head_line node_line placing_part operation_part destination
delay_text = refl
