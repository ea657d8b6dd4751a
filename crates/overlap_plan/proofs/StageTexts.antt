-- A plan over several stages has what its text needs, and the text of worked plans.
use Rattle.std.proofs.Common.{◌≡◌, refl, arith, ℕ, ◌*◌, ◌≤◌, List, [], ◌∷◌, ◌++◌, codes}
use Rattle.std.specs.Fmt.{digits}
use Rattle.std.proofs.Math.Nat.{mul-le-mul_right}
use Rattle.datapath.specs.Allowed.{IsDatapath}
use Rattle.datapath.specs.declared.types.Datapath.{Datapath}
use Rattle.plan_core.specs.Stages.{IsGapAround, IsSameAround, IsInStage, IsLoadOf, written_around, read_around}
use Rattle.microcode_asm.specs.Printable.{ArePrintable}
use Rattle.microcode_asm.specs.ScheduleText as asm
use Rattle.plan_soundness.proofs.Units.{on_right_units}
use Rattle.microcode_asm.proofs.Printables.{printable_over}
use Rattle.overlap_plan.specs.IsStagePlan.{plan_of}
use Rattle.overlap_plan.specs.StagePlanned.{IsStagePlanned}
use Rattle.overlap_plan.specs.StageText.{head_line, stage_text}
use Rattle.overlap_plan.specs.declared.plan.StagePlan.{StagePlan}

pub printable : (d : Datapath) (p : StagePlan)
    → IsDatapath d
    → IsStagePlanned d p
    → ArePrintable d p.assigned p.schedule p.arcs p.registers
printable d p is planned =
    let plan = planned.plan in
    let a = p.assigned in
    let s = p.schedule in
    let short : p.stages * d.period ≤ 4 * d.period = mul-le-mul_right d.period planned.few in
    printable_over (IsGapAround d.period) (IsSameAround d.period) (p.stages * d.period)
    (IsInStage p.stages (IsLoadOf plan.lowered.delays) d a) (written_around d a s)
    (λ (v c q : ℕ). read_around d a s v c q) d a s p.arcs p.registers is (on_right_units plan.assigned)
    plan.schedule plan.arcs (omega (arith, short, is.period.1)) (λ v there. refl) plan.registers.count

-- The text differs from that of the plan without its stages in the head line alone.
pub record IsAlikeBelowHead (d : Datapath) (p : StagePlan) : Type 0 where
  pub lines : List ℕ
  pub staged : stage_text d p ≡ head_line d p ++ lines
  pub plain : asm.schedule_text d (plan_of p) ≡ asm.head_line d (plan_of p) ++ lines

pub alike_below_head : (d : Datapath) (p : StagePlan) → IsAlikeBelowHead d p
unfolding stage_text asm.schedule_text
alike_below_head d p =
    record { lines = asm.node_lines d p.assigned p.schedule p.arcs p.registers; staged = refl; plain = refl }
