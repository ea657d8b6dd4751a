use Rattle.std.proofs.Common.{◌+◌, ◌-◌, ◌%◌, subst, sym, ℕ}
use Rattle.plan_soundness.specs.Parts.{IsCopy}
use Rattle.microcode_asm.proofs.IssueSteps.{copy_in_turn}
use Rattle.microcode_asm.proofs.issues.copy_ago.Goals as goal

pub returns : goal.returns
returns c =
    subst (λ (k : ℕ). IsCopy c.args.copies c.args.n c.args.ago ((c.args.n + k - c.args.ago % k) % k))
    (sym c.from-copies.ensures) (copy_in_turn c.args.copies c.args.n c.args.ago c.requires.some)
