use Rattle.std.proofs.Common.{◌∙◌, sym, ap, List}
use Rattle.fault_order.specs.Rules.{unless}
use Rattle.fault_order.specs.Private.FirstMet.{first}
use Rattle.net_core.specs.declared.fault.NetFault.TheVariants.{Unfed}
use Rattle.net_core.specs.declared.types.NetProc.{NetProc}
use Rattle.net_fit.specs.Names.{read_rule, is_read}
use Rattle.net_fit.proofs.Steps.{number_passes}
use Rattle.net_fit.proofs.names.check_read.Goals as goal

pub loop-word-preserved : goal.loop-word-preserved
loop-word-preserved c =
    let word = c.loop-word.word in
    let same = ap (λ (procs : List NetProc). is_read procs word) c.as_slice.ensures in
    number_passes (read_rule c.args.net.now.procs) word c.args.net.now.inputs c.loop-word-test.true
    (ap (λ b. first (unless b (Unfed word))) (sym (c.is_read.ensures ∙ same) ∙ c.if-not-is_read.false))
    ∙ c.loop-word.invariant
