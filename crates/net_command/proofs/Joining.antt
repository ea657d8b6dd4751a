-- How the processors of a net are joined, or why they are not.
use Rattle.std.proofs.Common.{◌≡◌, ◌∙◌, List, length, ap, ap₂, subst}
use Rattle.std.proofs.lemmas.List.{length-map}
use Rattle.lists.proofs.Zips.{zip_length}
use Rattle.fault_order.specs.Ranked.{IsClear}
use Rattle.fault_order.specs.Rules.{Rules, faults}
use Rattle.net_command.specs.Ports.{program_ports}
use Rattle.net_command.specs.Processors.{ports_of}
use Rattle.net_command.specs.Private.Prepared.{IsPreparedFrom, AreProcessors}
use Rattle.net_command.specs.Private.Running.{AreJoined}
use Rattle.net_command.specs.declared.processors.Processors.{Processors}
use Rattle.net_core.specs.declared.fault.NetFault.{NetFault}
use Rattle.net_core.specs.declared.types.NetFile.{NetFile}
use Rattle.net_core.specs.declared.types.NetProc.{NetProc}
use Rattle.net_fit.specs.Joints.{joint_rules}
use Rattle.net_fit.specs.declared.ports.Ports.{Ports}
use Rattle.plan_commands.specs.declared.planning.Inputs.{Inputs}

module _ (file : NetFile) (inputs : List Inputs) (processors : Processors) (are : AreProcessors inputs processors)
  where
    pub as_many : length processors.ports ≡ length inputs
    as_many =
        ap length are.ports ∙ length-map are.plans (λ its. program_ports its.program)
        ∙ zip_length IsPreparedFrom inputs are.plans are.prepared

    -- the ports that were checked are those of the plans
    module _ (procs : List NetProc) (ports : List Ports) (same_procs : procs ≡ file.procs)
        (same_ports : ports ≡ processors.ports) where
      same : joint_rules procs ports ≡ joint_rules file.procs (ports_of are.plans)
      same = ap₂ joint_rules same_procs (same_ports ∙ are.ports)

      pub joined : IsClear (faults (joint_rules procs ports)) → AreJoined file inputs processors
      joined clear =
          record { are = are; joints = subst (λ (rules : Rules NetFault). IsClear (faults rules)) same clear }
