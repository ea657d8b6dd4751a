-- What joining the processors of a net and running it gives, or why it gives nothing.
use Rattle.std.specs.Prelude.{◌≡◌, ◌⊎◌, List, length}
use Rattle.std.specs.List.{All, AllZip}
use Rattle.desk_core.specs.View.{Name, Content, View}
use Rattle.desk_core.specs.Desk.{WhereSpecified, ReadFaultsRose}
use Rattle.desk_core.specs.Whole.{IsReadThrough}
use Rattle.fault_order.specs.Ranked.{IsClear, IsFirst}
use Rattle.fault_order.specs.Rules.{faults}
use Rattle.net_command.specs.Net.{net_samples_limit, IsOfNet, IsJoinRefusal, IsJoinRefused, IsProcUnread, HasFit}
use Rattle.net_command.specs.Net.{IsJoinReadTo, IsNetReadTo, AreSamplesUnread, IsNetMade, IsNetRefusal, IsNetRefused}
use Rattle.net_command.specs.Processors.{ProcPlan, images_of, ports_of}
use Rattle.net_command.specs.Private.Prepared.{IsPrepared, IsPreparedFrom, AreProcessors, IsNoProcessor}
use Rattle.net_command.specs.declared.joiner.Joined.{Joined}
use Rattle.net_command.specs.declared.processors.Processors.{Processors}
use Rattle.net_core.specs.Allowed.{IsNetFile}
use Rattle.net_core.specs.declared.fault.NetFault.{NetFault}
use Rattle.net_core.specs.declared.types.NetFile.{NetFile}
use Rattle.net_fit.specs.Joints.{joint_rules}
use Rattle.plan_commands.specs.declared.planning.Inputs.{Inputs}
use Rattle.proc_net.specs.Nets.{NetState}
use Rattle.statuses.specs.declared.status.Status.{Status}
use Rattle.statuses.specs.declared.status.Status.TheVariants.{Memory, Desk, Net}

module _ (file : NetFile) (inputs : List Inputs) where
  -- the processors of these inputs fit one another
  pub record AreJoined (processors : Processors) : Type 0 where
    pub are : AreProcessors inputs processors
    pub joints : IsClear (faults (joint_rules file.procs (ports_of are.plans)))

  -- they do not, and this is the first fault
  pub record AreMisjoined (fault : NetFault) : Type 0 where
    pub plans : List ProcPlan
    pub prepared : AllZip IsPreparedFrom inputs plans
    pub first : IsFirst (faults (joint_rules file.procs (ports_of plans))) fault

  -- why there are none that do
  abbrev pub IsUnjoined : Status → Type 0
  IsUnjoined status =
      IsNoProcessor inputs status
      ⊎ ((fault : NetFault) × (status ≡ Net fault) × IsOfNet fault × AreMisjoined fault)

module _ (net out : Name) (old : View) where
  -- the net and its processors are those of the files
  pub record AreRead (joined : Joined) : Type 0 where
    pub allowed : IsNetFile joined.file
    pub plans : List ProcPlan
    pub count : length plans ≡ length joined.file.procs
    pub prepared : All IsPrepared plans
    pub images : joined.processors.images ≡ images_of plans
    pub ports : joined.processors.ports ≡ ports_of plans
    pub joints : IsClear (faults (joint_rules joined.file.procs (ports_of plans)))
    pub fit : WhereSpecified old (HasFit net out joined.file plans)

  -- why there are none
  abbrev pub AreUnread : View → Status → Type 0
  AreUnread new status =
      (status ≡ Memory)
      ⊎ (((status ≡ Desk) × (ReadFaultsRose net old new ⊎ IsProcUnread net out old new))
      ⊎ (IsJoinRefusal status
      × IsJoinReadTo net out status old new
      × WhereSpecified old (IsJoinRefused net out status)))

module _ (net samples out : Name) where
  -- the net ran, after SAMPLES were read through
  pub record IsRun (joined : NetState) (text : Content) (old new : View) : Type 0 where
    pub read : IsReadThrough samples net_samples_limit old new
    pub made : IsNetMade net samples out joined text old

  -- why it did not
  abbrev pub IsNotRun : View → View → Status → Type 0
  IsNotRun old new status =
      (status ≡ Memory)
      ⊎ (((status ≡ Desk)
      × (ReadFaultsRose net old new ⊎ (IsProcUnread net out old new ⊎ AreSamplesUnread net samples out old new)))
      ⊎ (IsNetRefusal status
      × IsNetReadTo net samples out status old new
      × WhereSpecified old (IsNetRefused net samples out status)))
