-- A planning that is not that of `compile`, worked out: it has no cycle for the first node of any graph.
use Rattle.std.proofs.Common.{◌≡◌, refl}
use Rattle.datapath.specs.Described.{IsPathOf}
use Rattle.datapath.specs.declared.types.Datapath.{Datapath}
use Rattle.desk_core.specs.View.{Name, Content, View}
use Rattle.front_end.specs.GraphOf.{IsProgramGraph}
use Rattle.signal_graph.specs.declared.graph.Graph.{Graph}
use Rattle.silage_syntax.specs.Tree.{Program}
use Rattle.source_faults.specs.Faults.{HasProgram}
use Rattle.plan_commands.specs.Plans.{IsUnplannedBy}
use Rattle.plan_commands.specs.Planning.{AreUnread}
use Rattle.plan_commands.specs.Refusals.{IsRefusal, IsRefusedBy, IsErrorOf}
use Rattle.plan_commands.proofs.Errors.{not_read}
use Rattle.statuses.specs.declared.status.Status.{Status}
use Rattle.statuses.specs.declared.status.Status.TheVariants.{Period}

abbrev HasNoCycle : Status → Graph → Datapath → Type 0
HasNoCycle (Period node) g d = node ≡ 0
HasNoCycle _ g d = ⊥

abbrev IsRefusedHere : Status → (source datapath : Content) → Type 0
IsRefusedHere = IsRefusedBy (IsUnplannedBy IsProgramGraph HasNoCycle)

-- what has a graph and a datapath is refused with the first node
each_refused : (s d : Content) (p : Program) (g : Graph) (path : Datapath)
    → HasProgram s p
    → IsProgramGraph p g
    → IsPathOf d path
    → IsRefusedHere (Period 0) s d
each_refused s d p g path read graph_of described = record {
  program = p;
  read = read;
  graph = g;
  graph_of = graph_of;
  path = path;
  described = described;
  unplanned = refl;
}

-- and inputs that were not read are why it ends
unread_here : (src datapath : Name) (old new : View) (status : Status)
    → AreUnread src datapath old new status
    → IsErrorOf IsRefusal IsRefusedHere src datapath old new status
unread_here src datapath old new status = not_read IsRefusal IsRefusedHere src datapath old new status
