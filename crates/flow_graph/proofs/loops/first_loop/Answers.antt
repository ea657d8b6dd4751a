-- A cycle in the lists of reads is a loop.
use Rattle.std.proofs.Common.{◌∙◌, sym, subst, ℕ, List}
use Rattle.signal_graph.specs.Flat.{view}
use Rattle.digraph.specs.Arcs.{HasArc, IsWithin, IsCycleIn}
use Rattle.flow_graph.specs.Loops.{IsLoopIn}
use Rattle.flow_graph.proofs.Adding.{if_ok}
use Rattle.flow_graph.proofs.FirstLoops.{lists_within, loop_in}
use Rattle.flow_graph.proofs.loops.first_loop.Goals as goal

pub first_cyclic-requires-clause-within : goal.first_cyclic-requires-clause-within
first_cyclic-requires-clause-within c =
    subst IsWithin (sym (c.as_slice.ensures ∙ c.in_ok-reads.ensures)) (lists_within (view c.args.flat.now) c.requires)

pub returns : goal.returns
returns c =
    if_ok (IsCycleIn (HasArc c.as_slice.result.now)) (IsLoopIn (view c.args.flat.now))
    (λ o h. loop_in (view c.args.flat.now) c.requires o
    (subst (λ (lists : List (List ℕ)). IsCycleIn (HasArc lists) o) (c.as_slice.ensures ∙ c.in_ok-reads.ensures) h))
    c.first_cyclic.result c.first_cyclic.ensures
