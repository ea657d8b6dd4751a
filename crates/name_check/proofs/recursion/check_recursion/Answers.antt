-- What the lists tell is what the program's calls tell.
use Rattle.std.proofs.Common.{◌<◌, length, sym, subst, ap, ◌∙◌, arith}
use Rattle.std.proofs.lemmas.List.{length-map}
use Rattle.silage_syntax.specs.Tree.{view, view_top}
use Rattle.name_rules.specs.declared.fault.NameFault.TheVariants.{Recursive}
use Rattle.digraph.specs.Arcs.{HasArc, IsWithin, HasNoCycle, IsFirstCyclic, IsCycleIn}
use Rattle.digraph.proofs.Arcs.{leaves}
use Rattle.name_rules.proofs.FirstPlaces.{top_stands}
use Rattle.name_check.proofs.CallGraph.{lists_within, lists_length, none_recursive, first_recursive_of}
use Rattle.name_check.proofs.recursion.check_recursion.Goals as goal

pub first_cyclic-requires-clause-few : goal.first_cyclic-requires-clause-few
first_cyclic-requires-clause-few c =
    let same = ap length (c.as_slice.ensures ∙ c.in_ok-calls.ensures) in
    let size = lists_length (view c.args.program.now) in
    let few = c.requires.few in
    omega arith

pub first_cyclic-requires-clause-within : goal.first_cyclic-requires-clause-within
first_cyclic-requires-clause-within c =
    subst IsWithin (sym (c.as_slice.ensures ∙ c.in_ok-calls.ensures)) (lists_within (view c.args.program.now))

pub returns-in-None-clause-none : goal.returns-in-None-clause-none
returns-in-None-clause-none c =
    let none = subst (IsCycleIn _) c.in-None.is c.in_ok-first_cyclic.ensures in
    none_recursive (view c.args.program.now)
    (subst (λ calls. HasNoCycle (HasArc calls)) (c.as_slice.ensures ∙ c.in_ok-calls.ensures) none)

pub index-requires : goal.index-requires
index-requires c =
    let found = subst (IsCycleIn _) c.in-Some.is c.in_ok-first_cyclic.ensures in
    let inside = leaves found.cyclic in
    let same = ap length (c.as_slice.ensures ∙ c.in_ok-calls.ensures) in
    let size = lists_length (view c.args.program.now) in
    let tops = length-map c.args.program.now.tops view_top in
    omega arith

pub returns-clause-first : goal.returns-clause-first
returns-clause-first c = λ other.
    let found = subst (IsCycleIn _) c.in-Some.is c.in_ok-first_cyclic.ensures in
    let first =
    first_recursive_of (view c.args.program.now) c.in-Some.function
    (subst (λ calls. IsFirstCyclic (HasArc calls) c.in-Some.function) (c.as_slice.ensures ∙ c.in_ok-calls.ensures)
    found) in
    let inside = leaves found.cyclic in
    let same = ap length (c.as_slice.ensures ∙ c.in_ok-calls.ensures) in
    let size = lists_length (view c.args.program.now) in
    let tops = length-map c.args.program.now.tops view_top in
    let within : c.in-Some.function < length c.args.program.now.tops = omega arith in
    record {
      place = c.in-Some.function;
      first = first;
      top = view_top c.index.result.now;
      stands = top_stands c.args.program.now.tops c.in-Some.function c.index.result.now within c.index.ensures;
      told = ap Recursive c.top_at.ensures;
    }
