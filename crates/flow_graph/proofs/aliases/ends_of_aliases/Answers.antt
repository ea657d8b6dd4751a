use Rattle.std.proofs.Common.{◌≡◌, ℕ, List, length, sym, subst, ap, arith}
use Rattle.std.proofs.lemmas.List.{with_items_is}
use Rattle.signal_graph.specs.Flat.{view}
use Rattle.flow_graph.specs.Private.Aliases.{IsInside, Jumps, AreEnds}
use Rattle.flow_graph.proofs.AliasHeights.{height, height_most, aliases_inside, aliases_jump}
use Rattle.flow_graph.proofs.aliases.ends_of_aliases.Goals as goal

pub lead_to_ends-requires-clause-inside : goal.lead_to_ends-requires-clause-inside
lead_to_ends-requires-clause-inside c =
    subst IsInside (sym c.deref_mut.ensures.value)
    (aliases_inside (view c.args.flat.now) c.requires.sound c.requires.loopless c.in_ok-ends.ends.items
    c.in_ok-ends.ensures)

pub returns-clause-ends : goal.returns-clause-ends
returns-clause-ends c =
    let p = view c.args.flat.now in
    let size = c.in_ok-ends.ensures.size in
    let same = ap length c.deref_mut.ensures.value in
    let kept : length c.lead_to_ends.new.leads ≡ length c.deref_mut.result.now = c.lead_to_ends.auto.leads in
    let ends = c.lead_to_ends.ensures.ends p (height p c.requires.sound c.requires.loopless)
    (subst (Jumps p (height p c.requires.sound c.requires.loopless) 1) (sym c.deref_mut.ensures.value)
    (aliases_jump p c.requires.sound c.requires.loopless c.in_ok-ends.ends.items c.in_ok-ends.ensures))
    (λ e within. (let most = height_most p c.requires.sound c.requires.loopless e (omega arith) in omega arith)) in
    subst (λ (xs : List ℕ). AreEnds p xs) (sym (with_items_is c.in_ok-ends.ends c.lead_to_ends.new.leads (omega arith)))
    ends
