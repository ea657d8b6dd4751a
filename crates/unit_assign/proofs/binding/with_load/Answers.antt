use Rattle.std.proofs.Common.{◌≡◌, ◌∙◌, sym, subst, arith, ℕ}
use Rattle.unit_assign.specs.Private.Bindings.{load_in}
use Rattle.bit_sets.specs.declared.set32.Set32.{Set32}
use Rattle.bit_sets.proofs.Passing.{IsFiltered, filter_none, filter_more, filter_past, filter_all}
use Rattle.unit_assign.proofs.LightSteps.{load_read}
use Rattle.unit_assign.proofs.binding.with_load.Goals as goal

pub loop-unit-init : goal.loop-unit-init
loop-unit-init c =
    let passes = λ (u : ℕ). load_in c.args.loads.now u ≡ c.args.load in
    subst (λ (s : Set32). IsFiltered passes c.args.units.bits c.args.units.bits s.bits) (sym c.empty-found.ensures)
    (filter_none passes c.args.units.bits)

pub loop-unit-preserved-then-index-load : goal.loop-unit-preserved-then-index-load
loop-unit-preserved-then-index-load c =
    let passes = λ (u : ℕ). load_in c.args.loads.now u ≡ c.args.load in
    let unit = c.in-Some.unit in
    let inside = c.requires unit (c.loop-unit.invariant.inside unit c.in-Some.ensures.first.taken.there) in
    let load = load_read c.args.loads.now unit c.from.result c.index.result.now inside c.from.ensures
    c.index.ensures in
    filter_more passes c.args.units.bits c.loop-unit.left.bits c.pop_first.new.self.bits c.loop-unit.found.bits unit
    c.loop-unit.invariant c.in-Some.ensures.first.taken c.with-found.result.bits c.with-found.ensures
    (sym load ∙ c.if-index-load.true)

pub loop-unit-preserved : goal.loop-unit-preserved
loop-unit-preserved c =
    let passes = λ (u : ℕ). load_in c.args.loads.now u ≡ c.args.load in
    let unit = c.in-Some.unit in
    let inside = c.requires unit (c.loop-unit.invariant.inside unit c.in-Some.ensures.first.taken.there) in
    let load = load_read c.args.loads.now unit c.from.result c.index.result.now inside c.from.ensures
    c.index.ensures in
    filter_past passes c.args.units.bits c.loop-unit.left.bits c.pop_first.new.self.bits c.loop-unit.found.bits unit
    c.loop-unit.invariant c.in-Some.ensures.first.taken (λ e. c.if-index-load.false (load ∙ e))

pub index-requires : goal.index-requires
index-requires c =
    let inside = c.requires c.in-Some.unit
    (c.loop-unit.invariant.inside c.in-Some.unit c.in-Some.ensures.first.taken.there) in
    omega (arith, inside, c.from.ensures)

pub returns : goal.returns
returns c =
    filter_all (λ (u : ℕ). load_in c.args.loads.now u ≡ c.args.load) c.args.units.bits c.loop-unit.left.bits
    c.loop-unit.found.bits c.loop-unit.invariant c.in_default.ensures.first
