use Rattle.std.proofs.Common.{◌<◌, arith, length}
use Rattle.unit_assign.proofs.LightSteps.{lightest_kept, lightest_renewed, kind_read, load_read, same_kind}
use Rattle.unit_assign.proofs.binding.lightest_after.Goals as goal

pub returns-in-Some : goal.returns-in-Some
returns-in-Some c old grows before =
    let d = c.args.problem.now.datapath.now in
    let unit = c.args.unit in
    let item = c.index.result.now in
    let is = kind_read d unit c.from.result item c.requires.unit c.from.ensures c.index.ensures in
    let same = same_kind d c.args.problem.now.wiring.now.kinds c.requires.problem.wiring_is.kinds item.kind
    c.units-units.result c.units-units.ensures in
    lightest_kept d old c.args.loads.now unit item.kind is grows c.args.lightest c.without-rest.result
    c.units-units.result c.intersection-others.result before c.without-rest.ensures same
    c.intersection-others.ensures _ c.in-Some.ensures.first.taken.there

pub with_load-requires : goal.with_load-requires
with_load-requires c u has =
    let kinds = c.args.problem.now.wiring.now.kinds in
    let is = (same_kind c.args.problem.now.datapath.now kinds c.requires.problem.wiring_is.kinds
    c.index.result.now.kind c.units-units.result c.units-units.ensures u).0 has in
    let there = is.there in
    let count = c.requires.count in
    omega (arith, there, count)

pub returns-in-None : goal.returns-in-None
returns-in-None c old grows before =
    let d = c.args.problem.now.datapath.now in
    let unit = c.args.unit in
    let item = c.index.result.now in
    let is = kind_read d unit c.from.result item c.requires.unit c.from.ensures c.index.ensures in
    let same = same_kind d c.args.problem.now.wiring.now.kinds c.requires.problem.wiring_is.kinds item.kind
    c.units-units.result c.units-units.ensures in
    let inside : unit < length c.args.loads.now =
    let there = c.requires.unit in let count = c.requires.count in omega (arith, there, count) in
    lightest_renewed d old c.args.loads.now unit item.kind is grows c.args.lightest c.without-rest.result
    c.units-units.result c.intersection-others.result before c.without-rest.ensures same
    c.intersection-others.ensures c.in-None.ensures.first c.index-in-None.result.now
    (load_read c.args.loads.now unit c.from-in-None.result c.index-in-None.result.now inside
    c.from-in-None.ensures c.index-in-None.ensures) c.with_load.result c.union.result c.with_load.ensures
    c.union.ensures
