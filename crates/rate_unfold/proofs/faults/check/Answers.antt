use Rattle.std.proofs.Common.{◌≤◌, ◌+◌, ◌^◌, arith}
use Rattle.std.proofs.lemmas.List.{length-map}
use Rattle.std.proofs.lemmas.Nat.{mul-le}
use Rattle.signal_graph.specs.Flat.{view, view_elem}
use Rattle.rate_unfold.proofs.Weights.{few_operations}
use Rattle.rate_unfold.proofs.faults.check.Goals as goal

pub operations_of-requires : goal.operations_of-requires
operations_of-requires c = few_operations (view c.args.program.now) c.requires.sound

pub overflow_add-weight : goal.overflow_add-weight
overflow_add-weight c =
    let few = few_operations (view c.args.program.now) c.requires.sound in
    let count = length-map c.args.program.now.elems view_elem in
    omega (arith, few, count, c.requires.sound.element_count, c.len.ensures, c.operations_of.ensures)

pub overflow_mul-from : goal.overflow_mul-from
overflow_mul-from c =
    let few = few_operations (view c.args.program.now) c.requires.sound in
    let count = length-map c.args.program.now.elems view_elem in
    let weight : c.len.result + c.operations_of.result ≤ 2 ^ 18 =
    omega (arith, few, count, c.requires.sound.element_count, c.len.ensures, c.operations_of.ensures) in
    let phases : c.from.result ≤ 8 = omega (arith, c.from.ensures, c.requires.rates.phases.1) in
    let most = mul-le c.from.result (c.len.result + c.operations_of.result) 8 (2 ^ 18) phases weight in
    omega (arith, most)
