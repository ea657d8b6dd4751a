-- The operations of a sound program are few.
use Rattle.std.proofs.Common.{◌≤◌, ◌^◌, arith}
use Rattle.std.proofs.lemmas.List.Sums.{sum_by-le-sum_by}
use Rattle.signal_graph.specs.Flat.{Body, word, value, Element, Program, size_of_body}
use Rattle.signal_graph.specs.Expressions.{operation_count_of_body}
use Rattle.signal_graph.specs.FlatRules.{IsFlat}
use Rattle.signal_graph.proofs.Sizes.{fewer_than_all}
use Rattle.rate_unfold.specs.Faults.{operations_of}

fewer : (body : Body) → operation_count_of_body body ≤ size_of_body body
fewer (word i) = omega arith
fewer (value x) = fewer_than_all x

pub few_operations : (p : Program) → IsFlat p → operations_of p ≤ 2 ^ 17
few_operations p sound =
    let less = sum_by-le-sum_by (λ (element : Element). operation_count_of_body element.body)
    (λ (element : Element). size_of_body element.body) p.elems (λ element. fewer element.body) in
    omega (arith, less, sound.size)
