-- The way to the lifetime of a node's words at a port.
use Rattle.std.proofs.Common.{◌≡◌, ℕ, ◌+◌, ◌<◌, ◌≤◌, ⊎_elim, sym, ◌∙◌, subst, arith, List, length, slice_index_or}
use Rattle.std.proofs.lemmas.Bool.{cases_lt}
use Rattle.std.proofs.lemmas.List.{get_or_default}
use Rattle.operations.specs.declared.units.PortRef.{PortRef}
use Rattle.plan_core.specs.Arcs.{arc_of}
use Rattle.plan_core.specs.declared.registers.Arc.{Arc}
use Rattle.microcode_asm.specs.Lifetimes.{AreKept, IsFoundArc}
use Rattle.microcode_asm.specs.Private.Lifetimes.{IsOnWay}
use Rattle.bucket_sort.specs.Linked.{IsNext}
use Rattle.bucket_sort.specs.declared.Buckets.{Buckets}
use Rattle.bucket_sort.proofs.Linked.{next_after}

module _ (nodes : ℕ) (arcs : List Arc) (v : ℕ) (port : PortRef) (some : (k : ℕ) × IsFoundArc arcs v port k) where
  abbrev node_in : ℕ → ℕ
  node_in k = (arc_of arcs k).node

  -- the next lifetime of the node, where the one at the port is not before
  next_on_way : (from k : ℕ)
      → IsNext node_in (length arcs) v from k
      → ((j : ℕ) → IsFoundArc arcs v port j → from ≤ j)
      → IsOnWay arcs v port k
  next_on_way from k next left = record { there = there; its_node = next.here there; ahead = ahead }
    where
      ahead : (j : ℕ) → IsFoundArc arcs v port j → k ≤ j
      ahead j found =
          ⊎_elim (λ (less : j < k). absurd (next.none_before j (left j found) less found.for.node))
          (λ (from : k ≤ j). from) (cases_lt j k)

      there : k < length arcs
      there = let most : k ≤ some.0 = ahead some.0 some.1 in omega (arith, most, some.1.there)

  -- the first lifetime of the node is on the way
  pub starts_way : (by : Buckets) (k : ℕ)
      → AreKept nodes arcs by
      → v < nodes
      → k ≡ slice_index_or by.first v k
      → IsOnWay arcs v port k
  starts_way by k links in-v is =
      next_on_way 0 k
      (subst (IsNext node_in (length arcs) v 0)
      (sym (is ∙ get_or_default by.first v k 0 (omega (arith, in-v, links.first_count)))) (links.first_is v in-v))
      (λ j found. omega arith)

  -- and so is the one after a lifetime at another port
  pub goes_on_way : (by : Buckets) (k next : ℕ)
      → AreKept nodes arcs by
      → ((arc_of arcs k).port ≡ port → ⊥)
      → next ≡ slice_index_or by.next k next
      → IsOnWay arcs v port k
      → IsOnWay arcs v port next
  goes_on_way by k next links other is on =
      next_on_way (k + 1) next
      (subst (λ w. IsNext node_in (length arcs) w (k + 1) next) on.its_node
      (next_after node_in nodes (length arcs) by links k next on.there is))
      (λ j found.
      let up : k ≤ j = on.ahead j found in
      ⊎_elim (λ (less : k < j). omega (arith, less))
      (λ (from : j ≤ k).
      absurd (other (subst (λ j. (arc_of arcs j).port ≡ port) {x = j} {y = k} (omega (arith, up, from))
      found.for.port_is)))
      (cases_lt k j))

  pub ends_way : (k : ℕ) → (arc_of arcs k).port ≡ port → IsOnWay arcs v port k → IsFoundArc arcs v port k
  ends_way k at on = record { there = on.there; for = record { node = on.its_node; port_is = at } }
