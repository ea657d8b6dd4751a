-- The unit of a node depends on the units of the nodes before it alone.
use Rattle.std.proofs.Common.{◌≡◌, ◌∙◌, sym, ap, subst, arith, ℕ, ◌<◌, ◌≤◌, ◌==◌, ⊎_elim, List, [], ◌∷◌, ◌++◌, length}
use Rattle.std.proofs.Common.{take, count_by}
use Rattle.std.proofs.lemmas.Bool.{cases_lt}
use Rattle.std.proofs.lemmas.List.{get_or_append_left, get_or_push, get_or-take, take-append-le, length_push}
use Rattle.std.proofs.lemmas.List.{length-take-le, take-take}
use Rattle.datapath.specs.declared.types.Datapath.{Datapath}
use Rattle.signal_graph.specs.declared.graph.Node.{Node}
use Rattle.plan_core.specs.Hardware.{port_of, HasRoute}
use Rattle.plan_core.specs.Assigned.{unit_in, IsCandidate, load_of, IsUnitFor, AreUnits}

module _ (d : Datapath) (nodes : List Node) where
  module _ (us ws : List ℕ) (v : ℕ) (same : (x : ℕ) → x < v → unit_in us x ≡ unit_in ws x) where
    candidate_same : (u : ℕ) → IsCandidate d nodes us v u → IsCandidate d nodes ws v u
    candidate_same u can = record {
      right = can.right;
      operands = λ q x less r. subst (λ (w : ℕ). HasRoute d w (port_of u q)) (same x less) (can.operands q x less r);
      itself = can.itself;
      consumers = λ c q less r. subst (λ (w : ℕ). HasRoute d u (port_of w q)) (same c less) (can.consumers c q less r);
    }

  pub unit_same : (us ws : List ℕ) (v u : ℕ)
      → ((x : ℕ) → x < v → unit_in us x ≡ unit_in ws x)
      → take v us ≡ take v ws
      → IsUnitFor d nodes us v u
      → IsUnitFor d nodes ws v u
  unit_same us ws v u same takes is =
      let back = λ (x : ℕ) (less : x < v). sym (same x less) in
      let load : (w : ℕ) → load_of d nodes us v w ≡ load_of d nodes ws v w =
      λ w. ap (λ (xs : List ℕ). count_by (λ (y : ℕ). y == w) xs) takes in
      record {
        width = is.width;
        candidate = candidate_same us ws v same u is.candidate;
        fewest = λ other can.
            let few = is.fewest other (candidate_same ws us v back other can) in
            let a = load u in let b = load other in omega arith;
        first = λ other can e.
            is.first other (candidate_same ws us v back other can) (load other ∙ e ∙ sym (load u));
      }

  pub unit_longer : (units more : List ℕ) (v u : ℕ)
      → v ≤ length units
      → IsUnitFor d nodes units v u
      → IsUnitFor d nodes (units ++ more) v u
  unit_longer units more v u less is =
      unit_same units (units ++ more) v u
      (λ x before. sym (get_or_append_left units more 0 x (omega arith)))
      (sym (take-append-le v units more less)) is

  pub units_more : (units : List ℕ) (u : ℕ)
      → AreUnits d nodes units
      → IsUnitFor d nodes units (length units) u
      → AreUnits d nodes (units ++ u ∷ [])
  units_more units u are is v less =
      ⊎_elim
      (λ (before : v < length units).
      subst (λ (w : ℕ). IsUnitFor d nodes (units ++ u ∷ []) v w)
      (sym (get_or_append_left units (u ∷ []) 0 v before))
      (unit_longer units (u ∷ []) v (unit_in units v) (omega arith) (are v before)))
      (λ (after : length units ≤ v).
      let count = length_push units u in
      let at : length units ≡ v = omega arith in
      subst (λ (w : ℕ). IsUnitFor d nodes (units ++ u ∷ []) v w) (sym (get_or_push units u 0 v at))
      (subst (λ (w : ℕ). IsUnitFor d nodes (units ++ u ∷ []) w u) at
      (unit_longer units (u ∷ []) (length units) u (omega arith) is)))
      (cases_lt v (length units))

  pub units_first : (units : List ℕ) (n : ℕ)
      → n ≤ length units
      → AreUnits d nodes units
      → AreUnits d nodes (take n units)
  units_first units n all are v less =
      let count = length-take-le n units all in
      let within : v < n = omega arith in
      subst (λ (w : ℕ). IsUnitFor d nodes (take n units) v w) (sym (get_or-take n units v 0 within))
      (unit_same units (take n units) v (unit_in units v)
      (λ x before. sym (get_or-take n units x 0 (omega arith)))
      (sym (take-take v n units (omega arith))) (are v (omega arith)))
