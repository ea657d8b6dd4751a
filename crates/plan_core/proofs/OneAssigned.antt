-- A lowered list has one binding to the units of a datapath at most.
use Rattle.std.proofs.Common.{◌≡◌, sym, subst, ap, ◌∙◌, arith, ℕ, zero, suc, ◌<◌, ◌≤◌, ⊎_elim, List, length, take}
use Rattle.std.proofs.Common.{count_by, ◌==◌, length-take, get_or-take, ext_get_or}
use Rattle.std.proofs.lemmas.Bool.{cases_lt}
use Rattle.datapath.specs.declared.types.Datapath.{Datapath}
use Rattle.signal_graph.specs.declared.graph.Node.{Node}
use Rattle.plan_core.specs.Hardware.{port_of, HasRoute}
use Rattle.plan_core.specs.Assigned.{unit_in, IsCandidate, load_of, IsUnitFor, AreUnits, IsAssigned}
use Rattle.plan_core.specs.declared.delay_lines.Lowered.{Lowered}
use Rattle.plan_core.specs.declared.schedule.Assigned.{Assigned}

module _ (d : Datapath) (nodes : List Node) where
  -- the units of the nodes before v are the same
  abbrev SameBefore : List ℕ → List ℕ → ℕ → Type 0
  SameBefore us ws v = (x : ℕ) → x < v → unit_in us x ≡ unit_in ws x

  candidate-same : (us ws : List ℕ) (v u : ℕ)
      → SameBefore us ws v
      → IsCandidate d nodes us v u
      → IsCandidate d nodes ws v u
  candidate-same us ws v u same can = record {
    right = can.right;
    operands = λ q x less r. subst (λ (w : ℕ). HasRoute d w (port_of u q)) (same x less) (can.operands q x less r);
    itself = can.itself;
    consumers = λ c q less r. subst (λ (w : ℕ). HasRoute d u (port_of w q)) (same c less) (can.consumers c q less r);
  }

  load-same : (us ws : List ℕ) (v u : ℕ) → take v us ≡ take v ws → load_of d nodes us v u ≡ load_of d nodes ws v u
  load-same us ws v u e = ap (λ (xs : List ℕ). count_by (λ (w : ℕ). w == u) xs) e

  unit-same : (us ws : List ℕ) (v : ℕ)
      → SameBefore us ws v
      → take v us ≡ take v ws
      → IsUnitFor d nodes us v (unit_in us v)
      → IsUnitFor d nodes ws v (unit_in ws v)
      → unit_in us v ≡ unit_in ws v
  unit-same us ws v same takes a b =
      let a_can = candidate-same us ws v (unit_in us v) same a.candidate in
      let b_can = candidate-same ws us v (unit_in ws v) (λ x less. sym (same x less)) b.candidate in
      let a_load = load-same us ws v (unit_in us v) takes in
      let b_load = load-same us ws v (unit_in ws v) takes in
      let one = a.fewest (unit_in ws v) b_can in
      let two = b.fewest (unit_in us v) a_can in
      let up = a.first (unit_in ws v) b_can (omega arith) in
      let down = b.first (unit_in us v) a_can (omega arith) in
      omega arith

  takes_same : (us ws : List ℕ) (v : ℕ) → v ≤ length us → v ≤ length ws → SameBefore us ws v → take v us ≡ take v ws
  takes_same us ws v in_us in_ws same =
      let a = length-take v us in let b = length-take v ws in
      ext_get_or 0 (take v us) (take v ws) (omega arith)
      (λ i less. get_or-take v us i 0 (omega arith) ∙ same i (omega arith) ∙ sym (get_or-take v ws i 0 (omega arith)))

  units-below : (us ws : List ℕ)
      → AreUnits d nodes us
      → AreUnits d nodes ws
      → length us ≡ length ws
      → (v : ℕ)
      → v ≤ length us
      → SameBefore us ws v
  units-below us ws a b e zero less x below = absurd (omega arith)
  units-below us ws a b e (suc v) less x below =
      let same = units-below us ws a b e v (omega arith) in
      ⊎_elim (λ h. same x h)
      (λ h. let at_v : x ≡ v = omega arith in
      subst (λ (y : ℕ). unit_in us y ≡ unit_in ws y) (sym at_v)
      (unit-same us ws v same (takes_same us ws v (omega arith) (omega arith) same) (a v (omega arith))
      (b v (omega arith))))
      (cases_lt x v)

  pub one_units : (us ws : List ℕ) → AreUnits d nodes us → AreUnits d nodes ws → length us ≡ length ws → us ≡ ws
  one_units us ws a b e = ext_get_or 0 us ws e (λ i less. units-below us ws a b e (length us) (omega arith) i less)

pub one_assigned : (d : Datapath) (a b : Assigned) → a.lowered ≡ b.lowered → IsAssigned d a → IsAssigned d b → a ≡ b
one_assigned d a b same x y =
    let count = x.count ∙ ap (λ (l : Lowered). length l.nodes) same ∙ sym y.count in
    let there = subst (λ (l : Lowered). AreUnits d l.nodes a.units) same x.units in
    let units = one_units d b.lowered.nodes a.units b.units there y.units count in
    ap (λ (l : Lowered). record { lowered = l; units = a.units }) same
    ∙ ap (λ (us : List ℕ). record { lowered = b.lowered; units = us }) units
