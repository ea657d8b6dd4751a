-- Each element of a sound program without a delay-free loop has one node.
use Rattle.std.proofs.Common.{◌≡◌, refl, sym, subst, arith, ℕ, zero, suc, ◌-◌, ◌<◌, Bool, true, false, [], length}
use Rattle.std.specs.Prelude.{slice_get, Some, nat_lt}
use Rattle.std.proofs.lemmas.Bool.{or_parts, ltb-false}
use Rattle.signal_graph.specs.Flat.{Expr, raw, read, calculation, Body, word, value, Program, size}
use Rattle.signal_graph.specs.FlatRules.{IsFlat}
use Rattle.signal_graph.specs.FlatSolves.{element_of, ElementReads, IsFlatLoopless}
use Rattle.signal_graph.specs.Values.{BodyReads}
use Rattle.signal_graph.specs.GraphOf.{input, operation, operands_from, pass, has_pass, is_delayed, Target, word_node}
use Rattle.signal_graph.specs.GraphOf.{node_at, IsNumber, input_node, pass_node, own_node, word_alias, read_alias}
use Rattle.signal_graph.specs.Keeps.{IsElementNode}
use Rattle.signal_graph.proofs.OneGraph.{node_once, number_once}
use Rattle.signal_graph.proofs.OneSolution.{flat_determined, flat_heights}
use Rattle.signal_graph.proofs.Numbers.{has_place_number, has_word_number}
use Rattle.signal_graph.proofs.Bodies.{its_width, input_made, pass_made, calculation_made, word_made}

module _ (p : Program) where
  -- a read that has no Pass has no delay
  pub now_read : (e d ago : ℕ) → has_pass p e (read d ago) ≡ false → ago ≡ 0
  now_read e d ago is =
      let most = ltb-false 0 ago (or_parts (nat_lt 0 ago) (is_delayed p e) is).0 in
      omega arith

  pub one_node : (e v w : ℕ) → IsElementNode p e v → IsElementNode p e w → v ≡ w
  one_node e v w a b =
      let same = node_once p e a.target b.target a.node b.node in
      number_once p b.target v w (subst (λ (t : Target). IsNumber p t v) same a.number) b.number

  module _ (e : ℕ) (el : e < length p.elems)
      (lower : (d : ℕ) → ElementReads p e d 0 → (v : ℕ) × IsElementNode p d v) where
    by_value : (x : Expr) (b : Bool)
        → (element_of p e).body ≡ value x
        → has_pass p e x ≡ b
        → (v : ℕ) × IsElementNode p e v
    by_value x true h is =
        let (v, n) = has_place_number p e (size x) (pass (its_width p e) x) el (pass_made p e x h is) (tt {0}) in
        (v, record { target = node_at e (size x); node = pass_node h is; number = n })
    by_value (raw m) false h is =
        let (v, n) = has_word_number p e 0 m el (word_made p e m h) in
        (v, record { target = word_node m; node = word_alias (record { body = h; pass = is }); number = n })
    by_value (read d ago) false h is =
        let now = now_read e d ago is in
        let body = subst (λ (k : ℕ). (element_of p e).body ≡ value (read d k)) now h in
        let no_pass = subst (λ (k : ℕ). has_pass p e (read d k) ≡ false) now is in
        let (v, n) = lower d (subst (λ (b : Body). BodyReads b d 0) (sym body) (refl, refl)) in (
          v,
          record {
            target = n.target;
            node = read_alias (record { body = body; pass = no_pass }) n.node;
            number = n.number;
          },
        )
    by_value (calculation o fmt parts) false h is =
        let k = size (calculation o fmt parts) - 1 in
        let (v, n) =
        has_place_number p e k (operation o fmt (operands_from 0 parts)) el (calculation_made p e o fmt parts h)
        (tt {0}) in
        (v, record { target = node_at e k; node = own_node h; number = n })

    by_body : (b : Body) → (element_of p e).body ≡ b → (v : ℕ) × IsElementNode p e v
    by_body (word j) h =
        let at = subst (λ ms. slice_get ms 0 ≡ Some (input j)) (sym (input_made p e j h)) refl in
        let (v, n) = has_place_number p e 0 (input j) el at (tt {0}) in
        (v, record { target = node_at e 0; node = input_node h; number = n })
    by_body (value x) h = by_value x (has_pass p e x) h refl

  module _ (sound : IsFlat p) (loopless : IsFlatLoopless p) where
    within : (h e : ℕ)
        → e < length p.elems
        → (flat_heights p sound [] loopless).height e < h
        → (v : ℕ) × IsElementNode p e v
    within zero e el less = absurd (omega arith)
    within (suc h) e el less = by_body e el (lower (λ d there low. within h d there low)) (element_of p e).body refl
      where
        lower :
            ((d : ℕ)
            → d < length p.elems
            → (flat_heights p sound [] loopless).height d < h
            → (v : ℕ) × IsElementNode p d v)
            → (d : ℕ)
            → ElementReads p e d 0
            → (v : ℕ) × IsElementNode p d v
        lower rest d r =
            let falls = (flat_heights p sound [] loopless).falls e d el r in
            rest d ((flat_determined p sound []).elements e d 0 el r) (omega arith)

    pub element_node : (e : ℕ) → e < length p.elems → (v : ℕ) × IsElementNode p e v
    element_node e el = within (suc ((flat_heights p sound [] loopless).height e)) e el (omega arith)
