-- A solution of a flat program and one of its graph have equal words.
use Rattle.std.proofs.Common.{◌≡◌, refl, sym, subst, ap, ◌∙◌, arith, ℕ, zero, suc, ◌+◌, ◌-◌, ◌<◌, true, List, length}
use Rattle.std.specs.Prelude.{ℤ, pos, negsuc, ◌-ℤ◌}
use Rattle.std.proofs.lemmas.Int.{ints}
use Rattle.lists.specs.Rows.{Rows}
use Rattle.recurrences.proofs.Along.{along}
use Rattle.fix_word.specs.Words.{IsWord}
use Rattle.signal_graph.specs.Rules.{word_before}
use Rattle.signal_graph.specs.Flat.{Expr, raw, read, calculation, Body, word, value, Program, size}
use Rattle.signal_graph.specs.FlatRules.{IsBodyOf, IsValueOf, IsFlat}
use Rattle.signal_graph.specs.FlatSolves.{no_element, element_of, ElementReads, flat_system, IsFlatLoopless, FlatSolves}
use Rattle.signal_graph.specs.GraphSolves.{GraphSolves}
use Rattle.signal_graph.specs.Values.{Words, body_value, BodyReads}
use Rattle.signal_graph.specs.declared.graph.Graph.{Graph}
use Rattle.signal_graph.specs.GraphOf.{Target, node_at, is_delayed, IsNumber, IsNodeOf, input_node, pass_node, own_node}
use Rattle.signal_graph.specs.GraphOf.{word_alias, read_alias, IsGraphOf}
use Rattle.signal_graph.specs.Keeps.{IsStreamOf, IsElementNode}
use Rattle.signal_graph.proofs.OneSolution.{flat_determined, flat_heights}
use Rattle.signal_graph.proofs.Places.{made_of}
use Rattle.signal_graph.proofs.Parts.{parts_stand}
use Rattle.signal_graph.proofs.Bodies.{its_width, value_stands}
use Rattle.signal_graph.proofs.Fits.{type_bits, present_fits}
use Rattle.signal_graph.proofs.Delayed.{delayed}
use Rattle.signal_graph.proofs.Nodes.{inside, at_input, its_inits}
use Rattle.signal_graph.proofs.Equal.{node_gives, word_equal, calculation_equal, operands_equal, pass_equal}

some_delay : (n ago j : ℕ) → pos n -ℤ pos ago ≡ negsuc j → 0 < ago
some_delay n zero j h = absurd (omega (arith, ints))
some_delay n (suc ago) j h = omega arith

module _ (p : Program) (g : Graph) (is : IsGraphOf p g) (sound : IsFlat p) (loopless : IsFlatLoopless p) (stream : Rows)
    (is_stream : IsStreamOf p.inputs stream) (words node_words : Words) (solves : FlatSolves p stream words)
    (node_solves : GraphSolves g stream node_words) where
  -- the words of an element and its node at a sample, before sample 0 where it is read with a delay
  abbrev EqualAt : ℕ → ℤ → Type 0
  EqualAt e (pos n) = (v : ℕ) → IsElementNode p e v → node_words v (pos n) ≡ words e (pos n)
  EqualAt e (negsuc j) =
      is_delayed p e ≡ true → (v : ℕ) → IsElementNode p e v → node_words v (negsuc j) ≡ words e (negsuc j)

  pub past_equal : (e j : ℕ) → e < length p.elems → j < 1023 → EqualAt e (negsuc j)
  past_equal e j el lt is_read v node =
      node_solves.past v j (inside p g is node.target v node.number) lt
      ∙ ap (λ (inits : List (ℕ × ℤ)). word_before inits (j + 1))
      (its_inits p g is e node.target v is_read node.node node.number)
      ∙ sym (solves.past e j el lt)

  at_read : (d : ℕ) (z : ℤ)
      → EqualAt d z
      → ((j : ℕ) → z ≡ negsuc j → is_delayed p d ≡ true)
      → (v : ℕ)
      → IsElementNode p d v
      → node_words v z ≡ words d z
  at_read d (pos n) equal is_read v node = equal v node
  at_read d (negsuc j) equal is_read v node = equal (is_read j refl) v node

  abbrev ReadsAgree : ℕ → (ℕ → ℕ → Type 0) → Type 0
  ReadsAgree n R =
      (d ago v : ℕ) → R d ago → IsElementNode p d v → node_words v (pos n -ℤ pos ago) ≡ words d (pos n -ℤ pos ago)

  all_reads : (e n : ℕ)
      → e < length p.elems
      → ((d ago : ℕ) → ElementReads p e d ago → EqualAt d (pos n -ℤ pos ago))
      → ReadsAgree n (ElementReads p e)
  all_reads e n el holds d ago v r node =
      at_read d (pos n -ℤ pos ago) (holds d ago r) (λ j h. delayed p e d ago el r (some_delay n ago j h)) v node

  module _ (e n : ℕ) (el : e < length p.elems) (lt : n < length stream) (reads : ReadsAgree n (ElementReads p e)) where
    its_value : (body : Body) → (element_of p e).body ≡ body → words e (pos n) ≡ body_value stream words n body
    its_value body h = solves.present e n el lt ∙ ap (λ (b : Body). body_value stream words n b) h

    its_expr : (x : Expr) → (element_of p e).body ≡ value x → IsValueOf p (element_of p e).ty x
    its_expr x h = subst (λ (b : Body). IsBodyOf p (element_of p e).ty b) h (sound.elements e no_element el).body

    its_reads : (body : Body) → (element_of p e).body ≡ body → ReadsAgree n (BodyReads body)
    its_reads body h = subst (λ (b : Body). ReadsAgree n (BodyReads b)) h reads

    by_node : (t : Target) (v : ℕ) → IsNodeOf p e t → IsNumber p t v → node_words v (pos n) ≡ words e (pos n)
    by_node t v (input_node {j = j} h) number =
        node_gives p g is stream node_words node_solves t v n _ lt number (at_input p g is e j v h number)
        ∙ sym (its_value (word j) h)
    by_node t v (pass_node {x = x} h passes) number =
        let bits = type_bits (element_of p e).ty (sound.elements e no_element el).ty in
        let fits = present_fits p sound loopless stream is_stream words solves e n el lt in
        pass_equal p g is stream node_words node_solves words n lt e x v h passes (its_expr x h).sound
        (its_reads (value x) h) bits.narrowest
        (subst (λ (m : ℤ). IsWord (its_width p e) m) (its_value (value x) h) fits) number
        ∙ sym (its_value (value x) h)
    by_node t v (own_node {o = o} {fmt = fmt} {parts = parts} h) number =
        let x = calculation o fmt parts in
        let place : size x - 1 ≡ 0 + size x - 1 = omega arith in
        calculation_equal p g is stream node_words node_solves words n lt e 0 o fmt parts v (value_stands p e x h)
        (its_expr x h).sound
        (operands_equal p g is stream node_words node_solves words n lt parts e 0
        (parts_stand (made_of p e) 0 o fmt parts (value_stands p e x h)) (its_expr x h).sound.1 (its_reads (value x) h))
        (subst (λ (k : ℕ). IsNumber p (node_at e k) v) place number)
        ∙ sym (its_value (value x) h)
    by_node t v (word_alias {m = m} a) number =
        word_equal p g is stream node_words node_solves m v n lt number ∙ sym (its_value (value (raw m)) a.body)
    by_node t v (read_alias {d = d} a q) number =
        let now : pos n ≡ pos n -ℤ pos 0 = omega (arith, ints) in
        ap (λ (z : ℤ). node_words v z) now
        ∙ its_reads (value (read d 0)) a.body d 0 v (refl, refl) (record { target = t; node = q; number = number })
        ∙ sym (its_value (value (read d 0)) a.body)

  pub present_equal : (e n : ℕ) → e < length p.elems → n < length stream → EqualAt e (pos n)
  present_equal =
      along (flat_system p stream) (flat_determined p sound stream) (flat_heights p sound stream loopless) EqualAt
      past_equal
      (λ e n el lt holds v node. by_node e n el lt (all_reads e n el holds) node.target v node.node node.number)
