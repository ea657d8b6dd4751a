-- An element that is read with a delay is one of those that are.
use Rattle.std.proofs.Common.{◌≡◌, sym, subst, arith, ℕ, zero, suc, ◌<◌, inl, inr, true, List, [], ◌∷◌, length}
use Rattle.std.specs.Prelude.{◌==◌, nat_lt, slice_index_or}
use Rattle.std.proofs.lemmas.Bool.{and_from, or_left, or_right, eq-eqb, lt-ltb}
use Rattle.signal_graph.specs.Flat.{Expr, raw, read, calculation, Parts, no_part, part, Body, word, value, Element}
use Rattle.signal_graph.specs.Flat.{Program}
use Rattle.signal_graph.specs.FlatSolves.{no_element, ElementReads}
use Rattle.signal_graph.specs.Values.{Reads, PartsRead, BodyReads}
use Rattle.signal_graph.specs.GraphOf.{delays, parts_delay, body_delays, are_delayed, is_delayed}

mutual
  expr_delays : (x : Expr) (d ago : ℕ) → Reads x d ago → 0 < ago → delays d x ≡ true
  expr_delays (raw m) d ago r some = absurd r
  expr_delays (read e k) d ago r some =
      and_from (e == d) (nat_lt 0 k) (eq-eqb e d (sym r.0)) (lt-ltb 0 k (subst (λ (i : ℕ). 0 < i) r.1 some))
  expr_delays (calculation o fmt parts) d ago r some = parts_delayed parts d ago r some

  parts_delayed : (parts : Parts) (d ago : ℕ) → PartsRead parts d ago → 0 < ago → parts_delay d parts ≡ true
  parts_delayed no_part d ago r some = absurd r
  parts_delayed (part x rest) d ago (inl r) some =
      or_left (delays d x) (parts_delay d rest) (expr_delays x d ago r some)
  parts_delayed (part x rest) d ago (inr r) some =
      or_right (delays d x) (parts_delay d rest) (parts_delayed rest d ago r some)

body_delayed : (body : Body) (d ago : ℕ) → BodyReads body d ago → 0 < ago → body_delays d body ≡ true
body_delayed (word j) d ago r some = absurd r
body_delayed (value x) d ago r some = expr_delays x d ago r some

among : (xs : List Element) (e d : ℕ)
    → e < length xs
    → body_delays d (slice_index_or xs e no_element).body ≡ true
    → are_delayed d xs ≡ true
among [] e d lt h = absurd (omega arith)
among (x ∷ xs) zero d lt h = or_left (body_delays d x.body) (are_delayed d xs) h
among (x ∷ xs) (suc e) d lt h = or_right (body_delays d x.body) (are_delayed d xs) (among xs e d (omega arith) h)

pub delayed : (p : Program) (e d ago : ℕ)
    → e < length p.elems
    → ElementReads p e d ago
    → 0 < ago
    → is_delayed p d ≡ true
delayed p e d ago el r some =
    among p.elems e d el (body_delayed (slice_index_or p.elems e no_element).body d ago r some)
