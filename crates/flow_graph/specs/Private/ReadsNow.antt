-- The elements that expressions read without a delay, in order.
use Rattle.std.specs.Prelude.{ℕ, ◌==◌, if◌then◌else◌, List, [], ◌∷◌, ◌++◌, map}
use Rattle.signal_graph.specs.Flat.{Expr, raw, read, calculation, Parts, no_part, part, Body, word, value, Element}
use Rattle.signal_graph.specs.Flat.{Program}

abbrev mutual
  pub reads_now : Expr → List ℕ
  reads_now (raw m) = []
  reads_now (read e ago) = if ago == 0 then e ∷ [] else []
  reads_now (calculation o fmt parts) = parts_read_now parts

  pub parts_read_now : Parts → List ℕ
  parts_read_now no_part = []
  parts_read_now (part x rest) = reads_now x ++ parts_read_now rest

abbrev pub body_reads_now : Body → List ℕ
body_reads_now (word j) = []
body_reads_now (value x) = reads_now x

-- for each element the elements that it reads without a delay
abbrev pub read_lists : Program → List (List ℕ)
read_lists p = map (λ (element : Element). body_reads_now element.body) p.elems
