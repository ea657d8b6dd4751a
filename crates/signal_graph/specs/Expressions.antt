-- Expressions: their parts as a list, and how many operations they have.
use Rattle.std.specs.Prelude.{ℕ, ◌+◌, List, [], ◌∷◌, map}
use Rattle.signal_graph.specs.declared.flat.FlatExpr.{FlatExpr}
use Rattle.signal_graph.specs.Flat.{Expr, raw, read, calculation, Parts, no_part, part, Body, word, value, view_expr}

abbrev pub parts_of : List Expr → Parts
parts_of [] = no_part
parts_of (x ∷ xs) = part x (parts_of xs)

abbrev pub view_exprs : List FlatExpr → Parts
view_exprs xs = parts_of (map view_expr xs)

-- how many operations there are; raw words and reads are none
abbrev mutual
  pub operation_count : Expr → ℕ
  operation_count (raw m) = 0
  operation_count (read e ago) = 0
  operation_count (calculation o fmt parts) = 1 + operation_count_of_parts parts

  pub operation_count_of_parts : Parts → ℕ
  operation_count_of_parts no_part = 0
  operation_count_of_parts (part x rest) = operation_count x + operation_count_of_parts rest

abbrev pub operation_count_of_body : Body → ℕ
operation_count_of_body (word j) = 0
operation_count_of_body (value x) = operation_count x
