-- A flat program as a value, without addresses.
use Rattle.std.specs.Prelude.{ℕ, ◌+◌, List, map, ℤ}
use Rattle.fix_word.specs.declared.operation.Op.{Op}
use Rattle.fix_word.specs.declared.types.Format.{Format}
use Rattle.fix_word.specs.declared.types.SigType.{SigType}
use Rattle.signal_graph.specs.declared.flat.FlatExpr.{FlatExpr, Raw, Read, Node', Row_of-FlatExpr, end_of-FlatExpr}
use Rattle.signal_graph.specs.declared.flat.FlatExpr.{more_of-FlatExpr}
use Rattle.signal_graph.specs.declared.flat.FlatBody.{FlatBody}
use Rattle.signal_graph.specs.declared.flat.FlatBody.TheVariants as b
use Rattle.signal_graph.specs.declared.flat.FlatElem.{FlatElem}
use Rattle.signal_graph.specs.declared.flat.FlatProgram.{FlatProgram}

mutual
  pub data Expr : Type 0 where
    raw : (word : ℤ) → Expr
    -- the word of an element, this many samples ago
    read : (element ago : ℕ) → Expr
    calculation : Op → Format → Parts → Expr

  pub data Parts : Type 0 where
    no_part : Parts
    part : Expr → Parts → Parts

-- what defines an element at each sample
pub data Body : Type 0 where
  -- this word of the input row
  word : (j : ℕ) → Body
  value : Expr → Body

pub record Element : Type 0 where
  pub ty : SigType
  pub body : Body
  -- by k, from 1, its word at sample -k
  pub inits : List (ℕ × ℤ)

-- elements have numbers, by their order
pub record Program : Type 0 where
  pub elems : List Element
  pub inputs : List SigType
  pub outs : List ℕ

abbrev pub count : Parts → ℕ
count no_part = 0
count (part x rest) = 1 + count rest

-- how many raw words, reads and operations there are
abbrev mutual
  pub size : Expr → ℕ
  size (raw m) = 1
  size (read e ago) = 1
  size (calculation o fmt parts) = 1 + size_of_parts parts

  pub size_of_parts : Parts → ℕ
  size_of_parts no_part = 0
  size_of_parts (part x rest) = size x + size_of_parts rest

abbrev pub size_of_body : Body → ℕ
size_of_body (word j) = 0
size_of_body (value x) = size x

abbrev mutual
  pub view_expr : FlatExpr → Expr
  view_expr (Raw m) = raw m
  view_expr (Read e ago) = read e ago
  view_expr (Node' o fmt shape row) = calculation o fmt (view_parts row)

  pub view_parts : {m : _} → Row_of-FlatExpr m → Parts
  view_parts end_of-FlatExpr = no_part
  view_parts (more_of-FlatExpr x rest) = part (view_expr x) (view_parts rest)

abbrev pub view_body : FlatBody → Body
view_body (b.Word j) = word j
view_body (b.Value x) = value (view_expr x)

abbrev pub view_elem : FlatElem → Element
view_elem e = record { ty = e.ty; body = view_body e.body; inits = e.inits }

abbrev pub view : FlatProgram → Program
view p = record { elems = map view_elem p.elems; inputs = p.inputs; outs = p.outs }
