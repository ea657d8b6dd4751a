-- The instances of a program, and their elements, in the order in which they are entered.
use Rattle.std.specs.Prelude.{◌≡◌, ℕ, ◌+◌, List, [], ◌∷◌, ◌++◌, map, length, slice_get, Option, Some}
use Rattle.std.specs.List.{range_with_len}
use Rattle.silage_syntax.specs.declared.tree.Decl.{Decl}
use Rattle.silage_syntax.specs.Tree.{Top, function, Program}
use Rattle.silage_syntax.specs.Names.{decls, element_count}
use Rattle.silage_meaning.specs.Instances.{Step}
use Rattle.element_rules.specs.Tables.{Table, rules, mark, in_order, enters, Row, nothing, ◌▹◌}
use Rattle.element_rules.specs.ElementRules.{program_table}
use Rattle.element_rules.specs.declared.elements.Instance.{Instance}
use Rattle.element_rules.specs.declared.elements.Element.{Element}
use Rattle.element_rules.specs.declared.elements.Elements.{Elements}

-- an instance of the function at this position among the tops, made by a step in the instance with the number `parent`
abbrev pub entered : (func parent : ℕ) → Step → Instance
entered func parent step = record { func = func; parent = parent; site = step.at; turns = step.turns }

-- the instances in front, followed by those in a table of what the instance with this number contains
abbrev mutual
  pub instances_after : (number : ℕ) → (front : List Instance) → Table → List Instance
  instances_after number front (rules R) = front
  instances_after number front (mark m) = front
  instances_after number front (in_order row) = row_instances number front row
  instances_after number front (enters func step table) =
      instances_after (length front) (front ++ entered func number step ∷ []) table

  pub row_instances : (number : ℕ) → (front : List Instance) → Row → List Instance
  row_instances number front nothing = front
  row_instances number front (x ▹ row) = row_instances number (instances_after number front x) row

-- the elements of an instance: of its declarations, of which the first has position d, in order and row-major
abbrev pub elements_from : (number : ℕ) → (d : ℕ) → List Decl → List Element
elements_from number d [] = []
elements_from number d (x ∷ xs) =
    map (λ k. record { inst = number; decl = d; place = k }) (range_with_len 0 (element_count x.dims))
    ++ elements_from number (d + 1) xs

abbrev pub signals_of : Option Top → List Decl
signals_of (Some (function f)) = decls f
signals_of _ = []

-- the elements of instances in order, of which the first has number n
abbrev pub elements_in : Program → (n : ℕ) → List Instance → List Element
elements_in p n [] = []
elements_in p n (i ∷ is) = elements_from n 0 (signals_of (slice_get p.tops i.func)) ++ elements_in p (n + 1) is

-- all instances and elements of the program in order; main's is the first
pub record IsExpansion (p : Program) (es : Elements) : Type 0 where
  pub instances : es.instances ≡ instances_after 0 [] (program_table p)
  pub elements : es.elements ≡ elements_in p 0 es.instances
