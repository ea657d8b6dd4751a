-- The instances and the elements of a program that the numbers of an expansion stand for.
use Rattle.std.specs.Prelude.{◌≡◌, ◌<◌, ℕ, List, Contains, slice_get, Some}
use Rattle.silage_syntax.specs.Tree.{Func, function, Program}
use Rattle.silage_meaning.specs.Instances.{Instance as Path, main, inside, IsInstance}
use Rattle.silage_meaning.specs.Instances.{Element as Signal, element, IsElement}
use Rattle.element_rules.specs.declared.elements.Instance.{Instance}
use Rattle.element_rules.specs.declared.elements.Element.{Element}
use Rattle.element_rules.specs.declared.elements.Elements.{Elements}

-- the steps that lead from main to the instance with a number: those to its parent, and the call that makes it
pub data HasPath (is : List Instance) : ℕ → Path → Type 0 where
  of_main : {i : Instance}
      → slice_get is 0 ≡ Some i
      → HasPath is 0 main
  of_call : {n : ℕ} {i : Instance} {parent : Path}
      → 0 < n
      → slice_get is n ≡ Some i
      → HasPath is i.parent parent
      → HasPath is n (inside parent (record { at = i.site; turns = i.turns }))

-- the instance i with the number n is one of the program, of the function at its position
pub record IsNumber (p : Program) (is : List Instance) (n : ℕ) (i : Instance) : Type 0 where
  pub path : Path
  pub func : Func
  pub leads : HasPath is n path
  pub instance : IsInstance p path func
  pub stands : slice_get p.tops i.func ≡ Some (function func)

-- the element is one of the program
pub record IsListed (p : Program) (is : List Instance) (e : Element) : Type 0 where
  pub path : Path
  pub leads : HasPath is e.inst path
  pub element_is : IsElement p (element path e.decl e.place)

-- the element of the program is listed by the number of its instance
pub record HasNumber (es : Elements) (e : Signal) : Type 0 where
  pub number : ℕ
  pub leads : HasPath es.instances number e.instance
  pub listed : Contains es.elements (record { inst = number; decl = e.declaration; place = e.offset })

-- the instances and elements are those of the program: all of them, and no others
pub record IsNumbering (p : Program) (es : Elements) : Type 0 where
  pub instances : (n : ℕ) (i : Instance) → slice_get es.instances n ≡ Some i → IsNumber p es.instances n i
  pub all_instances : (path : Path) (f : Func) → IsInstance p path f → (n : ℕ) × HasPath es.instances n path
  pub elements : (e : Element) → Contains es.elements e → IsListed p es.instances e
  pub all_elements : (e : Signal) → IsElement p e → HasNumber es e
