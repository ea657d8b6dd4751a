-- The numbers of the elements of a program, by their order in its expansion.
use Rattle.std.specs.Prelude.{◌≡◌, ℕ, slice_get, Some}
use Rattle.silage_meaning.specs.Instances.{Element}
use Rattle.element_rules.specs.Numbering.{HasPath}
use Rattle.element_rules.specs.declared.elements.Elements.{Elements}

-- element k of the expansion is this one of the program
pub record IsNumberOf (es : Elements) (k : ℕ) (e : Element) : Type 0 where
  pub instance : ℕ
  pub leads : HasPath es.instances instance e.instance
  pub listed : slice_get es.elements k ≡ Some (record { inst = instance; decl = e.declaration; place = e.offset })

-- no element is listed twice
abbrev pub HasDistinctNumbers : Elements → Type 0
HasDistinctNumbers es = (e : Element) (k l : ℕ) → IsNumberOf es k e → IsNumberOf es l e → k ≡ l
