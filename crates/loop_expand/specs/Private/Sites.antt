-- What the code is given of a program that passed the checks, and where it is in it.
use Rattle.std.specs.Prelude.{◌≡◌, ℕ, List, [], slice_get, slice_index_or, Some}
use Rattle.silage_syntax.specs.Tree.{Item, Func, Program}
use Rattle.silage_syntax.specs.Manifests.{Indices}
use Rattle.silage_syntax.specs.Names.{decls}
use Rattle.silage_meaning.specs.Instances.{Instance as Path, IsInstance, Occurs}
use Rattle.element_rules.specs.declared.elements.Instance.{Instance}
use Rattle.element_rules.specs.declared.elements.Elements.{Elements}
use Rattle.element_rules.specs.Expansion.{IsExpansion}
use Rattle.element_rules.specs.Numbering.{HasPath}
use Rattle.type_rules.specs.declared.typed.TypedConst.{TypedConst}
use Rattle.type_rules.specs.Translation.{typed_item, typed_program}
use Rattle.type_rules.specs.TypedTree as typed
use Rattle.loop_expand.specs.Checked.{IsChecked}
use Rattle.loop_expand.specs.Private.Groups.{Group}
use Rattle.loop_expand.specs.Private.Scopes.{Body, Scope, bodies_for, signals_from, firsts_from}

-- the tables, the functions that have an instance and the instances are those of one program
pub record AreOfProgram (tables : List TypedConst) (bodies : List Body) (instances : List Instance) : Type 0 where
  pub p : Program
  pub es : Elements
  pub checked : IsChecked p
  pub made_by : IsExpansion p es
  pub consts : tables ≡ (typed_program p).consts
  pub funcs : bodies ≡ bodies_for es.instances (typed_program p).funcs
  pub all : instances ≡ es.instances

-- the scope is that of an instance of a program
pub record IsOfInstance (c : Scope) : Type 0 where
  pub of : AreOfProgram c.tables c.bodies c.instances
  pub path : Path
  pub func : Func
  pub instance : IsInstance of.p path func
  pub leads : HasPath of.es.instances c.number path
  pub signals : c.signals ≡ signals_from 0 (decls func)
  pub firsts : c.firsts ≡ firsts_from c.bodies 0 c.instances
  pub first : c.first ≡ slice_index_or c.firsts c.number 0

-- in these turns of the loops around it the typed item is one of the instance, and no loop
pub record IsItemOf (c : Scope) (indices : Indices) (y : typed.TypedItem) : Type 0 where
  pub at : IsOfInstance c
  pub x : Item
  pub occurs : Occurs at.func.items [] x indices
  pub is : y ≡ typed_item at.of.p at.func x

-- so is each item of a group, in each of its turns
abbrev pub IsGroupOf : Scope → Group → Type 0
IsGroupOf c g =
    (j k : ℕ) (indices : Indices) (y : typed.TypedItem)
    → slice_get g.turns j ≡ Some indices
    → slice_get g.items k ≡ Some y
    → IsItemOf c indices y

abbrev pub AreGroupsOf : Scope → List Group → Type 0
AreGroupsOf c groups = (i : ℕ) (g : Group) → slice_get groups i ≡ Some g → IsGroupOf c g

-- and each of these items, in these turns
abbrev pub AreItemsOf : Scope → Indices → List typed.TypedItem → Type 0
AreItemsOf c indices items = (k : ℕ) (y : typed.TypedItem) → slice_get items k ≡ Some y → IsItemOf c indices y
