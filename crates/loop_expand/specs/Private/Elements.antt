-- The elements of the flat program, before and after facts are put into them.
use Rattle.std.specs.Prelude.{◌≡◌, ℕ, zero, suc, ◌+◌, ◌&&◌, nat_eq, nat_lt, List, [], ◌∷◌, ◌++◌, map, if◌then◌else◌}
use Rattle.std.specs.Prelude.{Option, Some, None, ℤ, pos}
use Rattle.std.specs.List.{range_with_len}
use Rattle.fix_word.specs.declared.types.SigType.{SigType}
use Rattle.silage_meaning.specs.Types.{word_types}
use Rattle.element_rules.specs.declared.elements.Instance.{Instance}
use Rattle.element_rules.specs.ElementRules.{elements_of}
use Rattle.type_rules.specs.TypedTree.{TypedFunc}
use Rattle.signal_graph.specs.Flat as flat
use Rattle.signal_graph.specs.declared.flat.FlatElem.{FlatElem}
use Rattle.loop_expand.specs.Private.Facts.{Fact, defines, presets}
use Rattle.loop_expand.specs.Private.Scopes.{Body, body_of}

-- the types of the elements of instances
abbrev pub types_in : Option Body → List SigType
types_in None = []
types_in (Some b) = word_types b.of.params ++ (word_types b.of.results ++ word_types b.of.locals)

abbrev pub types_of : List Body → List Instance → List SigType
types_of bodies [] = []
types_of bodies (i ∷ is) = types_in (body_of bodies i.func) ++ types_of bodies is

-- the first elements have the words of the input row
abbrev pub first_body : (inputs k : ℕ) → flat.Body
first_body inputs k = if nat_lt k inputs && nat_lt k 256 then flat.word k else flat.value (flat.raw (pos 0))

abbrev pub first_element : (inputs k : ℕ) → SigType → flat.Element
first_element inputs k ty = record { ty = ty; body = first_body inputs k; inits = [] }

abbrev pub first_elements : (inputs k : ℕ) → List SigType → List flat.Element
first_elements inputs k [] = []
first_elements inputs k (ty ∷ tys) = first_element inputs k ty ∷ first_elements inputs (k + 1) tys

-- the numbers of the elements of main's results
abbrev pub outs_of : TypedFunc → List ℕ
outs_of f = range_with_len (elements_of f.params) (elements_of f.results)

-- an initial value among others by rising sample; the first that there is for a sample stays
abbrev pub inserted : (sample : ℕ) → ℤ → List (ℕ × ℤ) → List (ℕ × ℤ)
inserted sample word [] = (sample, word) ∷ []
inserted sample word (i ∷ is) =
    if nat_lt i.0 sample then i ∷ inserted sample word is
    else (if nat_eq i.0 sample then i ∷ is else (sample, word) ∷ i ∷ is)

-- the element with a number, changed
abbrev pub changed : (flat.Element → flat.Element) → ℕ → List flat.Element → List flat.Element
changed F n [] = []
changed F zero (x ∷ xs) = F x ∷ xs
changed F (suc n) (x ∷ xs) = x ∷ changed F n xs

abbrev pub with_value : flat.Expr → flat.Element → flat.Element
with_value y x = record x { body = flat.value y }

abbrev pub with_init : (sample : ℕ) → ℤ → flat.Element → flat.Element
with_init sample word x = record x { inits = inserted sample word x.inits }

abbrev pub with_fact : Fact → List flat.Element → List flat.Element
with_fact (defines n y) xs = changed (with_value y) n xs
with_fact (presets n sample word) xs = changed (with_init sample word) n xs

abbrev pub with_facts : List Fact → List flat.Element → List flat.Element
with_facts [] xs = xs
with_facts (f ∷ fs) xs = with_facts fs (with_fact f xs)

-- the types of main's parameters
abbrev pub inputs_of : TypedFunc → List SigType
inputs_of f = word_types f.params

abbrev pub view_elems : List FlatElem → List flat.Element
view_elems elems = map flat.view_elem elems

-- these facts are put into the elements, in their order
abbrev pub Puts : List Fact → (old new : List FlatElem) → Type 0
Puts facts old new = view_elems new ≡ with_facts facts (view_elems old)
