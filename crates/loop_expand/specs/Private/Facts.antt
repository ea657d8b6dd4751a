-- What the items of an instance say of the elements with their numbers: their values, and their words before sample 0.
use Rattle.std.specs.Prelude.{◌≡◌, IsTrue, ℕ, ◌+◌, ◌*◌, nat_eq, List, [], ◌∷◌, ◌++◌, map, length, find, bytes_eq}
use Rattle.std.specs.Prelude.{if◌then◌else◌, slice_get, slice_index_or, Option, Some, None, ℤ, pos, negsuc, ◌*ℤ◌}
use Rattle.std.specs.List.{range_with_len}
use Rattle.fix_word.specs.declared.types.Format.{Format}
use Rattle.silage_syntax.specs.Tree.{Manifest, Place}
use Rattle.silage_syntax.specs.Manifests.{Indices, manifest_value}
use Rattle.silage_syntax.specs.Names.{element_count}
use Rattle.name_rules.specs.Meanings.{are_dims}
use Rattle.silage_meaning.specs.Instances.{turns_of}
use Rattle.element_rules.specs.declared.elements.Instance.{Instance}
use Rattle.type_rules.specs.declared.typed.TypedConst.{TypedConst}
use Rattle.type_rules.specs.TypedTree as typed
use Rattle.signal_graph.specs.Flat as flat
use Rattle.loop_expand.specs.Private.Children.{child_of}
use Rattle.loop_expand.specs.Private.Groups.{Group}
use Rattle.loop_expand.specs.Private.Scopes.{Signal, Body, Scope, body_of, body_at}

pub data Fact : Type 0 where
  -- the element with the number has this value
  defines : (number : ℕ) → flat.Expr → Fact
  -- it has this word so many samples before sample 0
  presets : (number sample : ℕ) → ℤ → Fact

-- the value of a manifest constant, or 0 where it has none that is not negative
abbrev pub at_least_0 : Option ℤ → ℕ
at_least_0 None = 0
at_least_0 (Some (pos n)) = n
at_least_0 (Some (negsuc n)) = 0

abbrev pub natural : Indices → Manifest → ℕ
natural indices m = at_least_0 (manifest_value indices m)

-- the row-major place that subscripts pick
abbrev pub offset : Indices → (dims : List ℕ) → (subs : List Manifest) → ℕ
offset indices (dim ∷ dims) (sub ∷ subs) = natural indices sub * element_count dims + offset indices dims subs
offset indices _ _ = 0

abbrev pub delay_of : Indices → Option Manifest → ℕ
delay_of indices None = 0
delay_of indices (Some m) = natural indices m

abbrev pub format_of : Indices → Format → Option Manifest → Format
format_of indices fmt None = fmt
format_of indices fmt (Some m) = record fmt { shift = fmt.shift *ℤ pos (natural indices m) }

abbrev pub signal_named : List Signal → List ℕ → Option Signal
signal_named signals name = find (λ (s : Signal). bytes_eq s.decl.name name) signals

abbrev pub typed_named : List TypedConst → List ℕ → Option TypedConst
typed_named tables name = find (λ (t : TypedConst). bytes_eq t.name name) tables

-- a table has dims that are allowed, and as many numbers as they say
pub record IsTableSized (t : TypedConst) : Type 0 where
  pub dims : IsTrue (are_dims t.dims)
  pub words : length t.words ≡ element_count t.dims

-- so has each table that has a name
abbrev pub AreTablesSized : List TypedConst → Type 0
AreTablesSized tables = (name : List ℕ) (t : TypedConst) → typed_named tables name ≡ Some t → IsTableSized t

abbrev pub word_at : TypedConst → ℕ → ℤ
word_at t k = slice_index_or t.words k (pos 0)

-- the facts of things in order
abbrev pub joined : {A : Type 0} → (A → List Fact) → List A → List Fact
joined F [] = []
joined F (x ∷ xs) = F x ++ joined F xs

-- the facts of pairs of things in order
abbrev pub zipped : {A B : Type 0} → (A → B → List Fact) → List A → List B → List Fact
zipped F (x ∷ xs) (y ∷ ys) = F x y ++ zipped F xs ys
zipped F _ _ = []

-- elements of an array in order, each with the value of one of another array, or with a number of a table
abbrev pub copies : (to from count : ℕ) → List Fact
copies to from count = map (λ k. defines (to + k) (flat.read (from + k) 0)) (range_with_len 0 count)

abbrev pub numbers : (to : ℕ) → TypedConst → (count : ℕ) → List Fact
numbers to t count = map (λ k. defines (to + k) (flat.raw (word_at t k))) (range_with_len 0 count)

abbrev pub defined_at : Option ℕ → flat.Expr → List Fact
defined_at None x = []
defined_at (Some number) x = defines number x ∷ []

abbrev pub preset_at : Option ℕ → (sample : ℕ) → ℤ → List Fact
preset_at None sample word = []
preset_at (Some number) sample word = presets number sample word ∷ []

module _ (c : Scope) where
  -- the element that a place names, if it is one of a signal
  abbrev pub number_in : Indices → Option Signal → Place → Option ℕ
  number_in indices None place = None
  number_in indices (Some s) place = Some (c.first + s.first + offset indices s.decl.dims place.subs)

  abbrev pub number_at : Indices → Place → Option ℕ
  number_at indices place = number_in indices (signal_named c.signals place.name) place

  abbrev pub entry_in : Indices → Option TypedConst → Place → ℤ
  entry_in indices None place = pos 0
  entry_in indices (Some t) place = word_at t (offset indices t.dims place.subs)

  abbrev pub entry_at : Indices → Place → ℤ
  entry_at indices place = entry_in indices (typed_named c.tables place.name) place

  abbrev pub read_of : Indices → Option ℕ → Place → (delay : Option Manifest) → flat.Expr
  read_of indices (Some number) place delay = flat.read number (delay_of indices delay)
  read_of indices None place delay = flat.raw (entry_at indices place)

  abbrev mutual
    pub flat_of : Indices → typed.TypedExpr → flat.Expr
    flat_of indices (typed.raw z) = flat.raw z
    flat_of indices (typed.read place delay) = read_of indices (number_at indices place) place delay
    flat_of indices (typed.node o fmt parts amount) =
        flat.calculation o (format_of indices fmt amount) (flat_parts indices parts)

    pub flat_parts : Indices → typed.Parts → flat.Parts
    flat_parts indices typed.no_part = flat.no_part
    flat_parts indices (typed.part x rest) = flat.part (flat_of indices x) (flat_parts indices rest)

  -- the elements of an array parameter, by the array or the table that is its argument
  abbrev pub passed_array : Option Signal → Option TypedConst → (to count : ℕ) → List Fact
  passed_array (Some s) t to count = copies to (c.first + s.first) count
  passed_array None (Some t) to count = numbers to t count
  passed_array None None to count = []

  abbrev pub passed_named : Place → (to count : ℕ) → List Fact
  passed_named place to count =
      passed_array (signal_named c.signals place.name) (typed_named c.tables place.name) to count

  abbrev pub passed_whole : typed.TypedExpr → (to count : ℕ) → List Fact
  passed_whole (typed.read place delay) to count = passed_named place to count
  passed_whole _ to count = []

  -- a parameter of an instance whose first element has this number
  abbrev pub passed : Indices → (first : ℕ) → Signal → typed.TypedExpr → List Fact
  passed indices first s x =
      if nat_eq (length s.decl.dims) 0 then defines (first + s.first) (flat_of indices x) ∷ []
      else passed_whole x (first + s.first) (element_count s.decl.dims)

  abbrev pub all_passed : Indices → (first : ℕ) → (params : List Signal) → (args : List typed.TypedExpr) → List Fact
  all_passed indices first params args = zipped (passed indices first) params args

  -- the elements of the array that takes an array result
  abbrev pub taken_array : Option Signal → (from count : ℕ) → List Fact
  taken_array None from count = []
  taken_array (Some s) from count = copies (c.first + s.first) from count

  abbrev pub taken_named : Place → (from count : ℕ) → List Fact
  taken_named place from count = taken_array (signal_named c.signals place.name) from count

  -- what takes a result of an instance whose first element has this number
  abbrev pub taken : Indices → (first : ℕ) → Signal → Place → List Fact
  taken indices first s place =
      if nat_eq (length s.decl.dims) 0
      then defined_at (number_at indices place) (flat.read (first + s.first) 0)
      else taken_named place (first + s.first) (element_count s.decl.dims)

  abbrev pub all_taken : Indices → (first : ℕ) → (results : List Signal) → (places : List Place) → List Fact
  all_taken indices first results places = zipped (taken indices first) results places

  abbrev pub bound_by : Indices → Option Body → (first : ℕ) → List Place → (args : List typed.TypedExpr) → List Fact
  bound_by indices None first places args = []
  bound_by indices (Some b) first places args =
      all_passed indices first b.signals args ++ all_taken indices first b.results places

  -- the places and arguments of the call that makes this instance
  abbrev pub bound : Indices → (child : ℕ) → List Place → (args : List typed.TypedExpr) → List Fact
  bound indices child places args =
      bound_by indices (body_at c.bodies (slice_get c.instances child)) (slice_index_or c.firsts child 0) places args

  abbrev pub called_by : Indices → (child : Option ℕ) → List Place → (args : List typed.TypedExpr) → List Fact
  called_by indices None places args = []
  called_by indices (Some child) places args = bound indices child places args

  abbrev pub called : Indices → (at : ℕ) → List Place → (args : List typed.TypedExpr) → List Fact
  called indices at places args =
      called_by indices (child_of c.number at (turns_of indices) c.instances) places args

  -- an item in one turn of the loops around it; the items of a loop have turns of their own
  abbrev pub item_facts : Indices → typed.TypedItem → List Fact
  item_facts indices (typed.equation place x) = defined_at (number_at indices place) (flat_of indices x)
  item_facts indices (typed.call places func args at) = called indices at places args
  item_facts indices (typed.loop index lo hi items) = []
  item_facts indices (typed.initial place k word) =
      preset_at (number_at indices place) (natural indices k) word

  abbrev pub turn_facts : List typed.TypedItem → Indices → List Fact
  turn_facts items indices = joined (item_facts indices) items

  abbrev pub group_facts : Group → List Fact
  group_facts g = joined (turn_facts g.items) g.turns

  abbrev pub groups_facts : List Group → List Fact
  groups_facts groups = joined group_facts groups

-- The facts of instances, of which the first has number n.
module _ (tables : List TypedConst) (bodies : List Body) (instances : List Instance) (firsts : List ℕ) where
  abbrev pub scope_at : (number : ℕ) → Body → Scope
  scope_at number b = record {
    tables = tables;
    bodies = bodies;
    instances = instances;
    firsts = firsts;
    number = number;
    first = slice_index_or firsts number 0;
    signals = b.signals;
  }

  abbrev pub facts_in : (number : ℕ) → Option Body → List Fact
  facts_in number None = []
  facts_in number (Some b) = groups_facts (scope_at number b) b.groups

  abbrev pub facts_from : (number : ℕ) → List Instance → List Fact
  facts_from number [] = []
  facts_from number (i ∷ is) = facts_in number (body_of bodies i.func) ++ facts_from (number + 1) is
