-- A table of what the instances of a program contain, in order, with calls and loops written out. Each mark in it is
-- checked against what comes before it.
use Rattle.std.specs.Prelude.{ℕ, ◌+◌, ◌&&◌, not, Bool, false, List, [], ◌∷◌, sum_by, nat_eq, nat_le}
use Rattle.std.specs.List.{list_any}
use Rattle.fault_order.specs.Rules.{Rules, RuleRow, parts, none, ◌▸◌, unless}
use Rattle.silage_meaning.specs.Instances.{Step}
use Rattle.element_rules.specs.declared.fault.PlacedFault.{PlacedFault}
use Rattle.element_rules.specs.declared.fault.PlacedFault.TheVariants.{DefinedTwice, NotDefined, TooLarge}

-- the most load of a program
abbrev pub max_load : ℕ
max_load = 8192

-- What is said of an element of the instance, given by its declaration's position and its row-major place.
pub data Mark : Type 0 where
  -- its words come from the call that makes the instance, or from the input
  given : (declaration place : ℕ) → Mark
  -- it has a definition
  defines : (declaration place at : ℕ) → Mark
  -- it has an initial value, this many samples before sample 0
  presets : (declaration place sample at : ℕ) → Mark
  -- it has to be defined by now
  needs : (declaration place at : ℕ) → Mark
  -- this much is added to the load of the program
  counts : (load at : ℕ) → Mark

mutual
  pub data Table : Type 0 where
    -- rules that depend on nothing else in the table
    rules : Rules PlacedFault → Table
    mark : Mark → Table
    in_order : Row → Table
    -- an instance of the function at this position among the tops, made by this step
    enters : (func : ℕ) → Step → Table → Table

  pub data Row : Type 0 where
    nothing : Row
    ◌▹◌ : Table → Row → Row

infixr 20 ◌▹◌
abbrev pub each : {A : Type 0} → (A → Table) → List A → Row
each G [] = nothing
each G (x ∷ xs) = G x ▹ each G xs

-- the same where the table of a thing depends on its position, counted from k
abbrev pub each_from : {A : Type 0} → (ℕ → A → Table) → (k : ℕ) → List A → Row
each_from G k [] = nothing
each_from G k (x ∷ xs) = G k x ▹ each_from G (k + 1) xs

-- What comes before a place in a table: the marks of its instance, and the marks of all instances, the nearest first.
pub record Context : Type 0 where
  pub of_instance : List Mark
  pub of_program : List Mark

-- where an instance is entered, it has no marks yet
abbrev pub at_entry : (of_program : List Mark) → Context
at_entry marks = record { of_instance = []; of_program = marks }

abbrev pub gives_or_defines : (declaration place : ℕ) → Mark → Bool
gives_or_defines d k (given e j) = nat_eq d e && nat_eq k j
gives_or_defines d k (defines e j at) = nat_eq d e && nat_eq k j
gives_or_defines d k _ = false

abbrev pub presets_for : (declaration place sample : ℕ) → Mark → Bool
presets_for d k s (presets e j r at) = nat_eq d e && (nat_eq k j && nat_eq s r)
presets_for d k s _ = false

abbrev pub load_of : Mark → ℕ
load_of (counts load at) = load
load_of _ = 0

-- an earlier mark of the same instance gives or defines the element
abbrev pub is_defined : Context → (declaration place : ℕ) → Bool
is_defined context d k = list_any (gives_or_defines d k) context.of_instance

-- an earlier mark of the same instance is an initial value of the element for the sample
abbrev pub is_preset : Context → (declaration place sample : ℕ) → Bool
is_preset context d k s = list_any (presets_for d k s) context.of_instance

-- the load is the sum of what is counted before in all instances
abbrev pub load_before : Context → ℕ
load_before context = sum_by load_of context.of_program

-- an element is defined once, has one initial value for a sample, and the load is at most 8,192
abbrev pub mark_rules : Context → Mark → Rules PlacedFault
mark_rules context (given d k) = parts none
mark_rules context (defines d k at) = unless (not (is_defined context d k)) (DefinedTwice at)
mark_rules context (presets d k s at) = unless (not (is_preset context d k s)) (DefinedTwice at)
mark_rules context (needs d k at) = unless (is_defined context d k) (NotDefined at k)
mark_rules context (counts load at) = unless (nat_le (load_before context + load) max_load) (TooLarge at)

-- the context after a table; the marks of an instance in it are not of the instance around that
abbrev mutual
  pub after : Context → Table → Context
  after context (rules R) = context
  after context (mark m) = record { of_instance = m ∷ context.of_instance; of_program = m ∷ context.of_program }
  after context (in_order row) = after_row context row
  after context (enters func step table) =
      record context { of_program = (after (at_entry context.of_program) table).of_program }

  pub after_row : Context → Row → Context
  after_row context nothing = context
  after_row context (x ▹ row) = after_row (after context x) row

-- the rules of a table, each mark with what comes before it
abbrev mutual
  pub table_rules : Context → Table → Rules PlacedFault
  table_rules context (rules R) = R
  table_rules context (mark m) = mark_rules context m
  table_rules context (in_order row) = parts (row_rules context row)
  table_rules context (enters func step table) = table_rules (at_entry context.of_program) table

  pub row_rules : Context → Row → RuleRow PlacedFault
  row_rules context nothing = none
  row_rules context (x ▹ row) = table_rules context x ▸ row_rules (after context x) row
