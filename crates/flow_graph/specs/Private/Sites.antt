-- The places of elements as the code has them.
use Rattle.std.specs.Prelude.{◌≡◌, ℕ, ◌+◌, ◌-◌, nat_lt, ◌||◌, Bool, false, if◌then◌else◌, List, [], ◌∷◌, ◌++◌, map}
use Rattle.std.specs.Prelude.{length}
use Rattle.signal_graph.specs.Flat.{Expr, raw, read, calculation, Parts, Body, word, value, size}
use Rattle.signal_graph.specs.GraphOf.{Operand, number, place, element, Made, nothing, constant, input, operation}
use Rattle.signal_graph.specs.GraphOf.{operand_at, operands_from, made_by, made_by_parts, pass, Site, sites_from}
use Rattle.flow_graph.specs.declared.sites.Operand.{Operand as CodeOperand}
use Rattle.flow_graph.specs.declared.sites.Operand.TheVariants as is
use Rattle.flow_graph.specs.declared.sites.Made.{Made as CodeMade}
use Rattle.flow_graph.specs.declared.sites.Made.TheVariants as makes
use Rattle.flow_graph.specs.declared.sites.Site.{Site as CodeSite}

abbrev pub view_operand : CodeOperand → Operand
view_operand (is.Number m) = number m
view_operand (is.Place k) = place k
view_operand (is.Element e ago) = element e ago

abbrev pub view_made : CodeMade → Made
view_made makes.Nothing = nothing
view_made (makes.Constant m) = constant m
view_made (makes.Input j) = input j
view_made (makes.Operation o fmt operands) = operation o fmt (map view_operand operands)

abbrev pub view_site : CodeSite → Site
view_site s = record { element = s.elem; place = s.place; made = view_made s.made }

-- what is made at more places of element e, whose places begin at start
pub record Extends (old : List CodeSite) (e start : ℕ) (made : List Made) (new : List CodeSite) : Type 0 where
  pub is : map view_site new ≡ map view_site old ++ sites_from e (length old - start) made

abbrev pub AddsSite : List CodeSite → (e start : ℕ) → Made → List CodeSite → Type 0
AddsSite old e start made new = Extends old e start (made ∷ []) new

-- the places of an expression, and the operand that it is
pub record AddsPlaces (old : List CodeSite) (e start : ℕ) (x : Expr) (new : List CodeSite) (o : CodeOperand)
    : Type 0 where
  pub sites : Extends old e start (made_by (length old - start) x) new
  pub operand : view_operand o ≡ operand_at (length old - start + size x - 1) x

-- the places of parts, and the operands that they are
pub record AddsParts (old : List CodeSite) (e start : ℕ) (parts : Parts) (new : List CodeSite) (os : List CodeOperand)
    : Type 0 where
  pub sites : Extends old e start (made_by_parts (length old - start) parts) new
  pub operands : map view_operand os ≡ operands_from (length old - start) parts

-- whether a Pass follows the value of an element that is read with a delay or not
abbrev pub passes : Bool → Expr → Bool
passes is_delayed (raw m) = is_delayed
passes is_delayed (read d ago) = nat_lt 0 ago || is_delayed
passes is_delayed (calculation o fmt parts) = false

-- what is made at the places of such an element
abbrev pub made_of : Bool → (width : ℕ) → Body → List Made
made_of is_delayed width (word j) = input j ∷ []
made_of is_delayed width (value x) = made_by 0 x ++ (if passes is_delayed x then pass width x ∷ [] else [])
