-- Where in a source a fault is: the line that an error has, and the element that it is about.
use Rattle.std.specs.Prelude.{◌≡◌, ℕ, List, length, slice_get, Option, Some, None, option_map, IsSomeAnd}
use Rattle.std.specs.Option.{option_map_or}
use Rattle.fault_order.specs.Ranked.{IsFirst}
use Rattle.silage_lex.specs.Tokens.{HasTokens, line_at}
use Rattle.silage_lex.specs.declared.LexFault.{LexFault}
use Rattle.silage_lex.specs.declared.LexFault.TheVariants as lex
use Rattle.silage_lex.specs.declared.Token.{Token}
use Rattle.silage_parse.specs.declared.ParseFault.TheVariants as parse
use Rattle.silage_syntax.specs.declared.tree.Decl.{Decl}
use Rattle.silage_syntax.specs.Tree.{Program}
use Rattle.name_rules.specs.declared.fault.NameFault.{NameFault}
use Rattle.name_rules.specs.declared.fault.NameFault.TheVariants as name
use Rattle.element_rules.specs.ElementFaults.{placed_faults}
use Rattle.element_rules.specs.Expansion.{IsExpansion, signals_of}
use Rattle.element_rules.specs.declared.elements.Element.{Element}
use Rattle.element_rules.specs.declared.elements.Elements.{Elements}
use Rattle.element_rules.specs.declared.elements.Instance.{Instance}
use Rattle.element_rules.specs.declared.fault.DefFault.{DefFault}
use Rattle.element_rules.specs.declared.fault.DefFault.TheVariants as def
use Rattle.element_rules.specs.declared.fault.PlacedFault.TheVariants as placed
use Rattle.type_rules.specs.declared.fault.TypeFault.{TypeFault}
use Rattle.type_rules.specs.declared.fault.TypeFault.TheVariants as kind
use Rattle.source_faults.specs.declared.fault.FrontError.{FrontError}
use Rattle.source_faults.specs.declared.fault.FrontError.TheVariants.{Fault}
use Rattle.source_faults.specs.declared.fault.FrontFault.TheVariants.{Lex, Parse, Name, Def, Kind, Loop}

-- the byte at which a fault is
abbrev pub byte_of_lex : LexFault → Option ℕ
byte_of_lex (lex.BadByte at) = Some at
byte_of_lex (lex.BadNumber at) = Some at
byte_of_lex (lex.OpenComment at) = Some at
byte_of_lex lex.Memory = None

-- that there is no main is nowhere
abbrev pub byte_of_name : NameFault → Option ℕ
byte_of_name (name.Unknown at) = Some at
byte_of_name (name.Twice at) = Some at
byte_of_name (name.Recursive at) = Some at
byte_of_name (name.Arity at) = Some at
byte_of_name (name.Size at) = Some at
byte_of_name name.NoMain = None
byte_of_name name.Memory = None

abbrev pub byte_of_def : DefFault → Option ℕ
byte_of_def (def.Index at) = Some at
byte_of_def (def.Bounds at) = Some at
byte_of_def (def.Delay at) = Some at
byte_of_def (def.Shift at) = Some at
byte_of_def (def.DefinedTwice at) = Some at
byte_of_def (def.NotDefined at) = Some at
byte_of_def (def.TooLarge at) = Some at
byte_of_def def.Memory = None

abbrev pub byte_of_kind : TypeFault → Option ℕ
byte_of_kind (kind.Mismatch at) = Some at
byte_of_kind (kind.NeedsCast at) = Some at
byte_of_kind (kind.Literal at) = Some at
byte_of_kind (kind.NotBool at) = Some at
byte_of_kind kind.Memory = None

-- the byte at which an error is: of a loop that of its element's declaration; a fault of the grammar tells a token
abbrev pub byte_of : FrontError → (declaration : Option ℕ) → Option ℕ
byte_of (Fault (Lex fault)) declaration = byte_of_lex fault
byte_of (Fault (Name fault)) declaration = byte_of_name fault
byte_of (Fault (Def fault)) declaration = byte_of_def fault
byte_of (Fault (Kind fault)) declaration = byte_of_kind fault
byte_of (Fault (Loop k)) declaration = declaration
byte_of _ declaration = None

-- where the token with this number begins; behind the last one, where the source ends
abbrev pub token_start : (source : List ℕ) → List Token → ℕ → ℕ
token_start source tokens k = option_map_or (λ (t : Token). t.from) (slice_get tokens k) (length source)

-- the line is that of a token
abbrev pub IsTokenLine : (source : List ℕ) → (token : ℕ) → (line : Option ℕ) → Type 0
IsTokenLine source k line =
    (tokens : List Token) × HasTokens source tokens × (line ≡ Some (line_at source (token_start source tokens k)))

-- the line of an error is that of the place at which it is: one more than the ends of lines before it
abbrev pub IsLineOf : (source : List ℕ) → FrontError → (declaration : Option ℕ) → (line : Option ℕ) → Type 0
IsLineOf source (Fault (Parse (parse.Syntax k))) declaration line = IsTokenLine source k line
IsLineOf source (Fault (Parse (parse.Deep k))) declaration line = IsTokenLine source k line
IsLineOf source error declaration line = line ≡ option_map (line_at source) (byte_of error declaration)

-- element k of the program's expansion stands at this place of the declaration at this byte
pub record IsNumbered (p : Program) (k at place : ℕ) : Type 0 where
  pub elements : Elements
  pub expansion : IsExpansion p elements
  pub element : Element
  pub listed : slice_get elements.elements k ≡ Some element
  pub instance : Instance
  pub made : slice_get elements.instances element.inst ≡ Some instance
  pub decl : Decl
  pub declared : slice_get (signals_of (slice_get p.tops instance.func)) element.decl ≡ Some decl
  pub byte : at ≡ decl.at
  pub offset : place ≡ element.place

-- the element that an error of the program is about: the first without a definition, or the first in a loop
abbrev pub IsAbout : Program → FrontError → (element : Option (ℕ × ℕ)) → Type 0
IsAbout p (Fault (Def (def.NotDefined at))) element =
    (place : ℕ) × IsFirst (placed_faults p) (placed.NotDefined at place) × (element ≡ Some (at, place))
IsAbout p (Fault (Loop k)) element = IsSomeAnd element (λ e. IsNumbered p k e.0 e.1)
IsAbout p _ element = element ≡ None
