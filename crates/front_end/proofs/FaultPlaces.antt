-- Where the fault of a source is: its line, and the element that it is about.
use Rattle.std.proofs.Common.{◌≡◌, ◌≢◌, ℕ, List, Option, Some, None, option_map, IfSome, IsSomeAnd, refl, ap, subst}
use Rattle.fault_order.specs.Ranked.{IsFirst}
use Rattle.silage_lex.specs.Tokens.{line_at}
use Rattle.silage_lex.specs.declared.LexFault.{LexFault}
use Rattle.silage_lex.specs.declared.LexFault.TheVariants as lex
use Rattle.silage_parse.specs.declared.ParseFault.{ParseFault}
use Rattle.silage_parse.specs.declared.ParseFault.TheVariants as parse
use Rattle.silage_syntax.specs.declared.tree.Program.{Program as RustProgram}
use Rattle.silage_syntax.specs.Tree.{Program, view}
use Rattle.name_rules.specs.declared.fault.NameFault.{NameFault}
use Rattle.name_rules.specs.declared.fault.NameFault.TheVariants as name
use Rattle.element_rules.specs.ElementFaults.{placed_faults, without_place}
use Rattle.element_rules.specs.declared.fault.PlacedFault.{PlacedFault}
use Rattle.element_rules.specs.declared.fault.PlacedFault.TheVariants as placed
use Rattle.type_rules.specs.declared.fault.TypeFault.{TypeFault}
use Rattle.type_rules.specs.declared.fault.TypeFault.TheVariants as kind
use Rattle.source_faults.specs.Faults.{IsRead}
use Rattle.front_end.specs.Places.{byte_of, byte_of_lex, IsLineOf, IsNumbered, IsAbout}
use Rattle.front_end.specs.Rejections.{HasLine, HasElement}
use Rattle.front_end.specs.Private.Checks.{IsCheckError, IsLoopError}
use Rattle.source_faults.specs.Private.Errors.{of_lex, of_parse, of_names, of_defs, of_types}
use Rattle.front_end.specs.Private.Findings.{place_pair, element_of, placed_element, byte_of_finding}
use Rattle.front_end.specs.declared.checks.Finding.{Finding}
use Rattle.source_faults.specs.declared.fault.FrontError.{FrontError}
use Rattle.source_faults.specs.declared.fault.FrontError.TheVariants.{Fault, Memory}
use Rattle.source_faults.specs.declared.fault.FrontFault.TheVariants.{TooLong, Lex, Parse, Name, Def, Kind, Loop}
use Rattle.front_end.specs.declared.names.ElementPlace.{ElementPlace}
use Rattle.source_faults.specs.declared.element.NamedElement.{NamedElement}
use Rattle.source_faults.specs.declared.rejection.Rejection.{Rejection}
use Rattle.front_end.proofs.OneAnswer.{one_read}

module _ (p : Program) where
  pub lex_about : (fault : LexFault) → IsAbout p (of_lex fault) None
  lex_about (lex.BadByte at) = refl
  lex_about (lex.BadNumber at) = refl
  lex_about (lex.OpenComment at) = refl
  lex_about lex.Memory = refl

  pub parse_about : (fault : ParseFault) → IsAbout p (of_parse fault) None
  parse_about (parse.Syntax k) = refl
  parse_about (parse.Deep k) = refl
  parse_about parse.Memory = refl

  pub name_about : (fault : NameFault) → IsAbout p (of_names fault) None
  name_about (name.Unknown at) = refl
  name_about (name.Twice at) = refl
  name_about (name.Recursive at) = refl
  name_about name.NoMain = refl
  name_about (name.Arity at) = refl
  name_about (name.Size at) = refl
  name_about name.Memory = refl

  pub def_about : (fault : PlacedFault)
      → (fault ≢ placed.Memory → IsFirst (placed_faults p) fault)
      → IsAbout p (of_defs (without_place fault)) (option_map place_pair (placed_element fault))
  def_about (placed.Index at) first = refl
  def_about (placed.Bounds at) first = refl
  def_about (placed.Delay at) first = refl
  def_about (placed.Shift at) first = refl
  def_about (placed.DefinedTwice at) first = refl
  def_about (placed.NotDefined at place) first = (place, first (λ e. cc), refl)
  def_about (placed.TooLarge at) first = refl
  def_about placed.Memory first = refl

  pub type_about : (fault : TypeFault) → IsAbout p (of_types fault) None
  type_about (kind.Mismatch at) = refl
  type_about (kind.NeedsCast at) = refl
  type_about (kind.Literal at) = refl
  type_about (kind.NotBool at) = refl
  type_about kind.Memory = refl

  numbered_pair : (k : ℕ) (element : Option ElementPlace)
      → IsSomeAnd element (λ e. IsNumbered p k e.at e.place)
      → IsSomeAnd (option_map place_pair element) (λ e. IsNumbered p k e.0 e.1)
  numbered_pair k None h = absurd h
  numbered_pair k (Some e) h = h

  pub graph_about : (error : FrontError) (element : Option ElementPlace)
      → IsLoopError p error
      → ((k : ℕ) → error ≡ Fault (Loop k) → IsSomeAnd element (λ e. IsNumbered p k e.at e.place))
      → (error ≡ Memory → element ≡ None)
      → IsAbout p error (option_map place_pair element)
  graph_about (Fault (Loop k)) element is found none = numbered_pair k element (found k refl)
  graph_about Memory element is found none = ap (option_map place_pair) (none refl)
  graph_about (Fault TooLong) element is found none = absurd is
  graph_about (Fault (Lex f)) element is found none = absurd is
  graph_about (Fault (Parse f)) element is found none = absurd is
  graph_about (Fault (Name f)) element is found none = absurd is
  graph_about (Fault (Def f)) element is found none = absurd is
  graph_about (Fault (Kind f)) element is found none = absurd is

  line_of_finding : (source : List ℕ) (error : FrontError) (declaration line : Option ℕ)
      → IsCheckError p error
      → line ≡ option_map (line_at source) (byte_of error declaration)
      → IsLineOf source error declaration line
  line_of_finding source (Fault (Parse f)) declaration line is e = absurd is.1
  line_of_finding source (Fault TooLong) declaration line is e = e
  line_of_finding source (Fault (Lex f)) declaration line is e = e
  line_of_finding source (Fault (Name f)) declaration line is e = e
  line_of_finding source (Fault (Def f)) declaration line is e = e
  line_of_finding source (Fault (Kind f)) declaration line is e = e
  line_of_finding source (Fault (Loop k)) declaration line is e = e
  line_of_finding source Memory declaration line is e = e

-- a fault of tokens
pub lex_line : (source : List ℕ) (fault : LexFault)
    → IsLineOf source (of_lex fault) None (option_map (line_at source) (byte_of_lex fault))
lex_line source (lex.BadByte at) = refl
lex_line source (lex.BadNumber at) = refl
lex_line source (lex.OpenComment at) = refl
lex_line source lex.Memory = refl

-- a rejection without an element
module _ (source : List ℕ) (rejection : Rejection) (none : rejection.element ≡ None) where
  pub early_line : IsLineOf source rejection.error None rejection.line → HasLine source rejection
  early_line h = rw none h

  pub early_element : ((p : Program) → IsAbout p rejection.error None) → HasElement source rejection
  early_element h = rw none (tt, λ p read. h p)

-- the rejection of a program that the source is
module _ (source : List ℕ) (program : RustProgram) (read : IsRead source (view program)) (finding : Finding)
    (rejection : Rejection) (error : rejection.error ≡ finding.error)
    (element : rejection.element
    ≡ option_map (λ (e : ElementPlace).
    let it : NamedElement = record { program = program; at = e.at; place = e.place } in it)
    finding.element) where
  same_bytes : (x : Option ElementPlace)
      → option_map (λ (n : NamedElement). n.at)
      (option_map (λ (e : ElementPlace).
      let it : NamedElement = record { program = program; at = e.at; place = e.place } in it)
      x) ≡ option_map (λ (e : ElementPlace). e.at) x
  same_bytes None = refl
  same_bytes (Some e) = refl

  same_pairs : (x : Option ElementPlace)
      → option_map (λ (n : NamedElement). (n.at, n.place))
      (option_map (λ (e : ElementPlace).
      let it : NamedElement = record { program = program; at = e.at; place = e.place } in it)
      x) ≡ option_map place_pair x
  same_pairs None = refl
  same_pairs (Some e) = refl

  is_read : (x : Option ElementPlace)
      → IfSome (option_map
      (λ (e : ElementPlace). let it : NamedElement = record { program = program; at = e.at; place = e.place } in it)
      x)
      (λ (n : NamedElement). IsRead source (view n.program))
  is_read None = tt
  is_read (Some e) = read

  pub late_line : IsCheckError (view program) finding.error
      → rejection.line ≡ option_map (line_at source) (byte_of_finding finding)
      → HasLine source rejection
  late_line is line =
      rw (error, element, same_bytes finding.element)
      (line_of_finding (view program) source finding.error (option_map (λ (e : ElementPlace). e.at) finding.element)
      rejection.line is line)

  pub late_element : IsAbout (view program) finding.error (element_of finding) → HasElement source rejection
  late_element about =
      rw (error, element, same_pairs finding.element) (
        is_read finding.element,
        λ p other.
            subst (λ (q : Program). IsAbout q finding.error (element_of finding))
            (one_read source (view program) p read other) about,
      )
