-- The first fault of a phase is the first of its program, and then the first of the source.
use Rattle.std.proofs.Common.{◌≢◌, ℕ, List}
use Rattle.fault_order.specs.Ranked.{IsClear, IsFirst}
use Rattle.silage_syntax.specs.Tree.{Program}
use Rattle.name_rules.specs.NameFaults.{name_faults}
use Rattle.name_rules.specs.declared.fault.NameFault.{NameFault}
use Rattle.name_rules.specs.declared.fault.NameFault.TheVariants as name
use Rattle.element_rules.specs.ElementFaults.{placed_faults, without_place, element_faults}
use Rattle.element_rules.specs.declared.fault.PlacedFault.{PlacedFault}
use Rattle.element_rules.specs.declared.fault.PlacedFault.TheVariants as placed
use Rattle.element_rules.proofs.PlacedFaults.{element_first}
use Rattle.type_rules.specs.TypeFaults.{type_faults}
use Rattle.type_rules.specs.declared.fault.TypeFault.{TypeFault}
use Rattle.type_rules.specs.declared.fault.TypeFault.TheVariants as kind
use Rattle.front_end.specs.Answers.{IsFrontError}
use Rattle.source_faults.specs.Faults.{IsRead}
use Rattle.front_end.specs.Private.Checks.{HasNoFault, IsCheckError, IsLoopError}
use Rattle.source_faults.specs.Private.Errors.{of_names, of_defs, of_types}
use Rattle.source_faults.specs.declared.fault.FrontError.{FrontError}
use Rattle.source_faults.specs.declared.fault.FrontError.TheVariants.{Fault, Memory}
use Rattle.source_faults.specs.declared.fault.FrontFault.TheVariants.{TooLong, Lex, Parse, Name, Def, Kind, Loop}

module _ (program : Program) where
  pub name_error : (fault : NameFault)
      → (fault ≢ name.Memory → IsFirst (name_faults program) fault)
      → IsCheckError program (of_names fault)
  name_error (name.Unknown at) first = (tt, first (λ e. cc))
  name_error (name.Twice at) first = (tt, first (λ e. cc))
  name_error (name.Recursive at) first = (tt, first (λ e. cc))
  name_error name.NoMain first = (tt, first (λ e. cc))
  name_error (name.Arity at) first = (tt, first (λ e. cc))
  name_error (name.Size at) first = (tt, first (λ e. cc))
  name_error name.Memory first = tt

  pub def_error : IsClear (name_faults program)
      → (fault : PlacedFault)
      → (fault ≢ placed.Memory → IsFirst (placed_faults program) fault)
      → IsCheckError program (of_defs (without_place fault))
  def_error clear (placed.Index at) first = (tt, (clear, element_first program (placed.Index at) (first (λ e. cc))))
  def_error clear (placed.Bounds at) first = (tt, (clear, element_first program (placed.Bounds at) (first (λ e. cc))))
  def_error clear (placed.Delay at) first = (tt, (clear, element_first program (placed.Delay at) (first (λ e. cc))))
  def_error clear (placed.Shift at) first = (tt, (clear, element_first program (placed.Shift at) (first (λ e. cc))))
  def_error clear (placed.DefinedTwice at) first =
      (tt, (clear, element_first program (placed.DefinedTwice at) (first (λ e. cc))))
  def_error clear (placed.NotDefined at k) first =
      (tt, (clear, element_first program (placed.NotDefined at k) (first (λ e. cc))))
  def_error clear (placed.TooLarge at) first =
      (tt, (clear, element_first program (placed.TooLarge at) (first (λ e. cc))))
  def_error clear placed.Memory first = tt

  pub type_error : IsClear (name_faults program)
      → IsClear (element_faults program)
      → (fault : TypeFault)
      → (fault ≢ kind.Memory → IsFirst (type_faults program) fault)
      → IsCheckError program (of_types fault)
  type_error names elements (kind.Mismatch at) first = (tt, (names, elements, first (λ e. cc)))
  type_error names elements (kind.NeedsCast at) first = (tt, (names, elements, first (λ e. cc)))
  type_error names elements (kind.Literal at) first = (tt, (names, elements, first (λ e. cc)))
  type_error names elements (kind.NotBool at) first = (tt, (names, elements, first (λ e. cc)))
  type_error names elements kind.Memory first = tt

  pub graph_error : HasNoFault program → (error : FrontError) → IsLoopError program error → IsCheckError program error
  graph_error none (Fault (Loop elem)) h = (tt, (none.names, none.elements, none.types, h))
  graph_error none (Fault TooLong) h = absurd h
  graph_error none (Fault (Lex f)) h = absurd h
  graph_error none (Fault (Parse f)) h = absurd h
  graph_error none (Fault (Name f)) h = absurd h
  graph_error none (Fault (Def f)) h = absurd h
  graph_error none (Fault (Kind f)) h = absurd h
  graph_error none Memory h = tt

  -- the first fault of the program of a source is the source's
  pub source_error : (source : List ℕ)
      → IsRead source program
      → (error : FrontError)
      → IsCheckError program error
      → IsFrontError source error
  source_error source read (Fault TooLong) h = absurd h.1
  source_error source read (Fault (Lex f)) h = absurd h.1
  source_error source read (Fault (Parse f)) h = absurd h.1
  source_error source read (Fault (Name f)) h = (h.0, (program, read, h.1))
  source_error source read (Fault (Def f)) h = (h.0, (program, read, h.1.0, h.1.1))
  source_error source read (Fault (Kind f)) h = (h.0, (program, read, h.1.0, h.1.1, h.1.2))
  source_error source read (Fault (Loop e)) h = (h.0, (program, read, h.1.0, h.1.1, h.1.2, h.1.3))
  source_error source read Memory h = tt
