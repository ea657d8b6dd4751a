-- What a rejection tells besides its error.
use Rattle.std.specs.Prelude.{ℕ, List, option_map, IfSome}
use Rattle.silage_syntax.specs.Tree.{Program, view}
use Rattle.source_faults.specs.Faults.{IsRead}
use Rattle.front_end.specs.Places.{IsLineOf, IsAbout}
use Rattle.source_faults.specs.declared.element.NamedElement.{NamedElement}
use Rattle.source_faults.specs.declared.rejection.Rejection.{Rejection}

-- its line is that of its error
abbrev pub HasLine : (source : List ℕ) → Rejection → Type 0
HasLine source rejection =
    IsLineOf source rejection.error (option_map (λ (named : NamedElement). named.at) rejection.element) rejection.line

-- its element is the one that its error is about, in the program of the source
abbrev pub HasElement : (source : List ℕ) → Rejection → Type 0
HasElement source rejection =
    IfSome rejection.element (λ named. IsRead source (view named.program))
    × ((p : Program) → IsRead source p
    → IsAbout p rejection.error (option_map (λ (named : NamedElement). (named.at, named.place)) rejection.element))
