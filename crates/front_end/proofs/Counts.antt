-- What is so of a program that a source is: it has no more tables and functions than the source has bytes, its numbers
-- are short, its functions have results, and it is a checked one where it has no fault.
use Rattle.std.proofs.Common.{arith, ℕ, ◌≤◌, List, length}
use Rattle.type_rules.specs.Numbers.{AreNumbersShort}
use Rattle.type_rules.proofs.ShortNumbers.{short_numbers as short_numbers_of_tokens}
use Rattle.name_check.proofs.FewTops.{few_tops as few_tops_of_tokens}
use Rattle.silage_lex.proofs.FewTokens.{few_tokens}
use Rattle.silage_syntax.specs.Tree.{Program}
use Rattle.element_rules.specs.Signatures.{HaveResults}
use Rattle.loop_expand.specs.Checked.{IsChecked}
use Rattle.loop_expand.proofs.SomeSignals.{parameters_and_results}
use Rattle.loop_expand.proofs.SourceChecked.{source_checked}
use Rattle.source_faults.specs.Faults.{IsRead}
use Rattle.front_end.specs.Private.Checks.{HasNoFault}

pub few_tops : (source : List ℕ) (program : Program) → IsRead source program → length program.tops ≤ length source
few_tops source program h =
    omega (arith, few_tops_of_tokens h.tokens program h.parsed.is.derives, few_tokens source h.tokens h.lexed)

pub short_numbers : (source : List ℕ) (program : Program) → IsRead source program → AreNumbersShort program
short_numbers source program h = short_numbers_of_tokens source h.tokens program h.lexed h.parsed.is.derives

pub results : (source : List ℕ) (program : Program) → IsRead source program → HaveResults program
results source program h k f e = (parameters_and_results h.tokens program h.parsed.is.derives k f e).1

pub checked : (source : List ℕ) (program : Program) → IsRead source program → HasNoFault program → IsChecked program
checked source program h none =
    source_checked source h.tokens program h.lexed h.parsed.is.derives none.names none.elements none.types
