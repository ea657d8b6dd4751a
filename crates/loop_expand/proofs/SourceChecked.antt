-- A program that was read from a source and has no fault is a checked one.
use Rattle.std.proofs.Common.{ℕ, List}
use Rattle.fault_order.specs.Ranked.{IsClear}
use Rattle.silage_lex.specs.Tokens.{HasTokens}
use Rattle.silage_lex.specs.declared.Token.{Token}
use Rattle.silage_syntax.specs.Grammar.{Derives}
use Rattle.silage_syntax.specs.Tree.{Program}
use Rattle.silage_meaning.proofs.Apart.{calls_apart}
use Rattle.name_rules.specs.NameFaults.{name_faults}
use Rattle.element_rules.specs.ElementFaults.{element_faults}
use Rattle.type_rules.specs.TypeFaults.{type_faults}
use Rattle.type_rules.proofs.ShortNumbers.{short_numbers}
use Rattle.loop_expand.specs.Checked.{IsChecked}
use Rattle.loop_expand.proofs.OwnPositions.{own_positions}
use Rattle.loop_expand.proofs.SomeSignals.{parameters_and_results}

pub source_checked : (source : List ℕ) (tokens : List Token) (p : Program)
    → HasTokens source tokens
    → Derives tokens p
    → IsClear (name_faults p)
    → IsClear (element_faults p)
    → IsClear (type_faults p)
    → IsChecked p
source_checked source tokens p lexed derives names elements types = record {
  names = names;
  elements = elements;
  types = types;
  numbers = short_numbers source tokens p lexed derives;
  calls = calls_apart source tokens p lexed derives;
  positions = own_positions source tokens p lexed derives;
  signals = parameters_and_results tokens p derives;
}
