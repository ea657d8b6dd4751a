use Rattle.std.proofs.Common.{◌≡◌, ◌++◌, drop, map}
use Rattle.fault_order.specs.Rules.{parts, each}
use Rattle.fault_order.specs.Private.FirstMet.{first}
use Rattle.fix_word.specs.declared.types.SigType.TheVariants.{Fix}
use Rattle.type_rules.specs.TypeRules.{literal_rules}
use Rattle.type_rules.specs.Translation.{word_of}
use Rattle.fix_types.proofs.tops.words.Given as goal

abbrev pub invariant-loop-number : goal.invariant-loop-number
invariant-loop-number l = record {
  met : first (parts (each (λ word. literal_rules word (Fix l.ty)) (drop l.number-index l.numbers)))
      ≡ first (parts (each (λ word. literal_rules word (Fix l.ty)) l.numbers));
  typed : l.words ++ map (λ word. word_of word (Fix l.ty)) (drop l.number-index l.numbers)
      ≡ map (λ word. word_of word (Fix l.ty)) l.numbers;
}
