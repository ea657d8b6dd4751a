-- What the walk comes to is the first fault of the table, or the instances and elements.
use Rattle.std.proofs.Common.{◌≡◌, ◌≢◌, ◌⊎◌, ◌∙◌, ℕ, [], Result, Ok, Err, IfOk, OnOk, IfErr, IsErrAnd, refl, sym, ap}
use Rattle.std.proofs.Common.{subst, inl, inr}
use Rattle.fault_order.specs.Ranked.{IsClear, IsFirst, AnswersOk, AnswersFault}
use Rattle.fault_order.specs.Private.FirstMet.{first, ◌>>◌}
use Rattle.fault_order.proofs.FirstFaults.{Answers, one_first}
use Rattle.fault_order.proofs.TableFaults.{first_answers, single_faults}
use Rattle.silage_syntax.specs.Tree.{Program}
use Rattle.silage_meaning.specs.Instances.{HasCallsApart}
use Rattle.silage_meaning.specs.Rules.{HasSingleDefinitions}
use Rattle.name_rules.specs.TopNames.{top_names}
use Rattle.name_rules.specs.FirstTops.{IsDistinct}
use Rattle.name_rules.specs.NameFaults.{name_faults, IsMain}
use Rattle.element_rules.specs.declared.elements.Elements.{Elements}
use Rattle.element_rules.specs.declared.fault.PlacedFault.{PlacedFault}
use Rattle.element_rules.specs.declared.fault.PlacedFault.TheVariants.{Index, Bounds, Delay, Shift, DefinedTwice}
use Rattle.element_rules.specs.declared.fault.PlacedFault.TheVariants.{NotDefined, TooLarge, Memory}
use Rattle.element_rules.specs.Tables.{at_entry, table_rules}
use Rattle.element_rules.specs.Expansion.{IsExpansion}
use Rattle.element_rules.specs.Numbering.{IsNumbering}
use Rattle.element_rules.specs.ElementFaults.{placed_faults}
use Rattle.element_rules.specs.ElementRules.{word_rules, instance_table, max_nested, element_rules}
use Rattle.elaboration_code.specs.Actions.{GivesValue}
use Rattle.elaboration_code.specs.ItemActions.{run_program}
use Rattle.element_rules.proofs.SoundNames.{names_apart}
use Rattle.element_rules.proofs.SingleDefinitions.{single_definitions}
use Rattle.elaboration_code.proofs.Walks.{Matches}
use Rattle.element_rules.proofs.NumberedElements.{is_numbering}
use Rattle.element_rules.proofs.PlacedFaults.{elements_clear}
use Rattle.elaboration_code.proofs.ProgramTables.{program_does, rules_of}

memory_or_not : (f : PlacedFault) → (f ≡ Memory) ⊎ (f ≢ Memory)
memory_or_not (Index at) = inr (λ e. cc)
memory_or_not (Bounds at) = inr (λ e. cc)
memory_or_not (Delay at) = inr (λ e. cc)
memory_or_not (Shift at) = inr (λ e. cc)
memory_or_not (DefinedTwice at) = inr (λ e. cc)
memory_or_not (NotDefined at k) = inr (λ e. cc)
memory_or_not (TooLarge at) = inr (λ e. cc)
memory_or_not Memory = inl refl

module _ (p : Program) where
  -- what the clauses of the check say
  pub record IsAnswer (r : Result Elements PlacedFault) : Type 0 where
    pub ok : OnOk r (IsClear (placed_faults p))
    pub fault : IfErr r (λ fault. fault ≢ Memory → IsFirst (placed_faults p) fault)
    pub elements : IfOk r (IsExpansion p)
    pub numbering : IfOk r (IsNumbering p)
    pub single : OnOk r (HasCallsApart p → HasSingleDefinitions p)
    pub each_ok : IsClear (placed_faults p) → AnswersOk Memory r
    pub each_fault : (fault : PlacedFault) → IsFirst (placed_faults p) fault → AnswersFault Memory fault r

  table_answers : (met : Result (Unit {0}) PlacedFault) → first (element_rules p) ≡ met → Answers (placed_faults p) met
  table_answers met e =
      subst (λ (r : Result (Unit {0}) PlacedFault). Answers (placed_faults p) r) e (first_answers (element_rules p))

  ok_answer : IsClear (name_faults p)
      → (es : Elements)
      → first (element_rules p) ≡ Ok tt
      → IsExpansion p es
      → IsNumbering p es
      → IsAnswer (Ok es)
  ok_answer names es met made numbered =
      let clear : IsClear (placed_faults p) = table_answers (Ok tt) met in
      record {
        ok = clear;
        fault = tt;
        elements = made;
        numbering = numbered;
        single = λ apart. single_definitions p names (elements_clear p clear) apart;
        each_ok = λ c. tt;
        each_fault = λ fault i. absurd (clear i.rank fault i.here);
      }

  pub err_answer : (fault : PlacedFault) → (fault ≢ Memory → first (element_rules p) ≡ Err fault) → IsAnswer (Err fault)
  err_answer fault met = record {
    ok = tt;
    fault = λ n. is_first n;
    elements = tt;
    numbering = tt;
    single = tt;
    each_ok = λ clear. ok_or clear (memory_or_not fault);
    each_fault = λ other i. fault_or other i (memory_or_not fault);
  }
    where
      is_first : fault ≢ Memory → IsFirst (placed_faults p) fault
      is_first n = table_answers (Err fault) (met n)

      ok_or : IsClear (placed_faults p) → (fault ≡ Memory) ⊎ (fault ≢ Memory) → fault ≡ Memory
      ok_or clear (inl e) = e
      ok_or clear (inr n) = let i = is_first n in absurd (clear i.rank fault i.here)

      fault_or : (other : PlacedFault)
          → IsFirst (placed_faults p) other
          → (fault ≡ Memory) ⊎ (fault ≢ Memory)
          → (fault ≡ other) ⊎ (fault ≡ Memory)
      fault_or other i (inl e) = inr e
      fault_or other i (inr n) =
          inl (one_first (placed_faults p) fault other (single_faults (element_rules p)) (is_first n) i)

  pub told_answer : (fault : PlacedFault) (r : Result Elements PlacedFault)
      → IsErrAnd r (λ f. f ≡ fault)
      → (fault ≢ Memory → first (element_rules p) ≡ Err fault)
      → IsAnswer r
  told_answer fault (Ok es) told met = absurd told
  told_answer fault (Err f) told met = err_answer f (λ n. met (λ m. n (told ∙ m)) ∙ ap Err (sym told))

  module _ (names : IsClear (name_faults p)) (k : ℕ) (main : IsMain p k) where
    apart : IsDistinct (top_names p)
    apart = names_apart p names

    abbrev words : Result (Unit {0}) PlacedFault
    words = first (word_rules main.func)

    abbrev instances : Result (Unit {0}) PlacedFault
    instances = first (table_rules (at_entry []) (instance_table p max_nested main.func))

    -- main has too many words
    pub words_fail : (fault : PlacedFault) → Err fault ≡ words → first (element_rules p) ≡ Err fault
    words_fail fault e = rules_of p apart k main ∙ ap (λ (r : Result (Unit {0}) PlacedFault). r >> instances) (sym e)

    behind_words : Ok tt ≡ words → first (element_rules p) ≡ instances
    behind_words e = rules_of p apart k main ∙ ap (λ (r : Result (Unit {0}) PlacedFault). r >> instances) (sym e)

    met_ok : (met : Result (Unit {0}) PlacedFault) (es : Elements)
        → first (element_rules p) ≡ instances
        → instances ≡ met
        → Matches (IsExpansion p) met (Ok es)
        → IsAnswer (Ok es)
    met_ok (Ok u) es all is m =
        let same : es ≡ m.0 = cc (m.1) in
        let made = subst (IsExpansion p) (sym same) m.2 in
        ok_answer names es (all ∙ is) made (is_numbering p apart main.func main.is_main es made is)
    met_ok (Err e) es all is m = absurd (cc)

    met_err : (met : Result (Unit {0}) PlacedFault) (fault : PlacedFault)
        → Matches (IsExpansion p) met (Err fault)
        → met ≡ Err fault
    met_err (Ok u) fault m = absurd (cc (m.1))
    met_err (Err e) fault m = cc

    -- and else the walk over the instances answers
    pub walk_answer : Ok tt ≡ words → (r : Result Elements PlacedFault) → GivesValue r (run_program p k) → IsAnswer r
    walk_answer few (Ok es) gives =
        met_ok instances es (behind_words few) refl
        (subst (λ (r : Result Elements PlacedFault). Matches (IsExpansion p) instances r) gives
        (program_does p apart k main))
    walk_answer few (Err fault) gives =
        err_answer fault (λ n.
        behind_words few
        ∙ met_err instances fault
        (subst (λ (r : Result Elements PlacedFault). Matches (IsExpansion p) instances r) (gives n)
        (program_does p apart k main)))
