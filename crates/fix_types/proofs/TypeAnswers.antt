-- What the typing of all tables and functions answers is the first fault of types, or the typed program.
use Rattle.std.proofs.Common.{◌≡◌, ◌≢◌, ◌⊎◌, refl, subst, inl, inr, Result, Ok, Err}
use Rattle.std.specs.Prelude.{All, IfOk, OnOk, IfErr}
use Rattle.std.proofs.lemmas.Option.{slice_get-get_or}
use Rattle.fault_order.specs.Ranked.{IsClear, IsFirst, AnswersOk, AnswersFault}
use Rattle.fault_order.specs.Private.FirstMet.{first}
use Rattle.fault_order.proofs.FirstFaults.{Answers, one_first}
use Rattle.fault_order.proofs.TableFaults.{first_answers, single_faults}
use Rattle.silage_syntax.specs.Tree.{Program}
use Rattle.name_rules.specs.NameFaults.{name_faults}
use Rattle.type_rules.specs.Boundary.{KeepsValues}
use Rattle.type_rules.specs.Numbers.{AreNumbersShort}
use Rattle.type_rules.specs.TypeFaults.{type_faults}
use Rattle.type_rules.specs.TypeRules.{type_rules}
use Rattle.type_rules.specs.TypedTree.{view_typed}
use Rattle.type_rules.specs.Translation.{typed_program}
use Rattle.type_rules.specs.declared.fault.TypeFault.{TypeFault}
use Rattle.type_rules.specs.declared.fault.TypeFault.TheVariants.{Mismatch, NeedsCast, Literal, NotBool, Memory}
use Rattle.type_rules.specs.declared.typed.Typed.{Typed as RustTyped}
use Rattle.fix_types.specs.Private.Answers.{GivesAs}
use Rattle.type_rules.specs.Private.Sound.{IsSoundTop}
use Rattle.type_rules.proofs.Kept.{keeps_values}
use Rattle.type_rules.proofs.SoundNames.{top_sound}

pub all_sound : (p : Program) → IsClear (name_faults p) → AreNumbersShort p → All (IsSoundTop p) p.tops
all_sound p clear short k d within = top_sound p clear k _ (slice_get-get_or p.tops k d within) (short k d within)

memory_or : (e : TypeFault) → (e ≡ Memory) ⊎ (e ≢ Memory)
memory_or Memory = inl refl
memory_or (Mismatch at) = inr (λ m. absurd (cc))
memory_or (NeedsCast at) = inr (λ m. absurd (cc))
memory_or (Literal at) = inr (λ m. absurd (cc))
memory_or (NotBool at) = inr (λ m. absurd (cc))

module _ (p : Program) where
  abbrev Gives : Result RustTyped TypeFault → Type 0
  Gives r = GivesAs view_typed (type_rules p) (typed_program p) r

  answers : (r : Result (Unit {0}) TypeFault) → first (type_rules p) ≡ r → Answers (type_faults p) r
  answers r e = subst (λ (q : Result (Unit {0}) TypeFault). Answers (type_faults p) q) e (first_answers (type_rules p))

  pub says_ok : (r : Result RustTyped TypeFault) → Gives r → OnOk r (IsClear (type_faults p))
  says_ok (Ok x) h = answers (Ok tt) h.0
  says_ok (Err e) h = tt

  pub says_fault : (r : Result RustTyped TypeFault)
      → Gives r
      → IfErr r (λ fault. fault ≢ Memory → IsFirst (type_faults p) fault)
  says_fault (Ok x) h = tt
  says_fault (Err e) h = λ n. answers (Err e) (h n)

  pub says_typed : (r : Result RustTyped TypeFault) → Gives r → IfOk r (λ typed. view_typed typed ≡ typed_program p)
  says_typed (Ok x) h = h.1
  says_typed (Err e) h = tt

  pub says_values : IsClear (name_faults p)
      → AreNumbersShort p
      → (r : Result RustTyped TypeFault)
      → Gives r
      → OnOk r (KeepsValues p)
  says_values clear short (Ok x) h = keeps_values p clear short h.0
  says_values clear short (Err e) h = tt

  pub each_ok : (r : Result RustTyped TypeFault) → Gives r → IsClear (type_faults p) → AnswersOk Memory r
  each_ok (Ok x) h clear = tt
  each_ok (Err e) h clear = elim (memory_or e) [
    | inl m ↦ m
    | inr n ↦ let i = answers (Err e) (h n) in absurd (clear i.rank e i.here)
  ]

  pub each_fault : (r : Result RustTyped TypeFault)
      → Gives r
      → (fault : TypeFault)
      → IsFirst (type_faults p) fault
      → AnswersFault Memory fault r
  each_fault (Ok x) h fault i = answers (Ok tt) h.0 i.rank fault i.here
  each_fault (Err e) h fault i = elim (memory_or e) [
    | inl m ↦ inr m
    | inr n ↦ inl (one_first (type_faults p) e fault (single_faults (type_rules p)) (answers (Err e) (h n)) i)
  ]
