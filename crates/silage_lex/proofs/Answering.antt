-- An answer that is right is the only right one, want of memory aside.
use Rattle.std.proofs.Common.{◌≡◌, ℕ, inl, inr, ◌⊎◌, List, refl, sym, ap, ◌∙◌, subst, Ok, Err, Result}
use Rattle.std.specs.Prelude.{◌≢◌, IfErr}
use Rattle.silage_lex.specs.Tokens.{HasTokens, TokenList}
use Rattle.silage_lex.specs.Faults.{HasFault, Answers}
use Rattle.silage_lex.specs.declared.LexFault.{LexFault}
use Rattle.silage_lex.specs.declared.LexFault.TheVariants.{BadByte, BadNumber, OpenComment, Memory}
use Rattle.silage_lex.proofs.OneReading.{tokens_no_fault, fault_once}

memory_or_not : (fault : LexFault) → (fault ≡ Memory) ⊎ (fault ≢ Memory)
memory_or_not (BadByte place) = inr (λ same. cc)
memory_or_not (BadNumber place) = inr (λ same. cc)
memory_or_not (OpenComment place) = inr (λ same. cc)
memory_or_not Memory = inl refl

pub tokens_after_err : (bytes : List ℕ) (result : Result TokenList LexFault) (fault : LexFault)
    → result ≡ Err fault
    → (fault ≢ Memory → HasFault bytes fault)
    → (tokens : TokenList)
    → HasTokens bytes tokens
    → Answers result (Ok tokens)
tokens_after_err bytes result fault is h tokens read =
    elim (memory_or_not fault) [
      | inl memory ↦ inr (is ∙ ap Err memory)
      | inr other_fault ↦ absurd (tokens_no_fault bytes tokens fault read (h other_fault))
    ]

pub fault_after_err : (bytes : List ℕ) (result : Result TokenList LexFault) (fault : LexFault)
    → result ≡ Err fault
    → (fault ≢ Memory → HasFault bytes fault)
    → (other : LexFault)
    → HasFault bytes other
    → Answers result (Err other)
fault_after_err bytes result fault is h other stands =
    elim (memory_or_not fault) [
      | inl memory ↦ inr (is ∙ ap Err memory)
      | inr other_fault ↦ inl (is ∙ ap Err (fault_once bytes fault other (h other_fault) stands))
    ]

pub right_fault : (bytes : List ℕ) (result : Result TokenList LexFault) (fault : LexFault)
    → result ≡ Err fault
    → (fault ≢ Memory → HasFault bytes fault)
    → IfErr result (λ other. other ≢ Memory → HasFault bytes other)
right_fault bytes result fault is h =
    let P : Result TokenList LexFault → Type 0 = λ r. IfErr r (λ other. other ≢ Memory → HasFault bytes other) in
    subst P (sym is) h
