-- A run of the LL(1) machine by a function that computes, from which tokens are a program and no other.
use Rattle.std.proofs.Common.{◌≡◌, ◌+◌, ◌++◌, refl, subst, ℕ, zero, suc, Bool, true, false, List, [], ◌∷◌, Option, Some}
use Rattle.std.proofs.Common.{None}
use Rattle.std.specs.Prelude.{slice_get}
use Rattle.std.proofs.lemmas.Option.{same_Some}
use Rattle.silage_lex.specs.declared.Token.{Token}
use Rattle.silage_syntax.specs.Grammar.{kind_at}
use Rattle.silage_syntax.specs.Tree.{Program}
use Rattle.silage_parse.specs.Answers.{IsOnly}
use Rattle.silage_parse.specs.Private.Machine.{Count, no_count, allowed, counted, pushed, predict, made, done, Runs}
use Rattle.silage_parse.specs.Private.Machine.{ends, matches, expands, acts}
use Rattle.silage_parse.specs.Private.ParseTable.{Terminal, is_one, Effect, Source, Value, Symbol, Match, Expand, Act}
use Rattle.silage_parse.specs.Private.ParseTable.{productions}
use Rattle.silage_parse.specs.Private.ParseTable as the
use Rattle.silage_parse.proofs.CompletePrograms.{reads_of}
use Rattle.silage_parse.proofs.Outcomes.{program_answer}
use Rattle.silage_parse.proofs.SoundPrograms.{program_of}

module _ (ts : List Token) where
  -- the values that the machine ends with in so many steps, if it does and meets no fault
  unfoldable pub run : ℕ → List Symbol → ℕ → Count → List Value → Option (List Value)
  run zero ss i c vs = None
  run (suc steps) [] i c vs = Some vs
  run (suc steps) (Match ks e ∷ ss) i c vs =
      elim (is_one ks (kind_at ts i)) [
        | true ↦
            elim (allowed e (slice_get ts i) c) [
              | true ↦ run steps ss (i + 1) (counted e (slice_get ts i) c) (pushed (slice_get ts i) vs)
              | false ↦ None
            ]
        | false ↦ None
      ]
  run (suc steps) (Expand p ∷ ss) i c vs = run steps (predict (productions p) (kind_at ts i) ++ ss) i c vs
  run (suc steps) (Act a ∷ ss) i c vs = run steps ss i c (made a vs)

  both_hold : (a b : Bool) (r : Option (List Value)) (ws : List Value)
      → elim a [ true ↦ elim b [ true ↦ r | false ↦ None ] | false ↦ None ] ≡ Some ws
      → (a ≡ true) × (b ≡ true) × (r ≡ Some ws)
  both_hold true true r ws e = (refl, refl, e)
  both_hold true false r ws e = absurd (cc)
  both_hold false b r ws e = absurd (cc)

  runs : (steps : ℕ) (ss : List Symbol) (i : ℕ) (c : Count) (vs ws : List Value)
      → run steps ss i c vs ≡ Some ws
      → Runs ts ss i c vs (done ws)
  unfolding run
  runs zero ss i c vs ws e = absurd (cc)
  runs (suc steps) [] i c vs ws e = subst (λ us. Runs ts [] i c vs (done us)) (same_Some _ _ e) ends
  runs (suc steps) (Match ks effect ∷ ss) i c vs ws e =
      let h = both_hold (is_one ks (kind_at ts i)) (allowed effect (slice_get ts i) c) _ ws e in
      matches h.0 h.1
      (runs steps ss (i + 1) (counted effect (slice_get ts i) c) (pushed (slice_get ts i) vs) ws h.2)
  runs (suc steps) (Expand p ∷ ss) i c vs ws e =
      expands (runs steps (predict (productions p) (kind_at ts i) ++ ss) i c vs ws e)
  runs (suc steps) (Act a ∷ ss) i c vs ws e = acts (runs steps ss i c (made a vs) ws e)

  pub only_by_run : (steps : ℕ) (program : Program)
      → run steps (Expand Source ∷ []) 0 no_count [] ≡ Some (the.tops program.tops ∷ [])
      → IsOnly ts program
  only_by_run steps program e =
      let within = program_answer reads_of program_of ts program (runs steps (Expand Source ∷ []) 0 no_count [] _ e) in
      within.is
