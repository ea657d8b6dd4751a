-- A source has one program, or one first fault, and not both.
use Rattle.std.proofs.Common.{◌≡◌, refl, subst, ap, arith, ◌⊎◌, ℕ, ◌<◌, ◌≤◌, inl, inr, List, length}
use Rattle.fault_order.specs.Ranked.{FaultSet, IsClear, IsFirst}
use Rattle.fault_order.proofs.FirstFaults.{one_first}
use Rattle.fault_order.proofs.TableFaults.{single_faults}
use Rattle.silage_lex.specs.Faults.{HasFault as HasLexFault}
use Rattle.silage_lex.specs.Tokens.{HasTokens}
use Rattle.silage_lex.specs.declared.LexFault.{LexFault}
use Rattle.silage_lex.specs.declared.Token.{Token}
use Rattle.silage_lex.proofs.OneReading.{tokens_once, tokens_no_fault, fault_once}
use Rattle.silage_syntax.specs.Grammar.{Derives}
use Rattle.silage_syntax.specs.Tree.{Program}
use Rattle.silage_parse.specs.Answers.{IsWithin, HasFault as HasParseFault}
use Rattle.silage_parse.specs.declared.ParseFault.{ParseFault}
use Rattle.silage_parse.proofs.OneAnswer.{one_fault, within_no_fault}
use Rattle.name_rules.specs.NameFaults.{name_faults}
use Rattle.name_check.proofs.NameAnswers.{names_single}
use Rattle.element_rules.specs.ElementFaults.{element_faults}
use Rattle.element_rules.proofs.PlacedFaults.{single_elements}
use Rattle.type_rules.specs.TypeFaults.{type_faults}
use Rattle.type_rules.specs.TypeRules.{type_rules}
use Rattle.front_end.specs.Answers.{IsFrontError}
use Rattle.source_faults.specs.Faults.{source_limit, IsRead, HasProgram, IsFrontFault}
use Rattle.source_faults.specs.Loops.{IsFirstLoop}
use Rattle.front_end.specs.Private.Checks.{HasNoFault, IsFirstFault}
use Rattle.front_end.proofs.Counts.{checked}
use Rattle.front_end.proofs.FirstLoops.{none_in_loop}
use Rattle.source_faults.specs.declared.fault.FrontError.{FrontError}
use Rattle.source_faults.specs.declared.fault.FrontError.TheVariants.{Fault, Memory}
use Rattle.source_faults.specs.declared.fault.FrontFault.{FrontFault}
use Rattle.source_faults.specs.declared.fault.FrontFault.TheVariants.{TooLong, Lex, Parse, Name, Def, Kind, Loop}

pub not_both : {F : Type 0} (H : FaultSet F) (fault : F) → IsClear H → IsFirst H fault → ⊥
not_both H fault clear first = clear first.rank fault first.here

-- a program has one first element in a delay-free loop at most
one_loop : (program : Program) (k l : ℕ) → IsFirstLoop program k → IsFirstLoop program l → k ≡ l
one_loop program k l a b = omega (arith, a.first l b.loop, b.first k a.loop)

module _ (program : Program) where
  none_first : HasNoFault program → (fault : FrontFault) → IsFirstFault program fault → (elem : ℕ) × (fault ≡ Loop elem)
  none_first none TooLong h = absurd h
  none_first none (Lex f) h = absurd h
  none_first none (Parse f) h = absurd h
  none_first none (Name f) h = absurd (not_both (name_faults program) f none.names h)
  none_first none (Def f) h = absurd (not_both (element_faults program) f none.elements h.1)
  none_first none (Kind f) h = absurd (not_both (type_faults program) f none.types h.2)
  none_first none (Loop e) h = (e, refl)

  first_once : (f g : FrontFault) → IsFirstFault program f → IsFirstFault program g → f ≡ g
  first_once (Name f) (Name g) a b = ap Name (one_first (name_faults program) f g (names_single program) a b)
  first_once (Name f) (Def g) a b = absurd (not_both (name_faults program) f b.0 a)
  first_once (Name f) (Kind g) a b = absurd (not_both (name_faults program) f b.0 a)
  first_once (Name f) (Loop g) a b = absurd (not_both (name_faults program) f b.0 a)
  first_once (Def f) (Name g) a b = absurd (not_both (name_faults program) g a.0 b)
  first_once (Def f) (Def g) a b = ap Def (one_first (element_faults program) f g (single_elements program) a.1 b.1)
  first_once (Def f) (Kind g) a b = absurd (not_both (element_faults program) f b.1 a.1)
  first_once (Def f) (Loop g) a b = absurd (not_both (element_faults program) f b.1 a.1)
  first_once (Kind f) (Name g) a b = absurd (not_both (name_faults program) g a.0 b)
  first_once (Kind f) (Def g) a b = absurd (not_both (element_faults program) g a.1 b.1)
  first_once (Kind f) (Kind g) a b =
      ap Kind (one_first (type_faults program) f g (single_faults (type_rules program)) a.2 b.2)
  first_once (Kind f) (Loop g) a b = absurd (not_both (type_faults program) f b.2 a.2)
  first_once (Loop e) (Name g) a b = absurd (not_both (name_faults program) g a.0 b)
  first_once (Loop e) (Def g) a b = absurd (not_both (element_faults program) g a.1 b.1)
  first_once (Loop e) (Kind g) a b = absurd (not_both (type_faults program) g a.2 b.2)
  first_once (Loop e) (Loop l) a b = ap Loop (one_loop program e l a.3 b.3)
  first_once TooLong g a b = absurd a
  first_once (Lex f) g a b = absurd a
  first_once (Parse f) g a b = absurd a
  first_once f TooLong a b = absurd b
  first_once f (Lex g) a b = absurd b
  first_once f (Parse g) a b = absurd b

module _ (source : List ℕ) where
  pub one_read : (p q : Program) → IsRead source p → IsRead source q → p ≡ q
  one_read p q a b =
      let same : a.tokens ≡ b.tokens = tokens_once source a.tokens b.tokens a.lexed b.lexed in
      b.parsed.is.only p (subst (λ (ts : List Token). Derives ts p) same a.parsed.is.derives)

  -- a source has one program at most
  pub one_program : (program other : Program) → HasProgram source program → HasProgram source other → other ≡ program
  one_program program other a b = one_read other program b.read a.read

  read_no_parse_fault : (p : Program) (fault : ParseFault)
      → IsRead source p
      → (tokens : List Token)
      → HasTokens source tokens
      → HasParseFault tokens fault
      → ⊥
  read_no_parse_fault p fault read tokens lexed h =
      let same : read.tokens ≡ tokens = tokens_once source read.tokens tokens read.lexed lexed in
      within_no_fault tokens p fault (subst (λ (ts : List Token). IsWithin ts p) same read.parsed) h

  -- where the first fault of the source is: it is too long, in its tokens, or in the program that it is
  data IsIn : FrontFault → Type 0 where
    in_size : source_limit < length source → IsIn TooLong
    in_bytes : {f : LexFault} → length source ≤ source_limit → HasLexFault source f → IsIn (Lex f)
    in_tokens : {f : ParseFault} (tokens : List Token)
        → length source ≤ source_limit
        → HasTokens source tokens
        → HasParseFault tokens f
        → IsIn (Parse f)
    in_program : {f : FrontFault} (program : Program) → IsRead source program → IsFirstFault program f → IsIn f

  where_is : (f : FrontFault) → IsFrontFault source f → IsIn f
  where_is TooLong h = in_size h
  where_is (Lex f) h = in_bytes h.0 h.1
  where_is (Parse f) h = in_tokens h.1 h.0 h.2 h.3
  where_is (Name f) h = in_program h.0 h.1 h.2
  where_is (Def f) h = in_program h.0 h.1 (h.2, h.3)
  where_is (Kind f) h = in_program h.0 h.1 (h.2, h.3, h.4)
  where_is (Loop e) h = in_program h.0 h.1 (h.2, h.3, h.4, h.5)

  no_long_read : source_limit < length source → (p : Program) → IsRead source p → ⊥
  no_long_read long p read = let short = read.size in omega arith

  one_in : (f g : FrontFault) → IsIn f → IsIn g → f ≡ g
  one_in _ _ (in_size a) (in_size b) = refl
  one_in _ _ (in_size a) (in_bytes b h) = absurd (omega (arith, a, b))
  one_in _ _ (in_size a) (in_tokens ts b t h) = absurd (omega (arith, a, b))
  one_in _ _ (in_size a) (in_program p read h) = absurd (no_long_read a p read)
  one_in _ _ (in_bytes a k) (in_size b) = absurd (omega (arith, a, b))
  one_in _ _ (in_bytes {f = f} a k) (in_bytes {f = g} b h) = ap Lex (fault_once source f g k h)
  one_in _ _ (in_bytes {f = f} a k) (in_tokens ts b t h) = absurd (tokens_no_fault source ts f t k)
  one_in _ _ (in_bytes {f = f} a k) (in_program p read h) = absurd (tokens_no_fault source read.tokens f read.lexed k)
  one_in _ _ (in_tokens ts a t k) (in_size b) = absurd (omega (arith, a, b))
  one_in _ _ (in_tokens ts a t k) (in_bytes {f = g} b h) = absurd (tokens_no_fault source ts g t h)
  one_in _ _ (in_tokens {f = f} ts a t k) (in_tokens {f = g} us b u h) =
      ap Parse (one_fault us f g (subst (λ (vs : List Token). HasParseFault vs f) (tokens_once source ts us t u) k) h)
  one_in _ _ (in_tokens {f = f} ts a t k) (in_program p read h) = absurd (read_no_parse_fault p f read ts t k)
  one_in _ _ (in_program p read k) (in_size b) = absurd (no_long_read b p read)
  one_in _ _ (in_program p read k) (in_bytes {f = g} b h) = absurd (tokens_no_fault source read.tokens g read.lexed h)
  one_in _ _ (in_program p read k) (in_tokens {f = g} us b u h) = absurd (read_no_parse_fault p g read us u h)
  one_in f g (in_program p read k) (in_program q other h) =
      first_once q f g (subst (λ (r : Program). IsFirstFault r f) (one_read p q read other) k) h

  clear_program : (p : Program) → HasProgram source p → (f : FrontFault) → IsFirstFault p f → ⊥
  clear_program p has f first =
      let none : HasNoFault p = record { names = has.names; elements = has.elements; types = has.types } in
      let loop = none_first p none f first in
      let is : IsFirstFault p (Loop loop.0) = subst (IsFirstFault p) loop.1 first in
      none_in_loop p (checked source p has.read none) has.loops loop.0 is.3.loop

  none_in : (p : Program) → HasProgram source p → (f : FrontFault) → IsIn f → ⊥
  none_in p has _ (in_size a) = no_long_read a p has.read
  none_in p has _ (in_bytes {f = f} a k) = tokens_no_fault source has.read.tokens f has.read.lexed k
  none_in p has _ (in_tokens {f = f} ts a t k) = read_no_parse_fault p f has.read ts t k
  none_in p has f (in_program q read k) =
      clear_program p has f (subst (λ (r : Program). IsFirstFault r f) (one_read q p read has.read) k)

  -- so where the call answers an error of the source, it answers each
  pub program_error : (error : FrontError)
      → IsFrontError source error
      → (program : Program)
      → HasProgram source program
      → error ≡ Memory
  program_error Memory is program has = refl
  program_error (Fault f) is program has = absurd (none_in program has f (where_is f is.1))

  pub fault_error : (error : FrontError)
      → IsFrontError source error
      → (fault : FrontFault)
      → IsFrontFault source fault
      → (error ≡ Fault fault) ⊎ (error ≡ Memory)
  fault_error Memory is fault has = inr refl
  fault_error (Fault f) is fault has = inl (ap Fault (one_in f fault (where_is f is.1) (where_is fault has)))

  pub no_fault : (program : Program) → HasProgram source program → (fault : FrontFault) → IsFrontFault source fault → ⊥
  no_fault program has fault is = none_in program has fault (where_is fault is)
