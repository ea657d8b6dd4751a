-- Tokens have one answer.
use Rattle.std.proofs.Common.{◌≡◌, ℕ, ◌+◌, ◌≤◌, ◌<◌, List, length, inl, inr, refl, ap, arith}
use Rattle.std.proofs.lemmas.Bool.{cases_order, cases_lt}
use Rattle.silage_lex.specs.declared.Token.{Token}
use Rattle.silage_syntax.specs.Tree.{Program}
use Rattle.silage_syntax.specs.Grammar.{Derives}
use Rattle.silage_syntax.specs.Limits.{Begins, IsDeep}
use Rattle.silage_parse.specs.declared.ParseFault.{ParseFault}
use Rattle.silage_parse.specs.declared.ParseFault.TheVariants.{Syntax, Deep, Memory}
use Rattle.silage_parse.specs.Answers.{NoneDeepBelow, IsSyntax, HasFault, IsWithin}

begins_less : (ts : List Token) (j k : ℕ) → j ≤ k → Begins ts k → Begins ts j
begins_less ts j k le b = record {
  all = b.all;
  program = b.program;
  roles = b.roles;
  long = omega (arith, le, b.long);
  agrees = λ m lt. b.agrees m (omega (arith, le, lt));
  derives = b.derives;
}

-- a program begins with as many of its tokens as one likes
begins_program : (ts : List Token) (p : Program) (k : ℕ) → k ≤ length ts → Derives ts p → Begins ts k
begins_program ts p k le d =
    record { all = ts; program = p; roles = d.0; long = le; agrees = λ m lt. refl; derives = d.1 }

pub program_no_syntax : (ts : List Token) (p : Program) (k : ℕ) → Derives ts p → IsSyntax ts k → ⊥
program_no_syntax ts p k d s =
    elim (cases_lt k (length ts)) [
      | inl lt ↦ s.ends lt (begins_program ts p (k + 1) (omega arith) d)
      | inr past ↦ let within = s.within in s.no_program (omega arith) p d
    ]

syntax_deep : (ts : List Token) (k m : ℕ) → IsSyntax ts k → NoneDeepBelow ts k → IsDeep ts m → ⊥
syntax_deep ts k m s none d =
    elim (cases_lt m k) [
      | inl lt ↦ none m lt d
      | inr le ↦ let within = d.within in s.ends (omega arith) (begins_less ts (k + 1) (m + 1) (omega arith) d.begins)
    ]

not_earlier : (ts : List Token) (k m : ℕ) → IsSyntax ts k → IsSyntax ts m → k < m → ⊥
not_earlier ts k m s t lt =
    let within = t.within in s.ends (omega arith) (begins_less ts (k + 1) m (omega arith) t.begins)

pub one_fault : (ts : List Token) (f g : ParseFault) → HasFault ts f → HasFault ts g → f ≡ g
one_fault ts (Syntax k) (Syntax m) a b =
    elim (cases_order k m) [
      | inl e ↦ ap Syntax e
      | inr (inl lt) ↦ absurd (not_earlier ts k m a.0 b.0 lt)
      | inr (inr lt) ↦ absurd (not_earlier ts m k b.0 a.0 lt)
    ]
one_fault ts (Syntax k) (Deep m) a b = absurd (syntax_deep ts k m a.0 a.1 b.0)
one_fault ts (Deep k) (Syntax m) a b = absurd (syntax_deep ts m k b.0 b.1 a.0)
one_fault ts (Deep k) (Deep m) a b =
    elim (cases_order k m) [
      | inl e ↦ ap Deep e
      | inr (inl lt) ↦ absurd (b.1 k lt a.0)
      | inr (inr lt) ↦ absurd (a.1 m lt b.0)
    ]
one_fault ts Memory g a b = absurd a
one_fault ts f Memory a b = absurd b

pub within_no_fault : (ts : List Token) (p : Program) (f : ParseFault) → IsWithin ts p → HasFault ts f → ⊥
within_no_fault ts p (Syntax k) w h = program_no_syntax ts p k w.is.derives h.0
within_no_fault ts p (Deep k) w h = w.limits k h.0.within h.0
within_no_fault ts p Memory w h = h
