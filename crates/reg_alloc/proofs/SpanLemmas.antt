-- Spans that share no cycle of the circle.
use Rattle.std.proofs.Common.{◌≡◌, ℕ, ◌+◌, ◌%◌, ◌<◌, ◌≤◌, refl, sym, arith, ⊎_elim}
use Rattle.std.proofs.lemmas.Bool.{cases_lt}
use Rattle.std.proofs.Math.Nat.{add-mod_right}
use Rattle.plan_core.proofs.Samples.{step_of_same}
use Rattle.reg_alloc.specs.declared.circle.Span.{Span}
use Rattle.reg_alloc.specs.Private.Spans.{AreInOrder, AreSpansApart}

module _ (length : ℕ) where
  -- no cycle of the one span is in the place of one of the other
  abbrev pub NeverMeet : Span → Span → Type 0
  NeverMeet a b =
      (x y : ℕ) → a.after < x → x ≤ a.upto → b.after < y → y ≤ b.upto → x % length ≡ y % length → ⊥

  pub meet_back : (a b : Span) → NeverMeet a b → NeverMeet b a
  meet_back a b never x y after upto after' upto' same = never y x after' upto' after upto (sym same)

  order_never : (a b : Span) → a.after ≤ b.after → AreInOrder length a b → NeverMeet a b
  order_never a b first order x y after upto after' upto' same =
      let ended = order.ended in
      let round = order.round in
      let step = step_of_same x y length (omega arith) same (omega arith) in
      omega arith

  pub apart_never : (a b : Span) → AreSpansApart length a b → NeverMeet a b
  apart_never a b apart =
      ⊎_elim
      (λ (less : b.after < a.after). meet_back b a (order_never b a (omega arith) (apart.backward less)))
      (λ (le : a.after ≤ b.after). order_never a b le (apart.forward le))
      (cases_lt b.after a.after)

  -- the span that begins first ends before the other begins
  pub never_ended : (a b : Span) → NeverMeet a b → a.after ≤ b.after → b.after < b.upto → a.upto ≤ b.after
  never_ended a b never first some =
      ⊎_elim
      (λ (less : b.after < a.upto).
      absurd (never (b.after + 1) (b.after + 1) (omega arith) (omega arith) (omega arith) (omega arith) refl))
      (λ (le : a.upto ≤ b.after). le)
      (cases_lt b.after a.upto)

  -- and the other ends before it begins again
  pub never_round : (a b : Span)
      → NeverMeet a b
      → b.after ≤ a.after + length
      → a.after < a.upto
      → b.upto ≤ a.after + length
  never_round a b never low some =
      ⊎_elim
      (λ (less : a.after + length < b.upto).
      absurd (never (a.after + 1) (a.after + 1 + length) (omega arith) (omega arith) (omega arith) (omega arith)
      (sym (add-mod_right (a.after + 1) length))))
      (λ (le : b.upto ≤ a.after + length). le)
      (cases_lt (a.after + length) b.upto)
