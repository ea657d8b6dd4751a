-- A program has one frame fault at most, and none where it has no cause of one.
use Rattle.std.proofs.Common.{◌≡◌, inl, inr, Some, refl, sym, ◌∙◌, arith}
use Rattle.rate_faults.specs.declared.FrameFault.{FrameFault}
use Rattle.rate_faults.specs.declared.FrameFault.TheVariants.{Word, Ports, Weight, Memory}
use Rattle.signal_graph.specs.Flat.{Program}
use Rattle.rate_unfold.specs.Frames.{Rates}
use Rattle.rate_unfold.specs.Faults.{HasManyWords, HasFewWords, IsFrameFault, HasNoFrameFault}

module _ (r : Rates) (p : Program) where
  many_or_few : HasManyWords r p → HasFewWords r p → ⊥
  many_or_few (inl many) few = let most = few.inputs in absurd (omega (arith, many, most))
  many_or_few (inr many) few = let most = few.outs in absurd (omega (arith, many, most))

  pub no_fault : HasNoFrameFault r p → (fault : FrameFault) → IsFrameFault r p fault → ⊥
  no_fault none (Word j) is = let words = none.words in absurd (cc (words, is))
  no_fault none Ports is = many_or_few is.1 none.few
  no_fault none Weight is = let light = none.light in let heavy = is.2 in absurd (omega (arith, light, heavy))
  no_fault none Memory is = is

  pub one_fault : (a b : FrameFault) → IsFrameFault r p a → IsFrameFault r p b → a ≡ b
  one_fault (Word j) (Word k) x y = let same : Some j ≡ Some k = sym x ∙ y in cc same
  one_fault (Word j) Ports x y = let none = y.0 in absurd (cc (x, none))
  one_fault (Word j) Weight x y = let none = y.0 in absurd (cc (x, none))
  one_fault (Word j) Memory x y = absurd y
  one_fault Ports (Word k) x y = let none = x.0 in absurd (cc (y, none))
  one_fault Ports Ports x y = refl
  one_fault Ports Weight x y = absurd (many_or_few x.1 y.1)
  one_fault Ports Memory x y = absurd y
  one_fault Weight (Word k) x y = let none = x.0 in absurd (cc (y, none))
  one_fault Weight Ports x y = absurd (many_or_few y.1 x.1)
  one_fault Weight Weight x y = refl
  one_fault Weight Memory x y = absurd y
  one_fault Memory b x y = absurd x
