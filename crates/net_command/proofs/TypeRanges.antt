-- The ranges of words by the types of programs, and by the widths that images and sample files have.
use Rattle.std.proofs.Common.{◌≡◌, ◌≤◌, ◌<◌, ◌-◌, ◌^◌, ℕ, zero, suc, List, [], ◌∷◌, map, Some, refl, ap₂, subst, arith}
use Rattle.std.proofs.Common.{true, ℤ, pos, neg_ℤ, ◌≤ℤ◌, ◌<ℤ◌}
use Rattle.std.specs.List.{All}
use Rattle.std.proofs.lemmas.Int.{ints}
use Rattle.std.proofs.lemmas.List.Elements.{All-weaker}
use Rattle.std.proofs.lemmas.Nat.{pow_pos}
use Rattle.fix_word.specs.Words.{IsWord}
use Rattle.fix_word.specs.declared.types.SigType.{SigType}
use Rattle.fix_word.specs.declared.types.SigType.TheVariants.{Fix, Bool as Truth}
use Rattle.net_fit.specs.Joints.{are_alike, word_width, IsNarrow}
use Rattle.net_fit.proofs.Joined.{alike_width}
use Rattle.plan_soundness.specs.ImageOf.{width_of}
use Rattle.sample_io.specs.Channels.{IsInChannel, channel_of}
use Rattle.sample_loops.specs.Evaluators.{type_channel}
use Rattle.signal_graph.specs.Rules.{IsType}
use Rattle.silage_meaning.specs.Types.{IsInType}

pub same_width : (ty : SigType) → word_width (Some ty) ≡ width_of ty
same_width (Fix t) = refl
same_width Truth = refl

same_channel : (ty : SigType) → channel_of (width_of ty) ≡ type_channel ty
same_channel (Fix t) = refl
same_channel Truth = refl

pub same_channels : (types : List SigType) → map channel_of (map width_of types) ≡ map type_channel types
same_channels [] = refl
same_channels (ty ∷ types) = ap₂ ◌∷◌ (same_channel ty) (same_channels types)

narrow : (ty : SigType) → IsType ty → IsNarrow ty
narrow (Fix t) is = is.width.widest
narrow Truth is = omega arith

pub all_narrow : (types : List SigType) → All IsType types → All IsNarrow types
all_narrow types all = All-weaker IsType IsNarrow narrow types all

-- types that are alike have one range
pub alike_type : (a b : SigType) (word : ℤ) → are_alike a b ≡ true → IsInType a word → IsInType b word
alike_type (Fix a) (Fix b) word h is = subst (λ (w : ℕ). IsWord w word) (alike_width (Fix a) (Fix b) h) is
alike_type (Fix a) Truth word h is = absurd (cc)
alike_type Truth (Fix b) word h is = absurd (cc)
alike_type Truth Truth word h is = is

in_width : (width : ℕ) (word : ℤ) → 1 ≤ width → IsWord width word → IsInChannel (channel_of width) word
in_width zero word some is = absurd (omega (arith, some))
in_width (suc n) word some is =
    let width : suc n - 1 ≡ n = omega arith in
    let positive : 0 < 2 ^ n = pow_pos n in
    let below : word <ℤ pos (2 ^ n) = subst (λ k. word <ℤ pos (2 ^ k)) width is.high in
    (subst (λ k. neg_ℤ (pos (2 ^ k)) ≤ℤ word) width is.low, omega (arith, ints, below, positive))

-- a word of the type is in its range
pub in_range : (ty : SigType) (word : ℤ) → IsType ty → IsInType ty word → IsInChannel (channel_of (width_of ty)) word
in_range (Fix t) word is h = in_width t.shape.w word is.width.narrowest h
in_range Truth word is h = h
