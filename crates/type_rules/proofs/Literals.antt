-- The raw word of a literal, and whether it has one.
use Rattle.std.proofs.Common.{◌≡◌, sym, subst, ap, ℕ, Bool, true, false, ℤ, Ok, Err}
use Rattle.fault_order.specs.Rules.{Rules, unless}
use Rattle.fault_order.specs.Private.FirstMet.{first}
use Rattle.fault_order.proofs.TableFaults.{rule_holds}
use Rattle.fix_word.specs.Words.{IsWord, IsLiteral, IsOutOfRange}
use Rattle.fix_word.specs.Values.{nearest_of}
use Rattle.fix_word.specs.declared.types.FixType.{FixType}
use Rattle.fix_word.specs.declared.types.SigType.{SigType}
use Rattle.fix_word.specs.declared.types.SigType.TheVariants.{Fix, Bool as Truths}
use Rattle.fix_word.proofs.Nearest.{nearest_is, nearest_unique}
use Rattle.silage_syntax.specs.declared.tree.Lit.{Lit}
use Rattle.silage_syntax.specs.declared.tree.Lit.TheVariants.{Number, Truth}
use Rattle.silage_meaning.specs.Types.{IsRawWord}
use Rattle.type_rules.specs.TypeRules.{literal_rules, is_word}
use Rattle.type_rules.specs.Translation.{word_of}
use Rattle.type_rules.specs.declared.fault.TypeFault.{TypeFault}
use Rattle.type_rules.specs.declared.fault.TypeFault.TheVariants.{Literal}
use Rattle.type_rules.proofs.Tests.{word_is, word_does, word_not}

abbrev pub Passes : Rules TypeFault → Type 0
Passes rules = first rules ≡ Ok tt

unless_true : (b : Bool) (g : TypeFault) → b ≡ true → first (unless b g) ≡ Ok tt
unless_true b g e = ap (λ (x : Bool). first (unless x g)) e

unless_false : (b : Bool) (g : TypeFault) → b ≡ false → first (unless b g) ≡ Err g
unless_false b g e = ap (λ (x : Bool). first (unless x g)) e

module _ (negative : Bool) (digits places at : ℕ) (t : FixType) where
  abbrev nearest : ℤ
  nearest = nearest_of negative digits places t.shape.f

  pub number_fits : (m : ℤ)
      → IsLiteral negative digits places t.shape m
      → m ≡ nearest
      → Passes (literal_rules (Number negative digits places at) (Fix t))
  number_fits m is e =
      unless_true _ (Literal at) (word_does t.shape.w nearest (subst (λ (z : ℤ). IsWord t.shape.w z) e is.word))

  pub number_out : IsOutOfRange negative digits places t.shape
      → first (literal_rules (Number negative digits places at) (Fix t)) ≡ Err (Literal at)
  number_out out =
      let e : nearest ≡ out.raw =
      nearest_unique negative digits places t.shape.f nearest out.raw (nearest_is negative digits places t.shape.f)
      out.nearest in
      unless_false _ (Literal at)
      (word_not t.shape.w nearest (λ word. out.outside (subst (λ (z : ℤ). IsWord t.shape.w z) e word)))

  number_word : Passes (literal_rules (Number negative digits places at) (Fix t))
      → (v : ℤ)
      → v ≡ nearest
      → IsLiteral negative digits places t.shape v
  number_word h v e =
      let word = word_is t.shape.w nearest (rule_holds (is_word t.shape.w nearest) (Literal at) h) in
      subst (λ (z : ℤ). IsLiteral negative digits places t.shape z) (sym e)
      (record { nearest = nearest_is negative digits places t.shape.f; word = word })

  word_number : (v : ℤ) → IsLiteral negative digits places t.shape v → v ≡ nearest
  word_number v is =
      nearest_unique negative digits places t.shape.f v nearest is.nearest (nearest_is negative digits places t.shape.f)

-- a literal that passes has the one raw word
pub raw_there : (l : Lit) (ty : SigType) (v : ℤ) → IsRawWord l ty v → v ≡ word_of l ty
raw_there (Number negative digits places at) (Fix t) v is = word_number negative digits places at t v is
raw_there (Number negative digits places at) Truths v is = absurd is
raw_there (Truth value at) (Fix t) v is = absurd is
raw_there (Truth value at) Truths v is = is

pub raw_back : (l : Lit) (ty : SigType) (v : ℤ) → Passes (literal_rules l ty) → v ≡ word_of l ty → IsRawWord l ty v
raw_back (Number negative digits places at) (Fix t) v h e = number_word negative digits places at t h v e
raw_back (Number negative digits places at) Truths v h e = absurd (cc h)
raw_back (Truth value at) (Fix t) v h e = absurd (cc h)
raw_back (Truth value at) Truths v h e = e
