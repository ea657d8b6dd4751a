-- How many digits a field has: a reader that fails was short of them, or refuses them.
use Rattle.std.proofs.Common.{◌≡◌, ℕ, ◌<◌, Bool, true, false, cond, ltb, List, [], ◌∷◌, length, Option, Some, None}
use Rattle.std.proofs.Common.{Ok, Err, refl, inl, inr, arith, take, drop}
use Rattle.std.specs.Int.{Width, byte_len, from_be_bytes}
use Rattle.std.specs.Prelude.{slice_get}
use Rattle.std.proofs.lemmas.Bool.{ltb-false}
use Rattle.std.proofs.lemmas.Bool.Decides.{nat_tests}
use Rattle.micro_bits.specs.Numbers.{some_at, numbered}
use Rattle.micro_bits.specs.declared.fault.BitFault.TheVariants as fault
use Rattle.micro_file.specs.declared.misread.Misread.{Misread}
use Rattle.micro_file.specs.declared.misread.Misread.TheVariants.{Short, Field}
use Rattle.micro_file.specs.Layout.{Reading}
use Rattle.micro_file.specs.Private.Bits as at_bits
use Rattle.micro_file.specs.Private.Bytes as at_bytes
use Rattle.micro_file.specs.Private.Fields.{◌>>=◌, kept, found, element}
use Rattle.micro_file.proofs.Layouts.{Sized}

-- how much is left where a field begins that is refused
abbrev pub here : List ℕ → Misread
here left = Field (length left)

pub sized_kept : {A : Type 0} (w : ℕ) (left : List ℕ) (r : Reading A) (test : A × List ℕ → Bool)
    → Sized w (here left) left r
    → Sized w (here left) left (r >>= λ x. kept left (test x) x)
sized_kept {A} w left (Ok x) test h = by (test x)
  where
    by : (b : Bool) → Sized w (here left) left (kept left b x)
    by true = h
    by false = inr (refl, h)
sized_kept w left (Err m) test h = h

pub sized_ok : {A B : Type 0} (w : ℕ) (blame : Misread) (left : List ℕ) (r : Reading A) (f : A → B)
    → Sized w blame left r
    → Sized w blame left (r >>= λ x. Ok (f x.0, x.1))
sized_ok w blame left (Ok x) f h = h
sized_ok w blame left (Err m) f h = h

pub sized_entry : {A : Type 0} (w : ℕ) (left : List ℕ) (r : Reading ℕ) (table : List A)
    → Sized w (here left) left r
    → Sized w (here left) left (r >>= λ n. element table left n)
sized_entry {A} w left (Ok n) table h = by (slice_get table n.0)
  where
    by : (o : Option A) → Sized w (here left) left (found left o >>= λ x. Ok (x, n.1))
    by None = inr (refl, h)
    by (Some x) = h
sized_entry w left (Err m) table h = h

-- ---- bytes

pub sized_byte : (blame : Misread) (left : List ℕ) → Sized 1 blame left (at_bytes.byte_at left)
sized_byte blame [] = inl (refl, omega arith)
sized_byte blame (b ∷ left) = omega arith

is_less : (m n : ℕ) → ltb m n ≡ true → m < n
is_less m n e = grind (arith, nat_tests)

pub sized_number : (w : Width) (blame : Misread) (left : List ℕ)
    → Sized (byte_len w) blame left (at_bytes.number_at w left)
sized_number w blame left = by (ltb (length left) (byte_len w)) refl
  where
    by : (short : Bool)
        → ltb (length left) (byte_len w) ≡ short
        → Sized (byte_len w) blame left
        (cond short (Err Short) (Ok (from_be_bytes w (take (byte_len w) left), drop (byte_len w) left)))
    by true e = inl (refl, is_less (length left) (byte_len w) e)
    by false e = ltb-false _ _ e

-- ---- bits

pub sized_bits : (w : ℕ) (blame : Misread) (left : List ℕ) → Sized w blame left (at_bits.number_at w left)
unfolding at_bits.number_at some_at
sized_bits w blame left = by (ltb (length left) w) refl
  where
    by : (short : Bool)
        → ltb (length left) w ≡ short
        → Sized w blame left
        (at_bits.unless_short (numbered (cond short (Err fault.Short) (Ok (take w left, drop w left)))))
    by true e = inl (refl, is_less (length left) w e)
    by false e = ltb-false _ _ e
