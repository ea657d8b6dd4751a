-- The readers of single fields.
use Rattle.std.proofs.Common.{◌≡◌, ℕ, suc, ◌+◌, ◌^◌, ◌<◌, ◌≤◌, Bool, true, false, cond, ltb, eqb, List, [], ◌∷◌}
use Rattle.std.proofs.Common.{◌++◌, length, get_or, take, drop, map, Some, Result, Ok, Err, ℤ, pos, negsuc, refl, sym}
use Rattle.std.proofs.Common.{ap, subst, arith}
use Rattle.std.proofs.Math.Facts.{sfits_to_z}
use Rattle.std.proofs.lemmas.List.FromFn.{get_or-range_with_len, length-range_with_len}
use Rattle.std.proofs.lemmas.Option.{slice_get_within, get_or_from_slice_get}
use Rattle.std.specs.List.{range_with_len}
use Rattle.std.specs.Prelude.{slice_get}
use Rattle.std.specs.Int.{Width, w16, w32, w64, byte_len, from_be_bytes, to_be_bytes, cast_signed, cast_unsigned}
use Rattle.std.specs.Int.{is_in_range}
use Rattle.std.specs.Int.RustNames.{FitsSigned}
use Rattle.std.proofs.lemmas.Bool.{ltb-false, le-ltb}
use Rattle.std.proofs.lemmas.Bool.Decides.{nat_tests}
use Rattle.std.proofs.lemmas.Int.{ints, to_z-of_z, of_z-to_z}
use Rattle.std.proofs.lemmas.List.{take_at, drop_at, take-append-drop, length-append, length-take, length-map}
use Rattle.std.proofs.lemmas.List.{get_or-map}
use Rattle.std.proofs.lemmas.Nat.{be_bytes_2, be_bytes_4, be_bytes_8, from_be_bytes-to_be_bytes_2}
use Rattle.std.proofs.lemmas.Nat.{from_be_bytes-to_be_bytes_4, from_be_bytes-to_be_bytes_8}
use Rattle.fix_word.specs.Words.{IsMachineWord}
use Rattle.fix_word.specs.declared.types.Mode.{Mode}
use Rattle.fix_word.specs.declared.types.Mode.TheVariants.{Trunc, Round, Sat, RoundSat}
use Rattle.fix_word.specs.declared.operation.Op.{Op}
use Rattle.fix_word.specs.declared.operation.Op.TheVariants as op
use Rattle.operations.specs.declared.units.Kind.{Kind}
use Rattle.operations.specs.declared.units.Kind.TheVariants as kind
use Rattle.micro_image.specs.Operations.{opcode}
use Rattle.micro_image.specs.Bytes.{one_byte, two_bytes, four_bytes, eight_bytes}
use Rattle.micro_image.specs.Codes.{kind_number, mode_number}
use Rattle.micro_image.specs.Valid.{IsWithin}
use Rattle.micro_file.specs.Private.Tables.{kinds, operations, modes}
use Rattle.micro_file.specs.declared.misread.Misread.{Misread}
use Rattle.micro_file.specs.declared.misread.Misread.TheVariants.{Short}
use Rattle.micro_file.specs.Private.Fields.{◌>>=◌, found, is_raw_word}
use Rattle.micro_file.specs.Private.Bytes.{only_byte, byte_at, byte_within, byte_below, byte_upto, number_at}
use Rattle.micro_file.specs.Private.Bytes.{number_within}
use Rattle.micro_file.specs.Private.Bytes.{signed_at, raw_word_at, entry_at}
use Rattle.micro_bits.proofs.Bits.{IsDigits}
use Rattle.micro_file.proofs.Readers.{byte_values, digits-take, digits-drop, Took, IsReader, IsTestOf, tested}
use Rattle.micro_file.proofs.Readers.{such_reader, well, bound, ok_is, was_found, joined}
use Rattle.micro_file.proofs.Tests.{below_test, upto_test}

took_byte : (bytes : List ℕ)
    → IsDigits byte_values bytes
    → (x : ℕ × List ℕ)
    → byte_at bytes ≡ Ok x
    → Took byte_values (λ _. Unit {0}) one_byte bytes x
took_byte [] fits x e = absurd cc
took_byte (b ∷ bytes) fits x e =
    subst (λ (p : ℕ × List ℕ). Took byte_values (λ (_ : ℕ). Unit {0}) one_byte (b ∷ bytes) p) (ok_is (b, bytes) x e)
    (record { allowed = tt; text = record { parts = refl; rest_fits = record { digit = λ i. fits.digit (suc i) } } })

pub byte_reader : IsReader byte_values (λ _. Unit {0}) one_byte byte_at
byte_reader = record {
  took = took_byte;
  again = λ b rest ok. refl;
}

-- ---- tests

in_range : (low high n : ℕ) → is_in_range low high n ≡ true → IsWithin low high n
in_range low high n e = grind (arith, nat_tests)

to_range : (low high n : ℕ) → IsWithin low high n → is_in_range low high n ≡ true
to_range low high n h = grind (arith, nat_tests)

range_test : (low high : ℕ) → IsTestOf (is_in_range low high) (IsWithin low high)
range_test low high = record {
  sound = λ n e. in_range low high n e;
  whole = λ n h. to_range low high n h;
}

pub within_reader : (low high : ℕ) → IsReader byte_values (IsWithin low high) one_byte (byte_within low high)
within_reader low high = such_reader (λ n h. h.1) (λ n h. (tt, h)) (tested byte_reader (range_test low high))

pub below_reader : (limit : ℕ) → IsReader byte_values (λ n. n < limit) one_byte (byte_below limit)
below_reader limit = such_reader (λ n h. h.1) (λ n h. (tt, h)) (tested byte_reader (below_test limit))

same_byte : (only n : ℕ) → eqb n only ≡ true → n ≡ only
same_byte only n e = grind (arith, nat_tests)

byte_same : (only n : ℕ) → n ≡ only → eqb n only ≡ true
byte_same only n h = grind (arith, nat_tests)

or_misread : {A : Type 0} (misread : Misread) (b : Bool) (x y : A)
    → cond b (Ok x) (Err misread) ≡ well y
    → (b ≡ true) × (x ≡ y)
or_misread misread true x y e = (refl, cc)
or_misread misread false x y e = absurd cc

pub only_reader : (misread : Misread) (only : ℕ)
    → IsReader byte_values (λ n. n ≡ only) one_byte (only_byte misread only)
only_reader misread only = record {
  took = λ bytes fits x e.
      let s = bound (byte_at bytes) (λ (b : ℕ × List ℕ). cond (eqb b.0 only) (Ok b) (Err misread)) x e in
      let k = or_misread misread (eqb s.0.0 only) s.0 x s.2 in
      let t = byte_reader.took bytes fits s.0 s.1 in
      subst (λ (a : ℕ × List ℕ). Took byte_values (λ (n : ℕ). n ≡ only) one_byte bytes a) k.1
      (record { allowed = same_byte only s.0.0 k.0; text = t.text });
  again = λ x rest ok. rw (byte_same only x ok) refl;
}

pub upto_reader : (limit : ℕ) → IsReader byte_values (λ n. n ≤ limit) one_byte (byte_upto limit)
upto_reader limit = such_reader (λ n h. h.1) (λ n h. (tt, h)) (tested byte_reader (upto_test limit))

-- ---- numbers of several bytes

-- the numbers below the limit have the bytes of the width
record IsWide (w : Width) (limit : ℕ) : Type 0 where
  len : (n : ℕ) → length (to_be_bytes w n) ≡ byte_len w
  back : (bytes : List ℕ)
      → length bytes ≡ byte_len w
      → IsDigits byte_values bytes
      → to_be_bytes w (from_be_bytes w bytes) ≡ bytes
  again : (n : ℕ) → n < limit → from_be_bytes w (to_be_bytes w n) ≡ n
  below : (bytes : List ℕ) → IsDigits byte_values bytes → from_be_bytes w bytes < limit

wide16 : IsWide w16 (2 ^ 16)
wide16 = record {
  len = λ n. refl;
  back = λ bytes len fits. be_bytes_2 bytes _ len fits.digit refl;
  again = λ n lt. from_be_bytes-to_be_bytes_2 n lt;
  below = λ bytes fits. omega (arith, fits.digit 0, fits.digit 1);
}

wide32 : IsWide w32 (2 ^ 32)
wide32 = record {
  len = λ n. refl;
  back = λ bytes len fits. be_bytes_4 bytes _ len fits.digit refl;
  again = λ n lt. from_be_bytes-to_be_bytes_4 n lt;
  below = λ bytes fits. omega (arith, fits.digit 0, fits.digit 1, fits.digit 2, fits.digit 3);
}

wide64 : IsWide w64 (2 ^ 64)
wide64 = record {
  len = λ n. refl;
  back = λ bytes len fits. be_bytes_8 bytes _ len fits.digit refl;
  again = λ n lt. from_be_bytes-to_be_bytes_8 n lt;
  below = λ bytes fits.
      omega (
        arith,
        fits.digit 0,
        fits.digit 1,
        fits.digit 2,
        fits.digit 3,
        fits.digit 4,
        fits.digit 5,
        fits.digit 6,
        fits.digit 7,
      );
}

-- what is read, where there are enough bytes
abbrev unless_short : {A : Type 0} → Bool → A → Result A Misread
unless_short short x = cond short (Err Short) (Ok x)

guarded : {A : Type 0} (b : Bool) (x y : A) → unless_short b x ≡ Ok y → (b ≡ false) × (x ≡ y)
guarded true x y e = absurd cc
guarded false x y e = (refl, cc)

number_took : (w : Width) (limit : ℕ)
    → IsWide w limit
    → (bytes : List ℕ)
    → IsDigits byte_values bytes
    → (x : ℕ × List ℕ)
    → number_at w bytes ≡ Ok x
    → Took byte_values (λ n. n < limit) (to_be_bytes w) bytes x
number_took w limit wide bytes fits x e =
    let g =
    guarded (ltb (length bytes) (byte_len w)) (from_be_bytes w (take (byte_len w) bytes), drop (byte_len w) bytes) x
    e in
    let long : byte_len w ≤ length bytes = ltb-false _ _ g.0 in
    let front : to_be_bytes w (from_be_bytes w (take (byte_len w) bytes)) ≡ take (byte_len w) bytes =
    wide.back (take (byte_len w) bytes) (omega (arith, length-take (byte_len w) bytes))
    (digits-take (byte_len w) bytes (omega arith) fits) in
    subst (λ (p : ℕ × List ℕ). Took byte_values (λ (n : ℕ). n < limit) (to_be_bytes w) bytes p) g.1 (record {
      allowed = wide.below (take (byte_len w) bytes) (digits-take (byte_len w) bytes (omega arith) fits);
      text = record {
        parts = rw front (sym (take-append-drop (byte_len w) bytes));
        rest_fits = digits-drop (byte_len w) bytes fits;
      };
    })

number_again : (w : Width) (limit : ℕ)
    → IsWide w limit
    → (n : ℕ) (rest : List ℕ)
    → n < limit
    → number_at w (to_be_bytes w n ++ rest) ≡ Ok (n, rest)
number_again w limit wide n rest lt =
    let len = wide.len n in
    let long : ltb (length (to_be_bytes w n ++ rest)) (byte_len w) ≡ false =
    le-ltb _ _ (omega (arith, length-append (to_be_bytes w n) rest)) in
    rw (
      long,
      take_at (to_be_bytes w n) rest (byte_len w) len,
      drop_at (to_be_bytes w n) rest (byte_len w) len,
      wide.again n lt,
    )
    refl

number_reader : (w : Width) (limit : ℕ)
    → IsWide w limit
    → IsReader byte_values (λ n. n < limit) (to_be_bytes w) (number_at w)
number_reader w limit wide = record { took = number_took w limit wide; again = number_again w limit wide }

pub two_reader : (low high : ℕ)
    → high < 2 ^ 16
    → IsReader byte_values (IsWithin low high) two_bytes (number_within w16 low high)
unfolding two_bytes
two_reader low high lt =
    such_reader (λ n h. h.1) (λ n h. (omega arith, h))
    (tested (number_reader w16 (2 ^ 16) wide16) (range_test low high))

pub four_reader : (low high : ℕ)
    → high < 2 ^ 32
    → IsReader byte_values (IsWithin low high) four_bytes (number_within w32 low high)
unfolding four_bytes
four_reader low high lt =
    such_reader (λ n h. h.1) (λ n h. (omega arith, h))
    (tested (number_reader w32 (2 ^ 32) wide32) (range_test low high))

-- ---- numbers with a sign

bits_below : (z : ℤ) → FitsSigned w64 z → cast_unsigned w64 z < 2 ^ 64
bits_below (pos n) fits = omega (arith, fits.sfits)
bits_below (negsuc n) fits = omega (arith, fits.sfits)

bits_fit : (n : ℕ) → n < 2 ^ 64 → FitsSigned w64 (cast_signed w64 n)
bits_fit n lt = sfits_to_z (record { fits = lt })

signed_again : (z : ℤ) (rest : List ℕ) → FitsSigned w64 z → signed_at (eight_bytes z ++ rest) ≡ Ok (z, rest)
unfolding eight_bytes
signed_again z rest fits =
    joined (number_at w64 (to_be_bytes w64 (cast_unsigned w64 z) ++ rest))
    (λ (n : ℕ × List ℕ). Ok (cast_signed w64 n.0, n.1)) (cast_unsigned w64 z, rest) (Ok (z, rest))
    (number_again w64 (2 ^ 64) wide64 (cast_unsigned w64 z) rest (bits_below z fits)) (rw (to_z-of_z w64 z fits) refl)

signed_took : (bytes : List ℕ)
    → IsDigits byte_values bytes
    → (x : ℤ × List ℕ)
    → signed_at bytes ≡ Ok x
    → Took byte_values (FitsSigned w64) eight_bytes bytes x
unfolding eight_bytes
signed_took bytes fits x e =
    let s = bound (number_at w64 bytes) (λ (n : ℕ × List ℕ). Ok (cast_signed w64 n.0, n.1)) x e in
    let t = number_took w64 (2 ^ 64) wide64 bytes fits s.0 s.1 in
    subst (λ (p : ℤ × List ℕ). Took byte_values (FitsSigned w64) eight_bytes bytes p)
    (ok_is (cast_signed w64 s.0.0, s.0.1) x s.2) (record {
      allowed = bits_fit s.0.0 t.allowed;
      text = rw (of_z-to_z w64 s.0.0 t.allowed) t.text;
    })

pub signed_reader : IsReader byte_values (FitsSigned w64) eight_bytes signed_at
signed_reader = record { took = signed_took; again = signed_again }

raw_sound : (z : ℤ) → is_raw_word z ≡ true → IsMachineWord z
raw_sound z e = record { low = grind (arith, ints); high = grind (arith, ints) }

raw_whole : (z : ℤ) → IsMachineWord z → is_raw_word z ≡ true
raw_whole z h = grind (arith, ints, h.low, h.high)

pub word_fits : (z : ℤ) → IsMachineWord z → FitsSigned w64 z
word_fits (pos n) h = record { sfits = omega (arith, ints, h.high) }
word_fits (negsuc n) h = record { sfits = omega (arith, ints, h.low) }

pub raw_word_test : IsTestOf is_raw_word IsMachineWord
raw_word_test = record {
  sound = λ z e. raw_sound z e;
  whole = λ z h. raw_whole z h;
}

pub raw_word_reader : IsReader byte_values IsMachineWord eight_bytes raw_word_at
unfolding raw_word_at
raw_word_reader = such_reader (λ z h. h.1) (λ z h. (word_fits z h, h)) (tested signed_reader raw_word_test)

-- ---- entries of a table

-- the byte of an entry is its place
record IsTable {A : Type 0} (table : List A) (byte : A → ℕ) : Type 0 where
  there : (x : A) → slice_get table (byte x) ≡ Some x
  only : (b : ℕ) (x : A) → slice_get table b ≡ Some x → byte x ≡ b

entry_reader : {A : Type 0} (table : List A) (byte : A → ℕ)
    → IsTable table byte
    → IsReader byte_values (λ _. Unit {0}) (λ x. one_byte (byte x)) (entry_at table)
entry_reader {A} table byte is = record {
  took = λ bytes fits x e.
      let s = bound (byte_at bytes) (λ (b : ℕ × List ℕ). found bytes (slice_get table b.0) >>= λ x. Ok (x, b.1)) x e in
      let t = byte_reader.took bytes fits s.0 s.1 in
      let u = bound (found bytes (slice_get table s.0.0)) (λ (y : A). Ok (y, s.0.1)) x s.2 in
      subst (λ (p : A × List ℕ). Took byte_values (λ (_ : A). Unit {0}) (λ (y : A). one_byte (byte y)) bytes p)
      (ok_is (u.0, s.0.1) x u.2)
      (record { allowed = tt; text = rw (is.only s.0.0 u.0 (was_found bytes (slice_get table s.0.0) u.0 u.1)) t.text });
  again = λ x rest ok. rw (is.there x) refl;
}

-- an entry's byte is its place, where the bytes of the table count up
place : {A : Type 0} (table : List A) (byte : A → ℕ) (count : ℕ)
    → map byte table ≡ range_with_len 0 count
    → (b : ℕ) (x : A)
    → slice_get table b ≡ Some x
    → byte x ≡ b
place table byte count e b x h =
    let lt = slice_get_within table b x h in
    let counted : length table ≡ count =
    omega (arith, length-map table byte, ap length e, length-range_with_len 0 count) in
    let found : byte (get_or table b x) ≡ byte x = ap byte (get_or_from_slice_get table b x x h) in
    let mapped : get_or (map byte table) b 0 ≡ byte (get_or table b x) = get_or-map byte table b x 0 lt in
    let counts : get_or (map byte table) b 0 ≡ get_or (range_with_len 0 count) b 0 =
    ap (λ (xs : List ℕ). get_or xs b 0) e in
    let there : get_or (range_with_len 0 count) b 0 ≡ 0 + b = get_or-range_with_len 0 count b 0 (omega arith) in
    omega arith

pub kind_there : (x : Kind) → slice_get kinds (kind_number x) ≡ Some x
kind_there kind.Input = refl
kind_there kind.Output = refl
kind_there kind.Rom = refl
kind_there kind.Alu = refl
kind_there kind.Mul = refl
kind_there kind.Sel = refl
kind_there kind.Ram = refl
kind_there kind.Acu = refl

-- the places of the table, one after the other
kind_places : map kind_number kinds ≡ range_with_len 0 8
kind_places = refl

kind_only : (b : ℕ) (x : Kind) → slice_get kinds b ≡ Some x → kind_number x ≡ b
kind_only b x e = place kinds kind_number 8 kind_places b x e

operation_there : (x : Op) → slice_get operations (opcode x) ≡ Some x
operation_there op.Input = refl
operation_there op.Output = refl
operation_there op.Const = refl
operation_there op.Add = refl
operation_there op.Sub = refl
operation_there op.Neg = refl
operation_there op.Pass = refl
operation_there op.Lt = refl
operation_there op.Le = refl
operation_there op.Eq = refl
operation_there op.Ne = refl
operation_there op.And = refl
operation_there op.Or = refl
operation_there op.Not = refl
operation_there op.Mul = refl
operation_there op.Sel = refl
operation_there op.Load = refl
operation_there op.Store = refl
operation_there op.Addr = refl

-- the places of the table, one after the other
operation_places : map opcode operations ≡ range_with_len 0 19
operation_places = refl

operation_only : (b : ℕ) (x : Op) → slice_get operations b ≡ Some x → opcode x ≡ b
operation_only b x e = place operations opcode 19 operation_places b x e

mode_there : (x : Mode) → slice_get modes (mode_number x) ≡ Some x
mode_there Trunc = refl
mode_there Round = refl
mode_there Sat = refl
mode_there RoundSat = refl

-- the places of the table, one after the other
mode_places : map mode_number modes ≡ range_with_len 0 4
mode_places = refl

mode_only : (b : ℕ) (x : Mode) → slice_get modes b ≡ Some x → mode_number x ≡ b
mode_only b x e = place modes mode_number 4 mode_places b x e

pub kind_reader : IsReader byte_values (λ _. Unit {0}) (λ k. one_byte (kind_number k)) (entry_at kinds)
kind_reader = entry_reader kinds kind_number (record { there = kind_there; only = kind_only })

pub operation_reader : IsReader byte_values (λ _. Unit {0}) (λ o. one_byte (opcode o)) (entry_at operations)
operation_reader = entry_reader operations opcode (record { there = operation_there; only = operation_only })

pub mode_reader : IsReader byte_values (λ _. Unit {0}) (λ m. one_byte (mode_number m)) (entry_at modes)
mode_reader = entry_reader modes mode_number (record { there = mode_there; only = mode_only })
