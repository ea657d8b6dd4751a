-- The fields of version 1 are misread inside the bytes.
use Rattle.std.proofs.Common.{◌≡◌, ℕ, ◌+◌, ◌<◌, ◌≤◌, Bool, true, false, cond, ltb, leb, List, [], ◌∷◌, length, take}
use Rattle.std.proofs.Common.{drop}
use Rattle.std.proofs.Common.{Option, Some, None, Ok, Err, ℤ, pos, negsuc, arith}
use Rattle.std.specs.Prelude.{slice_get, int_le, ◌&&◌}
use Rattle.std.specs.Int.{Width, w8, w16, w32, w64, byte_len, from_be_bytes, cast_signed, is_in_range}
use Rattle.std.proofs.lemmas.List.{length-drop}
use Rattle.fix_word.specs.declared.types.Format.{Format}
use Rattle.fix_word.specs.declared.operation.Op.{Op}
use Rattle.operations.specs.declared.units.Kind.{Kind}
use Rattle.micro_image.specs.Operations.{kind_of, is_formatted}
use Rattle.micro_file.specs.declared.misread.Misread.TheVariants.{Short}
use Rattle.micro_file.specs.Private.Arguments.{is_argument}
use Rattle.micro_file.specs.Private.Tables.{kinds, operations, modes}
use Rattle.micro_file.specs.Private.Fields.{Reading, ◌>>=◌, found, is_raw_word}
use Rattle.micro_file.specs.Private.Bytes.{at_bytes, byte_at, byte_within, byte_below, byte_upto, number_at}
use Rattle.micro_file.specs.Private.Bytes.{number_within}
use Rattle.micro_file.specs.Private.Bytes.{signed_at, raw_word_at, raw_words_at, entry_at, is_unroll, unroll_at}
use Rattle.micro_file.specs.Private.Bytes.{same_kind}
use Rattle.micro_file.specs.Private.Bytes.{operation_at, some_format_at, no_format_at, format_at, argument_at}
use Rattle.micro_file.specs.Private.Bytes.{register_count}
use Rattle.micro_file.specs.Private.Bytes.{register_at, registers_at}
use Rattle.micro_file.proofs.Inside.{IsInside, inside_more, next, behind, kept_then, finds, tested_in, many_in, at_ok}
use Rattle.micro_file.proofs.Inside.{InsideForm}

pub byte_in : (bytes : List ℕ) → IsInside (length bytes) (byte_at bytes)
byte_in [] = tt
byte_in (b ∷ rest) = omega arith

pub within_in : (low high : ℕ) (bytes : List ℕ) → IsInside (length bytes) (byte_within low high bytes)
within_in low high bytes = tested_in bytes (byte_at bytes) (is_in_range low high) (byte_in bytes)

pub below_in : (limit : ℕ) (bytes : List ℕ) → IsInside (length bytes) (byte_below limit bytes)
below_in limit bytes = tested_in bytes (byte_at bytes) (λ b. ltb b limit) (byte_in bytes)

pub upto_in : (limit : ℕ) (bytes : List ℕ) → IsInside (length bytes) (byte_upto limit bytes)
upto_in limit bytes = tested_in bytes (byte_at bytes) (λ b. leb b limit) (byte_in bytes)

number_in : (w : Width) (bytes : List ℕ) → IsInside (length bytes) (number_at w bytes)
number_in w bytes = by (ltb (length bytes) (byte_len w))
  where
    by : (short : Bool)
        → IsInside {A = ℕ} (length bytes)
        (cond short (Err Short) (Ok (from_be_bytes w (take (byte_len w) bytes), drop (byte_len w) bytes)))
    by true = tt
    by false = omega (arith, length-drop (byte_len w) bytes)

pub number_within_in : (w : Width) (low high : ℕ) (bytes : List ℕ)
    → IsInside (length bytes) (number_within w low high bytes)
number_within_in w low high bytes = tested_in bytes (number_at w bytes) (is_in_range low high) (number_in w bytes)

signed_in : (bytes : List ℕ) → IsInside (length bytes) (signed_at bytes)
signed_in bytes =
    next (length bytes) (number_at w64 bytes) (λ n. Ok (cast_signed w64 n.0, n.1)) (number_in w64 bytes) (λ x le. le)

raw_word_in : (bytes : List ℕ) → IsInside (length bytes) (raw_word_at bytes)
unfolding raw_word_at
raw_word_in bytes = tested_in bytes (signed_at bytes) is_raw_word (signed_in bytes)

entry_in : {A : Type 0} (table : List A) (bytes : List ℕ) → IsInside (length bytes) (entry_at table bytes)
entry_in table bytes =
    next (length bytes) (byte_at bytes) (λ b. found bytes (slice_get table b.0) >>= λ x. Ok (x, b.1)) (byte_in bytes)
    (λ b le. finds (length bytes) bytes (slice_get table b.0) (λ x. Ok (x, b.1)) (omega arith) (λ x. le))

raw_words_in : (n : ℕ) (bytes : List ℕ) → IsInside (length bytes) (raw_words_at n bytes)
raw_words_in n bytes = many_in (λ _. raw_word_at) (λ _. raw_word_in) [] n bytes

unroll_in : (bytes : List ℕ) → IsInside (length bytes) (unroll_at bytes)
unroll_in bytes = tested_in bytes (byte_at bytes) is_unroll (byte_in bytes)

operation_in : (k : Kind) (bytes : List ℕ) → IsInside (length bytes) (operation_at k bytes)
operation_in k bytes =
    tested_in bytes (entry_at operations bytes) (λ op. same_kind (kind_of op) k) (entry_in operations bytes)

-- a format, once its shift is read
abbrev format_behind : ℕ × List ℕ → Reading Format
format_behind s =
    entry_at modes s.1 >>= λ mode. byte_within 1 40 mode.1 >>= λ width.
    Ok (record { shift = cast_signed w8 s.0; mode = mode.0; width = width.0 }, width.1)

format_behind_in : (s : ℕ × List ℕ) → IsInside (length s.1) (format_behind s)
format_behind_in s =
    behind (length s.1) (entry_at modes s.1) _ (entry_in modes s.1) (λ m.
    behind (length m.1) (byte_within 1 40 m.1) _ (within_in 1 40 m.1) (λ w. omega arith))

some_format_in : (bytes : List ℕ) → IsInside (length bytes) (some_format_at bytes)
unfolding some_format_at
some_format_in bytes =
    next (length bytes) (byte_at bytes) _ (byte_in bytes) (λ s le.
    kept_then (length bytes) bytes (int_le (negsuc 39) (cast_signed w8 s.0) && int_le (cast_signed w8 s.0) (pos 80)) s
    format_behind (omega arith)
    (inside_more (length s.1) (length bytes) (format_behind s) le (format_behind_in s)))

no_format_in : (bytes : List ℕ) → IsInside (length bytes) (no_format_at bytes)
unfolding no_format_at
no_format_in bytes =
    behind (length bytes) (byte_within 0 0 bytes) _ (within_in 0 0 bytes) (λ s.
    behind (length s.1) (byte_within 0 0 s.1) _ (within_in 0 0 s.1) (λ m.
    behind (length m.1) (byte_within 0 0 m.1) _ (within_in 0 0 m.1) (λ w. omega arith)))

format_in : (o : Op) (bytes : List ℕ) → IsInside (length bytes) (format_at o bytes)
format_in o bytes = by (is_formatted o)
  where
    by : (b : Bool) → IsInside (length bytes) (cond b (some_format_at bytes) (no_format_at bytes))
    by true = some_format_in bytes
    by false = no_format_in bytes

argument_in : (o : Op) (inputs outs : ℕ) (bytes : List ℕ) → IsInside (length bytes) (argument_at o inputs outs bytes)
unfolding argument_at
argument_in o inputs outs bytes = tested_in bytes (signed_at bytes) (is_argument o inputs outs) (signed_in bytes)

-- what is behind an entry is less
entry_shorter : {A : Type 0} (table : List A) (bytes : List ℕ) (x : A × List ℕ)
    → entry_at table bytes ≡ Ok x
    → length x.1 < length bytes
entry_shorter table [] x e = absurd cc
entry_shorter {A} table (b ∷ rest) x e = by (slice_get table b) e
  where
    by : (o : Option A) → (found (b ∷ rest) o >>= λ y. Ok (y, rest)) ≡ Ok x → length x.1 < length (b ∷ rest)
    by None h = absurd cc
    by (Some y) h = let same : rest ≡ x.1 = cc in rw (← same) (omega arith)

registers_in : (files : List (List ℤ)) (reads : ℕ) (bytes : List ℕ)
    → IsInside (length bytes) (registers_at files reads bytes)
registers_in files reads bytes =
    many_in (register_at files reads) (λ front. below_in (register_count files reads (length front))) []
    (length files) bytes

start_in : (bytes : List ℕ) (k : Kind × List ℕ) (l : ℕ × List ℕ)
    → entry_at kinds bytes ≡ Ok k
    → byte_within 1 8 k.1 ≡ Ok l
    → length l.1 + 1 ≤ length bytes
start_in bytes k l first second =
    omega (
      arith,
      entry_shorter kinds bytes k first,
      at_ok (length k.1) (byte_within 1 8 k.1) l (within_in 1 8 k.1) second,
    )

pub inside_bytes : InsideForm at_bytes
inside_bytes = record {
  period = number_within_in w16 1 4096;
  unroll = unroll_in;
  channels = within_in 1 16;
  width = within_in 0 40;
  units = within_in 1 32;
  kind = entry_in kinds;
  latency = within_in 1 8;
  gap = within_in 1;
  registers = number_within_in w16 1 256;
  cells = number_within_in w32 1 65536;
  initial = raw_words_in;
  ram = byte_in;
  buses = within_in 1 32;
  operation = operation_in;
  format = format_in;
  argument = argument_in;
  named = registers_in;
  start = start_in;
}
