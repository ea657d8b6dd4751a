-- The fields of version 2 are misread inside the bits.
use Rattle.std.proofs.Common.{◌≡◌, ℕ, ◌+◌, ◌≤◌, Bool, true, false, cond, ltb, leb, List, [], ◌∷◌, length}
use Rattle.std.proofs.Common.{take, drop, Ok, Err, ℤ, pos, replicate, refl, ap, subst, arith}
use Rattle.std.specs.Prelude.{slice_get, eqb, not}
use Rattle.std.proofs.lemmas.Bool.Decides.{nat_tests}
use Rattle.std.proofs.lemmas.List.{length-drop}
use Rattle.fix_word.specs.declared.operation.Op.{Op}
use Rattle.operations.specs.declared.units.Kind.{Kind}
use Rattle.micro_image.specs.Bits.{are_zeros}
use Rattle.micro_image.specs.Codes.{place_width, operations_of}
use Rattle.micro_image.specs.Fields.{nth}
use Rattle.micro_image.specs.Operations.{Argument, nothing, input_word, output_word, raw_word, offset, operation}
use Rattle.micro_image.specs.Operations.{is_formatted}
use Rattle.micro_bits.specs.Numbers.{some_at, numbered}
use Rattle.micro_bits.specs.declared.fault.BitFault.TheVariants as bit
use Rattle.micro_file.specs.declared.misread.Misread.TheVariants.{Short}
use Rattle.micro_file.specs.Private.Tables.{kinds, modes}
use Rattle.micro_file.specs.Private.Fields.{Reading, ◌>>=◌, kept, found, element, many_at}
use Rattle.micro_file.specs.Private.Bits.{unless_short, at_bits, number_at, number_less_1_at, number_upto, number_below}
use Rattle.micro_file.specs.Private.Bits.{number_less_1_upto}
use Rattle.micro_file.specs.Private.Bits.{entry_at, as_raw_word, raw_word_at, some_words_at, preload_at}
use Rattle.micro_file.specs.Private.Bits.{operation_at}
use Rattle.micro_file.specs.Private.Bits.{some_format_at, no_format, format_at, as_argument, argument_at, register_at}
use Rattle.micro_file.specs.Private.Bits.{registers_at}
use Rattle.micro_file.proofs.Readers.{bound, ok_is}
use Rattle.micro_file.proofs.Inside.{IsInside, inside_more, next, behind, keeps, finds, tested_in, many_in}
use Rattle.micro_file.proofs.Inside.{InsideForm}

-- what is left behind so many bits is less by them
abbrev IsLess : {A : Type 0} → (w size : ℕ) → Reading A → Type 0
IsLess w size (Ok x) = length x.1 + w ≤ size
IsLess w size (Err misread) = misread ≡ Short

number_less : (w : ℕ) (bits : List ℕ) → IsLess w (length bits) (number_at w bits)
unfolding number_at some_at
number_less w bits = by (ltb (length bits) w) refl
  where
    by : (short : Bool)
        → ltb (length bits) w ≡ short
        → IsLess {A = ℕ} w (length bits)
        (unless_short (numbered (cond short (Err bit.Short) (Ok (take w bits, drop w bits)))))
    by true e = refl
    by false e = let enough : w ≤ length bits = grind (arith, nat_tests, e) in omega (arith, enough, length-drop w bits)

less_in : {A : Type 0} (w size : ℕ) (r : Reading A) → IsLess w size r → IsInside size r
less_in w size (Ok x) h = omega arith
less_in w size (Err misread) h = rw h tt

pub number_in : (w : ℕ) (bits : List ℕ) → IsInside (length bits) (number_at w bits)
number_in w bits = less_in w (length bits) (number_at w bits) (number_less w bits)

less_1_in : (w : ℕ) (bits : List ℕ) → IsInside (length bits) (number_less_1_at w bits)
less_1_in w bits = next (length bits) (number_at w bits) (λ n. Ok (n.0 + 1, n.1)) (number_in w bits) (λ n le. le)

upto_in : (w limit : ℕ) (bits : List ℕ) → IsInside (length bits) (number_upto w limit bits)
upto_in w limit bits = tested_in bits (number_at w bits) (λ n. leb n limit) (number_in w bits)

pub below_in : (w limit : ℕ) (bits : List ℕ) → IsInside (length bits) (number_below w limit bits)
below_in w limit bits = tested_in bits (number_at w bits) (λ n. ltb n limit) (number_in w bits)

less_1_upto_in : (w limit : ℕ) (bits : List ℕ) → IsInside (length bits) (number_less_1_upto w limit bits)
less_1_upto_in w limit bits = tested_in bits (number_less_1_at w bits) (λ n. leb n limit) (less_1_in w bits)

entry_in : {A : Type 0} (w : ℕ) (table : List A) (bits : List ℕ) → IsInside (length bits) (entry_at w table bits)
entry_in w table bits =
    next (length bits) (number_at w bits) (λ n. element table bits n) (number_in w bits)
    (λ n le. finds (length bits) bits (slice_get table n.0) (λ x. Ok (x, n.1)) (omega arith) (λ x. le))

raw_word_in : (bits : List ℕ) → IsInside (length bits) (raw_word_at bits)
unfolding raw_word_at
raw_word_in bits =
    next (length bits) (number_at 40 bits) (λ n. Ok (as_raw_word n.0, n.1)) (number_in 40 bits) (λ n le. le)

some_words_in : (count : ℕ) (flag bits : List ℕ)
    → length bits ≤ length flag
    → IsInside (length flag) (some_words_at count flag bits)
some_words_in count flag bits less =
    next (length flag) (many_at (λ _. raw_word_at) [] count bits) (λ words. kept flag (not (are_zeros words.0)) words)
    (inside_more (length bits) (length flag) (many_at (λ _. raw_word_at) [] count bits) less
    (many_in (λ _. raw_word_at) (λ _. raw_word_in) [] count bits))
    (λ words le. keeps (length flag) flag (not (are_zeros words.0)) words (omega arith) le)

-- a flag, and what stands behind it where it is 1
pub flag_in : {A : Type 0} (bits : List ℕ) (none : A) (more : List ℕ → Reading A)
    → ((rest : List ℕ) → length rest ≤ length bits → IsInside (length bits) (more rest))
    → IsInside (length bits) (number_at 1 bits >>= λ flag. cond (eqb flag.0 0) (Ok (none, flag.1)) (more flag.1))
flag_in {A} bits none more behind =
    next (length bits) (number_at 1 bits) (λ flag. cond (eqb flag.0 0) (Ok (none, flag.1)) (more flag.1))
    (number_in 1 bits) (λ flag le. by flag le (eqb flag.0 0))
  where
    by : (flag : ℕ × List ℕ)
        → length flag.1 ≤ length bits
        → (zero : Bool)
        → IsInside (length bits) (cond zero (Ok (none, flag.1)) (more flag.1))
    by flag le true = le
    by flag le false = behind flag.1 le

preload_in : (count : ℕ) (bits : List ℕ) → IsInside (length bits) (preload_at count bits)
unfolding preload_at
preload_in count bits =
    flag_in bits (replicate count (pos 0)) (some_words_at count bits) (λ rest le. some_words_in count bits rest le)

operation_in : (k : Kind) (bits : List ℕ) → IsInside (length bits) (operation_at k bits)
operation_in k bits = entry_in (place_width k) (operations_of k) bits

some_format_in : (bits : List ℕ) → IsInside (length bits) (some_format_at bits)
unfolding some_format_at
some_format_in bits =
    behind (length bits) (number_upto 7 120 bits) _ (upto_in 7 120 bits) (λ s.
    behind (length s.1) (entry_at 2 modes s.1) _ (entry_in 2 modes s.1) (λ m.
    behind (length m.1) (number_less_1_upto 6 40 m.1) _ (less_1_upto_in 6 40 m.1) (λ w. omega arith)))

format_in : (o : Op) (bits : List ℕ) → IsInside (length bits) (format_at o bits)
format_in o bits = by (is_formatted o)
  where
    by : (b : Bool) → IsInside (length bits) (cond b (some_format_at bits) (Ok (no_format, bits)))
    by true = some_format_in bits
    by false = omega arith

as_argument_in : (size : ℕ) (r : Reading ℕ) → IsInside size r → IsInside size (as_argument r)
as_argument_in size r h = next size r (λ n. Ok (pos n.0, n.1)) h (λ n le. le)

argument_in : (a : Argument) (inputs outs : ℕ) (bits : List ℕ)
    → IsInside (length bits) (argument_at a inputs outs bits)
unfolding argument_at
argument_in nothing inputs outs bits = omega arith
argument_in input_word inputs outs bits =
    as_argument_in (length bits) (number_below 4 inputs bits) (below_in 4 inputs bits)
argument_in output_word inputs outs bits =
    as_argument_in (length bits) (number_below 4 outs bits) (below_in 4 outs bits)
argument_in raw_word inputs outs bits = raw_word_in bits
argument_in offset inputs outs bits = as_argument_in (length bits) (number_at 16 bits) (number_in 16 bits)

registers_in : (files : List (List ℤ)) (read : ℕ) (bits : List ℕ)
    → IsInside (length bits) (registers_at files read bits)
unfolding registers_at
registers_in files read bits =
    next (length bits) (many_at (register_at files) [] read bits) _
    (many_in (register_at files) (λ front. below_in 8 (length (nth files (length front) []))) [] read bits)
    (λ regs le. le)

-- a kind takes three bits
kind_less : (bits : List ℕ) (k : Kind × List ℕ) → entry_at 3 kinds bits ≡ Ok k → length k.1 + 3 ≤ length bits
kind_less bits k e =
    let s = bound (number_at 3 bits) (λ n. element kinds bits n) k e in
    let f = bound (found bits (slice_get kinds s.0.0)) (λ x. Ok (x, s.0.1)) k s.2 in
    let rest : s.0.1 ≡ k.1 = ap (λ (x : Kind × List ℕ). x.1) (ok_is (f.0, s.0.1) k f.2) in
    omega (arith, subst (IsLess 3 (length bits)) s.1 (number_less 3 bits), ap length rest)

-- and a latency three
latency_less : (bits : List ℕ) (l : ℕ × List ℕ) → number_less_1_at 3 bits ≡ Ok l → length l.1 + 3 ≤ length bits
latency_less bits l e =
    let s = bound (number_at 3 bits) (λ n. Ok (n.0 + 1, n.1)) l e in
    let rest : s.0.1 ≡ l.1 = ap (λ (x : ℕ × List ℕ). x.1) (ok_is (s.0.0 + 1, s.0.1) l s.2) in
    omega (arith, subst (IsLess 3 (length bits)) s.1 (number_less 3 bits), ap length rest)

start_in : (bits : List ℕ) (k : Kind × List ℕ) (l : ℕ × List ℕ)
    → entry_at 3 kinds bits ≡ Ok k
    → number_less_1_at 3 k.1 ≡ Ok l
    → length l.1 + 5 ≤ length bits
start_in bits k l first second = omega (arith, kind_less bits k first, latency_less k.1 l second)

pub inside_bits : InsideForm at_bits
inside_bits = record {
  period = less_1_in 12;
  unroll = entry_in 2 (1 ∷ 2 ∷ 4 ∷ []);
  channels = less_1_in 4;
  width = upto_in 6 40;
  units = less_1_in 5;
  kind = entry_in 3 kinds;
  latency = less_1_in 3;
  gap = less_1_upto_in 3;
  registers = less_1_in 8;
  cells = less_1_in 16;
  initial = preload_in;
  ram = number_in 5;
  buses = less_1_in 5;
  operation = operation_in;
  format = format_in;
  argument = λ op. argument_in (operation op).argument;
  named = registers_in;
  start = start_in;
}
