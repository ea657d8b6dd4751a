-- The image of y = x@1 + 3 is one that a microcode file can hold.
use Rattle.std.proofs.Common.{◌≡◌, ◌≢◌, ◌<◌, ◌≤◌, refl, arith, ℕ, zero, suc, List, [], ◌∷◌, length, map, ℤ, pos, inl}
use Rattle.std.proofs.Common.{inr}
use Rattle.std.proofs.lemmas.Int.{ints}
use Rattle.std.specs.Prelude.{slice_index_or}
use Rattle.std.specs.List.{AllAdjacentBelow}
use Rattle.std.specs.List.Sorted.{IsStrictlyIncreasing}
use Rattle.fix_word.specs.Words.{IsMachineWord, IsFormat}
use Rattle.operations.specs.Operations.{plain}
use Rattle.operations.specs.Units.{ports}
use Rattle.operations.specs.declared.units.Kind.{Kind}
use Rattle.operations.specs.declared.units.Kind.TheVariants as kind
use Rattle.micro_image.specs.Valid.{IsValid, IsUnit, IsFile, IsWordOf, IsIssue, IsEnable, IsTake, AreRegisters}
use Rattle.micro_image.specs.Valid.{EnableBefore, TakeBefore}
use Rattle.micro_image.specs.declared.image.Word.{Word}
use Rattle.micro_image.proofs.Each.{Each, none, more, All-from_Each}
use Rattle.worked_values.specs.Machine.{echo, simple, memory, addresses, drive}

raw : (n : ℕ) → n ≤ 100 → IsMachineWord (pos n)
raw n few = record { low = omega (arith, ints, few); high = omega (arith, ints, few) }

one_zero : IsFile (pos 0 ∷ [])
one_zero = record {
  size = (omega arith, omega arith);
  words = All-from_Each IsMachineWord (more (raw 0 (omega arith)) none);
}

two_zeros : IsFile (pos 0 ∷ pos 0 ∷ [])
two_zeros = record {
  size = (omega arith, omega arith);
  words = All-from_Each IsMachineWord (more (raw 0 (omega arith)) (more (raw 0 (omega arith)) none));
}

simple_is : (k : Kind) (files : List (List ℤ))
    → k ≢ kind.Ram
    → k ≢ kind.Acu
    → length files ≡ ports k
    → Each IsFile files
    → IsUnit echo.units (simple k files)
simple_is k files no_ram no_acu count each = record {
  latency = (omega arith, omega arith);
  gap = (omega arith, omega arith);
  file_count = count;
  files = All-from_Each IsFile each;
  cells = All-from_Each IsMachineWord none;
  cell_count = λ is. absurd (no_ram is);
  no_cells = λ other. refl;
  ram = λ is. absurd (no_acu is);
  no_ram = λ other. refl;
}

memory_is : IsUnit echo.units memory
memory_is = record {
  latency = (omega arith, omega arith);
  gap = (omega arith, omega arith);
  file_count = refl;
  files = All-from_Each IsFile (more two_zeros (more one_zero none));
  cells = All-from_Each IsMachineWord (more (raw 50 (omega arith)) (more (raw 60 (omega arith)) none));
  cell_count = λ is. (omega arith, omega arith);
  no_cells = λ other. absurd (other refl);
  ram = λ is. absurd (cc);
  no_ram = λ other. refl;
}

addresses_is : IsUnit echo.units addresses
addresses_is = record {
  latency = (omega arith, omega arith);
  gap = (omega arith, omega arith);
  file_count = refl;
  files = All-from_Each IsFile none;
  cells = All-from_Each IsMachineWord none;
  cell_count = λ is. absurd (cc);
  no_cells = λ other. refl;
  ram = λ is. refl;
  no_ram = λ other. absurd (other refl);
}

no_registers : AreRegisters [] 0 []
no_registers = record {
  count = refl;
  there = λ port below. absurd (omega (arith, below));
  unread = λ port past below. absurd (omega (arith, below));
}

one_register : (file : List ℤ) (r : ℕ) → r < length file → AreRegisters (file ∷ []) 1 (r ∷ [])
one_register file r is = record {
  count = refl;
  there = λ port below. there_at port below;
  unread = λ port past below. absurd (omega (arith, past, below));
}
  where
    there_at : (port : ℕ) → port < 1 → slice_index_or (r ∷ []) port 0 < length (slice_index_or (file ∷ []) port [])
    there_at zero below = is
    there_at (suc port) below = absurd (omega (arith, below))

two_registers : (f g : List ℤ) (read r s : ℕ)
    → r < length f
    → s < length g
    → 1 ≤ read
    → (read ≤ 1 → s ≡ 0)
    → AreRegisters (f ∷ g ∷ []) read (r ∷ s ∷ [])
two_registers f g read r s in_f in_g some rest = record {
  count = refl;
  there = λ port below. there_at port below;
  unread = λ port past below. unread_at port past below;
}
  where
    there_at : (port : ℕ)
        → port < 2
        → slice_index_or (r ∷ s ∷ []) port 0 < length (slice_index_or (f ∷ g ∷ []) port [])
    there_at zero below = in_f
    there_at (suc zero) below = in_g
    there_at (suc (suc port)) below = absurd (omega (arith, below))

    unread_at : (port : ℕ) → read ≤ port → port < 2 → slice_index_or (r ∷ s ∷ []) port 0 ≡ 0
    unread_at zero past below = absurd (omega (arith, past, some))
    unread_at (suc zero) past below = rest past
    unread_at (suc (suc port)) past below = absurd (omega (arith, below))

-- numbers that rise, enables and takes that do
rise_alone : (x : ℕ) → IsStrictlyIncreasing (x ∷ [])
rise_alone x k below = absurd (omega (arith, below))

rise_two : (x y : ℕ) → x < y → IsStrictlyIncreasing (x ∷ y ∷ [])
rise_two x y h zero below = h
rise_two x y h (suc k) below = absurd (omega (arith, below))

rise_three : (x y z : ℕ) → x < y → y < z → IsStrictlyIncreasing (x ∷ y ∷ z ∷ [])
rise_three x y z g h zero below = g
rise_three x y z g h (suc zero) below = h
rise_three x y z g h (suc (suc k)) below = absurd (omega (arith, below))

pairwise : {A : Type 0} (R : A → A → Type 0) (x y : A) → R x y → AllAdjacentBelow R (x ∷ y ∷ []) 2
pairwise R x y h zero d below = h
pairwise R x y h (suc k) d below = absurd (omega (arith, below))

alone : {A : Type 0} (R : A → A → Type 0) (x : A) → AllAdjacentBelow R (x ∷ []) 1
alone R x k d below = absurd (omega (arith, below))

nothing : {A : Type 0} (R : A → A → Type 0) → AllAdjacentBelow R [] 0
nothing R k d below = absurd (omega (arith, below))

word_is : (word : Word)
    → Each (IsIssue echo) word.issues
    → IsStrictlyIncreasing (map (λ issue. issue.unit) word.issues)
    → length word.enables ≤ 1024
    → Each (IsEnable echo) word.enables
    → AllAdjacentBelow EnableBefore word.enables (length word.enables)
    → length word.takes ≤ 1024
    → Each (IsTake echo) word.takes
    → AllAdjacentBelow TakeBefore word.takes (length word.takes)
    → IsWordOf echo word
word_is word issues issues_rise enable_count enables enables_rise take_count takes takes_rise = record {
  issues = All-from_Each (IsIssue echo) issues;
  issues_rise = issues_rise;
  enable_count = enable_count;
  enables = All-from_Each (IsEnable echo) enables;
  enables_rise = enables_rise;
  take_count = take_count;
  takes = All-from_Each (IsTake echo) takes;
  takes_rise = takes_rise;
}

eight_bits : IsFormat (plain 8)
eight_bits = record {
  lowest = omega (arith, ints);
  highest = omega (arith, ints);
  width = record { narrowest = omega arith; widest = omega arith };
}

enable_is : (unit bus : ℕ) → unit < 6 → bus < 2 → IsEnable echo (drive unit bus)
enable_is unit bus there there_too = record { unit = there; bus = there_too }

words_are : Each (IsWordOf echo) echo.words
words_are =
    more
    (word_is _
    (more (record { does = refl; fmt = refl; arg = omega arith; regs = no_registers })
    (more (record { does = refl; fmt = refl; arg = omega arith; regs = no_registers }) none))
    (rise_two 0 1 (omega arith)) (omega arith)
    (more (enable_is 0 0 (omega arith) (omega arith)) (more (enable_is 1 1 (omega arith) (omega arith)) none))
    (pairwise EnableBefore _ _ (inl (omega arith))) (omega arith)
    (more (record { register = omega arith; bus = omega arith })
    (more (record { register = omega arith; bus = omega arith }) none))
    (pairwise TakeBefore _ _ (inr (refl, inl (omega arith)))))
    (more
    (word_is _
    (more (record { does = refl; fmt = refl; arg = omega arith; regs = no_registers })
    (more
    (record {
      does = refl;
      fmt = refl;
      arg = refl;
      regs = two_registers _ _ 2 0 0 (omega arith) (omega arith) (omega arith) (λ h. refl);
    })
    (more (record { does = refl; fmt = refl; arg = raw 3 (omega arith); regs = no_registers }) none)))
    (rise_three 1 2 3 (omega arith) (omega arith)) (omega arith)
    (more (enable_is 1 1 (omega arith) (omega arith)) (more (enable_is 3 0 (omega arith) (omega arith)) none))
    (pairwise EnableBefore _ _ (inl (omega arith))) (omega arith)
    (more (record { register = omega arith; bus = omega arith })
    (more (record { register = omega arith; bus = omega arith }) none))
    (pairwise TakeBefore _ _ (inl (omega arith))))
    (more
    (word_is _
    (more
    (record {
      does = refl;
      fmt = refl;
      arg = refl;
      regs = two_registers _ _ 1 1 0 (omega arith) (omega arith) (omega arith) (λ h. refl);
    }) none)
    (rise_alone 2) (omega arith) none (nothing EnableBefore) (omega arith) none (nothing TakeBefore))
    (more
    (word_is _ none (λ k below. absurd (omega (arith, below))) (omega arith)
    (more (enable_is 2 0 (omega arith) (omega arith)) none) (alone EnableBefore _) (omega arith)
    (more (record { register = omega arith; bus = omega arith }) none) (alone TakeBefore _))
    (more
    (word_is _
    (more
    (record {
      does = refl;
      fmt = eight_bits;
      arg = refl;
      regs = two_registers _ _ 2 0 0 (omega arith) (omega arith) (omega arith) (λ h. refl);
    }) none)
    (rise_alone 4) (omega arith) (more (enable_is 4 0 (omega arith) (omega arith)) none) (alone EnableBefore _)
    (omega arith) (more (record { register = omega arith; bus = omega arith }) none) (alone TakeBefore _))
    (more
    (word_is _
    (more (record { does = refl; fmt = refl; arg = omega arith; regs = one_register _ 0 (omega arith) }) none)
    (rise_alone 5) (omega arith) none (nothing EnableBefore) (omega arith) none (nothing TakeBefore))
    none)))))

pub echo_is_valid : IsValid echo
echo_is_valid = record {
  period = (omega arith, omega arith);
  unroll = inl refl;
  input_count = (omega arith, omega arith);
  inputs = All-from_Each (λ width. width ≤ 40) (more (omega arith) none);
  outs = (omega arith, omega arith);
  unit_count = (omega arith, omega arith);
  units =
      All-from_Each (IsUnit echo.units)
      (more (simple_is kind.Input [] (λ is. absurd (cc)) (λ is. absurd (cc)) refl none)
      (more addresses_is
      (more memory_is
      (more (simple_is kind.Rom [] (λ is. absurd (cc)) (λ is. absurd (cc)) refl none)
      (more
      (simple_is kind.Alu _ (λ is. absurd (cc)) (λ is. absurd (cc)) refl (more one_zero (more one_zero none)))
      (more (simple_is kind.Output _ (λ is. absurd (cc)) (λ is. absurd (cc)) refl (more one_zero none)) none))))));
  buses = (omega arith, omega arith);
  word_count = refl;
  words = All-from_Each (IsWordOf echo) words_are;
}
