-- The image of y = x + 1 is valid, and its bytes spell it.
use Rattle.std.proofs.Common.{◌≡◌, ◌≢◌, ◌<◌, ◌≤◌, refl, sym, ap, ◌∙◌, arith, ℕ, List, [], ◌∷◌, length, replicate, ℤ}
use Rattle.std.proofs.Common.{pos, inl}
use Rattle.std.proofs.lemmas.List.Elements.{All-replicate}
use Rattle.std.proofs.lemmas.Int.{ints}
use Rattle.std.proofs.lemmas.List.{get_or-replicate, length-map, length-replicate}
use Rattle.std.specs.List.{All}
use Rattle.fix_word.specs.Words.{IsMachineWord, IsFormat}
use Rattle.fix_word.specs.declared.types.Mode.TheVariants.{Trunc}
use Rattle.operations.specs.declared.units.Kind.{Kind}
use Rattle.operations.specs.declared.units.Kind.TheVariants as kind
use Rattle.micro_image.specs.declared.image.Enable.{Enable}
use Rattle.micro_image.specs.declared.image.Issue.{Issue}
use Rattle.micro_image.specs.declared.image.Take.{Take}
use Rattle.micro_image.specs.Fields.{no_word, nth}
use Rattle.micro_image.specs.Valid.{ports, IsValid, IsUnit, IsFile, IsWordOf, IsIssue, IsEnable, IsTake, AreRegisters}
use Rattle.micro_image.specs.Spells.{SpellsIn}
use Rattle.micro_image.specs.declared.version.Version.TheVariants.{One}
use Rattle.micro_image.proofs.Each.{Each, none, more, All-from_Each, Each-from_All}
use Rattle.micro_image.proofs.Increment.{increment, fetch, one, sum, put, plain_unit, zeros}
use Rattle.micro_image.proofs.IncrementFile.{increment_bytes, increment-spelling}

zero_word : IsMachineWord (pos 0)
zero_word = record { low = omega (arith, ints); high = omega (arith, ints) }

one_word : IsMachineWord (pos 1)
one_word = record { low = omega (arith, ints); high = omega (arith, ints) }

file_of_zeros : (size : ℕ) → 1 ≤ size → size ≤ 256 → IsFile (zeros size)
file_of_zeros size low high = record {
  size = (omega (arith, low, length-replicate size (pos 0)), omega (arith, high, length-replicate size (pos 0)));
  words = All-replicate IsMachineWord size (pos 0) zero_word;
}

-- a unit that is no memory
valid_unit : (k : Kind) (files : List (List ℤ))
    → k ≢ kind.Ram
    → k ≢ kind.Acu
    → length files ≡ ports k
    → Each IsFile files
    → IsUnit increment.units (plain_unit k files)
valid_unit k files no_ram no_acu count each = record {
  latency = (omega arith, omega arith);
  gap = (omega arith, omega arith);
  file_count = count;
  files = All-from_Each IsFile each;
  cells = All-from_Each IsMachineWord none;
  cell_count = λ is. absurd (no_ram is);
  no_cells = λ other. refl;
  ram = λ is. absurd (no_acu is);
  no_ram = λ other. refl;
}

valid_units : All (IsUnit increment.units) increment.units
valid_units =
    All-from_Each (IsUnit increment.units)
    (more (valid_unit kind.Input [] (λ is. absurd (cc)) (λ is. absurd (cc)) refl none)
    (more (valid_unit kind.Rom [] (λ is. absurd (cc)) (λ is. absurd (cc)) refl none)
    (more (valid_unit kind.Alu (zeros 8 ∷ zeros 8 ∷ []) (λ is. absurd (cc)) (λ is. absurd (cc)) refl
    (more (file_of_zeros 8 (omega arith) (omega arith)) (more (file_of_zeros 8 (omega arith) (omega arith)) none)))
    (more (valid_unit kind.Output (zeros 2 ∷ []) (λ is. absurd (cc)) (λ is. absurd (cc)) refl
    (more (file_of_zeros 2 (omega arith) (omega arith)) none))
    none))))

-- the first register of each port, all of which are read
first_registers : (count size : ℕ) → 0 < size → AreRegisters (replicate count (zeros size)) count (replicate count 0)
first_registers count size some = record {
  count = length-replicate {A = ℕ} count 0 ∙ sym (length-replicate count (zeros size));
  there = λ port below. there_at port (omega (arith, below, length-replicate count (zeros size)));
  unread = λ port unread below. absurd (omega (arith, unread, below, length-replicate count (zeros size)));
}
  where
    there_at : (port : ℕ)
        → port < count
        → nth (replicate count 0) port 0 < length (nth (replicate count (zeros size)) port [])
    there_at port below =
        omega (
          arith,
          some,
          get_or-replicate {A = ℕ} count port 0 0 below,
          length-replicate size (pos 0),
          ap length (get_or-replicate count port (zeros size) [] below),
        )

plain_format : IsFormat (record { shift = pos 0; mode = Trunc; width = 8 })
plain_format = record {
  lowest = omega (arith, ints);
  highest = omega (arith, ints);
  width = record { narrowest = omega arith; widest = omega arith };
}

-- a word that has at most one issue, one drive and one take, so that none has another before it
short_word : (issues : List Issue) (enables : List Enable) (takes : List Take)
    → length issues ≤ 1
    → Each (IsIssue increment) issues
    → length enables ≤ 1
    → Each (IsEnable increment) enables
    → length takes ≤ 1
    → Each (IsTake increment) takes
    → IsWordOf increment (record { issues = issues; enables = enables; takes = takes })
short_word issues enables takes one_issue are_issues one_enable are_enables one_take are_takes = record {
  issues = All-from_Each (IsIssue increment) are_issues;
  issues_rise = λ k below. absurd (omega (arith, below, one_issue, length-map issues (λ issue. issue.unit)));
  enable_count = omega (arith, one_enable);
  enables = All-from_Each (IsEnable increment) are_enables;
  enables_rise = λ k d below. absurd (omega (arith, below, one_enable));
  take_count = omega (arith, one_take);
  takes = All-from_Each (IsTake increment) are_takes;
  takes_rise = λ k d below. absurd (omega (arith, below, one_take));
}

-- a word with one issue, whose result goes over the bus to a register
moving_word : (issue : Issue) (enable : Enable) (take : Take)
    → IsIssue increment issue
    → IsEnable increment enable
    → IsTake increment take
    → IsWordOf increment (record { issues = issue ∷ []; enables = enable ∷ []; takes = take ∷ [] })
moving_word issue enable take is_issue is_enable is_take =
    short_word (issue ∷ []) (enable ∷ []) (take ∷ []) (omega arith) (more is_issue none) (omega arith)
    (more is_enable none) (omega arith) (more is_take none)

valid_fetch : IsWordOf increment fetch
valid_fetch =
    moving_word _ _ _ (record { does = refl; fmt = refl; arg = omega arith; regs = first_registers 0 1 (omega arith) })
    (record { unit = omega arith; bus = omega arith }) (record { register = omega arith; bus = omega arith })

valid_one : IsWordOf increment one
valid_one =
    moving_word _ _ _ (record { does = refl; fmt = refl; arg = one_word; regs = first_registers 0 1 (omega arith) })
    (record { unit = omega arith; bus = omega arith }) (record { register = omega arith; bus = omega arith })

valid_sum : IsWordOf increment sum
valid_sum =
    moving_word _ _ _ (record { does = refl; fmt = plain_format; arg = refl; regs = first_registers 2 8 (omega arith) })
    (record { unit = omega arith; bus = omega arith }) (record { register = omega arith; bus = omega arith })

valid_put : IsWordOf increment put
valid_put =
    short_word _ [] [] (omega arith)
    (more (record { does = refl; fmt = refl; arg = omega arith; regs = first_registers 1 2 (omega arith) }) none)
    (omega arith) none (omega arith) none

valid_empty : IsWordOf increment no_word
valid_empty = short_word [] [] [] (omega arith) none (omega arith) none (omega arith) none

-- each field of the image is allowed
pub increment-valid : IsValid increment
increment-valid = record {
  period = (omega arith, omega arith);
  unroll = inl refl;
  input_count = (omega arith, omega arith);
  inputs = All-from_Each (λ width. width ≤ 40) (more (omega arith) none);
  outs = (omega arith, omega arith);
  unit_count = (omega arith, omega arith);
  units = valid_units;
  buses = (omega arith, omega arith);
  word_count = refl;
  words =
      All-from_Each (IsWordOf increment)
      (more valid_fetch
      (more valid_one
      (more valid_sum
      (more valid_put
      (Each-from_All (IsWordOf increment) (replicate 12 no_word)
      (All-replicate (IsWordOf increment) 12 no_word valid_empty))))));
}

-- the 328 bytes spell the image
pub increment-spelled : SpellsIn One increment_bytes increment
increment-spelled = record { valid = increment-valid; spelled = sym increment-spelling }
