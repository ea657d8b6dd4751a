-- y = x + 1 in a period of 3 cycles, two samples at a time: while the sum of one sample is put, the word of the next is
-- taken. In the first period there is no sample before, so its words come once. All of it is worked out by hand: what
-- the
-- words do, from which cycle on they come round, and the rows.
use Rattle.std.proofs.Common.{◌≡◌, ◌<◌, ◌≤◌, ◌-◌, ◌/◌, ◌%◌, ◌==◌, ◌∙◌, nat_le, refl, sym, ap, subst}
use Rattle.std.proofs.Common.{arith, inl, ℕ, zero, suc, true, if◌then◌else◌, List, [], ◌∷◌, ◌++◌, map}
use Rattle.std.proofs.Common.{count_by, find, Some, None, IsNone, pos, negsuc}
use Rattle.std.specs.List.{range_with_len}
use Rattle.std.specs.List.Sorted.{IsStrictlyIncreasing}
use Rattle.std.proofs.lemmas.Bool.{true≢false}
use Rattle.lists.specs.Rows.{Rows}
use Rattle.fix_word.specs.Values.{wrap_of}
use Rattle.micro_image.specs.declared.conflict.ConflictKind.TheVariants.{Busy, TwoDrivers, FileTwice, NoDriver}
use Rattle.micro_image.specs.declared.conflict.ConflictKind.TheVariants.{NoResult, Address}
use Rattle.micro_image.specs.declared.image.Enable.{Enable}
use Rattle.micro_image.specs.declared.image.Image.{Image}
use Rattle.micro_image.specs.declared.image.Issue.{Issue}
use Rattle.micro_image.specs.declared.image.Take.{Take}
use Rattle.micro_image.specs.declared.image.Word.{Word}
use Rattle.micro_image.specs.Conflict.{IsClear, IsMemory, file_of}
use Rattle.micro_image.specs.Fields.{Microprogram, nth, no_word, unit_of, delay_of, issue_at}
use Rattle.micro_image.specs.Operations.{gives}
use Rattle.micro_image.specs.Log.{Entry, Log, Result, given, value, entries_by}
use Rattle.micro_image.specs.Run.{IsRunOut}
use Rattle.micro_image.specs.Valid.{IsWordOf, IsIssue}
use Rattle.micro_image.proofs.Each.{Each, none, more, All-from_Each, Each-from_All, Each-append, Each-at}
use Rattle.micro_image.proofs.Increment.{increment, fetch, one, sum, put}
use Rattle.micro_image.proofs.IncrementValid.{increment-valid}
use Rattle.cycle_sim.specs.declared.microcode.Microcode.{Microcode}
use Rattle.cycle_sim.specs.Microcode.{micro_of, code_after, IsSound}
use Rattle.cycle_sim.proofs.ValidImage.{found_in}

-- What a word does for the samples in flight. Each thing has a stage: how many periods ago the sample began that it is
-- done for.
pub record StagedWord : Type 0 where
  pub issues : List (Issue × ℕ)
  pub enables : List (Enable × ℕ)
  pub takes : List (Take × ℕ)

-- of these, what is done in a period: nothing for a sample that would have begun before the first
abbrev pub done_in : {A : Type 0} → ℕ → List (A × ℕ) → List A
done_in period [] = []
done_in period ((x, stage) ∷ rest) = if nat_le stage period then x ∷ done_in period rest else done_in period rest

abbrev pub word_in : ℕ → StagedWord → Word
word_in period word = record {
  issues = done_in period word.issues;
  enables = done_in period word.enables;
  takes = done_in period word.takes;
}

-- the same stage for each
abbrev pub at_stage : {A : Type 0} → ℕ → List A → List (A × ℕ)
at_stage stage xs = map (λ x. (x, stage)) xs

-- what one sample does in a period, beside what the sample before it does in its second period
abbrev pub beside : Word → Word → StagedWord
beside now before = record {
  issues = at_stage 0 now.issues ++ at_stage 1 before.issues;
  enables = at_stage 0 now.enables ++ at_stage 1 before.enables;
  takes = at_stage 0 now.takes ++ at_stage 1 before.takes;
}

-- the word of a sample's cycle 3, in which the sum is put, is that of the next sample's cycle 0
abbrev pub staged : List StagedWord
staged = beside fetch put ∷ beside one no_word ∷ beside sum no_word ∷ []

-- the microprogram that obeys them
abbrev pub staged_micro : Microprogram
staged_micro = record {
  period = 3;
  units = increment.units;
  outs = 1;
  word_at = λ t. word_in (t / 3) (nth staged (t % 3) (beside no_word no_word));
}

-- the same as microcode: the words of the first period, and from the second on all that the words do
abbrev pub both : Image
both = record increment { period = 3; words = map (word_in 1) staged }

abbrev pub pipelined : Microcode
pipelined = code_after (map staged_micro.word_at (range_with_len 0 3)) both

abbrev micro : Microprogram
micro = micro_of pipelined

done_one : {A : Type 0} (stage period : ℕ) (x : A) (rest : List (A × ℕ))
    → stage ≤ period
    → done_in period ((x, stage) ∷ rest) ≡ x ∷ done_in period rest
done_one stage period x rest le =
    let begun : nat_le stage period ≡ true = grind (arith, le) in
    ap (λ b. if b then x ∷ done_in period rest else done_in period rest) begun

-- from the second period on all is done, since no stage is above 1
all_done : {A : Type 0} (period : ℕ) (now before : List A)
    → done_in (suc period) (at_stage 0 now ++ at_stage 1 before) ≡ done_in 1 (at_stage 0 now ++ at_stage 1 before)
all_done period [] [] = refl
all_done period [] (x ∷ before) =
    done_one 1 (suc period) x (at_stage 1 before) (omega arith) ∙ ap (λ xs. x ∷ xs) (all_done period [] before)
all_done period (x ∷ now) before =
    done_one 0 (suc period) x (at_stage 0 now ++ at_stage 1 before) (omega arith)
    ∙ ap (λ xs. x ∷ xs) (all_done period now before)

all_in : (period : ℕ) (now before : Word) → word_in (suc period) (beside now before) ≡ word_in 1 (beside now before)
all_in period now before =
    ap (λ issues. record {
      issues = issues;
      enables = done_in (suc period) (beside now before).enables;
      takes = done_in (suc period) (beside now before).takes;
    })
    (all_done period now.issues before.issues)
    ∙ ap (λ enables. record {
      issues = done_in 1 (beside now before).issues;
      enables = enables;
      takes = done_in (suc period) (beside now before).takes;
    })
    (all_done period now.enables before.enables)
    ∙ ap (λ takes. record {
      issues = done_in 1 (beside now before).issues;
      enables = done_in 1 (beside now before).enables;
      takes = takes;
    })
    (all_done period now.takes before.takes)

later_word : (period k : ℕ)
    → word_in (suc period) (nth staged k (beside no_word no_word)) ≡ nth both.words k no_word
later_word period zero = all_in period fetch put
later_word period (suc zero) = all_in period one no_word
later_word period (suc (suc zero)) = all_in period sum no_word
later_word period (suc (suc (suc k))) = refl

later_period : (t : ℕ) → (suc (suc (suc t))) / 3 ≡ suc (t / 3)
later_period t = omega arith

-- the microcode obeys the words with their stages, in every cycle
same_words : (t : ℕ) → micro.word_at t ≡ staged_micro.word_at t
same_words zero = refl
same_words (suc zero) = refl
same_words (suc (suc zero)) = refl
same_words (suc (suc (suc t))) =
    sym (later_word (t / 3) ((suc (suc (suc t))) % 3))
    ∙ ap (λ period. word_in period (nth staged ((suc (suc (suc t))) % 3) (beside no_word no_word)))
    (sym (later_period t))

-- a word of the image with one stage is allowed beside the other
kept_word : (word : Word) → IsWordOf increment word → IsWordOf both word
kept_word word is = record {
  issues = is.issues;
  issues_rise = is.issues_rise;
  enable_count = is.enable_count;
  enables = λ k default below.
      let enable = is.enables k default below in record { unit = enable.unit; bus = enable.bus };
  enables_rise = is.enables_rise;
  take_count = is.take_count;
  takes = λ k default below. let take = is.takes k default below in record { register = take.register; bus = take.bus };
  takes_rise = is.takes_rise;
}

one_stage : (k : ℕ) → k < 16 → IsWordOf increment (nth increment.words k no_word)
one_stage k below = increment-valid.words k no_word below

units_rise : IsStrictlyIncreasing (0 ∷ 3 ∷ [])
units_rise zero below = omega arith
units_rise (suc k) below = absurd (omega (arith, below))

valid_both : IsWordOf both (word_in 1 (beside fetch put))
valid_both =
    let now = kept_word fetch (one_stage 0 (omega arith)) in
    let before = kept_word put (one_stage 3 (omega arith)) in
    record {
      issues =
          All-from_Each (IsIssue both)
          (Each-append (Each-from_All (IsIssue both) fetch.issues now.issues)
          (Each-from_All (IsIssue both) put.issues before.issues));
      issues_rise = units_rise;
      enable_count = now.enable_count;
      enables = now.enables;
      enables_rise = now.enables_rise;
      take_count = now.take_count;
      takes = now.takes;
      takes_rise = now.takes_rise;
    }

valid_rest : Each (IsWordOf both) (one ∷ sum ∷ [])
valid_rest =
    more (kept_word one (one_stage 1 (omega arith))) (more (kept_word sum (one_stage 2 (omega arith))) none)

-- it can be loaded
pub pipelined-sound : IsSound pipelined
pipelined-sound = record {
  image = record {
    period = (omega arith, omega arith);
    unroll = inl refl;
    input_count = increment-valid.input_count;
    inputs = increment-valid.inputs;
    outs = increment-valid.outs;
    unit_count = increment-valid.unit_count;
    units = increment-valid.units;
    buses = increment-valid.buses;
    word_count = refl;
    words = All-from_Each (IsWordOf both) (more valid_both valid_rest);
  };
  prologue = All-from_Each (IsWordOf both) (more (kept_word fetch (one_stage 0 (omega arith))) valid_rest);
  few = omega arith;
}

-- nothing in a word is in conflict
record IsQuiet (word : Word) : Type 0 where
  drives : (b : ℕ) → count_by (λ enable. enable.bus == b) word.enables < 2
  fills : (file : ℕ) → count_by (λ take. file_of take == file) word.takes < 2
  driven : (b : ℕ)
      → 0 < count_by (λ take. take.bus == b) word.takes
      → 0 < count_by (λ enable. enable.bus == b) word.enables
  gives_result : (u : ℕ)
      → 0 < count_by (λ enable. enable.unit == u) word.enables
      → (issue : Issue) × (find (λ s. s.unit == u) word.issues ≡ Some issue) × (gives issue.op ≡ true)
  plain : Each (λ issue. IsMemory issue.op → ⊥) word.issues

-- with one drive of the bus, by a unit with a result, and one take
quiet_move : (issues : List Issue) (issue : Issue) (enable : Enable) (take : Take)
    → find (λ s. s.unit == enable.unit) issues ≡ Some issue
    → gives issue.op ≡ true
    → enable.bus ≡ take.bus
    → Each (λ s. IsMemory s.op → ⊥) issues
    → IsQuiet (record { issues = issues; enables = enable ∷ []; takes = take ∷ [] })
quiet_move issues issue enable take found result bus plain = record {
  drives = λ b. grind arith;
  fills = λ file. grind arith;
  driven = λ b h. grind (arith, h, bus);
  gives_result = λ u h.
      let same : enable.unit ≡ u = grind (arith, h) in
      (issue, subst (λ v. find (λ s. s.unit == v) issues ≡ Some issue) same found, result);
  plain = plain;
}

quiet_none : IsQuiet no_word
quiet_none = record {
  drives = λ b. omega arith;
  fills = λ file. omega arith;
  driven = λ b h. absurd (omega (arith, h));
  gives_result = λ u h. absurd (omega (arith, h));
  plain = none;
}

quiet_fetch : IsQuiet fetch
quiet_fetch = quiet_move _ _ _ _ refl refl refl (more (λ memory. memory) none)

quiet_one : IsQuiet one
quiet_one = quiet_move _ _ _ _ refl refl refl (more (λ memory. memory) none)

quiet_sum : IsQuiet sum
quiet_sum = quiet_move _ _ _ _ refl refl refl (more (λ memory. memory) none)

quiet_late : (k : ℕ) → IsQuiet (nth both.words k no_word)
quiet_late zero = quiet_move _ _ _ _ refl refl refl (more (λ memory. memory) (more (λ memory. memory) none))
quiet_late (suc zero) = quiet_one
quiet_late (suc (suc zero)) = quiet_sum
quiet_late (suc (suc (suc k))) = quiet_none

quiet_word : (t : ℕ) → IsQuiet (micro.word_at t)
quiet_word zero = quiet_fetch
quiet_word (suc zero) = quiet_one
quiet_word (suc (suc zero)) = quiet_sum
quiet_word (suc (suc (suc t))) = quiet_late ((suc (suc (suc t))) % 3)

-- the gap and the latency of each unit are 1
gap_is : (u : ℕ) → (unit_of micro u).gap ≡ 1
gap_is zero = refl
gap_is (suc zero) = refl
gap_is (suc (suc zero)) = refl
gap_is (suc (suc (suc zero))) = refl
gap_is (suc (suc (suc (suc u)))) = refl

latency_is : (u : ℕ) → (unit_of micro u).latency ≡ 1
latency_is zero = refl
latency_is (suc zero) = refl
latency_is (suc (suc zero)) = refl
latency_is (suc (suc (suc zero))) = refl
latency_is (suc (suc (suc (suc u)))) = refl

given_at : (z : Rows) (log : List Entry) (t u delay : ℕ)
    → delay ≡ 0
    → given micro z log (t - delay) (if nat_le delay t then issue_at micro (t - delay) u else None)
    ≡ given micro z log t (issue_at micro t u)
given_at z log t u delay is =
    let now : t - delay ≡ t = omega (arith, is) in
    let le : nat_le delay t ≡ true = grind (arith, is) in
    rw (le, now) refl

-- an issue ends in the cycle in which it begins
result_at : (z : Rows) (t u : ℕ) (issue : Issue)
    → issue_at micro t u ≡ Some issue
    → gives issue.op ≡ true
    → Result micro z u t ≡ Some (value micro z (Log micro z t) t issue)
result_at z t u issue is result =
    given_at z (Log micro z t) t u (delay_of micro u) (omega (arith, latency_is u))
    ∙ ap (given micro z (Log micro z t) t) is
    ∙ ap (λ b. if b then Some (value micro z (Log micro z t) t issue) else None) result

clear_at : (z : Rows) (t : ℕ) → IsQuiet (micro.word_at t) → IsClear micro z t
clear_at z t quiet Busy u (here, (s, before, within, there)) = absurd (omega (arith, before, within, gap_is u))
clear_at z t quiet TwoDrivers b two = absurd (omega (arith, two, quiet.drives b))
clear_at z t quiet FileTwice file two = absurd (omega (arith, two, quiet.fills file))
clear_at z t quiet NoDriver b (taken, undriven) = absurd (omega (arith, quiet.driven b taken, undriven))
clear_at z t quiet NoResult u (drives, nothing) =
    let found = quiet.gives_result u drives in
    true≢false (subst IsNone (result_at z t u found.0 found.1 found.2) nothing)
clear_at z t quiet Address u (issue, is, memory, outside) =
    Each-at quiet.plain issue (found_in (λ s. s.unit == u) (micro.word_at t).issues issue is) memory

-- 127 + 1 is -128 on 8 bits, and each sum is put a sample later; before the first there is none
pub pipelined-runs :
    IsRunOut micro ((pos 0 ∷ []) ∷ (pos 127 ∷ []) ∷ (negsuc 127 ∷ []) ∷ [])
    ((pos 0 ∷ []) ∷ (pos 1 ∷ []) ∷ (negsuc 127 ∷ []) ∷ [])
unfolding value entries_by wrap_of
pipelined-runs = record { clear = λ t below. clear_at _ t (quiet_word t); put = refl }
