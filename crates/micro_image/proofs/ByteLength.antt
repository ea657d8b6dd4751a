-- How many bytes spell a valid image in version 1 at most, where its words have at most so many takes.
use Rattle.std.proofs.Common.{ℕ, ◌+◌, ◌*◌, ◌≤◌, length, arith}
use Rattle.std.specs.List.{All, flat_map}
use Rattle.std.proofs.lemmas.List.{length-append}
use Rattle.micro_image.specs.declared.image.Image.{Image}
use Rattle.micro_image.specs.declared.image.Issue.{Issue}
use Rattle.micro_image.specs.declared.image.Word.{Word}
use Rattle.micro_image.specs.Bytes.{two_bytes, four_bytes, eight_bytes, format_bytes, in_bytes, issue_bytes}
use Rattle.micro_image.specs.Bytes.{enable_bytes, take_bytes, word_bytes, image_bytes}
use Rattle.micro_image.specs.Form.{spelled_operation}
use Rattle.micro_image.specs.Valid.{IsIssue, IsWordOf, IsValid}
use Rattle.micro_image.proofs.Counts.{issue_count}
use Rattle.micro_image.proofs.Length.{flat_map_within, IsFew, hardware_within, hardware_most, issue_within}
use Rattle.micro_image.proofs.Length.{word_count_within}

operation_within : (i : Issue) → length i.regs ≤ 3 → length (spelled_operation in_bytes i) ≤ 15
unfolding spelled_operation format_bytes eight_bytes
operation_within i le = simp length-append (omega (arith, le))

pub few_bytes : IsFew in_bytes 4 8 15
unfolding two_bytes four_bytes eight_bytes
few_bytes = record {
  period = λ n. omega arith;
  unroll = λ n. omega arith;
  channels = λ n. omega arith;
  width = λ n. omega arith;
  units = λ n. omega arith;
  kind = λ k. omega arith;
  cycles = λ n. omega arith;
  registers = λ n. omega arith;
  cells = λ n. omega arith;
  initial = λ words.
      let all : length (flat_map eight_bytes words) ≤ length words * 8 =
      flat_map_within eight_bytes (length words) 8 words (λ k d lt. omega arith) (omega arith) in
      omega (arith, all);
  ram = λ n. omega arith;
  buses = λ n. omega arith;
  issues = operation_within;
}

issue_bytes_within : (image : Image) (i : Issue) → IsValid image → IsIssue image i → length (issue_bytes i) ≤ 16
unfolding issue_bytes
issue_bytes_within image i valid ok = omega (arith, issue_within in_bytes 4 8 15 few_bytes image i valid ok)

-- the bytes of a word: at most 32 issues, 1024 enables, and the takes
abbrev pub word_bytes_most : (takes : ℕ) → ℕ
word_bytes_most takes = 2565 + takes * 4

word_bytes_within : (takes : ℕ) (image : Image) (word : Word)
    → IsValid image
    → IsWordOf image word
    → length word.takes ≤ takes
    → length (word_bytes word) ≤ word_bytes_most takes
unfolding word_bytes two_bytes enable_bytes take_bytes
word_bytes_within most image word valid ok take_count =
    let few : length word.issues ≤ 32 =
    omega (arith, issue_count image word.issues ok.issues ok.issues_rise, valid.unit_count) in
    let issues : length (flat_map issue_bytes word.issues) ≤ 32 * 16 =
    flat_map_within issue_bytes 32 16 word.issues
    (λ k d lt. issue_bytes_within image _ valid (ok.issues k d lt)) few in
    let enables : length (flat_map enable_bytes word.enables) ≤ 1024 * 2 =
    flat_map_within enable_bytes 1024 2 word.enables (λ k d lt. omega arith) ok.enable_count in
    let takes : length (flat_map take_bytes word.takes) ≤ most * 4 =
    flat_map_within take_bytes most 4 word.takes (λ k d lt. omega arith) take_count in
    simp length-append (omega (arith, issues, enables, takes))

pub image_bytes_within : (takes : ℕ) (image : Image)
    → IsValid image
    → All (λ word. length word.takes ≤ takes) image.words
    → length (image_bytes image) ≤ hardware_most in_bytes 4 8 15 few_bytes + 16384 * word_bytes_most takes
unfolding image_bytes
image_bytes_within takes image valid few =
    let words : length (flat_map word_bytes image.words) ≤ 16384 * word_bytes_most takes =
    flat_map_within word_bytes 16384 (word_bytes_most takes) image.words
    (λ k d lt. word_bytes_within takes image _ valid (valid.words k d lt) (few k d lt))
    (word_count_within image valid) in
    simp length-append (omega (arith, hardware_within in_bytes 4 8 15 few_bytes image valid, words))
