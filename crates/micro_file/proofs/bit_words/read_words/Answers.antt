use Rattle.std.proofs.Common.{◌≡◌, ℕ, List, [], refl, sym}
use Rattle.std.proofs.lemmas.Result.{err_from_is_err_and}
use Rattle.micro_file.specs.Private.Fields.{many_at}
use Rattle.micro_file.specs.Private.PackedWords.{packed_word_at}
use Rattle.micro_file.specs.Private.Zeros.{StartsWithZeros}
use Rattle.micro_file.proofs.Flat.{flat_word}
use Rattle.micro_file.proofs.Idle.{idle_word_at}
use Rattle.micro_file.proofs.Many.{goes_on, ends, is_done}
use Rattle.micro_file.proofs.bit_words.read_words.Goals as goal
use Rattle.micro_file.proofs.bit_words.read_words.Goals.{then-passes_zeros+in_ok-push}
use Rattle.micro_file.proofs.bit_words.read_words.Goals.{else-passes_zeros+in_ok-word+in_ok-push-2}

-- no zeros are known
nothing_known : (n : ℕ) (bits : List ℕ) → n ≡ 0 → StartsWithZeros n bits
nothing_known n bits e = rw e refl

pub returns-in_err-word : goal.returns-in_err-word
returns-in_err-word c =
    let p = err_from_is_err_and c.from_residual-in_err-word.result c.from_residual-in_err-word.ensures.1 in
    rw (p.1, p.2)
    (ends (λ _. packed_word_at c.args.image.now) c.loop.words c.args.count c.loop.counter c.loop.reader
    (many_at (λ _. packed_word_at c.args.image.now) [] c.args.count c.args.reader.now) c.loop.invariant.1
    c.in_err-word.field-0.0 c.loop-test.true
    (rw (sym (c.if-passes_zeros.ensures.others refl).1)
    (rw (
      c.in_ok-flags.ensures.drives,
      c.in_ok-flags.ensures.files,
      flat_word c.args.image.now c.passes_zeros.new.reader,
    ) at c.in_err-word.ensures)))

pub loop-preserved : goal.loop-preserved
loop-preserved c =
    elim c.if-passes_zeros.branch [
      | then-passes_zeros+in_ok-push w ↦
          rw (w.reader-is, w.words-is, w.in_ok-push.ensures.ok) (
            w.if-passes_zeros.ensures.known,
            goes_on (λ _. packed_word_at c.args.image.now) c.loop.words c.args.count c.loop.counter c.loop.reader
                (many_at (λ _. packed_word_at c.args.image.now) [] c.args.count c.args.reader.now) c.loop.invariant.1
                w.empty_word.result c.passes_zeros.new.reader c.loop-test.true
                (rw (w.empty_word.ensures, w.if-passes_zeros.ensures.passed refl, c.idle_bits_of-idle.ensures)
                (idle_word_at c.args.image.now c.passes_zeros.new.reader)),
          )
      | else-passes_zeros+in_ok-word+in_ok-push-2 w ↦
          rw (w.reader-is, w.words-is, w.in_ok-push-2.ensures.ok) (
            nothing_known c.passes_zeros.new.known w.read_word.new.reader (w.if-passes_zeros.ensures.others refl).0,
            goes_on (λ _. packed_word_at c.args.image.now) c.loop.words c.args.count c.loop.counter c.loop.reader
                (many_at (λ _. packed_word_at c.args.image.now) [] c.args.count c.args.reader.now) c.loop.invariant.1
                w.in_ok-word.word w.read_word.new.reader c.loop-test.true
                (rw (sym (w.if-passes_zeros.ensures.others refl).1)
                (rw (
                  c.in_ok-flags.ensures.drives,
                  c.in_ok-flags.ensures.files,
                  flat_word c.args.image.now c.passes_zeros.new.reader,
                ) at w.in_ok-word.ensures)),
          )
    ]

pub returns : goal.returns
returns c =
    is_done (λ _. packed_word_at c.args.image.now) c.loop.words c.args.count c.loop.counter c.loop.reader
    (many_at (λ _. packed_word_at c.args.image.now) [] c.args.count c.args.reader.now) c.loop.invariant.1
    c.loop-test.false
