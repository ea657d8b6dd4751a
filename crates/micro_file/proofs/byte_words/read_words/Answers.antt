use Rattle.std.proofs.Common.{[], refl, sym}
use Rattle.std.proofs.lemmas.Result.{err_from_is_err_and}
use Rattle.micro_file.specs.Private.Fields.{many_at}
use Rattle.micro_file.specs.Private.Words.{word_at}
use Rattle.micro_file.proofs.EmptyWord.{empty_word_at}
use Rattle.micro_file.proofs.Many.{goes_on, ends, is_done}
use Rattle.micro_file.proofs.byte_words.read_words.Goals as goal
use Rattle.micro_file.proofs.byte_words.read_words.Goals.{then-passes_empty_word+in_ok-push}
use Rattle.micro_file.proofs.byte_words.read_words.Goals.{else-passes_empty_word+in_ok-word+in_ok-push-2}

pub returns-in_err-word : goal.returns-in_err-word
returns-in_err-word c =
    let p = err_from_is_err_and c.from_residual-in_err-word.result c.from_residual-in_err-word.ensures.1 in
    rw (p.1, p.2)
    (ends (λ _. word_at c.args.image.now) c.loop.words c.args.count c.loop.counter c.loop.reader
    (many_at (λ _. word_at c.args.image.now) [] c.args.count c.args.reader.now) c.loop.invariant
    c.in_err-word.field-0.0 c.loop-test.true
    (rw (sym (c.if-passes_empty_word.ensures.others refl)) c.in_err-word.ensures))

pub loop-preserved : goal.loop-preserved
loop-preserved c =
    elim c.if-passes_empty_word.branch [
      | then-passes_empty_word+in_ok-push w ↦
          rw (w.reader-is, w.words-is, w.in_ok-push.ensures.ok)
          (goes_on (λ _. word_at c.args.image.now) c.loop.words c.args.count c.loop.counter c.loop.reader
          (many_at (λ _. word_at c.args.image.now) [] c.args.count c.args.reader.now) c.loop.invariant
          w.empty_word.result c.passes_empty_word.new.self c.loop-test.true
          (rw (w.empty_word.ensures, w.if-passes_empty_word.ensures.passed refl)
          (empty_word_at c.args.image.now c.passes_empty_word.new.self)))
      | else-passes_empty_word+in_ok-word+in_ok-push-2 w ↦
          rw (w.reader-is, w.words-is, w.in_ok-push-2.ensures.ok)
          (goes_on (λ _. word_at c.args.image.now) c.loop.words c.args.count c.loop.counter c.loop.reader
          (many_at (λ _. word_at c.args.image.now) [] c.args.count c.args.reader.now) c.loop.invariant
          w.in_ok-word.word w.read_word.new.reader c.loop-test.true
          (rw (sym (w.if-passes_empty_word.ensures.others refl)) w.in_ok-word.ensures))
    ]

pub returns : goal.returns
returns c =
    is_done (λ _. word_at c.args.image.now) c.loop.words c.args.count c.loop.counter c.loop.reader
    (many_at (λ _. word_at c.args.image.now) [] c.args.count c.args.reader.now) c.loop.invariant c.loop-test.false
