use Rattle.std.proofs.Common.{rules, [], w64, FitsSigned}
use Rattle.std.proofs.lemmas.Int.{to_z-of_z}
use Rattle.std.proofs.lemmas.Result.{err_from_is_err_and}
use Rattle.micro_file.specs.Private.Bits.{raw_word_at}
use Rattle.micro_file.specs.Private.Fields.{many_at}
use Rattle.micro_file.proofs.Many.{goes_on, ends, is_done}
use Rattle.micro_file.proofs.bit_fields.read_raw_words.Goals as goal

pub returns-in_err-raw_word : goal.returns-in_err-raw_word
returns-in_err-raw_word c =
    let p = err_from_is_err_and c.from_residual-in_err-raw_word.result c.from_residual-in_err-raw_word.ensures.1 in
    rw (p.1, p.2)
    (ends (λ _. raw_word_at) c.loop.raw_words c.args.count c.loop.counter c.loop.reader
    (many_at (λ _. raw_word_at) [] c.args.count c.args.reader.now) c.loop.invariant
    c.in_err-raw_word.field-0.0 c.loop-test.true c.in_err-raw_word.ensures)

pub loop-preserved : goal.loop-preserved
loop-preserved c =
    let fits : FitsSigned w64 c.in_ok-raw_word.raw_word = search rules in
    rw (c.in_ok-push.ensures.ok, to_z-of_z)
    (goes_on (λ _. raw_word_at) c.loop.raw_words c.args.count c.loop.counter c.loop.reader
    (many_at (λ _. raw_word_at) [] c.args.count c.args.reader.now) c.loop.invariant c.in_ok-raw_word.raw_word
    c.read_raw_word.new.reader c.loop-test.true c.in_ok-raw_word.ensures)

pub returns : goal.returns
returns c =
    is_done (λ _. raw_word_at) c.loop.raw_words c.args.count c.loop.counter c.loop.reader
    (many_at (λ _. raw_word_at) [] c.args.count c.args.reader.now) c.loop.invariant c.loop-test.false
