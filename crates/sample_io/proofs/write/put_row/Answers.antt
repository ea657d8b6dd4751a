-- Each turn writes a word and a comma; behind the loop the last comma gives way to LF.
use Rattle.std.proofs.Common.{rules, ◌≡◌, ◌<◌, ◌≤◌, ◌+◌, ◌-◌, List, [], ◌∷◌, ◌++◌, length, take, drop, map, arith, ◌∙◌}
use Rattle.std.proofs.Common.{ap, sym, subst, get_or, ℤ, FitsSigned, w64, pos, ℕ, slice_set}
use Rattle.std.specs.Fmt.{signed_decimal}
use Rattle.std.specs.List.{join_with_byte, flat_map}
use Rattle.std.proofs.lemmas.Int.{to_z-of_z}
use Rattle.std.proofs.lemmas.List.{drop-set-lt, length-take-le, length-set, length-append, take_all}
use Rattle.sample_io.specs.Samples.{printed_row}
use Rattle.sample_io.proofs.Printing.{printed_word, written_more, last_replaced, flat_map-join, same_further}
use Rattle.sample_io.proofs.write.put_row.Goals as goal

pub loop-word-preserved : goal.loop-word-preserved
loop-word-preserved c =
    let fits : FitsSigned w64 (get_or c.args.words.now c.loop-word.word-index (pos 0)) = search rules in
    let end = c.loop-word.end in
    let more = length c.format-text.result.now + 1 in
    let put = c.loop-word.put in
    let further = λ (n : ℕ). drop n put ≡ drop n c.args.put.now in
    let is_end : end + more ≡ c.put_word-end.result = omega (arith, c.put_word-end.ensures.end) in
    record {
      room = omega (arith, c.put_word-end.ensures.end, c.format-text.ensures.fits, c.loop-word.invariant.room);
      written =
          c.put_word-end.ensures.front
          ∙ written_more c.args.words.now c.loop-word.word-index (pos 0) (take end put) c.format-text.result.now
          c.loop-word-test.true c.loop-word.invariant.written
          (c.format-text.ensures.text ∙ ap signed_decimal (to_z-of_z w64 _ fits));
      rest =
          c.put_word-end.ensures.rest
          ∙ subst further is_end (same_further end more put c.args.put.now c.loop-word.invariant.rest);
    }

-- what the loop has written, when it ends: the row, and a comma for LF
record IsWritten (words : List ℤ) (put : List ℕ) (end : ℕ) : Type 0 where
  some : 1 ≤ end
  line : take end (slice_set put (end - 1) 10) ≡ printed_row words
  size : end ≡ length (printed_row words)

written : (words : List ℤ) (put : List ℕ) (end : ℕ)
    → 0 < length words
    → end ≤ length put
    → take end put ≡ flat_map printed_word words
    → IsWritten words put end
written [] put end some within e = absurd (omega arith)
written (word ∷ words) put end some within e =
    let commas : take end put ≡ join_with_byte 44 (map signed_decimal (word ∷ words)) ++ 44 ∷ [] =
    e ∙ flat_map-join word words in
    let line : take end (slice_set put (end - 1) 10) ≡ printed_row (word ∷ words) =
    last_replaced put _ end within commas in
    let size : end ≡ length (printed_row (word ∷ words)) =
    sym (length-take-le end (slice_set put (end - 1) 10) (omega (arith, length-set put (end - 1) 10)))
    ∙ ap length line in
    record {
      some = omega (arith, size, length-append (join_with_byte 44 (map signed_decimal (word ∷ words))) (10 ∷ []));
      line = line;
      size = size;
    }

at_end : (words : List ℤ) (put : List ℕ) (end i : ℕ)
    → 0 < length words
    → end ≤ length put
    → length words ≤ i
    → take end put ≡ flat_map printed_word (take i words)
    → IsWritten words put end
at_end words put end i some within all e =
    written words put end some within (e ∙ ap (flat_map printed_word) (take_all i words all))

pub overflow_sub-put : goal.overflow_sub-put
overflow_sub-put c =
    (at_end c.args.words.now c.loop-word.put c.loop-word.end c.loop-word.word-index c.requires.some (omega arith)
    c.loop-word-test.false c.loop-word.invariant.written).some

pub returns-clause-line : goal.returns-clause-line
returns-clause-line c =
    (at_end c.args.words.now c.loop-word.put c.loop-word.end c.loop-word.word-index c.requires.some (omega arith)
    c.loop-word-test.false c.loop-word.invariant.written).line

pub returns-clause-size : goal.returns-clause-size
returns-clause-size c =
    (at_end c.args.words.now c.loop-word.put c.loop-word.end c.loop-word.word-index c.requires.some (omega arith)
    c.loop-word-test.false c.loop-word.invariant.written).size

pub returns-clause-rest : goal.returns-clause-rest
returns-clause-rest c =
    let before : c.loop-word.end - 1 < c.loop-word.end =
    let some =
    (at_end c.args.words.now c.loop-word.put c.loop-word.end c.loop-word.word-index c.requires.some (omega arith)
    c.loop-word-test.false c.loop-word.invariant.written).some in
    omega (arith, some) in
    rw drop-set-lt c.loop-word.invariant.rest
