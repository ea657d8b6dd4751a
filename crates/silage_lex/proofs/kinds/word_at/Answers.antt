use Rattle.std.proofs.Common.{sym}
use Rattle.silage_lex.specs.Texts.{reserved_words}
use Rattle.silage_lex.proofs.Longest.{word_span}
use Rattle.silage_lex.proofs.Positions.{listed, not_listed}
use Rattle.silage_lex.proofs.kinds.word_at.Goals as goal

pub returns-in-Some : goal.returns-in-Some
returns-in-Some c =
    let e = c.word_end-to.ensures in
    let span =
    word_span c.args.src.now c.args.at c.word_end-to.result e.within.0 e.within.1 c.requires.letter e.run e.end in
    record {
      rises = span.rises;
      within = e.within.1;
      text = listed reserved_words _ c.in-Some.n (sym c.in-Some.ensures);
      longest = span.longest;
      ends = tt;
    }

pub returns-in_ok-from_slice-in-None : goal.returns-in_ok-from_slice-in-None
returns-in_ok-from_slice-in-None c =
    let e = c.word_end-to.ensures in
    let span =
    word_span c.args.src.now c.args.at c.word_end-to.result e.within.0 e.within.1 c.requires.letter e.run e.end in
    record {
      rises = span.rises;
      within = e.within.1;
      text = record {
        same = c.in_ok-from_slice-in-None.ensures;
        word = span.word;
        free = not_listed reserved_words _ (sym c.in-None.ensures);
      };
      longest = span.longest;
      ends = tt;
    }
