use Rattle.silage_syntax.specs.Tree.{view}
use Rattle.element_rules.proofs.SoundNames.{all_sized}
use Rattle.single_def.proofs.DefAnswers.{told_answer, words_fail, walk_answer}
use Rattle.single_def.proofs.check_elements.Goals as goal

pub check_words-requires-clause-sized : goal.check_words-requires-clause-sized
check_words-requires-clause-sized c = all_sized (view c.args.program.now) c.requires.clear

pub returns-in_err-check_words : goal.returns-in_err-check_words
returns-in_err-check_words c =
    let p = view c.args.program.now in
    let main = c.requires.main in
    let fault = c.in_err-check_words.field-0.0 in
    let a = told_answer p fault c.from_residual.result c.from_residual.ensures.1
    (λ n.
    words_fail p c.requires.clear c.args.names.now.main main fault
    (c.in_err-check_words.ensures main.func main.stands)) in
    record {
      ok = a.ok;
      fault = a.fault;
      elements = a.elements;
      numbering = a.numbering;
      single = a.single;
      each_ok = a.each_ok;
      each_fault = a.each_fault;
    }

pub returns : goal.returns
returns c =
    let p = view c.args.program.now in
    let main = c.requires.main in
    let a =
    walk_answer p c.requires.clear c.args.names.now.main main (c.in_ok-check_words.ensures main.func main.stands)
    c.walk_program.result c.walk_program.ensures in
    record {
      ok = a.ok;
      fault = a.fault;
      elements = a.elements;
      numbering = a.numbering;
      single = a.single;
      each_ok = a.each_ok;
      each_fault = a.each_fault;
    }
