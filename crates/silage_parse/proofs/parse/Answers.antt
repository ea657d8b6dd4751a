use Rattle.std.proofs.Common.{subst, List}
use Rattle.silage_lex.specs.declared.Token.{Token}
use Rattle.silage_parse.specs.Private.Parsed.{IsRun}
use Rattle.silage_parse.proofs.Answers.{answers_program, answers_fault, answers_each_program, answers_each_fault}
use Rattle.silage_parse.proofs.parse.Goals as goal

pub returns-clause-program : goal.returns-clause-program
returns-clause-program c =
    answers_program c.args.tokens.now c.program.result
    (subst (λ (ts : List Token). IsRun ts c.program.result) c.as_slice.ensures c.program.ensures)

pub returns-clause-fault : goal.returns-clause-fault
returns-clause-fault c =
    answers_fault c.args.tokens.now c.program.result
    (subst (λ (ts : List Token). IsRun ts c.program.result) c.as_slice.ensures c.program.ensures)

pub returns-clause-each_program : goal.returns-clause-each_program
returns-clause-each_program c =
    answers_each_program c.args.tokens.now c.program.result
    (subst (λ (ts : List Token). IsRun ts c.program.result) c.as_slice.ensures c.program.ensures)

pub returns-clause-each_fault : goal.returns-clause-each_fault
returns-clause-each_fault c =
    answers_each_fault c.args.tokens.now c.program.result
    (subst (λ (ts : List Token). IsRun ts c.program.result) c.as_slice.ensures c.program.ensures)
