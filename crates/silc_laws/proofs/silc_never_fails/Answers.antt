use Rattle.std.proofs.Common.{sym, ◌∙◌}
use Rattle.silc_laws.proofs.Faults.{none_risen}
use Rattle.silc_laws.proofs.silc_never_fails.Goals as goal

pub returns-clause-never : goal.returns-clause-never
returns-clause-never c = λ fault.
    let command = c.silc_fails.ensures.words.0 (λ words. let e = sym words ∙ fault in cc) in
    none_risen command.0 c.args.desk.now c.silc_fails.new.desk (c.silc_fails.ensures.fault fault command.0 command.1)
