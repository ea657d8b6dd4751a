-- Behind the comma nothing was written.
use Rattle.std.proofs.Common.{rules, ◌+◌, ◌<◌, length, arith}
use Rattle.std.proofs.lemmas.List.{drop-set-lt}
use Rattle.std.proofs.lemmas.Slice.{overwrites}
use Rattle.sample_io.proofs.write.put_word.Goals as goal

pub returns-clause-rest : goal.returns-clause-rest
returns-clause-rest c =
    let before : c.args.at + length c.args.text.now < c.args.at + length c.args.text.now + 1 = omega arith in
    rw drop-set-lt (search (rules, overwrites))
