use Rattle.std.proofs.Common.{◌≡◌, drop}
use Rattle.micro_file.specs.Private.Ends.{all_judged}
use Rattle.micro_file.proofs.units.judge.Given as goal

abbrev pub invariant-loop-k : goal.invariant-loop-k
invariant-loop-k g l =
    let form = g.R.Fields.form in
    all_judged form l.fn.units (drop l.k l.fn.units) (drop l.k l.fn.ends)
    ≡ all_judged form l.fn.units l.fn.units l.fn.ends
