use Rattle.std.proofs.Common.{◌≡◌, ◌-◌, []}
use Rattle.micro_file.specs.Private.Fields.{many_at}
use Rattle.micro_file.specs.Private.Units.{file_at}
use Rattle.micro_file.proofs.units.read_files.Given as goal

abbrev pub invariant-loop : goal.invariant-loop
invariant-loop g l =
    let form = g.R.Fields.form in
    let rest = g.R.Fields.rest in
    many_at (λ _. file_at form) l.files (l.count - l.counter) (rest l.reader)
    ≡ many_at (λ _. file_at form) [] l.count (rest l.fn.reader)
