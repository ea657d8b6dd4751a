use Rattle.std.proofs.Common.{◌≡◌, ◌-◌, ◌++◌, []}
use Rattle.micro_file.specs.Private.Fields.{many_at}
use Rattle.micro_file.specs.Private.Units.{unit_at}
use Rattle.micro_file.specs.Private.Ends.{ends_of, HaveRoom}
use Rattle.micro_file.proofs.units.read_several.Given as goal

abbrev pub invariant-loop : goal.invariant-loop
invariant-loop g l =
    let form = g.R.Fields.form in
    let rest = g.R.Fields.rest in
    (many_at (λ _. unit_at form) l.units (l.count - l.counter) (rest l.reader)
    ≡ many_at (λ _. unit_at form) [] l.count (rest l.fn.reader))
    × (l.ends ++ ends_of form (l.count - l.counter) (rest l.reader)
    ≡ l.fn.ends ++ ends_of form l.count (rest l.fn.reader))
    × HaveRoom form l.ends
