use Rattle.std.proofs.Common.{◌≡◌, ◌-◌, []}
use Rattle.micro_file.specs.Private.Fields.{many_at}
use Rattle.micro_file.proofs.byte_transfers.read_several.Given as goal

abbrev pub invariant-loop : goal.invariant-loop
invariant-loop g l =
    let one = g.T.Transfer.one l.image in
    many_at one l.transfers (l.count - l.counter) l.reader ≡ many_at one [] l.count l.fn.reader
