use Rattle.std.proofs.Common.{[]}
use Rattle.std.proofs.lemmas.Result.{err_from_is_err_and}
use Rattle.micro_file.specs.Private.Fields.{many_at}
use Rattle.micro_file.proofs.Many.{goes_on, ends, is_done}
use Rattle.micro_file.proofs.byte_transfers.read_several.Goals as goal

pub returns-in_err-transfer : goal.returns-in_err-transfer
returns-in_err-transfer g c =
    let one = g.T.Transfer.one c.args.image.now in
    let p = err_from_is_err_and c.from_residual-in_err-transfer.result c.from_residual-in_err-transfer.ensures.1 in
    rw (p.1, p.2)
    (ends one c.loop.transfers c.args.count c.loop.counter c.loop.reader
    (many_at one [] c.args.count c.args.reader.now) c.loop.invariant c.in_err-transfer.field-0.0 c.loop-test.true
    (rw c.as_slice.ensures at c.in_err-transfer.ensures))

pub loop-preserved : goal.loop-preserved
loop-preserved g c =
    let one = g.T.Transfer.one c.args.image.now in
    rw c.in_ok-push.ensures.ok
    (goes_on one c.loop.transfers c.args.count c.loop.counter c.loop.reader
    (many_at one [] c.args.count c.args.reader.now) c.loop.invariant c.in_ok-transfer.transfer c.read.new.reader
    c.loop-test.true (rw c.as_slice.ensures at c.in_ok-transfer.ensures))

pub returns : goal.returns
returns g c =
    let one = g.T.Transfer.one c.args.image.now in
    is_done one c.loop.transfers c.args.count c.loop.counter c.loop.reader
    (many_at one [] c.args.count c.args.reader.now) c.loop.invariant c.loop-test.false
