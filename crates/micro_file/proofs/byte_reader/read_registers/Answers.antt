use Rattle.std.proofs.Common.{[]}
use Rattle.std.proofs.lemmas.Result.{err_from_is_err_and}
use Rattle.micro_file.specs.Private.Fields.{many_at}
use Rattle.micro_file.specs.Private.Bytes.{register_at}
use Rattle.micro_file.proofs.Many.{goes_on, ends, is_done}
use Rattle.micro_file.proofs.byte_reader.read_registers.Goals as goal

pub returns-in_err-reg : goal.returns-in_err-reg
returns-in_err-reg c =
    let p = err_from_is_err_and c.from_residual-in_err-reg.result c.from_residual-in_err-reg.ensures.1 in
    rw (p.1, p.2)
    (ends (register_at c.args.files.now c.args.read) c.loop.regs c.args.count c.loop.counter c.loop.reader
    (many_at (register_at c.args.files.now c.args.read) [] c.args.count c.args.reader.now) c.loop.invariant
    c.in_err-reg.field-0.0 c.loop-test.true c.in_err-reg.ensures)

pub loop-preserved : goal.loop-preserved
loop-preserved c =
    rw c.in_ok-push.ensures.ok
    (goes_on (register_at c.args.files.now c.args.read) c.loop.regs c.args.count c.loop.counter c.loop.reader
    (many_at (register_at c.args.files.now c.args.read) [] c.args.count c.args.reader.now) c.loop.invariant
    c.in_ok-reg.reg c.read_register.new.reader c.loop-test.true c.in_ok-reg.ensures)

pub returns : goal.returns
returns c =
    is_done (register_at c.args.files.now c.args.read) c.loop.regs c.args.count c.loop.counter c.loop.reader
    (many_at (register_at c.args.files.now c.args.read) [] c.args.count c.args.reader.now) c.loop.invariant
    c.loop-test.false
