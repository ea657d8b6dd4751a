use Rattle.std.proofs.Common.{◌≡◌, ◌∙◌, [], ap, length}
use Rattle.std.proofs.lemmas.Result.{err_from_is_err_and}
use Rattle.micro_image.specs.Fields.{nth}
use Rattle.micro_file.specs.Private.Bits.{register_at}
use Rattle.micro_file.specs.Private.Fields.{many_at}
use Rattle.micro_file.proofs.Many.{goes_on, ends, is_done}
use Rattle.micro_file.proofs.bit_fields.read_some_registers.Goals as goal

pub returns-in_err-reg : goal.returns-in_err-reg
returns-in_err-reg c =
    let p = err_from_is_err_and c.from_residual-in_err-reg.result c.from_residual-in_err-reg.ensures.1 in
    let limit : c.registers_at.result ≡ length (nth c.args.files.now (length c.loop.regs) []) =
    c.registers_at.ensures ∙ ap (λ port. length (nth c.args.files.now port [])) c.len-in-loop.ensures in
    rw (p.1, p.2)
    (ends (register_at c.args.files.now) c.loop.regs c.args.read c.loop.counter c.loop.reader
    (many_at (register_at c.args.files.now) [] c.args.read c.args.reader.now) c.loop.invariant
    c.in_err-reg.field-0.0 c.loop-test.true (rw limit at c.in_err-reg.ensures.reads))

pub loop-preserved : goal.loop-preserved
loop-preserved c =
    let limit : c.registers_at.result ≡ length (nth c.args.files.now (length c.loop.regs) []) =
    c.registers_at.ensures ∙ ap (λ port. length (nth c.args.files.now port [])) c.len-in-loop.ensures in
    rw c.in_ok-push.ensures.ok
    (goes_on (register_at c.args.files.now) c.loop.regs c.args.read c.loop.counter c.loop.reader
    (many_at (register_at c.args.files.now) [] c.args.read c.args.reader.now) c.loop.invariant c.in_ok-reg.reg
    c.number_under.new.reader c.loop-test.true (rw limit at c.in_ok-reg.ensures.reads))

pub returns : goal.returns
returns c =
    is_done (register_at c.args.files.now) c.loop.regs c.args.read c.loop.counter c.loop.reader
    (many_at (register_at c.args.files.now) [] c.args.read c.args.reader.now) c.loop.invariant c.loop-test.false
