-- The byte goes on with the line, ends it as a row, or is the first bad place.
use Rattle.std.proofs.Common.{◌++◌, ◌∷◌, arith, subst, sym}
use Rattle.sample_io.specs.Samples.{StopsAfter}
use Rattle.sample_io.proofs.Files.{small, bad_byte, row_read, byte_read}
use Rattle.sample_io.proofs.read.Reader.step.Goals as goal

pub returns-in_default : goal.returns-in_default
returns-in_default c = λ bytes rows words h more.
    subst (StopsAfter c.args.channels.now (bytes ++ c.args.byte ∷ more) rows) (sym c.fault.ensures)
    (bad_byte c.args.channels.now c.requires.channels bytes rows words c.args.self.now h c.args.byte
    (c.in_default.ensures h.line words h.so_far) more)

pub overflow_add-self : goal.overflow_add-self
overflow_add-self c =
    let read = c.requires.reader in
    let few = small c.args.channels.now read.0 read.1 read.2 c.args.self.now read.4 in
    omega (arith, few.line, read.3)

pub returns-in-Row : goal.returns-in-Row
returns-in-Row c = λ bytes rows words h.
    row_read c.args.channels.now c.requires.channels bytes rows words c.args.self.now h c.args.byte c.in-Some.progress
    c.in-Row.field-0 c.take.new.self
    (c.in-Some.ensures h.line words h.so_far) c.in-Row.is

pub returns-in_default-progress : goal.returns-in_default-progress
returns-in_default-progress c = λ bytes rows words h.
    byte_read c.args.channels.now bytes rows words c.args.self.now h c.args.byte c.in-Some.progress c.take.new.self
    (c.in-Some.ensures h.line words h.so_far) c.in_default-progress.not-Row
