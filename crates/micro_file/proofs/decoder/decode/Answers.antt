use Rattle.std.proofs.Common.{sym, subst, ◌∙◌, arith, length}
use Rattle.micro_file.specs.declared.misread.Unread.{Unread}
use Rattle.micro_file.specs.Faults.{IsFormFault}
use Rattle.micro_file.specs.Private.File.{whole_at}
use Rattle.micro_file.specs.Private.Reads.{Fails}
use Rattle.micro_file.proofs.FileReader.{whole_spells, spelled_whole}
use Rattle.micro_file.proofs.FirstFault.{misread_fault, fault_misread, one_fault}
use Rattle.micro_file.proofs.InsideFile.{stops_inside}
use Rattle.micro_file.proofs.Readers.{ok_is, not_both}
use Rattle.micro_file.proofs.decoder.decode.Goals as goal

pub fault_at-requires-clause-inside : goal.fault_at-requires-clause-inside
fault_at-requires-clause-inside c =
    let stopped =
    subst (λ (unread : Unread). Fails unread (whole_at c.args.bytes.now)) c.in-Err-Misread.field-0-is
    c.in-Err-Misread.ensures in
    stops_inside c.args.bytes.now c.in-Err-Misread.misread stopped

pub returns-in-Ok-clause-spelled : goal.returns-in-Ok-clause-spelled
returns-in-Ok-clause-spelled c =
    whole_spells c.args.bytes.now (record { digit = λ i. omega (arith, c.type_inv.bytes i) }) c.in-Ok.image
    c.in-Ok.ensures

pub returns-in-Ok-clause-every_spelling : goal.returns-in-Ok-clause-every_spelling
returns-in-Ok-clause-every_spelling c = λ image spells.
    ok_is c.in-Ok.image image (sym c.in-Ok.ensures ∙ spelled_whole c.args.bytes.now image spells)

pub returns-in-Ok-clause-every_fault : goal.returns-in-Ok-clause-every_fault
returns-in-Ok-clause-every_fault c = λ first faulty.
    not_both (whole_at c.args.bytes.now) c.in-Ok.image faulty.misread c.in-Ok.ensures
    (fault_misread c.args.bytes.now first faulty)

pub returns-in-Err-Misread-clause-every_spelling : goal.returns-in-Err-Misread-clause-every_spelling
returns-in-Err-Misread-clause-every_spelling c = λ image spells.
    let stopped =
    subst (λ (unread : Unread). Fails unread (whole_at c.args.bytes.now)) c.in-Err-Misread.field-0-is
    c.in-Err-Misread.ensures in
    absurd (not_both (whole_at c.args.bytes.now) image c.in-Err-Misread.misread
    (spelled_whole c.args.bytes.now image spells) stopped)

pub returns-in-Err-Misread-clause-fault : goal.returns-in-Err-Misread-clause-fault
returns-in-Err-Misread-clause-fault c = λ some.
    let stopped =
    subst (λ (unread : Unread). Fails unread (whole_at c.args.bytes.now)) c.in-Err-Misread.field-0-is
    c.in-Err-Misread.ensures in
    subst (IsFormFault c.args.bytes.now) (sym c.fault_at.ensures)
    (misread_fault c.args.bytes.now c.in-Err-Misread.misread (record { digit = λ i. omega (arith, c.type_inv.bytes i) })
    stopped)

pub returns-in-Err-Misread-clause-every_fault : goal.returns-in-Err-Misread-clause-every_fault
returns-in-Err-Misread-clause-every_fault c = λ first faulty some.
    let stopped =
    subst (λ (unread : Unread). Fails unread (whole_at c.args.bytes.now)) c.in-Err-Misread.field-0-is
    c.in-Err-Misread.ensures in
    one_fault c.args.bytes.now c.fault_at.result first
    (subst (IsFormFault c.args.bytes.now) (sym c.fault_at.ensures)
    (misread_fault c.args.bytes.now c.in-Err-Misread.misread (record { digit = λ i. omega (arith, c.type_inv.bytes i) })
    stopped))
    faulty
