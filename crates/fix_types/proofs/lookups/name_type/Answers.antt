use Rattle.std.proofs.Common.{◌∙◌, Some}
use Rattle.fix_types.specs.Private.Scopes.{program_of, function_of}
use Rattle.fix_types.proofs.NameTypes.{signal_found, table_found, found_sound}
use Rattle.fix_types.proofs.lookups.name_type.Goals as goal

pub returns-in-Some-clause-sound : goal.returns-in-Some-clause-sound
returns-in-Some-clause-sound c =
    let scope = c.args.scope.now in
    let p = program_of scope in
    let f = function_of scope in
    found_sound p f c.args.name.now scope.sound c.in-Some.ty
    (signal_found p f c.args.name.now c.get.result c.in-Some.ty (c.get.ensures ∙ scope.declared c.args.name.now)
    c.in-Some.is)

pub returns-in_ok-table-in-None-clause-sound : goal.returns-in_ok-table-in-None-clause-sound
returns-in_ok-table-in-None-clause-sound c =
    let scope = c.args.scope.now in
    let p = program_of scope in
    let f = function_of scope in
    found_sound p f c.args.name.now scope.sound _
    (table_found p f c.args.name.now c.get.result (Some c.in_ok-table-in-None.field-0.now)
    (c.get.ensures ∙ scope.declared c.args.name.now) c.in-None.is
    c.in_ok-table-in-None.ensures)
