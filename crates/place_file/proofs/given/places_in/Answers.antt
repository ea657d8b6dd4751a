use Rattle.std.proofs.Common.{◌≡◌, Err, arith, rules, subst, sym}
use Rattle.place_file.specs.Private.Entries.{AreKeys}
use Rattle.place_file.proofs.Words.{lines_few}
use Rattle.place_file.proofs.Reading.{entries_few}
use Rattle.place_file.proofs.Told.{bad_why, fails_found, fails_refused, told_given, told_fault, told_found}
use Rattle.place_file.proofs.Told.{told_refused}
use Rattle.place_file.proofs.given.places_in.Goals as goal

pub returns-in_err-entries-clause-found : goal.returns-in_err-entries-clause-found
returns-in_err-entries-clause-found c =
    let f = c.in_err-entries.field-0.0 in
    let is : c.from_residual.result ≡ Err f = search rules in
    fails_found c.args.datapath.now c.args.text.now c.requires.datapath c.from_residual.result f is
    (bad_why c.args.datapath.now c.args.text.now c.requires.datapath f c.in_err-entries.ensures.fault)

pub returns-in_err-entries-clause-refused : goal.returns-in_err-entries-clause-refused
returns-in_err-entries-clause-refused c =
    let f = c.in_err-entries.field-0.0 in
    let is : c.from_residual.result ≡ Err f = search rules in
    fails_refused c.args.datapath.now c.args.text.now c.requires.datapath c.from_residual.result f is
    (bad_why c.args.datapath.now c.args.text.now c.requires.datapath f c.in_err-entries.ensures.fault)

pub keys_of-requires : goal.keys_of-requires
keys_of-requires c =
    let few =
    entries_few c.args.datapath.now c.args.text.now _ c.in_ok-entries.entries c.in_ok-entries.ensures.entries in
    omega (arith, few, lines_few c.args.text.now, c.requires.short)

pub returns-clause-given : goal.returns-clause-given
returns-clause-given c =
    told_given c.args.datapath.now c.args.text.now c.requires.datapath c.in_ok-entries.entries c.as_slice.result.now
    c.in_ok-entries.ensures.entries
    (subst (AreKeys c.in_ok-entries.entries) (sym c.as_slice.ensures.value) c.in_ok-keys.ensures.keys)
    c.given_of.result c.given_of.ensures.given

pub returns-clause-fault : goal.returns-clause-fault
returns-clause-fault c =
    told_fault c.args.datapath.now c.args.text.now c.requires.datapath c.in_ok-entries.entries c.as_slice.result.now
    c.in_ok-entries.ensures.entries
    (subst (AreKeys c.in_ok-entries.entries) (sym c.as_slice.ensures.value) c.in_ok-keys.ensures.keys)
    c.given_of.result c.given_of.ensures.fault

pub returns-clause-found : goal.returns-clause-found
returns-clause-found c =
    told_found c.args.datapath.now c.args.text.now c.requires.datapath c.in_ok-entries.entries c.as_slice.result.now
    c.in_ok-entries.ensures.entries
    (subst (AreKeys c.in_ok-entries.entries) (sym c.as_slice.ensures.value) c.in_ok-keys.ensures.keys)
    c.given_of.result c.given_of.ensures.given c.given_of.ensures.fault

pub returns-clause-refused : goal.returns-clause-refused
returns-clause-refused c =
    told_refused c.args.datapath.now c.args.text.now c.requires.datapath c.in_ok-entries.entries c.as_slice.result.now
    c.in_ok-entries.ensures.entries
    (subst (AreKeys c.in_ok-entries.entries) (sym c.as_slice.ensures.value) c.in_ok-keys.ensures.keys)
    c.given_of.result c.given_of.ensures.given c.given_of.ensures.fault
