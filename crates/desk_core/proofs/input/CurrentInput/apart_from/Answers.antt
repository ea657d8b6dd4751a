use Rattle.std.proofs.Common.{rules, ◌≡◌, sym, ◌∙◌, ap, true, false}
use Rattle.std.specs.Prelude.{bytes_eq}
use Rattle.std.proofs.lemmas.Slice.Eq.{bytes_eq-Decides}
use Rattle.desk_core.specs.Private.Inputs.{apart_from}
use Rattle.desk_core.specs.declared.input.CurrentInput.{CurrentInput}
use Rattle.desk_core.proofs.InputLemmas.{apart_same, apart_other}
use Rattle.desk_core.proofs.StoredLemmas.{name_is}
use Rattle.desk_core.proofs.input.CurrentInput.apart_from.Goals as goal

pub bounds-files-input : goal.bounds-files-input
bounds-files-input c = (c.requires c.in-File.input c.in-File.is).first.inside

pub offset_bounds-files-input : goal.offset_bounds-files-input
offset_bounds-files-input c = let inside = (c.requires c.in-File.input c.in-File.is).first.inside in search rules

pub returns-in-File : goal.returns-in-File
returns-in-File c =
    let inside = (c.requires c.in-File.input c.in-File.is).first.inside in
    let name = name_is c.args.files.now c.in-File.input.file c.index-files-input.result inside in
    let same : c.as_slice.result.now ≡ c.as_bytes.result.now =
    (bytes_eq-Decides c.as_slice.result.now c.as_bytes.result.now).0 (sym c.if-eq.ensures) in
    sym (ap (λ (i : CurrentInput). apart_from c.args.files.now i c.args.name.now) c.in-File.is
    ∙ apart_same c.args.files.now c.in-File.input c.args.name.now
    (sym name ∙ sym c.as_slice.ensures ∙ same ∙ c.as_bytes.ensures.value))

pub returns-in_default : goal.returns-in_default
returns-in_default c =
    let inside = (c.requires c.in-File.input c.in-File.is).first.inside in
    let name = name_is c.args.files.now c.in-File.input.file c.index-files-input.result inside in
    sym (ap (λ (i : CurrentInput). apart_from c.args.files.now i c.args.name.now) c.in-File.is
    ∙ apart_other c.args.files.now c.in-File.input c.args.name.now (λ e.
    let t : bytes_eq c.as_slice.result.now c.as_bytes.result.now ≡ true =
    (bytes_eq-Decides c.as_slice.result.now c.as_bytes.result.now).1
    (c.as_slice.ensures ∙ name ∙ e ∙ sym c.as_bytes.ensures.value) in
    let f : false ≡ bytes_eq c.as_slice.result.now c.as_bytes.result.now = c.if-eq.ensures in cc))
