use Rattle.std.proofs.Common.{arith, ◌≡◌, sym, ◌∙◌, ap, ◌<◌, length, below_more, true, false}
use Rattle.std.specs.Prelude.{bytes_eq}
use Rattle.std.proofs.lemmas.Slice.Eq.{bytes_eq-Decides}
use Rattle.desk_core.specs.Stored.{name_at}
use Rattle.desk_core.specs.declared.stored.Stored.{Stored}
use Rattle.desk_core.proofs.StoredLemmas.{name_is, lookup_none}
use Rattle.desk_core.proofs.stored.find.Goals as goal

pub returns-then-eq : goal.returns-then-eq
returns-then-eq c =
    let inside : c.loop-i.i < length c.args.files.now = omega arith in
    let name : c.index-files-i.result.name ≡ name_at c.args.files.now c.loop-i.i =
    ap (λ (f : Stored). f.name) c.index-files-i.is
    ∙ name_is c.args.files.now c.loop-i.i c.index-files-i.result inside in
    let same : c.as_slice.result.now ≡ c.as_bytes.result.now =
    (bytes_eq-Decides c.as_slice.result.now c.as_bytes.result.now).0 (sym c.if-eq.ensures) in
    record {
      inside = inside;
      named = sym name ∙ sym c.as_slice.ensures ∙ same ∙ c.as_bytes.ensures.value;
      first = c.loop-i.invariant;
    }

pub loop-i-preserved : goal.loop-i-preserved
loop-i-preserved c =
    let inside : c.loop-i.i < length c.args.files.now = omega arith in
    let name : c.index-files-i.result.name ≡ name_at c.args.files.now c.loop-i.i =
    ap (λ (f : Stored). f.name) c.index-files-i.is
    ∙ name_is c.args.files.now c.loop-i.i c.index-files-i.result inside in
    below_more _ _ c.loop-i.invariant (λ e.
    let t : bytes_eq c.as_slice.result.now c.as_bytes.result.now ≡ true =
    (bytes_eq-Decides c.as_slice.result.now c.as_bytes.result.now).1
    (c.as_slice.ensures ∙ name ∙ e ∙ sym c.as_bytes.ensures.value) in
    let f : false ≡ bytes_eq c.as_slice.result.now c.as_bytes.result.now = c.if-eq.ensures in cc)

pub returns : goal.returns
returns c = lookup_none c.args.files.now c.args.name.now (λ k lt. c.loop-i.invariant k (omega arith))
