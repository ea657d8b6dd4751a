use Rattle.std.proofs.Common.{◌≡◌, ◌++◌, [], length, sym, ap, refl, ◌∙◌, arith}
use Rattle.std.proofs.lemmas.List.{get_or_read_under}
use Rattle.micro_bits.proofs.Encoded.{next_put}
use Rattle.micro_image.specs.Fields.{nth, no_unit}
use Rattle.micro_file.specs.Private.WordFlags.{unit_files, every_file}
use Rattle.micro_file.proofs.word_flags.files_of.Goals as goal

pub loop-k-preserved : goal.loop-k-preserved
loop-k-preserved c =
    let unit : c.unit-item.result ≡ nth c.args.image.now.units c.loop-k.k no_unit =
    rw c.deref-unit-items.ensures at
    (get_or_read_under c.deref-unit-items.result.now c.loop-k.k (length c.deref-unit-items.result.now)
    c.unit-item.result no_unit c.unit-item.is c.loop-k-test.true refl) in
    (rw unit at c.in_ok-put_unit_files.ensures)
    ∙ ap (λ front. front ++ unit_files (nth c.args.image.now.units c.loop-k.k no_unit) c.loop-k.k) c.loop-k.invariant
    ∙ next_put (λ number. unit_files (nth c.args.image.now.units number no_unit) number) [] c.loop-k.k

pub returns : goal.returns
unfolding every_file
returns c =
    let all : c.loop-k.k ≡ length c.args.image.now.units =
    omega (
      arith,
      rw c.deref-unit-items.ensures at c.loop-k-test.false,
      rw c.deref-unit-items.ensures at c.loop-k.auto.k-end,
    ) in
    rw (sym all) c.loop-k.invariant
