use Rattle.std.proofs.Common.{◌≡◌, ◌++◌, ◌∷◌, [], length, ap, refl, ◌∙◌}
use Rattle.std.proofs.lemmas.List.{get_or_read_under}
use Rattle.micro_bits.proofs.Encoded.{next_put}
use Rattle.micro_image.specs.Fields.{nth}
use Rattle.micro_file.specs.Private.WordFlags.{file_of}
use Rattle.micro_file.proofs.word_flags.put_unit_files.Goals as goal

pub loop-k-preserved : goal.loop-k-preserved
loop-k-preserved c =
    let file : c.file-item.result ≡ nth c.args.unit.now.files c.loop-k.k [] =
    rw c.deref-file-items.ensures at
    (get_or_read_under c.deref-file-items.result.now c.loop-k.k (length c.deref-file-items.result.now)
    c.file-item.result [] c.file-item.is c.loop-k-test.true refl) in
    (rw (c.len.ensures, file) at c.in_ok-push.ensures.ok)
    ∙ ap (λ front. front ++ file_of c.args.unit.now c.args.number c.loop-k.k ∷ []) c.loop-k.invariant
    ∙ next_put (λ port. file_of c.args.unit.now c.args.number port ∷ []) c.args.files.now c.loop-k.k
