use Rattle.std.proofs.Common.{◌≡◌, ◌∙◌, ◌++◌, ◌∷◌, [], ◌+◌, ℕ, List, map, sym, ap, arith}
use Rattle.std.proofs.lemmas.List.{map_push}
use Rattle.std.specs.List.{range_with_len}
use Rattle.lists.proofs.Ranges.{range_more}
use Rattle.micro_bits.specs.Idle.{sizes, files_of}
use Rattle.micro_bits.proofs.Sizes.{no_sizes, files_go_on, few_go_on}
use Rattle.micro_bits.proofs.places.starts_of.Goals as goal

pub loop-unit-init : goal.loop-unit-init
loop-unit-init c = record {
  files = sym (no_sizes (files_of c.args.image.now));
  few = omega arith;
  starts = c.in_ok-starts.ensures;
}

pub loop-unit-preserved : goal.loop-unit-preserved
loop-unit-preserved c =
    let start : ℕ → ℕ = sizes (files_of c.args.image.now) 0 in
    let k : ℕ = c.loop-unit.unit-index in
    let at : 0 + k ≡ k = omega arith in record {
      files = files_go_on c.args.image.now c.deref-unit-items.result.now k c.loop-unit.files
          c.len-files.result c.unit-item.result c.deref-unit-items.ensures c.loop-unit-test.true c.unit-item.is
          c.len-files.ensures c.loop-unit.invariant.files;
      few = few_go_on c.args.image.now c.deref-unit-items.result.now k c.loop-unit.files
          c.len-files.result c.unit-item.result c.deref-unit-items.ensures c.loop-unit-test.true c.unit-item.is
          c.len-files.ensures c.requires.ports c.loop-unit.invariant.few;
      starts = c.in_ok-push.ensures.ok
          ∙ ap (λ (front : List ℕ). front ++ c.loop-unit.files ∷ []) c.loop-unit.invariant.starts
          ∙ ap (λ (n : ℕ). map start (range_with_len 0 k) ++ n ∷ [])
          (c.loop-unit.invariant.files ∙ ap start (sym at))
          ∙ sym (map_push start (range_with_len 0 k) (0 + k))
          ∙ ap (map start) (sym (range_more 0 k));
    }
