use Rattle.std.proofs.Common.{◌≡◌, ◌∙◌, ◌++◌, ◌∷◌, [], ◌+◌, ℕ, List, take, replicate, ap, sym, refl, arith, rules}
use Rattle.std.proofs.lemmas.List.{take_more, flat_map_more}
use Rattle.std.specs.List.{flat_map}
use Rattle.micro_image.specs.declared.image.Image.{Image}
use Rattle.micro_image.specs.declared.image.Word.{Word}
use Rattle.micro_image.specs.Bits.{word_bits}
use Rattle.micro_image.specs.Valid.{IsWordOf}
use Rattle.micro_bits.proofs.PlacedWord.{idle_word}
use Rattle.micro_bits.proofs.encoder.put_words.Goals as goal
use Rattle.micro_bits.proofs.encoder.put_words.Goals.{then-is_idle+in_ok-put_zeros, else-is_idle+in_ok-put_word}

pub loop-word-preserved : goal.loop-word-preserved
loop-word-preserved c =
    let image : Image = c.args.image.now in
    let put : Word → List ℕ = word_bits image.units image.buses in
    let items : List Word = c.deref-word-items.result.now in
    let k : ℕ = c.loop-word.word-index in
    let word : Word = c.word-item.result in
    let out : List ℕ = c.loop-word.out in
    let ok : IsWordOf image word = search rules in
    let next : take (k + 1) items ≡ take k items ++ word ∷ [] =
    take_more items k word (omega arith) ∙ ap (λ (x : Word). take k items ++ x ∷ []) (sym c.word-item.is) in
    let step : (new : List ℕ) → new ≡ out ++ put word → new ≡ c.args.out.now ++ flat_map put (take (k + 1) items) =
    λ new is. is ∙ ap (λ (front : List ℕ). front ++ put word) c.loop-word.invariant
    ∙ flat_map_more put c.args.out.now (take k items) word
    ∙ ap (λ (words : List Word). c.args.out.now ++ flat_map put words) (sym next) in
    elim c.if-is_idle.branch [
      | then-is_idle+in_ok-put_zeros w ↦
          let nothing : (word.issues ≡ []) × (word.enables ≡ []) × (word.takes ≡ []) = w.if-is_idle.ensures refl in
          w.out-is
          ∙ step w.put_zeros.new.out
          (w.in_ok-put_zeros.ensures
          ∙ ap (λ (n : ℕ). out ++ replicate n 0) c.idle_bits_of-idle.ensures
          ∙ ap (λ (own : List ℕ). out ++ own) (idle_word image word ok nothing.0 nothing.1 nothing.2))
      | else-is_idle+in_ok-put_word w ↦ w.out-is ∙ step w.put_word.new.out w.in_ok-put_word.ensures
    ]
