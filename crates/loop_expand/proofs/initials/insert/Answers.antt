use Rattle.std.proofs.Common.{◌≡◌, ◌++◌, ◌≤◌, ◌<◌, ℕ, ℤ, Some, List, slice_get, take, drop, subst, ◌∙◌, arith}
use Rattle.std.proofs.lemmas.Int.{to_z-of_z}
use Rattle.loop_expand.specs.Private.Elements.{inserted}
use Rattle.loop_expand.proofs.FactSteps.{above_by, none_by, insert_is}
use Rattle.loop_expand.proofs.initials.insert.Goals as goal
use Rattle.loop_expand.proofs.initials.insert.Goals.{else-place-len-via-then-place-len+else-index-sample}
use Rattle.loop_expand.proofs.initials.insert.Goals.{else-place-len-via-else-place-len}

pub returns : goal.returns
returns c =
    let items = c.into_vec-inits.result.items in
    let place = c.place_of-place.result in
    let sample = c.args.sample in
    let same = c.deref.ensures.value in
    let before =
    subst (λ (xs : List (ℕ × ℤ)).
    inserted sample c.args.word xs ≡ take place xs ++ inserted sample c.args.word (drop place xs))
    same (c.place_of-place.ensures.before c.args.word) in
    let least =
    subst (λ (xs : List (ℕ × ℤ)). (x : ℕ × ℤ) → slice_get xs place ≡ Some x → sample ≤ x.0) same
    c.place_of-place.ensures.at in
    let above : (x : ℕ × ℤ) → slice_get items place ≡ Some x → sample < x.0 =
    elim c.else-place-len.branch [
      | else-place-len-via-then-place-len+else-index-sample w ↦
          above_by items place sample w.index.result.now w.index.ensures w.if-index-sample.false least
      | else-place-len-via-else-place-len w ↦ none_by items place sample (omega arith)
    ] in
    let made = simp (to_z-of_z, c.ranges.word) at c.in_ok-insert.ensures.items in
    insert_is sample place c.args.word c.args.inits items c.from_vec-2.result c.into_vec-inits.ensures before above
    (c.from_vec-2.ensures ∙ made)
