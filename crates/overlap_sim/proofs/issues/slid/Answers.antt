use Rattle.std.proofs.Common.{◌≡◌, ◌∙◌, ap, ap₂, sym, pos, ℤ, rules, to_z, of_z, w64}
use Rattle.std.specs.Prelude.{◌+ℤ◌}
use Rattle.std.specs.Int.{int_rem_euclid}
use Rattle.overlap_sim.proofs.StageFacts.{slid_again}
use Rattle.overlap_sim.proofs.issues.slid.Goals as goal

pub returns : goal.returns
returns c =
    let same : to_z w64 (of_z w64 c.rem_euclid-2.result) ≡ c.rem_euclid-2.result = search rules in
    let whole : to_z w64 (of_z w64 c.args.offset) ≡ c.args.offset = search rules in
    let cells : to_z w64 (of_z w64 c.from-cells.result) ≡ c.from-cells.result = search rules in
    let rest : to_z w64 (of_z w64 c.rem_euclid.result) ≡ c.rem_euclid.result = search rules in
    let stage : to_z w64 (of_z w64 c.from.result) ≡ c.from.result = search rules in
    let sum : to_z w64 (of_z w64 (to_z w64 (of_z w64 c.rem_euclid.result) +ℤ to_z w64 (of_z w64 c.from.result)))
    ≡ to_z w64 (of_z w64 c.rem_euclid.result) +ℤ to_z w64 (of_z w64 c.from.result) = search rules in
    same ∙ c.rem_euclid-2.ensures.value
    ∙ ap₂ (λ (a b : ℤ). int_rem_euclid a b)
    (sum
    ∙ ap₂ (λ (a b : ℤ). a +ℤ b)
    (rest ∙ c.rem_euclid.ensures.value
    ∙ ap₂ (λ (a b : ℤ). int_rem_euclid a b) (whole ∙ c.requires.natural.1) (cells ∙ c.from-cells.ensures))
    (stage ∙ c.from.ensures))
    (cells ∙ c.from-cells.ensures)
    ∙ slid_again c.requires.natural.0 c.args.stage c.args.cells
    ∙ ap (λ (a : ℤ). int_rem_euclid (a +ℤ pos c.args.stage) (pos c.args.cells)) (sym c.requires.natural.1)
