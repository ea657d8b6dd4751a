use Rattle.std.proofs.Common.{◌≡◌, ◌∙◌, ◌-◌, ◌<◌, ℕ, refl, sym, ap, arith, option_copied, Some, None, if◌then◌else◌}
use Rattle.image_labels.specs.declared.label.Label.{Label}
use Rattle.image_labels.specs.Labels.{ended_in, delay_on, stored_label, cell_label, operand_label}
use Rattle.image_labels.proofs.Scans.{cell_kept}
use Rattle.image_labels.proofs.labels.cell_label.Goals as goal
use Rattle.image_labels.proofs.labels.cell_label.Goals.{in-Some+else-stores_into, in_default}

pub loop-back-preserved : goal.loop-back-preserved
loop-back-preserved c =
    let before : ℕ = c.args.cycle - c.loop-back.back - 1 in
    let less : c.loop-back.back < c.args.cycle = omega arith in
    let old : Label = cell_label c.args.image.now c.args.certificate.now c.args.unit c.args.cell before in
    elim c.match-ended_in.branch [
      | in-Some+else-stores_into w ↦
          let ends : ended_in c.args.image.now before c.args.unit ≡ Some w.in-Some.issue.now =
          sym c.ended_in.ensures ∙ ap option_copied w.in-Some.is in
          let issued : w.saturating_sub-issued.result ≡ before - delay_on c.args.image.now c.args.unit =
          omega (arith, w.saturating_sub-issued.ensures, c.from-delay.ensures, c.delay_on.ensures) in
          c.loop-back.invariant
          ∙ cell_kept c.args.image.now c.args.certificate.now c.args.cycle c.loop-back.back before less refl c.args.unit
          c.args.cell (Some w.in-Some.issue.now) ends
          (ap (λ b. stored_label c.args.image.now c.args.certificate.now b c.args.cell (Some w.in-Some.issue.now) old)
          (sym issued)
          ∙ w.stores_into.ensures old
          ∙ ap (λ s. if s
          then operand_label c.args.image.now c.args.certificate.now w.saturating_sub-issued.result
          w.in-Some.issue.now 1
          else old) w.if-stores_into.false)
      | in_default w ↦
          c.loop-back.invariant
          ∙ cell_kept c.args.image.now c.args.certificate.now c.args.cycle c.loop-back.back before less refl c.args.unit
          c.args.cell None (sym c.ended_in.ensures ∙ ap option_copied w.in_default.is) refl
    ]
