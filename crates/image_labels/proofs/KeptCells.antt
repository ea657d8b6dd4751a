-- Cells in which nothing is stored for some cycles keep their labels.
use Rattle.std.proofs.Common.{◌≡◌, ◌∙◌, ℕ, zero, suc, ◌+◌, ◌-◌, ◌<◌, ◌≤◌, sym, ap, arith, inl, inr, length}
use Rattle.micro_image.specs.declared.image.Image.{Image}
use Rattle.image_labels.specs.declared.label.Certificate.{Certificate}
use Rattle.image_labels.specs.Labels.{cell_label}
use Rattle.image_labels.specs.Private.Settled.{fresh_at, settled_at, IsQuiet, AreQuiet}

module _ (image : Image) (certificate : Certificate) (u x : ℕ)
    (quiet : AreQuiet image certificate u (length image.words)) where
  kept : (at more : ℕ)
      → ((c : ℕ) → at ≤ c → c < at + more → IsQuiet certificate u x c)
      → at + more ≤ length image.words
      → cell_label image certificate u x (at + more) ≡ cell_label image certificate u x at
  kept at zero is le = ap (cell_label image certificate u x) (let e : at + 0 ≡ at = omega arith in e)
  kept at (suc more) is le =
      ap (cell_label image certificate u x) (let e : at + suc more ≡ suc (at + more) = omega arith in e)
      ∙ quiet (at + more) (omega (arith, le)) x (is (at + more) (omega arith) (omega arith))
      (cell_label image certificate u x (at + more))
      ∙ kept at more (λ c from below. is c from (omega (arith, below))) (omega (arith, le))

  -- its label in a cycle is the one from which it is settled
  pub settled_label : (c : ℕ)
      → settled_at certificate u x ≤ c
      → c ≤ length image.words
      → cell_label image certificate u x (settled_at certificate u x) ≡ cell_label image certificate u x c
  settled_label c le there =
      sym (kept (settled_at certificate u x) (c - settled_at certificate u x) (λ d from below. inr from)
      (omega (arith, le, there)))
      ∙ ap (cell_label image certificate u x)
      (let e : settled_at certificate u x + (c - settled_at certificate u x) ≡ c = omega (arith, le) in e)

  -- its label in a cycle is the one that the turn starts with
  pub fresh_label : (c : ℕ)
      → c ≤ fresh_at certificate u x
      → c ≤ length image.words
      → cell_label image certificate u x 0 ≡ cell_label image certificate u x c
  fresh_label c le there =
      sym (kept 0 c (λ d from below. inl (let is : d < fresh_at certificate u x = omega (arith, le, below) in is))
      (omega (arith, there)))
      ∙ ap (cell_label image certificate u x) (let e : 0 + c ≡ c = omega arith in e)
