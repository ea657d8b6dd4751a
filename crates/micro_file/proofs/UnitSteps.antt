-- A unit is read step by step: behind its gap its register files, its cells, and the number of its ram.
use Rattle.std.proofs.Common.{◌≡◌, ℕ, List, [], Ok, ℤ, refl, ◌∙◌}
use Rattle.operations.specs.declared.units.Kind.{Kind}
use Rattle.micro_image.specs.declared.image.UnitDesc.{UnitDesc}
use Rattle.micro_image.specs.Valid.{ports}
use Rattle.micro_file.specs.declared.misread.Unread.{Unread}
use Rattle.micro_file.specs.Private.Fields.{Reading, ◌>>=◌, many_at}
use Rattle.micro_file.specs.Private.FormAt.{FormAt}
use Rattle.micro_file.specs.Private.Units.{file_at, cells_at, ram_at, unit_at}
use Rattle.micro_file.specs.Private.Reads.{Fails}
use Rattle.micro_file.proofs.Many.{fails_then}

module _ (form : FormAt) (left : List ℕ) {k : Kind × List ℕ} {l g : ℕ × List ℕ} {count : ℕ}
    (kind : form.kind left ≡ Ok k) (latency : form.latency k.1 ≡ Ok l) (gap : form.gap l.0 l.1 ≡ Ok g)
    (counted : count ≡ ports k.0) where
  abbrev files_left : Reading (List (List ℤ))
  files_left = many_at (λ _. file_at form) [] count g.1

  abbrev whole_unit : List (List ℤ) × List ℕ → List ℤ × List ℕ → ℕ × List ℕ → Reading UnitDesc
  whole_unit f c r =
      Ok (record { kind = k.0; latency = l.0; gap = g.0; files = f.0; cells = c.0; ram = r.0 }, r.1)

  abbrev behind_cells : List (List ℤ) × List ℕ → List ℤ × List ℕ → Reading UnitDesc
  behind_cells f c = ram_at form k.0 c.1 >>= whole_unit f c

  abbrev behind_files : List (List ℤ) × List ℕ → Reading UnitDesc
  behind_files f = cells_at form k.0 f.1 >>= behind_cells f

  at_files : unit_at form left ≡ (files_left >>= behind_files)
  unfolding unit_at
  at_files = rw (kind, latency, gap, ← counted) refl

  -- without its files there is no unit
  pub files_fail : (e : Unread) → Fails e files_left → Fails e (unit_at form left)
  files_fail e fails = rw at_files (fails_then e files_left behind_files fails)

  module _ {f : List (List ℤ) × List ℕ} (files : files_left ≡ Ok f) where
    at_cells : unit_at form left ≡ (cells_at form k.0 f.1 >>= behind_cells f)
    at_cells = at_files ∙ rw files refl

    -- nor without its cells
    pub cells_fail : (e : Unread) → Fails e (cells_at form k.0 f.1) → Fails e (unit_at form left)
    cells_fail e fails = rw at_cells (fails_then e (cells_at form k.0 f.1) (behind_cells f) fails)

    module _ {c : List ℤ × List ℕ} (cells : cells_at form k.0 f.1 ≡ Ok c) where
      at_ram : unit_at form left ≡ (ram_at form k.0 c.1 >>= whole_unit f c)
      at_ram = at_cells ∙ rw cells refl

      -- nor without the number of its ram
      pub ram_fails : (e : Unread) → Fails e (ram_at form k.0 c.1) → Fails e (unit_at form left)
      ram_fails e fails = rw at_ram (fails_then e (ram_at form k.0 c.1) (whole_unit f c) fails)

      pub unit_read : {r : ℕ × List ℕ} → ram_at form k.0 c.1 ≡ Ok r → unit_at form left ≡ whole_unit f c r
      unit_read ram = at_ram ∙ rw ram refl
