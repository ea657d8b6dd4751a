-- The cells of delay lines.
use Rattle.std.specs.Prelude.{ℕ, ◌+◌, ◌-◌, ◌*◌, ◌%◌}

-- the cell of a ram of so many cells that a line at this offset writes in sample number s, where sample 0 has the
-- number `base`
abbrev pub cell_in : (cells base offset s : ℕ) → ℕ
cell_in cells base offset s = (offset + base + (s * cells - s)) % cells
