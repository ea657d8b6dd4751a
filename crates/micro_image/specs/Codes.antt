-- The numbers by which kinds, modes and operations stand in a microcode file. An operation stands by its opcode in
-- version 1, and in version 2 by its place among those of its unit's kind.
use Rattle.std.specs.Prelude.{◌≡◌, ◌↔◌, ℕ, ◌<◌, ◌^◌, ◌==◌, List, [], ◌∷◌, Some, slice_get, unwrap_or}
use Rattle.std.specs.List.{position}
use Rattle.fix_word.specs.declared.operation.Op.{Op}
use Rattle.fix_word.specs.declared.operation.Op.TheVariants as op
use Rattle.fix_word.specs.declared.types.Mode.{Mode}
use Rattle.fix_word.specs.declared.types.Mode.TheVariants.{Trunc, Round, Sat, RoundSat}
use Rattle.operations.specs.declared.units.Kind.{Kind}
use Rattle.operations.specs.declared.units.Kind.TheVariants as kind
use Rattle.micro_image.specs.Operations.{kind_of, opcode}

-- the number of a kind
abbrev pub kind_number : Kind → ℕ
kind_number kind.Input = 0
kind_number kind.Output = 1
kind_number kind.Rom = 2
kind_number kind.Alu = 3
kind_number kind.Mul = 4
kind_number kind.Sel = 5
kind_number kind.Ram = 6
kind_number kind.Acu = 7

-- the number of a mode
abbrev pub mode_number : Mode → ℕ
mode_number Trunc = 0
mode_number Round = 1
mode_number Sat = 2
mode_number RoundSat = 3

-- the operations of a kind, in the order of their places
abbrev pub operations_of : Kind → List Op
operations_of kind.Input = op.Input ∷ []
operations_of kind.Output = op.Output ∷ []
operations_of kind.Rom = op.Const ∷ []
operations_of kind.Alu =
    op.Add ∷ op.Sub ∷ op.Neg ∷ op.Pass ∷ op.Lt ∷ op.Le ∷ op.Eq ∷ op.Ne ∷ op.And ∷ op.Or ∷ op.Not ∷ []
operations_of kind.Mul = op.Mul ∷ []
operations_of kind.Sel = op.Sel ∷ []
operations_of kind.Ram = op.Load ∷ op.Store ∷ []
operations_of kind.Acu = op.Addr ∷ []

-- how many bits hold a place among them
abbrev pub place_width : Kind → ℕ
place_width kind.Alu = 4
place_width kind.Ram = 1
place_width _ = 0

-- the place of an operation among its kind's
abbrev pub place_of : Op → ℕ
place_of op = unwrap_or (position (λ other. opcode other == opcode op) (operations_of (kind_of op))) 0

-- Each operation stands once in the table, among its kind's and at its place.
abbrev pub AreOncePlaced : Type 0
AreOncePlaced =
    (op : Op) (kind : Kind) (place : ℕ)
    → (slice_get (operations_of kind) place ≡ Some op) ↔ ((kind_of op ≡ kind) × (place_of op ≡ place))

-- the bits of its kind hold the place of each operation
abbrev pub ArePlacesHeld : Type 0
ArePlacesHeld = (op : Op) → place_of op < 2 ^ place_width (kind_of op)
