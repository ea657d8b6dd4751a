-- The words of a net's row are no wider than the input words that they feed.
use Rattle.std.proofs.Common.{◌≡◌, ◌≤◌, ℕ, List, [], ◌∷◌, Option, Some, None, arith, refl, subst}
use Rattle.std.specs.Prelude.{slice_get, position}
use Rattle.std.specs.List.{All}
use Rattle.std.specs.Option.{option_or, option_and_then}
use Rattle.std.proofs.lemmas.List.Elements.{All-head, All-tail}
use Rattle.std.proofs.lemmas.Option.{slice_get_within, get_or_from_slice_get}
use Rattle.fix_word.specs.declared.types.SigType.{SigType}
use Rattle.net_core.specs.declared.types.NetProc.{NetProc}
use Rattle.net_fit.specs.Joints.{is_input, first_fed, net_type, word_width, IsNarrow, HasNarrowInputs}
use Rattle.net_fit.specs.declared.ports.Ports.{Ports}

at_place : (types : List SigType) (place : Option ℕ)
    → All IsNarrow types
    → word_width (option_and_then (slice_get types) place) ≤ 40
at_place types None all = omega arith
at_place types (Some k) all = here (slice_get types k) refl
  where
    here : (found : Option SigType) → slice_get types k ≡ found → word_width found ≤ 40
    here None is = omega arith
    here (Some ty) is =
        subst IsNarrow (get_or_from_slice_get types k ty ty is)
        (all k ty (slice_get_within types k ty is))

either : (a b : Option SigType) → word_width a ≤ 40 → word_width b ≤ 40 → word_width (option_or a b) ≤ 40
either None b h k = k
either (Some ty) b h k = h

pub net_narrow : (j : ℕ) (procs : List NetProc) (ports : List Ports)
    → All HasNarrowInputs ports
    → word_width (net_type j procs ports) ≤ 40
net_narrow j [] ports all = omega arith
net_narrow j (proc ∷ procs) [] all = omega arith
net_narrow j (proc ∷ procs) (its ∷ ports) all =
    either (first_fed j proc.feed its.inputs) (net_type j procs ports)
    (at_place its.inputs (position (is_input j) proc.feed) (All-head HasNarrowInputs its ports all))
    (net_narrow j procs ports (All-tail HasNarrowInputs its ports all))
