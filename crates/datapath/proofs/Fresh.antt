-- Names that differ from all before them.
use Rattle.std.proofs.Common.{◌≡◌, ℕ, ◌+◌, ◌<◌, ◌≤◌, Bool, true, false, List, [], ◌∷◌, ◌++◌, length, map, take, drop}
use Rattle.std.proofs.Common.{get_or, Ok, Err, refl, ap, ◌∙◌, arith}
use Rattle.std.specs.List.{list_any}
use Rattle.std.specs.Str.{bytes_eq}
use Rattle.std.proofs.lemmas.List.{take_more, take_all, map-append, length-take-le, length-map}
use Rattle.datapath.specs.declared.fault.Section.TheVariants as section
use Rattle.datapath.specs.declared.fault.PathFault.TheVariants.{Twice}
use Rattle.datapath.specs.declared.types.Unit as of_unit
use Rattle.datapath.specs.Reading.{Read, in_turn}
use Rattle.datapath.specs.PathOf.{unit_name_at}
use Rattle.datapath.proofs.AmongKeys.{list_any-map}
use Rattle.datapath.proofs.Turn.{turn_goes_on, turn_ends, turn_done}

abbrev pub name_of : of_unit.Unit → List ℕ
name_of unit = unit.name

abbrev has_name : List of_unit.Unit → List ℕ → Bool
has_name units name = list_any (λ unit. bytes_eq name unit.name) units

is_new : (units : List of_unit.Unit) (name : List ℕ)
    → has_name units name ≡ false
    → unit_name_at (map name_of units) name ≡ Ok name
is_new units name new = rw (list_any-map (bytes_eq name) name_of units, new) refl

pub names_go_on : (units : List of_unit.Unit) (i : ℕ) (x : of_unit.Unit) (total : Read (List (List ℕ)))
    → i < length units
    → x ≡ get_or units i x
    → has_name (take i units) x.name ≡ false
    → in_turn unit_name_at (map name_of (take i units)) (map name_of (drop i units)) ≡ total
    → in_turn unit_name_at (map name_of (take (i + 1) units)) (map name_of (drop (i + 1) units)) ≡ total
names_go_on units i x total lt is new so_far =
    let before : map name_of (take (i + 1) units) ≡ map name_of (take i units) ++ x.name ∷ [] =
    rw (take_more units i x lt, ← is) (simp map-append) in
    rw before (turn_goes_on unit_name_at name_of units i x x.name (map name_of (take i units)) total lt is
    (is_new (take i units) x.name new) so_far)

length-before : (units : List of_unit.Unit) (i : ℕ) → i < length units → length (map name_of (take i units)) ≡ i
length-before units i lt = length-map (take i units) name_of ∙ length-take-le i units (omega arith)

is_old : (units : List of_unit.Unit) (i : ℕ) (name : List ℕ)
    → length (map name_of units) ≡ i
    → has_name units name ≡ true
    → unit_name_at (map name_of units) name ≡ Err (Twice (section.Unit i))
is_old units i name count old = rw (list_any-map (bytes_eq name) name_of units, old, count) refl

pub names_end : (units : List of_unit.Unit) (i : ℕ) (x : of_unit.Unit) (total : Read (List (List ℕ)))
    → i < length units
    → x ≡ get_or units i x
    → has_name (take i units) x.name ≡ true
    → in_turn unit_name_at (map name_of (take i units)) (map name_of (drop i units)) ≡ total
    → total ≡ Err (Twice (section.Unit i))
names_end units i x total lt is old so_far =
    turn_ends unit_name_at name_of units i x (Twice (section.Unit i)) (map name_of (take i units)) total lt is
    (λ _. is_old (take i units) i x.name (length-before units i lt) old) so_far (λ e. absurd (cc))

pub names_done : (units : List of_unit.Unit) (i : ℕ) (total : Read (List (List ℕ)))
    → length units ≤ i
    → in_turn unit_name_at (map name_of (take i units)) (map name_of (drop i units)) ≡ total
    → total ≡ Ok (map name_of units)
names_done units i total le so_far =
    turn_done unit_name_at name_of units i (map name_of (take i units)) total le so_far ∙ ap
    (λ us. Ok (map name_of us)) (take_all i units le)
