-- Units that get the positions of their rams one after the other.
use Rattle.std.proofs.Common.{◌≡◌, ℕ, zero, suc, ◌+◌, ◌<◌, ◌≤◌, List, [], ◌∷◌, ◌++◌, length, take, drop, get_or, refl}
use Rattle.std.proofs.Common.{ap, sym, ◌∙◌, append_assoc, take-append-drop, arith}
use Rattle.std.proofs.Math.ListN.{set}
use Rattle.std.proofs.lemmas.List.{drop_more, drop_all, take_more_set}
use Rattle.datapath.specs.declared.types.Unit as of_unit
use Rattle.datapath.specs.PathOf.{with_ram, with_rams}

-- those before the place have theirs
abbrev pub rams_left : List of_unit.Unit → List ℕ → ℕ → List of_unit.Unit
rams_left units rams i = take i units ++ with_rams (drop i units) (drop i rams)

drop_next_set : (units : List of_unit.Unit) (i : ℕ) (u : of_unit.Unit)
    → i < length units
    → drop (suc i) (set units i u) ≡ drop (suc i) units
drop_next_set [] i u lt = absurd (omega arith)
drop_next_set (x ∷ units) zero u lt = refl
drop_next_set (x ∷ units) (suc i) u lt = drop_next_set units i u (omega arith)

pub rams_go_on :
    (units : List of_unit.Unit) (rams : List ℕ) (i : ℕ) (u : of_unit.Unit) (r : ℕ) (total : List of_unit.Unit)
    → i < length units
    → i < length rams
    → u ≡ get_or units i u
    → r ≡ get_or rams i r
    → rams_left units rams i ≡ total
    → rams_left (set units i (with_ram u r)) rams (i + 1) ≡ total
unfolding with_rams
rams_go_on units rams i u r total lt lt' is is' so_far =
    let before : rams_left units rams i ≡ take i units ++ with_ram u r ∷ with_rams (drop (i + 1) units)
    (drop (i + 1) rams) =
    rw (drop_more units i u lt, ← is, drop_more rams i r lt', ← is') refl in
    let after : rams_left (set units i (with_ram u r)) rams (i + 1) ≡ take i units ++ with_ram u r ∷ with_rams
    (drop (i + 1) units) (drop (i + 1) rams) =
    let next : i + 1 ≡ suc i = omega arith in
    let same : drop (i + 1) (set units i (with_ram u r)) ≡ drop (i + 1) units = rw next
    (drop_next_set units i (with_ram u r) lt) in
    rw (take_more_set units i (with_ram u r) lt, same) (append_assoc (take i units) (with_ram u r ∷ []) _) in
    after ∙ sym before ∙ so_far

pub rams_done : (units : List of_unit.Unit) (rams : List ℕ) (i : ℕ) (total : List of_unit.Unit)
    → length rams ≤ i
    → rams_left units rams i ≡ total
    → units ≡ total
unfolding with_rams
rams_done units rams i total le so_far =
    let none : drop i rams ≡ [] = drop_all i rams le in
    let step : rams_left units rams i ≡ units = rw none (take-append-drop i units) in
    sym step ∙ so_far

pub length-with_rams : (units : List of_unit.Unit) (rams : List ℕ) → length (with_rams units rams) ≡ length units
unfolding with_rams
length-with_rams units [] = refl
length-with_rams [] (r ∷ rams) = refl
length-with_rams (u ∷ units) (r ∷ rams) = ap suc (length-with_rams units rams)
