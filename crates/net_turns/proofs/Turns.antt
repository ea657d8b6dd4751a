-- One turn more at the end.
use Rattle.std.proofs.Common.{◌≡◌, ℕ, Bool, true, false, not, ◌||◌, List, [], ◌∷◌, ◌++◌, refl, ap, ◌∙◌}
use Rattle.net_turns.specs.Turns.{NetShape, Point, lacks, after_turn, after_turns, some_runs}

pub after_turns-push : (shape : NetShape) (points : List Point) (ps : List ℕ) (p : ℕ)
    → after_turns shape points (ps ++ p ∷ []) ≡ after_turn shape (after_turns shape points ps) p
after_turns-push shape points [] p = refl
after_turns-push shape points (q ∷ ps) p = after_turns-push shape (after_turn shape points q) ps p

alone : (b : Bool) → (b || false) ≡ (false || b)
alone true = refl
alone false = refl

pub or_assoc : (a b c : Bool) → (a || (b || c)) ≡ ((a || b) || c)
or_assoc true b c = refl
or_assoc false b c = refl

pub some_runs-push : (shape : NetShape) (points : List Point) (ps : List ℕ) (p : ℕ)
    → some_runs shape points (ps ++ p ∷ [])
    ≡ (some_runs shape points ps || not (lacks shape (after_turns shape points ps) p))
some_runs-push shape points [] p = alone (not (lacks shape points p))
some_runs-push shape points (q ∷ ps) p =
    ap (λ (b : Bool). not (lacks shape points q) || b) (some_runs-push shape (after_turn shape points q) ps p)
    ∙ or_assoc (not (lacks shape points q)) (some_runs shape (after_turn shape points q) ps) _
