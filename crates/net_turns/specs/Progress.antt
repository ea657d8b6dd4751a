-- How far a net has come: in cycles that were run.
use Rattle.std.specs.Prelude.{ℕ, zero, suc, ◌+◌, ◌*◌, List, [], ◌∷◌, length, max}
use Rattle.net_turns.specs.Turns.{NetShape, Point, after_round}

-- how many cycles processors have run, by their periods
abbrev pub cycles_by : List ℕ → List Point → ℕ
cycles_by [] points = 0
cycles_by (period ∷ periods) [] = 0
cycles_by (period ∷ periods) (point ∷ points) = (point.ran * period + point.cycle) + cycles_by periods points

abbrev pub cycles_run : NetShape → List Point → ℕ
cycles_run shape points = cycles_by shape.periods points

abbrev pub greatest : List ℕ → ℕ
greatest [] = 0
greatest (n ∷ ns) = max n (greatest ns)

-- so many rounds as run all samples: as many as there are processors, times the samples, times the greatest period
abbrev pub enough_rounds : NetShape → ℕ
enough_rounds shape = length shape.feeds * (shape.samples * greatest shape.periods)

-- after so many rounds
abbrev pub after_rounds : NetShape → ℕ → List Point → List Point
after_rounds shape zero points = points
after_rounds shape (suc n) points = after_rounds shape n (after_round shape points)
