-- What the words of `frame` allow is what it asks of its numbers.
use Rattle.std.proofs.Common.{ℕ, List}
use Rattle.command_words.specs.Command.{frame, IsAllowed}
use Rattle.desk_core.specs.View.{Name}
use Rattle.rate_unfold.specs.Frames.{AreRates, rates}

pub allowed_rates : (src datapath : Name) (phases : ℕ) (down up : List ℕ) (out : Name)
    → IsAllowed (frame src datapath phases down up out)
    → AreRates (rates phases down up)
allowed_rates src datapath phases down up out allowed =
    record { phases = allowed.0; down = allowed.1.rise; up = allowed.2.rise }
