-- Judgements of lists of references, seen as lists of what they refer to.
use Rattle.std.specs.Prelude.{Result, Ok, Err}

abbrev pub seen : {E X A : Type 0} → (X → A) → Result X E → Result A E
seen view (Ok x) = Ok (view x)
seen view (Err e) = Err e
