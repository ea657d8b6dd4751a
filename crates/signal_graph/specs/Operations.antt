-- Which operations flat programs and graphs have.
pub use Rattle.operations.specs.Operations.{Class, input, output, constant, quantised, truth, choice, memory, operands}
pub use Rattle.operations.specs.Operations.{class_of}

-- an operation from Add to Sel
abbrev pub IsCalculation : Class → Type 0
IsCalculation quantised = Unit {0}
IsCalculation truth = Unit {0}
IsCalculation choice = Unit {0}
IsCalculation _ = ⊥

-- an operation from Input to Sel
abbrev pub IsOfGraphs : Class → Type 0
IsOfGraphs memory = ⊥
IsOfGraphs _ = Unit {0}
