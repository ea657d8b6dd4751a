-- A cycle of one processor, and a sample.
use Rattle.std.specs.Prelude.{◌≡◌, ℕ, ◌+◌, ◌%◌, ◌<◌, ◌^◌, List, [], ◌∷◌, length, ℤ}
use Rattle.std.specs.List.{All}
use Rattle.micro_image.specs.declared.conflict.Conflict.{Conflict}
use Rattle.cycle_sim.specs.Machine.{IsOperand, IsAtSample, RanRows, sample_rows, MeetsConflict, MeetsConflictInSample}
use Rattle.cycle_sim.specs.Machine.{IsOutputRow, AreLatches}
use Rattle.cycle_sim.specs.Microcode.{inputs_of, micro_of}
use Rattle.net_turns.specs.Turns.{next}
use Rattle.proc_net.specs.declared.processor.Processor.{Processor}
use Rattle.net_solution.specs.declared.row_list.RowList.{RowList}
use Rattle.net_solution.specs.RowLists.{row_in}
use Rattle.proc_net.specs.Private.Reading.{point_at, HasRoom}

-- the row at one place was written; those at the other places are as they were
pub record IsWritten (old new : RowList) (places place : ℕ) : Type 0 where
  pub width : new.width ≡ old.width
  pub words : length new.words ≡ length old.words
  pub others : (k : ℕ) → k < places → (k ≡ place → ⊥) → row_in new k ≡ row_in old k

-- the processor goes on by a cycle that its machine ran; where it was the last one of a sample, the sample's row
-- was put
pub record Advanced (old new : Processor) : Type 0 where
  pub machine : new.machine ≡ old.machine
  pub feed : new.feed ≡ old.feed
  pub period : new.period ≡ old.period
  pub places : new.places ≡ old.places
  pub point : point_at new ≡ next old.period (point_at old)
  pub put : IsWritten old.put new.put old.places (old.ran % old.places)
  pub goes_on : (old.cycle + 1 ≡ old.period → ⊥) → new.put ≡ old.put
  pub ends : old.cycle + 1 ≡ old.period → AreLatches old.machine (row_in new.put (old.ran % old.places))

-- the processor ran a cycle with the row
pub record RanCycle (row : List ℤ) (old new : Processor) : Type 0 where
  pub machine : RanRows old.machine new.machine (row ∷ [])
  pub code : new.machine.code ≡ old.machine.code
  pub advanced : Advanced (record old { machine = new.machine }) new

-- the processor can run a cycle with the row, and it meets no conflict
pub record CanRun (own : Processor) (row : List ℤ) : Type 0 where
  pub words : length row ≡ length (inputs_of own.machine.code)
  pub operands : All IsOperand row
  pub young : own.machine.cycle < 2 ^ 60
  pub clear : (conflict : Conflict) → MeetsConflict own.machine row conflict → ⊥
  pub cycle : own.cycle < own.period
  pub taken : own.taken < 2 ^ 60
  pub ran : own.ran < 2 ^ 60
  pub width : own.put.width ≡ (micro_of own.machine.code).outs
  pub room : HasRoom own.put own.places

-- the processor ran a whole sample with the row, and put the sample's row
pub record RanSample (row : List ℤ) (old new : Processor) : Type 0 where
  pub machine : RanRows old.machine new.machine (sample_rows (micro_of old.machine.code) row)
  pub code : new.machine.code ≡ old.machine.code
  pub feed : new.feed ≡ old.feed
  pub period : new.period ≡ old.period
  pub places : new.places ≡ old.places
  pub point : point_at new ≡ record { taken = old.taken + 1; ran = old.ran + 1; cycle = old.cycle }
  pub put : IsWritten old.put new.put old.places (old.ran % old.places)
  pub row_is : IsOutputRow old.machine row (row_in new.put (old.ran % old.places))

-- the processor can run a whole sample with the row, and it meets no conflict
pub record CanRunSample (own : Processor) (row : List ℤ) : Type 0 where
  pub words : length row ≡ length (inputs_of own.machine.code)
  pub operands : All IsOperand row
  pub at : IsAtSample own.machine
  pub clear : (conflict : Conflict) → MeetsConflictInSample own.machine row conflict → ⊥
  pub taken : own.taken < 2 ^ 60
  pub ran : own.ran < 2 ^ 60
  pub width : own.put.width ≡ (micro_of own.machine.code).outs
  pub room : HasRoom own.put own.places
