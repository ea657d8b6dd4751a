-- A sample of a machine.
use Rattle.std.proofs.Common.{◌≡◌, ◌+◌, ◌*◌, ◌/◌, ◌%◌, ◌<◌, ◌≤◌, ◌∙◌, sym, ap, ap₂, subst, arith}
use Rattle.std.proofs.Common.{List, [], ◌∷◌, ◌++◌, length, replicate, ℕ, zero, suc, ℤ, Some, None}
use Rattle.std.proofs.Math.Nat.{add-div_right, add-mod_right, div-lt_iff_lt-mul}
use Rattle.std.proofs.lemmas.List.{append-nil, length-append, length-replicate}
use Rattle.lists.specs.Rows.{Rows}
use Rattle.cycle_sim.specs.Machine.{Snapshot, state_of, sample_rows, RanRows, IsOutputRow}
use Rattle.cycle_sim.specs.Machine.{MeetsConflictInSample}
use Rattle.cycle_sim.specs.Microcode.{micro_of}
use Rattle.cycle_sim.specs.declared.microcode.Microcode.{Microcode}
use Rattle.micro_image.specs.declared.conflict.Conflict.{Conflict}
use Rattle.micro_image.specs.Conflict.{IsConflict, IsClearBelow}
use Rattle.micro_image.specs.Fields.{Microprogram}
use Rattle.micro_image.specs.Run.{Stands, latches}
use Rattle.sample_loops.specs.Machines.{cycles_with, IsReady}
use Rattle.sample_loops.specs.Private.MachineLaws.{MachineRuns, MachineStops}

-- the cycles of one row
cycles_of_row : (micro : Microprogram) (cycles : Rows) (row : List ℤ)
    → cycles ++ sample_rows micro row ≡ cycles_with micro cycles (row ∷ [])
cycles_of_row micro cycles row = ap (λ sample. cycles ++ sample) (sym (append-nil (replicate micro.period row)))

length-row : (micro : Microprogram) (cycles : Rows) (row : List ℤ)
    → length (cycles_with micro cycles (row ∷ [])) ≡ length cycles + micro.period
length-row micro cycles row =
    ap length (sym (cycles_of_row micro cycles row)) ∙ length-append cycles (sample_rows micro row)
    ∙ ap (λ n. length cycles + n) (length-replicate micro.period row)

-- a sample
pub runs_row : (old new : Snapshot) (row put : List ℤ)
    → new.code ≡ old.code
    → RanRows old new (sample_rows (micro_of old.code) row)
    → IsOutputRow old row put
    → MachineRuns old (row ∷ []) (put ∷ []) new
runs_row old new row put same ran puts =
    let micro = micro_of old.code in (
      same,
      record {
        stands = λ cycles stands.
            subst (Stands (state_of new) micro) (cycles_of_row micro cycles row) (ran cycles stands);
        put = λ cycles stands.
            ap (λ words. words ∷ [])
            (puts cycles stands
            ∙ ap₂ (latches micro) (cycles_of_row micro cycles row)
            (let e : length cycles + micro.period ≡ length cycles + (0 + 1) * micro.period = omega arith in e));
      },
    )

-- its first conflict
pub meets_in_row : (old new : Snapshot) (row : List ℤ) (conflict : Conflict)
    → MeetsConflictInSample old row conflict
    → new.conflict ≡ Some conflict
    → MachineStops old (row ∷ []) conflict new
meets_in_row old new row conflict meets kept =
    let micro = micro_of old.code in
    record {
      met = λ cycles stands.
          let found = meets cycles stands in
          let same = cycles_of_row micro cycles row in
          let size = length-row micro cycles row in
          record {
            first = record {
              there = subst (λ z. IsConflict micro z conflict) same found.there;
              clear = subst (λ z. IsClearBelow micro z conflict.cycle) same found.clear;
              within = omega (arith, found.within, size);
            };
            last = omega (arith, found.after, size);
          };
      kept = kept;
    }

-- a sample later the machine is at the start of the next
pub ready_after : (old new : Snapshot)
    → IsReady (micro_of old.code) (state_of old)
    → new.code ≡ old.code
    → new.cycle ≡ old.cycle + (micro_of old.code).period
    → new.conflict ≡ None
    → IsReady (micro_of new.code) (state_of new)
ready_after old new ready same cycle running = record {
  whole =
      ap₂ ◌%◌ cycle (ap (λ (code : Microcode). (micro_of code).period) same)
      ∙ add-mod_right old.cycle (micro_of old.code).period
      ∙ ready.whole;
  running = running;
}

-- fewer cycles than some samples have are of fewer samples
pub samples_below : (cycle samples period : ℕ) → cycle < samples * period → cycle / period < samples
samples_below cycle samples zero young = absurd (omega (arith, young))
samples_below cycle samples (suc n) young = (div-lt_iff_lt-mul (omega arith)).1 young

-- a sample later
pub sample_later : (old new : Snapshot)
    → 0 < (micro_of old.code).period
    → new.code ≡ old.code
    → new.cycle ≡ old.cycle + (micro_of old.code).period
    → new.cycle / (micro_of new.code).period ≤ old.cycle / (micro_of old.code).period + 1
sample_later old new some same cycle =
    let one_more =
    ap₂ ◌/◌ cycle (ap (λ (code : Microcode). (micro_of code).period) same) ∙ add-div_right old.cycle some in
    omega (arith, one_more)
