-- A machine sample by sample: one more row, and the first conflict in it.
use Rattle.std.proofs.Common.{◌≡◌, sym, ap, subst, ◌∙◌, arith, ℕ, ◌+◌, ◌*◌, ◌%◌, ◌<◌, ◌≤◌, ◌^◌, List, [], ◌∷◌, ◌++◌}
use Rattle.std.proofs.Common.{length, replicate, ℤ, length-append}
use Rattle.std.proofs.Math.Nat.{mul-mod_left, mul-lt-mul_of_pos_right}
use Rattle.std.proofs.lemmas.List.{append-nil}
use Rattle.lists.specs.Rows.{Rows}
use Rattle.cycle_sim.specs.Machine.{Snapshot, state_of, IsAtSample, IsFirstOfSample}
use Rattle.cycle_sim.specs.Microcode.{micro_of}
use Rattle.micro_image.specs.declared.conflict.Conflict.{Conflict}
use Rattle.micro_image.specs.Conflict.{IsConflict, IsClearBelow}
use Rattle.micro_image.specs.Fields.{Microprogram}
use Rattle.micro_image.specs.Run.{Stands, spread}
use Rattle.micro_image.proofs.Streams.{length-spread, spread-append}
use Rattle.sample_loops.specs.Machines.{IsFirstConflict}

-- one more row, for a whole period
pub spread_row : (period : ℕ) (stream : Rows) (row : List ℤ)
    → spread period (stream ++ row ∷ []) ≡ spread period stream ++ replicate period row
spread_row period stream row =
    spread-append period stream (row ∷ [])
    ∙ ap (λ cycles. spread period stream ++ cycles) (append-nil (replicate period row))

pub one_more : (period : ℕ) (stream : Rows) → length (spread period stream) + period ≡ (length stream + 1) * period
one_more period stream = omega (arith, length-spread period stream)

-- a machine after whole samples is ready for the next one
pub at_sample : (machine : Snapshot) (stream : Rows)
    → 1 ≤ (micro_of machine.code).period
    → length stream < 2 ^ 48
    → Stands (state_of machine) (micro_of machine.code) (spread (micro_of machine.code).period stream)
    → IsAtSample machine
at_sample machine stream some few stands =
    let period : ℕ = (micro_of machine.code).period in
    let cycle : machine.cycle ≡ length stream * period = stands.cycle ∙ length-spread period stream in
    record {
      whole = ap (λ n. n % period) cycle ∙ mul-mod_left (length stream) period;
      young = subst (λ n. n < 2 ^ 48 * period) (sym cycle) (mul-lt-mul_of_pos_right few some);
    }

-- the first conflict in one more sample is the first of all
pub conflict_in_row : (micro : Microprogram) (stream : Rows) (row : List ℤ) (conflict : Conflict)
    → IsFirstOfSample micro (spread micro.period stream) row conflict
    → IsFirstConflict micro (spread micro.period (stream ++ row ∷ [])) conflict
conflict_in_row micro stream row conflict first =
    let cycles = sym (spread_row micro.period stream row) in
    record {
      there = subst (λ z. IsConflict micro z conflict) cycles first.there;
      clear = subst (λ z. IsClearBelow micro z conflict.cycle) cycles first.clear;
      within =
          omega (
            arith,
            first.within,
            one_more micro.period stream,
            length-spread micro.period (stream ++ row ∷ []),
            ap (λ n. n * micro.period) (length-append stream (row ∷ [])),
          );
    }
