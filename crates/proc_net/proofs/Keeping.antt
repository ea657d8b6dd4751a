-- A processor keeps the rows that it has put last.
use Rattle.std.proofs.Common.{◌≡◌, ℕ, ◌+◌, ◌*◌, ◌/◌, ◌%◌, ◌<◌, ◌≤◌, List, [], get_or, sym, ◌∙◌}
use Rattle.std.proofs.Common.{arith, inl, inr, ap}
use Rattle.std.proofs.lemmas.Bool.{cases_lt}
use Rattle.std.proofs.lemmas.Nat.{mod_below}
use Rattle.std.proofs.Common.{mul-le-mul_left}
use Rattle.lists.specs.Rows.{Rows}
use Rattle.proc_net.specs.declared.processor.Processor.{Processor}
use Rattle.net_solution.specs.RowLists.{row_in}
use Rattle.proc_net.specs.Private.Reading.{HasRoom}
use Rattle.proc_net.specs.Private.Runs.{IsWritten}
use Rattle.proc_net.specs.Private.States.{Keeps}

-- numbers that are fewer than m apart have different remainders by m
pub remainders_differ : (n r m : ℕ) → 0 < m → n < r → r < n + m → n % m ≡ r % m → ⊥
remainders_differ n r m some less near same =
    let is_n : m * (n / m) + n % m ≡ n = omega (arith, some) in
    let is_r : m * (r / m) + r % m ≡ r = omega (arith, some) in
    elim (cases_lt (n / m) (r / m)) [
      | inl more ↦
          let far : m * (n / m + 1) ≤ m * (r / m) = mul-le-mul_left m (omega (arith, more)) in
          absurd (omega (arith, is_n, is_r, far, same))
      | inr no_more ↦
          let close : m * (r / m) ≤ m * (n / m) = mul-le-mul_left m no_more in
          absurd (omega (arith, is_n, is_r, close, same))
    ]

module _ (puts : List Rows) (p : ℕ) (old new : Processor) (keeps : Keeps puts p old)
    (written : IsWritten old.put new.put old.places (old.ran % old.places)) (places : new.places ≡ old.places) where
  room : HasRoom new.put new.places
  room = record {
    some = omega (arith, keeps.room.some);
    words = written.words ∙ keeps.room.words ∙ ap (λ (w : ℕ). old.places * w) (sym written.width)
        ∙ ap (λ (n : ℕ). n * new.put.width) (sym places);
  }

  -- the sample goes on
  pub keeps_on : new.ran ≡ old.ran → new.put ≡ old.put → Keeps puts p new
  keeps_on ran same = record {
    room = room;
    rows = λ n early late.
        rw (places, same) (keeps.rows n (omega (arith, early, ran)) (omega (arith, late, ran, places)));
  }

  -- the sample ends, and its row is put
  pub keeps_more : new.ran ≡ old.ran + 1
      → row_in new.put (old.ran % old.places) ≡ get_or (get_or puts p []) old.ran []
      → Keeps puts p new
  keeps_more ran here = record { room = room; rows = rows }
    where
      rows : (n : ℕ)
          → n < new.ran
          → new.ran ≤ n + new.places
          → row_in new.put (n % new.places) ≡ get_or (get_or puts p []) n []
      rows n early late =
          elim (cases_lt n old.ran) [
            | inl before ↦
                let apart : n % old.places ≡ old.ran % old.places → ⊥ =
                remainders_differ n old.ran old.places keeps.room.some before (omega (arith, late, ran, places)) in
                rw places
                (written.others (n % old.places) (mod_below n old.places keeps.room.some) apart
                ∙ keeps.rows n before (omega (arith, late, ran, places)))
            | inr last ↦
                let same : n ≡ old.ran = omega (arith, last, early, ran) in
                rw (same, places) here
          ]
