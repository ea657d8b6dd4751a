-- A processor of a net runs its image over the rows that it reads: it meets no conflict, and puts the run's rows.
use Rattle.std.proofs.Common.{◌≡◌, ℕ, ◌+◌, ◌-◌, ◌*◌, ◌<◌, ◌≤◌, List, [], ◌∷◌, ◌++◌, length, get_or, take, drop}
use Rattle.std.proofs.Common.{replicate, ℤ}
use Rattle.std.proofs.Common.{ap, ap₂, sym, ◌∙◌, arith, append_assoc}
use Rattle.std.proofs.lemmas.List.{length-append, length-replicate, length-take-le, append-nil, take_more, drop_more}
use Rattle.std.proofs.lemmas.List.{take-append-drop}
use Rattle.std.proofs.lemmas.List.{replicate-append-replicate}
use Rattle.std.proofs.lemmas.List.FromFn.{get_or-map-range_with_len}
use Rattle.std.proofs.Common.{mul-le-mul_right}
use Rattle.lists.specs.Rows.{Rows}
use Rattle.micro_image.specs.declared.conflict.Conflict.{Conflict}
use Rattle.micro_image.specs.Conflict.{IsConflict}
use Rattle.micro_image.specs.Fields.{Microprogram}
use Rattle.micro_image.specs.Run.{IsRunOut, spread, row_of, latches}
use Rattle.micro_image.proofs.Prefix.{IsClear-without}
use Rattle.micro_image.proofs.Streams.{length-spread, spread-append, latches-more}

module _ (period : ℕ) (stream : Rows) (ran cycle : ℕ) (row : List ℤ) (within : ran < length stream)
    (is : row ≡ get_or stream ran []) where
  stream_is : stream ≡ take ran stream ++ row ∷ drop (ran + 1) stream
  stream_is =
      sym (take-append-drop ran stream)
      ∙ ap (λ (l : Rows). take ran stream ++ l)
      (drop_more stream ran [] within ∙ ap (λ (r : List ℤ). r ∷ drop (ran + 1) stream) (sym is))

  repeated : cycle ≤ period → replicate period row ≡ replicate cycle row ++ replicate (period - cycle) row
  repeated le =
      let same : cycle + (period - cycle) ≡ period = omega (arith, le) in
      sym (replicate-append-replicate cycle (period - cycle) row ∙ ap (λ (n : ℕ). replicate n row) same)

  -- the cycles so far are the first of all
  pub all_cycles : cycle ≤ period
      → spread period stream
      ≡ (spread period (take ran stream) ++ replicate cycle row)
      ++ (replicate (period - cycle) row ++ spread period (drop (ran + 1) stream))
  all_cycles le =
      ap (λ (s : Rows). spread period s) stream_is
      ∙ spread-append period (take ran stream) (row ∷ drop (ran + 1) stream)
      ∙ ap (λ (l : Rows). spread period (take ran stream) ++ (l ++ spread period (drop (ran + 1) stream))) (repeated le)
      ∙ ap (λ (l : Rows). spread period (take ran stream) ++ l)
      (append_assoc (replicate cycle row) (replicate (period - cycle) row) (spread period (drop (ran + 1) stream)))
      ∙ sym (append_assoc (spread period (take ran stream)) (replicate cycle row)
      (replicate (period - cycle) row ++ spread period (drop (ran + 1) stream)))

  pub length-so_far : length (spread period (take ran stream) ++ replicate cycle row) ≡ ran * period + cycle
  length-so_far =
      length-append (spread period (take ran stream)) (replicate cycle row)
      ∙ ap₂ ◌+◌ (length-spread period (take ran stream)) (length-replicate cycle row)
      ∙ ap (λ (n : ℕ). n * period + cycle) (length-take-le ran stream (omega (arith, within)))

one_more : (n : ℕ) (row : List ℤ) → replicate n row ++ row ∷ [] ≡ replicate (n + 1) row
one_more n row = replicate-append-replicate n 1 row

-- one more cycle, within the sample and at its end
pub so_far-goes : (period : ℕ) (stream : Rows) (ran cycle : ℕ) (row : List ℤ)
    → (spread period (take ran stream) ++ replicate cycle row) ++ row ∷ []
    ≡ spread period (take ran stream) ++ replicate (cycle + 1) row
so_far-goes period stream ran cycle row =
    append_assoc (spread period (take ran stream)) (replicate cycle row) (row ∷ [])
    ∙ ap (λ (l : Rows). spread period (take ran stream) ++ l) (one_more cycle row)

pub so_far-ends : (period : ℕ) (stream : Rows) (ran cycle : ℕ) (row other : List ℤ)
    → ran < length stream
    → row ≡ get_or stream ran []
    → cycle + 1 ≡ period
    → (spread period (take ran stream) ++ replicate cycle row) ++ row ∷ []
    ≡ spread period (take (ran + 1) stream) ++ replicate 0 other
so_far-ends period stream ran cycle row other within is ends =
    so_far-goes period stream ran cycle row
    ∙ ap (λ (n : ℕ). spread period (take ran stream) ++ replicate n row) ends
    ∙ ap (λ (l : Rows). spread period (take ran stream) ++ l) (sym (append-nil (replicate period row)))
    ∙ sym (spread-append period (take ran stream) (row ∷ []))
    ∙ ap (λ (r : List ℤ). spread period (take ran stream ++ r ∷ [])) is
    ∙ ap (λ (s : Rows). spread period s) (sym (take_more stream ran [] within))
    ∙ sym (append-nil (spread period (take (ran + 1) stream)))

module _ (micro : Microprogram) (stream rows : Rows) (run : IsRunOut micro stream rows) (ran cycle : ℕ) (row : List ℤ)
    (within : ran < length stream) (is : row ≡ get_or stream ran []) (inside : cycle < micro.period) where
  with_next : (spread micro.period (take ran stream) ++ replicate cycle row) ++ row ∷ []
      ≡ spread micro.period (take ran stream) ++ replicate (cycle + 1) row
  with_next = so_far-goes micro.period stream ran cycle row

  below : ran * micro.period + cycle < length stream * micro.period
  below =
      let more : (ran + 1) * micro.period ≤ length stream * micro.period =
      mul-le-mul_right micro.period (omega (arith, within)) in
      omega (arith, more, inside)

  -- the next cycle has no conflict
  pub no_conflict : (conflict : Conflict)
      → IsConflict micro ((spread micro.period (take ran stream) ++ replicate cycle row) ++ row ∷ []) conflict
      → conflict.cycle ≡ length (spread micro.period (take ran stream) ++ replicate cycle row)
      → ⊥
  no_conflict conflict met at =
      let here : conflict.cycle ≡ ran * micro.period + cycle =
      at ∙ length-so_far micro.period stream ran cycle row within is in
      let next : length (spread micro.period (take ran stream) ++ replicate (cycle + 1) row)
      ≡ ran * micro.period + (cycle + 1) = length-so_far micro.period stream ran (cycle + 1) row within is in
      let all = all_cycles micro.period stream ran (cycle + 1) row within is (omega (arith, inside)) in
      let clear = run.clear conflict.cycle (omega (arith, here, below)) in
      IsClear-without micro (spread micro.period (take ran stream) ++ replicate (cycle + 1) row)
      (replicate (micro.period - (cycle + 1)) row ++ spread micro.period (drop (ran + 1) stream)) conflict.cycle
      (omega (arith, here, next)) (rw (← all) clear) conflict.kind conflict.place
      (rw (← with_next) met.there)

  -- the row of a sample that ends
  pub row_put : (put : List ℤ)
      → put
      ≡ latches micro (spread micro.period (take (ran + 1) stream))
      (length (spread micro.period (take (ran + 1) stream)))
      → put ≡ get_or rows ran []
  row_put put is_put =
      let count : length (take (ran + 1) stream) ≡ ran + 1 = length-take-le (ran + 1) stream (omega (arith, within)) in
      let cycles : length (spread micro.period (take (ran + 1) stream)) ≡ (ran + 1) * micro.period =
      length-spread micro.period (take (ran + 1) stream) ∙ ap (λ (n : ℕ). n * micro.period) count in
      is_put
      ∙ ap (λ (t : ℕ). latches micro (spread micro.period (take (ran + 1) stream)) t) cycles
      ∙ sym (latches-more micro (take (ran + 1) stream) (drop (ran + 1) stream) ((ran + 1) * micro.period)
      (omega (arith, ap (λ (n : ℕ). n * micro.period) count)))
      ∙ ap (λ (s : Rows). latches micro (spread micro.period s) ((ran + 1) * micro.period))
      (take-append-drop (ran + 1) stream)
      ∙ sym (get_or-map-range_with_len (row_of micro stream) 0 (length stream) ran ran [] within (omega arith))
      ∙ ap (λ (l : Rows). get_or l ran []) (sym run.put)
