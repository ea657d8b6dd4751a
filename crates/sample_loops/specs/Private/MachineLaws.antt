-- The laws of a machine that runs rows: stretches of rows follow one another.
use Rattle.std.proofs.Common.{◌≡◌, ◌≤◌, ◌+◌, ◌*◌, ◌∙◌, sym, ap, ap₂, subst, arith, mul-le-mul_right}
use Rattle.std.proofs.Common.{ℕ, List, [], ◌++◌, length, map, append_assoc, refl, ℤ}
use Rattle.std.proofs.lemmas.List.{append-nil, length-append}
use Rattle.std.specs.List.{range_with_len}
use Rattle.lists.specs.Rows.{Rows}
use Rattle.cycle_sim.specs.declared.microcode.Microcode.{Microcode}
use Rattle.cycle_sim.specs.Machine.{Snapshot, state_of}
use Rattle.cycle_sim.specs.Microcode.{micro_of}
use Rattle.micro_image.specs.declared.conflict.Conflict.{Conflict}
use Rattle.micro_image.specs.Fields.{Microprogram}
use Rattle.micro_image.specs.Run.{State, Stands, spread, latches}
use Rattle.micro_image.proofs.Lists.{In-range, map-same}
use Rattle.micro_image.proofs.Prefix.{latches-prefix}
use Rattle.micro_image.proofs.Streams.{length-spread, spread-append}
use Rattle.sample_loops.specs.Private.Ranges.{range_more, range_from}
use Rattle.sample_loops.specs.Machines.{cycles_with, rows_put, IsFirstConflict, IsConflictInLast}
use Rattle.sample_loops.specs.Machines.{RunsRows, PutsRows, StopsInLast}

-- the samples of rows and then of more
pub cycles_more : (micro : Microprogram) (cycles rows more : Rows)
    → cycles_with micro (cycles_with micro cycles rows) more ≡ cycles_with micro cycles (rows ++ more)
cycles_more micro cycles rows more =
    append_assoc cycles (spread micro.period rows) (spread micro.period more)
    ∙ ap (λ samples. cycles ++ samples) (sym (spread-append micro.period rows more))

pub length-cycles : (micro : Microprogram) (cycles rows : Rows)
    → length (cycles_with micro cycles rows) ≡ length cycles + length rows * micro.period
length-cycles micro cycles rows =
    length-append cycles (spread micro.period rows) ∙ ap (λ n. length cycles + n) (length-spread micro.period rows)

-- what the latches hold when sample n of the rows ends
abbrev latches_at : (micro : Microprogram) (cycles rows : Rows) (n : ℕ) → List ℤ
latches_at micro cycles rows n = latches micro (cycles_with micro cycles rows) (length cycles + (n + 1) * micro.period)

-- what is put does not depend on the rows that come after
put_before : (micro : Microprogram) (cycles rows more : Rows)
    → map (latches_at micro cycles (rows ++ more)) (range_with_len 0 (length rows)) ≡ rows_put micro cycles rows
put_before micro cycles rows more =
    map-same _ _ (range_with_len 0 (length rows)) (λ k is.
    let range = In-range 0 (length rows) k is in
    let end = (k + 1) * micro.period in
    let below : end ≤ length rows * micro.period = mul-le-mul_right micro.period (omega (arith, range.1)) in
    ap (λ z. latches micro z (length cycles + end)) (sym (cycles_more micro cycles rows more))
    ∙ latches-prefix micro (cycles_with micro cycles rows) (spread micro.period more) (length cycles + end)
    (omega (arith, below, length-cycles micro cycles rows)))

later_end : (micro : Microprogram) (cycles rows : Rows) (k : ℕ)
    → length (cycles_with micro cycles rows) + (k + 1) * micro.period
    ≡ length cycles + ((length rows + k) + 1) * micro.period
later_end micro cycles rows k = omega (arith, length-cycles micro cycles rows)

-- the samples of more rows, after those of the rows
put_after : (micro : Microprogram) (cycles rows more : Rows)
    → rows_put micro (cycles_with micro cycles rows) more
    ≡ map (latches_at micro cycles (rows ++ more)) (range_with_len (length rows) (length more))
put_after micro cycles rows more =
    map-same _ _ (range_with_len 0 (length more)) (λ k is.
    ap₂ (latches micro) (cycles_more micro cycles rows more) (later_end micro cycles rows k))
    ∙ range_from (latches_at micro cycles (rows ++ more)) (length rows) (length more)

put_more : (micro : Microprogram) (cycles rows more : Rows)
    → rows_put micro cycles rows ++ rows_put micro (cycles_with micro cycles rows) more
    ≡ rows_put micro cycles (rows ++ more)
put_more micro cycles rows more =
    let put = latches_at micro cycles (rows ++ more) in
    ap₂ ◌++◌ (sym (put_before micro cycles rows more)) (put_after micro cycles rows more)
    ∙ ap (λ a. map put (range_with_len 0 (length rows)) ++ map put (range_with_len a (length more)))
    (let e : length rows ≡ 0 + length rows = omega arith in e)
    ∙ sym (range_more put 0 (length rows) (length more))
    ∙ ap (λ n. map put (range_with_len 0 n)) (sym (length-append rows more))

module _ (micro : Microprogram) where
  -- no rows
  pub runs_none : (state : State) → RunsRows micro state [] [] state
  runs_none state = record {
    stands = λ cycles stands. subst (Stands state micro) (sym (append-nil cycles)) stands;
    put = λ cycles stands. refl;
  }

  -- rows and then more
  pub runs_more : (old mid new : State) (rows puts more others : Rows)
      → RunsRows micro old rows puts mid
      → RunsRows micro mid more others new
      → RunsRows micro old (rows ++ more) (puts ++ others) new
  runs_more old mid new rows puts more others first second = record {
    stands = λ cycles stands.
        subst (Stands new micro) (cycles_more micro cycles rows more)
        (second.stands (cycles_with micro cycles rows) (first.stands cycles stands));
    put = λ cycles stands.
        ap₂ ◌++◌ (first.put cycles stands)
        (second.put (cycles_with micro cycles rows) (first.stands cycles stands))
        ∙ put_more micro cycles rows more;
  }

  -- a machine that ran met no conflict
  pub runs_clear : (old new : State) (rows puts : Rows)
      → RunsRows micro old rows puts new
      → PutsRows micro old rows puts
  runs_clear old new rows puts ran = record {
    clear = λ cycles stands. (ran.stands cycles stands).clear;
    put = ran.put;
  }

  -- a conflict after rows that ran
  pub meets_after : (old mid new : State) (rows puts more : Rows) (conflict : Conflict)
      → RunsRows micro old rows puts mid
      → StopsInLast micro mid more conflict new
      → StopsInLast micro old (rows ++ more) conflict new
  meets_after old mid new rows puts more conflict ran stops = record {
    met = λ cycles stands.
        let same = cycles_more micro cycles rows more in
        let found : IsConflictInLast micro (cycles_with micro cycles rows) more conflict =
        stops.met (cycles_with micro cycles rows) (ran.stands cycles stands) in
        record {
          first = subst (λ z. IsFirstConflict micro z conflict) same found.first;
          last = subst (λ (z : Rows). length z ≤ conflict.cycle + micro.period) same found.last;
        };
    kept = stops.kept;
  }

-- The same of a machine as callers see it.
pub same_code : (machine : Snapshot) → machine.code ≡ machine.code
same_code machine = refl

pub same_on : (old mid new : Snapshot) → mid.code ≡ old.code → new.code ≡ mid.code → new.code ≡ old.code
same_on old mid new first second = second ∙ first

-- it obeys what it obeyed, and ran rows of it
abbrev pub MachineRuns : Snapshot → Rows → Rows → Snapshot → Type 0
MachineRuns old rows puts new =
    (new.code ≡ old.code) × RunsRows (micro_of old.code) (state_of old) rows puts (state_of new)

abbrev pub MachinePuts : Snapshot → Rows → Rows → Type 0
MachinePuts machine = PutsRows (micro_of machine.code) (state_of machine)

abbrev pub MachineStops : Snapshot → Rows → Conflict → Snapshot → Type 0
MachineStops old rows conflict new = StopsInLast (micro_of old.code) (state_of old) rows conflict (state_of new)

pub machine_none : (machine : Snapshot) → MachineRuns machine [] [] machine
machine_none machine = (refl, runs_none (micro_of machine.code) (state_of machine))

pub machine_more : (old mid new : Snapshot) (rows puts more others : Rows)
    → MachineRuns old rows puts mid
    → MachineRuns mid more others new
    → MachineRuns old (rows ++ more) (puts ++ others) new
machine_more old mid new rows puts more others first second = (
  second.0 ∙ first.0,
  runs_more (micro_of old.code) (state_of old) (state_of mid) (state_of new) rows puts more others first.1
      (subst (λ (code : Microcode). RunsRows (micro_of code) (state_of mid) more others (state_of new)) first.0
      second.1),
)

pub machine_clear : (old new : Snapshot) (rows puts : Rows) → MachineRuns old rows puts new → MachinePuts old rows puts
machine_clear old new rows puts ran =
    runs_clear (micro_of old.code) (state_of old) (state_of new) rows puts ran.1

pub machine_stops : (old mid new : Snapshot) (rows puts more : Rows) (conflict : Conflict)
    → MachineRuns old rows puts mid
    → MachineStops mid more conflict new
    → MachineStops old (rows ++ more) conflict new
machine_stops old mid new rows puts more conflict ran stops =
    meets_after (micro_of old.code) (state_of old) (state_of mid) (state_of new) rows puts more conflict ran.1
    (subst (λ (code : Microcode). StopsInLast (micro_of code) (state_of mid) more conflict (state_of new)) ran.0 stops)
