-- How a machine runs a cascade, and how the parts of `demo` make up its answer.
use Rattle.std.proofs.Common.{◌≡◌, refl, sym, ap, ap₂, subst, ◌∙◌, arith, inl, inr, ⊎_elim, ℕ, zero, suc, ◌+◌, ◌*◌, ◌%◌}
use Rattle.std.proofs.Common.{◌<◌, ◌≤◌, ◌^◌, List, [], ◌∷◌, ◌++◌, length, map, replicate, take, drop, take-append-drop}
use Rattle.std.proofs.Common.{ℤ, pos, ◌+ℤ◌, length-append, get_or}
use Rattle.std.specs.List.{AllZip}
use Rattle.std.proofs.Math.Nat.{mod-lt}
use Rattle.std.proofs.lemmas.Int.{ints}
use Rattle.std.proofs.lemmas.Grind.{flat_map-append}
use Rattle.std.proofs.lemmas.List.{append-nil}
use Rattle.std.proofs.lemmas.List.Elements.{All-nil, All-push}
use Rattle.std.proofs.lemmas.List.FromFn.{length-map-range_with_len, take-map-range_with_len, map-range_with_len_more}
use Rattle.std.proofs.lemmas.List.Sums.{fold-append}
use Rattle.lists.specs.Rows.{Rows}
use Rattle.cycle_sim.specs.declared.microcode.Microcode.{Microcode}
use Rattle.cycle_sim.specs.Machine.{Snapshot, state_of, IsAtSample, IsFirstOfSample}
use Rattle.cycle_sim.specs.Microcode.{micro_of, inputs_of}
use Rattle.desk_core.specs.View.{Content, View}
use Rattle.desk_core.specs.Desk.{FaultsNeverFall, IfSpecified, IsUnchanged}
use Rattle.desk_core.proofs.DeskLemmas.{rose_earlier, same_input_trans}
use Rattle.fix_word.specs.Words.{IsWord}
use Rattle.source_faults.specs.Faults.{HasProgram}
use Rattle.micro_image.specs.declared.conflict.Conflict.{Conflict}
use Rattle.micro_image.specs.Fields.{Microprogram, microprogram_of}
use Rattle.micro_image.specs.Run.{Stands, IsRunOut, latches, spread}
use Rattle.micro_image.proofs.Streams.{length-spread, IsRunOut-fewer, IsRunOut-more}
use Rattle.plan_soundness.specs.ImageOf.{IsImageOf, width_of}
use Rattle.silage_meaning.specs.Solves.{IsRow, IsStream, out}
use Rattle.silage_meaning.specs.Types.{IsInType}
use Rattle.silage_syntax.specs.Tree.{Program}
use Rattle.demo_cascade.specs.Cascade.{cascade_source, cascade_datapath, cascade_word, cascade_rows, cascade_line}
use Rattle.demo_cascade.specs.Cascade.{words_of}
use Rattle.demo_cascade.specs.Cascade.{sum_of, last_of}
use Rattle.silc.specs.Demo.{IsCascadeRun, IsDemoDone, IsDemoCutShort, IsDemoAnswer}
use Rattle.plan_commands.specs.Refusals.{IsRefusal}
use Rattle.plan_commands.specs.Headline.{RunsTheSolution}
use Rattle.silc_files.specs.Printing.{PrintsOnly}
use Rattle.sample_loops.specs.Machines.{IsFirstConflict}
use Rattle.plan_commands.specs.Compiling.{IsMicrocodeOf}
use Rattle.silc.specs.Private.Demonstrating.{IsCascadePlan, IsCascadeMachine, RunsCascade, HasPutWords, HasTotals}
use Rattle.plan_commands.specs.Planning.{IsInputPlan}
use Rattle.sample_commands.specs.Loaded.{IsFresh, IsMachineOf}
use Rattle.demo_cascade.specs.declared.Totals.{Totals}
use Rattle.silc_files.specs.declared.files.Input.TheVariants.{Whole}
use Rattle.plan_commands.specs.declared.planning.Planned.{Planned}
use Rattle.silc.specs.declared.kept.Kept.{Kept}
use Rattle.statuses.specs.declared.status.Status.{Status}
use Rattle.statuses.specs.declared.status.Status.TheVariants.{Done}
use Rattle.demo_cascade.proofs.CascadeProgram.{HasOneWordEach, one_word_each}
use Rattle.plan_commands.proofs.Compiled.{runs_the_solution}
use Rattle.plan_commands.proofs.Plans.{planned_over}
use Rattle.silc.proofs.MachineSamples.{spread_row, one_more, at_sample, conflict_in_row}

-- with one more sample there is one more row
rows_more : (n : ℕ) → cascade_rows (n + 1) ≡ cascade_rows n ++ (cascade_word n ∷ []) ∷ []
rows_more n = map-range_with_len_more (λ k. cascade_word k ∷ []) 0 n n (omega arith)

rows_count : (n : ℕ) → length (cascade_rows n) ≡ n
rows_count n = length-map-range_with_len (λ k. cascade_word k ∷ []) 0 n

-- a microprogram that runs samples runs the first of them
pub runs_fewer : (micro : Microprogram) (n samples : ℕ) → n ≤ samples → RunsCascade micro samples → RunsCascade micro n
runs_fewer micro n samples le runs =
    let first : take n (cascade_rows samples) ≡ cascade_rows n =
    take-map-range_with_len (λ k. cascade_word k ∷ []) 0 samples n le in
    let parts : cascade_rows samples ≡ cascade_rows n ++ drop n (cascade_rows samples) =
    sym (take-append-drop n (cascade_rows samples)) ∙ ap (λ front. front ++ drop n (cascade_rows samples)) first in (
      _,
      IsRunOut-fewer micro (cascade_rows n) (drop n (cascade_rows samples)) runs.0
          (subst (λ stream. IsRunOut micro stream runs.0) parts runs.1),
    )

pub ready : (machine : Snapshot) (n : ℕ) (words : List ℤ)
    → 1 ≤ (micro_of machine.code).period
    → n < 2 ^ 32
    → HasPutWords machine.code n machine words
    → IsAtSample machine
ready machine n words some few put =
    at_sample machine (cascade_rows n) some (omega (arith, few, rows_count n)) put.stands

-- the next sample has no conflict
pub no_conflict : (micro : Microprogram) (n : ℕ) (row : List ℤ) (conflict : Conflict)
    → row ≡ cascade_word n ∷ []
    → RunsCascade micro (n + 1)
    → IsFirstOfSample micro (spread micro.period (cascade_rows n)) row conflict
    → ⊥
no_conflict micro n row conflict is runs first =
    let all : cascade_rows n ++ row ∷ [] ≡ cascade_rows (n + 1) =
    ap (λ r. cascade_rows n ++ r ∷ []) is ∙ sym (rows_more n) in
    let met : IsFirstConflict micro (spread micro.period (cascade_rows (n + 1))) conflict =
    subst (λ stream. IsFirstConflict micro (spread micro.period stream) conflict) all
    (conflict_in_row micro (cascade_rows n) row conflict first) in
    runs.1.clear conflict.cycle (omega (arith, met.within, length-spread micro.period (cascade_rows (n + 1))))
    conflict.kind conflict.place
    met.there.there

-- the next sample was run
pub put_more : (code : Microcode) (n : ℕ) (row put : List ℤ) (word : ℤ) (old new : Snapshot) (words : List ℤ)
    → HasPutWords code n old words
    → new.code ≡ code
    → row ≡ cascade_word n ∷ []
    → put ≡ word ∷ []
    → Stands (state_of new) (micro_of code)
    (spread (micro_of code).period (cascade_rows n) ++ replicate (micro_of code).period row)
    → put
    ≡ latches (micro_of code)
    (spread (micro_of code).period (cascade_rows n) ++ replicate (micro_of code).period row)
    (length (spread (micro_of code).period (cascade_rows n)) + (micro_of code).period)
    → HasPutWords code (n + 1) new (words ++ word ∷ [])
put_more code n row put word old new words before same row_is put_is stands puts =
    let micro : Microprogram = micro_of code in
    let stream : Rows = cascade_rows n in
    let more : stream ++ row ∷ [] ≡ cascade_rows (n + 1) = ap (λ r. stream ++ r ∷ []) row_is ∙ sym (rows_more n) in
    let cycles = sym (spread_row micro.period stream row) in
    let after : Stands (state_of new) micro (spread micro.period (stream ++ row ∷ [])) =
    subst (λ z. Stands (state_of new) micro z) cycles stands in
    let size : length (spread micro.period (stream ++ row ∷ [])) ≡ (length stream + 1) * micro.period =
    length-spread micro.period (stream ++ row ∷ [])
    ∙ ap (λ k. k * micro.period) (length-append stream (row ∷ [])) in
    let last : put
    ≡ latches micro (spread micro.period (stream ++ row ∷ []))
    ((length stream + 1) * micro.period) =
    puts ∙ ap₂ (latches micro) cycles (one_more micro.period stream) in
    let run =
    IsRunOut-more micro stream before.rows row before.run
    (λ t late below. after.clear t (omega (arith, below, size))) in
    record {
      code_is = same;
      stands = subst (λ rows. Stands (state_of new) micro (spread micro.period rows)) more after;
      rows = before.rows ++ put ∷ [];
      run =
          subst (λ rows. IsRunOut micro rows (before.rows ++ put ∷ [])) more
          (subst (λ r. IsRunOut micro (stream ++ row ∷ []) (before.rows ++ r ∷ [])) (sym last) run);
      words_are = ap₂ ◌++◌ before.words_are (sym put_is) ∙ sym (words_push before.rows put);
    }
  where
    words_push : (rows : Rows) (r : List ℤ) → words_of (rows ++ r ∷ []) ≡ words_of rows ++ r
    words_push rows r = flat_map-append (λ row. row) rows (r ∷ []) ∙ ap (λ words. words_of rows ++ words) (append-nil r)

-- before the first sample
pub none_put : (machine : Snapshot) → IsFresh machine → HasPutWords machine.code 0 machine []
none_put machine fresh = record {
  code_is = refl;
  stands = fresh.stands;
  rows = [];
  run = record { clear = λ t below. absurd (omega (arith, below)); put = refl };
  words_are = refl;
}

-- what the words come to with one more
pub sum_push : (words : List ℤ) (word : ℤ) → sum_of (words ++ word ∷ []) ≡ sum_of words +ℤ word
sum_push words word = fold-append ◌+ℤ◌ (pos 0) words (word ∷ [])

pub last_push : (words : List ℤ) (word : ℤ) → last_of (words ++ word ∷ []) ≡ word
last_push words word = fold-append (λ before w. w) (pos 0) words (word ∷ [])

-- the words are in the range of the program's input
pub word_valid : (n : ℕ) → IsWord 16 (cascade_word n)
word_valid n =
    let below : (37 * n) % 256 < 256 = mod-lt (37 * n) (omega arith) in
    record { low = omega (arith, ints, below); high = omega (arith, ints, below) }

-- the program of the source is the one that is read from it
one_word_read : (sections : ℕ)
    → sections ≤ 32
    → (program : Program)
    → HasProgram (cascade_source sections) program
    → HasOneWordEach program
one_word_read sections few program has =
    one_word_each sections few has.read.tokens has.read.lexed program has.read.parsed.is.only

row_valid : (program : Program) → HasOneWordEach program → (n : ℕ) → IsRow program (cascade_word n ∷ [])
row_valid program has n =
    subst (λ types. AllZip IsInType types (cascade_word n ∷ [])) (sym has.inputs) (word_valid n, tt)

pub rows_valid : (program : Program) → HasOneWordEach program → (samples : ℕ) → IsStream program (cascade_rows samples)
rows_valid program has zero = All-nil (IsRow program)
rows_valid program has (suc n) =
    let next : n + 1 ≡ suc n = omega arith in
    subst (IsStream program) (sym (rows_more n) ∙ ap cascade_rows next)
    (All-push (IsRow program) (cascade_rows n) (cascade_word n ∷ []) (rows_valid program has n)
    (row_valid program has n))

-- the plan of the cascade
module _ (sections : ℕ) (source datapath : Content) (source_is : source ≡ cascade_source sections)
    (datapath_is : datapath ≡ cascade_datapath sections) where
  pub cascade_plan : (planned : Planned)
      → IsInputPlan (Whole source) (Whole datapath) planned
      → IsCascadePlan sections planned
  cascade_plan planned h =
      let has = h.source_is (cascade_source sections) source_is in
      record {
        program = h.program;
        graph = h.graph;
        keeps = h.keeps;
        allowed = h.allowed;
        plan = h.plan;
        over =
            planned_over (cascade_source sections) (cascade_datapath sections) h.program has.read h.graph has.graph
            planned.path
            (h.path_is (cascade_datapath sections) datapath_is) planned.plan h.plan;
      }

-- the machine of its microcode
module _ (sections : ℕ) (few : sections ≤ 32) (planned : Planned) (plan : IsCascadePlan sections planned)
    (microcode : Content) (made : IsMicrocodeOf planned.path planned.plan microcode) where
  pub cascade_machine : (machine : Snapshot) → IsMachineOf microcode machine → IsCascadeMachine sections machine
  cascade_machine machine is =
      let has = one_word_read sections few plan.program plan.over.has.read in
      let same : made.image ≡ is.image = sym (made.spelled.unique is.image is.spells) in
      let image_of : IsImageOf planned.path planned.plan is.image =
      subst (IsImageOf planned.path planned.plan) same made.image_of in
      record {
        fresh = is.fresh;
        image = is.image;
        code = is.code;
        program = plan.program;
        path = planned.path;
        plan = planned.plan;
        over = plan.over;
        image_of = image_of;
        runs = subst (RunsTheSolution plan.program) same
            (runs_the_solution plan.program plan.graph made.image plan.keeps
            (made.runs plan.graph plan.keeps.sound plan.plan));
        one_word = record {
          inputs =
              ap inputs_of is.code ∙ image_of.inputs
              ∙ ap (map width_of) (plan.plan.inputs ∙ plan.keeps.keeps.inputs ∙ has.inputs);
          outs =
              ap (λ (code : Microcode). (micro_of code).outs) is.code ∙ image_of.outs ∙ plan.plan.outs
              ∙ plan.keeps.keeps.outs ∙ ap length has.outputs;
        };
      }

-- its run
module _ (sections samples : ℕ) (few : sections ≤ 32) (machine : Snapshot)
    (is : IsCascadeMachine sections machine) where
  valid : IsStream is.program (cascade_rows samples)
  valid = rows_valid is.program (one_word_read sections few is.program is.over.has.read) samples

  abbrev micro : Microprogram
  micro = micro_of machine.code

  micro_is : micro ≡ microprogram_of is.image
  micro_is = ap micro_of is.code

  -- it has no conflict
  pub runs_cascade : RunsCascade micro samples
  runs_cascade =
      let run = is.runs (cascade_rows samples) valid in
      subst (λ (m : Microprogram). RunsCascade m samples) (sym micro_is) (_, run.2)

  -- and its words are those of the program's solution
  pub cascade_run : (after : Snapshot) (totals : Totals)
      → (has : HasTotals machine.code samples after totals)
      → (line : Content)
      → line ≡ cascade_line sections samples has.words
      → IsCascadeRun sections samples after line
  cascade_run after totals has line line_is =
      let run = is.runs (cascade_rows samples) valid in
      let put = subst (λ (m : Microprogram). IsRunOut m (cascade_rows samples) has.put.rows) micro_is has.put.run in
      let rows : has.put.rows ≡ out is.program run.0 samples =
      put.put ∙ sym run.2.put ∙ ap (out is.program run.0) (rows_count samples) in
      record {
        program = is.program;
        path = is.path;
        plan = is.plan;
        planned = is.over;
        image = is.image;
        image_of = is.image_of;
        code_is = has.put.code_is ∙ is.code;
        stands =
            subst (λ (m : Microprogram). Stands (state_of after) m (spread m.period (cascade_rows samples))) micro_is
            has.put.stands;
        words = run.0;
        one = run.1;
        line_is = line_is ∙ ap (cascade_line sections samples) (has.put.words_are ∙ ap words_of rows);
      }

-- a report of the error leaves the answer of `demo` as it is
module _ (sections samples : ℕ) (old mid new : View) (same : IsUnchanged mid new) (later : FaultsNeverFall mid new)
    (before : FaultsNeverFall old mid) where
  unchanged_on : IsUnchanged old mid → IsUnchanged old new
  unchanged_on h = record {
    files = same.files ∙ h.files;
    input = same_input_trans old mid new h.input same.input;
    place = same.place ∙ h.place;
    output = same.output ∙ h.output;
    printed = same.printed ∙ h.printed;
    reads = same.reads ∙ h.reads;
    writes = same.writes ∙ h.writes;
  }

  printed_on : (R : Content → Content → Type 0)
      → IfSpecified R old.printed mid.printed
      → IfSpecified R old.printed new.printed
  printed_on R h = λ after is. h after (sym same.printed ∙ is)

  demo_done_still : (kept : Kept) → IsDemoDone sections samples old mid kept → IsDemoDone sections samples old new kept
  demo_done_still kept h =
      record { machine = h.machine; kept_is = h.kept_is; line = h.line; run = h.run; printed = printed_on _ h.printed }

  demo_cut_short_still : IsDemoCutShort sections samples old mid → IsDemoCutShort sections samples old new
  demo_cut_short_still h = record {
    rose = rose_earlier _ _ _ before.printing h.rose later.printing;
    machine = h.machine;
    line = h.line;
    run = h.run;
    printed = printed_on _ h.printed;
  }

  pub demo_reported : (kept : Kept) (s : Status)
      → IsDemoAnswer sections samples old mid kept s
      → IsDemoAnswer sections samples old new kept s
  demo_reported kept s h =
      ⊎_elim (λ done. inl (done.0, demo_done_still kept done.1))
      (λ rest.
      inr (⊎_elim (λ desk. inl (desk.0, demo_cut_short_still desk.1))
      (λ error. inr (record { unchanged = unchanged_on error.unchanged; why = error.why })) rest))
      h

pub prints_still : (old mid new : View) → IsUnchanged mid new → PrintsOnly old mid → PrintsOnly old new
prints_still old mid new same h = record {
  files = same.files ∙ h.files;
  input = same_input_trans old mid new h.input same.input;
  place = same.place ∙ h.place;
  output = same.output ∙ h.output;
  reads = same.reads ∙ h.reads;
  writes = same.writes ∙ h.writes;
}

-- where `demo` is done, it printed the line
pub demo_done : (sections samples : ℕ) (old new : View) (kept : Kept) (s : Status)
    → s ≡ Done
    → IsDemoAnswer sections samples old new kept s
    → IsDemoDone sections samples old new kept
demo_done sections samples old new kept s done h =
    ⊎_elim (λ is. is.1)
    (λ rest. ⊎_elim (λ desk. absurd (cc))
    (λ error. absurd (⊎_elim (λ memory. cc) (λ refused. subst IsRefusal done refused.0) error.why))
    rest)
    h

-- a list of one is its item
pub only_item : (words : List ℤ) (other : ℤ) → length words ≡ 1 → words ≡ get_or words 0 other ∷ []
only_item [] other size = absurd (omega (arith, size))
only_item (word ∷ []) other size = refl
only_item (word ∷ second ∷ more) other size = absurd (omega (arith, size))
