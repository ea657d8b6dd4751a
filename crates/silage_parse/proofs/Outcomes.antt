-- What the machine's run says of the tokens, given that the table is sound and complete.
use Rattle.std.proofs.Common.{◌≡◌, ℕ, slice_get, ◌+◌, List, [], ◌∷◌, ◌++◌, length, inr, refl, sym, ap, subst, ◌∙◌}
use Rattle.std.proofs.Common.{append-nil, arith}
use Rattle.silage_lex.specs.declared.Token.{Token}
use Rattle.silage_syntax.specs.Tree.{Program, Top}
use Rattle.silage_syntax.specs.Grammar.{kind_at, Role, HasRoles}
use Rattle.silage_syntax.specs.Limits.{Begins, IsDeep}
use Rattle.silage_parse.specs.declared.ParseFault.{ParseFault}
use Rattle.silage_parse.specs.declared.ParseFault.TheVariants.{Syntax, Deep, Memory}
use Rattle.silage_parse.specs.Private.ParseTable.{End, Outside, Source, Tops, no_tops, Value, Symbol, Match, Expand}
use Rattle.silage_parse.specs.Private.ParseTable.{Act, productions}
use Rattle.silage_parse.specs.Private.ParseTable as the
use Rattle.silage_parse.specs.Private.Machine.{predict, Count, no_count, Outcome, done, fault, Runs, ends, matches}
use Rattle.silage_parse.specs.Private.Machine.{expands, acts, RunsTo, here, roles_of, Reads, r_end, r_match, r_expand}
use Rattle.silage_parse.specs.Private.Machine.{r_act}
use Rattle.silage_parse.specs.Answers.{HasFault, IsWithin}
use Rattle.silage_parse.proofs.Readings.{append, split, only_one, predict_candidate, Valid}
use Rattle.silage_parse.proofs.Agreement.{stops_from, same_values, no_syntax}
use Rattle.silage_parse.proofs.Counting.{count_none, Reaches, free, hits}
use Rattle.silage_parse.proofs.ViablePrefixes.{Completed, viable}

-- a program is read, with its roles
abbrev pub ReadsOf : Type 0
ReadsOf =
    (us : List Token) (p : Program) (roles : List Role)
    → HasRoles us p roles
    → Reads us (Expand Source ∷ []) 0 [] roles (length us + 1) (the.tops p.tops ∷ [])

-- what is read is a program, with its roles
abbrev pub ProgramOf : Type 0
ProgramOf =
    (us : List Token) (roles : List Role) (j : ℕ) (vs : List Value)
    → Reads us (Expand Source ∷ []) 0 [] roles j vs
    → (p : Program) × (vs ≡ the.tops p.tops ∷ []) × HasRoles us p roles

-- what the outcome of a run over the tokens says of them
abbrev pub IsOutcome : List Token → Outcome → Type 0
IsOutcome ts (done vs) = (p : Program) × (vs ≡ the.tops p.tops ∷ []) × IsWithin ts p
IsOutcome ts (fault f) = HasFault ts f

-- the one production of a source
abbrev pub start : List Symbol
start = Act no_tops ∷ Expand Tops ∷ Match (End ∷ []) Outside ∷ []

pub valid_start : Valid start
valid_start = (refl, λ f t h. h, (inr (refl, refl), tt))

run_on : {ts : List Token} {o : Outcome} → RunsTo ts o → Runs ts start 0 no_count [] o
run_on (expands r) = r

pub read_on : {us : List Token} {rs : List Role} {j : ℕ} {ws : List Value}
    → Reads us (Expand Source ∷ []) 0 [] rs j ws
    → Reads us start 0 [] rs j ws
read_on {us} {j = j} {ws = ws} (r_expand {rs = rs} {qs = qs} way a b) =
    subst (λ ps. Reads us (ps ++ []) 0 [] (rs ++ qs) j ws) (sym (only_one way)) (append a b)

read_from : {us : List Token} {rs : List Role} {j : ℕ} {ws : List Value}
    → Reads us start 0 [] rs j ws
    → Reads us (Expand Source ∷ []) 0 [] rs j ws
read_from {us} {rs} {j} {ws} r =
    subst (λ x. Reads us (Expand Source ∷ []) 0 [] x j ws) (append-nil rs) (r_expand here r r_end)

-- a run that ends well is a reading
finished : {ts : List Token} {ss : List Symbol} {i : ℕ} {c : Count} {vs ws : List Value}
    → Runs ts ss i c vs (done ws)
    → (rs : List Role) × (j : ℕ) × Reads ts ss i vs rs j ws
finished (ends {i = i}) = ([], i, r_end)
finished {ts} (matches {e = e} {i = i} h l r) =
    let f = finished r in (roles_of e (slice_get ts i) ++ f.0, f.1, r_match h f.2)
finished {ts} (expands {p = p} {i = i} r) =
    let f = finished r in
    let s = split (predict (productions p) (kind_at ts i)) f.2 in
    (s.front ++ s.back, f.1, r_expand (predict_candidate p (kind_at ts i)) s.first s.rest)
finished (acts r) = let f = finished r in (f.0, f.1, r_act f.2)

none_deep : ReadsOf → (ts : List Token) (o : Outcome) → RunsTo ts o → (m : ℕ) → Reaches m o → ¬ IsDeep ts m
none_deep reads_of ts o run m reach deep =
    let b = deep.begins in
    free ts b.all m (omega (arith, b.long)) b.agrees (run_on run) valid_start
    (read_on (reads_of b.all b.program b.roles b.derives)) [] refl count_none (omega arith) reach deep.passes

abbrev begins_with : ProgramOf → (ts : List Token) (k : ℕ) → Completed ts start 0 [] k → Begins ts k
begins_with program_of ts k c =
    let p = program_of c.all c.reading.roles c.reading.end c.reading.values (read_from c.reading.reads) in
    record { all = c.all; program = p.0; roles = c.reading.roles; long = c.long; agrees = c.agrees; derives = p.2 }

same_program : (p q : Program) → the.tops p.tops ∷ [] ≡ the.tops q.tops ∷ [] → p ≡ q
same_program p q e = ap program (ap tops_of e)
  where
    tops_of : List Value → List Top
    tops_of (the.tops ts ∷ vs) = ts
    tops_of _ = []

    program : List Top → Program
    program ts = record { tops = ts }

pub answer : ReadsOf → ProgramOf → (ts : List Token) (o : Outcome) → RunsTo ts o → IsOutcome ts o
answer reads_of program_of ts (done vs) run =
    let f = finished run in
    let p = program_of ts f.0 f.1 vs f.2 in (
      p.0,
      p.1,
      record {
        is = record {
          derives = (f.0, p.2);
          only = λ other d.
              same_program other p.0
              (sym (same_values (run_on run) valid_start (read_on (reads_of ts other d.0 d.1))) ∙ p.1);
        };
        limits = λ m lt. none_deep reads_of ts (done vs) run m tt;
      },
    )
answer reads_of program_of ts (fault (Syntax k)) run =
    let w = viable ts (run_on run) valid_start (omega arith) in (
      record {
        within = w.0;
        begins = begins_with program_of ts k w.1;
        ends = λ lt b.
            no_syntax ts b.all k b.agrees (run_on run) valid_start
            (read_on (reads_of b.all b.program b.roles b.derives));
        no_program = λ e program d.
            no_syntax ts ts k (λ m q. refl) (run_on run) valid_start (read_on (reads_of ts program d.0 d.1));
      },
      λ m lt. none_deep reads_of ts (fault (Syntax k)) run m lt,
    )
answer reads_of program_of ts (fault (Deep k)) run =
    let w = viable ts (run_on run) valid_start (omega arith) in
    let c = w.1 in (
      record {
        within = omega (arith, w.0);
        begins = begins_with program_of ts (k + 1) c;
        passes =
            hits ts c.all k (omega (arith, c.long)) c.agrees (run_on run) valid_start c.reading.reads [] refl
            count_none;
      },
      λ m lt. none_deep reads_of ts (fault (Deep k)) run m lt,
    )
answer reads_of program_of ts (fault Memory) run = absurd (stops_from (run_on run))

-- the same of a call that answers with the program itself, or with the fault
pub program_answer : ReadsOf
    → ProgramOf
    → (ts : List Token) (p : Program)
    → RunsTo ts (done (the.tops p.tops ∷ []))
    → IsWithin ts p
program_answer reads_of program_of ts p run =
    let a = answer reads_of program_of ts (done (the.tops p.tops ∷ [])) run in
    subst (IsWithin ts) (sym (same_program p a.0 a.1)) a.2

pub fault_answer : ReadsOf → ProgramOf → (ts : List Token) (f : ParseFault) → RunsTo ts (fault f) → HasFault ts f
fault_answer reads_of program_of ts f run = answer reads_of program_of ts (fault f) run
