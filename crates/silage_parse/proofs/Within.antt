-- Tokens are a program within the limits where none of their roles passes one, and the other way round.
use Rattle.std.proofs.Common.{inl, inr, ◌≡◌, ℕ, ◌+◌, ◌≤◌, ◌<◌, true, List, [], ◌++◌, length, min, Option}
use Rattle.std.proofs.Common.{Some, None, slice_get, refl, sym, ap, subst, ◌∙◌, append_assoc, append-nil, length-append}
use Rattle.std.proofs.Common.{arith}
use Rattle.std.proofs.lemmas.Option.{slice_get_within, slice_get_cases}
use Rattle.std.proofs.lemmas.Bool.{true_from_ne_false}
use Rattle.silage_lex.specs.declared.Token.{Token}
use Rattle.silage_syntax.specs.Tree.{Program}
use Rattle.silage_syntax.specs.Grammar.{kind_at, Role, Weighs, HasRoles}
use Rattle.silage_syntax.specs.Grammar as role
use Rattle.silage_syntax.specs.Limits.{Passes, too_heavy, too_deep, AreWithin}
use Rattle.silage_parse.specs.Private.ParseTable.{Effect, Outside, Begins, Inside, Enters, Leaves, Value, Symbol}
use Rattle.silage_parse.specs.Private.ParseTable.{productions}
use Rattle.silage_parse.specs.Private.Machine.{predict, Count, counted, allowed, Outcome, Runs, ends, matches, expands}
use Rattle.silage_parse.specs.Private.Machine.{acts, roles_of, Reads, r_end, r_match, r_expand, r_act}
use Rattle.silage_parse.specs.Answers.{IsWithin}
use Rattle.silage_parse.proofs.Readings.{append, Valid, valid_way, way_among, ll1}
use Rattle.silage_parse.proofs.Counting.{Counts, count_none, count_more, refused_passes}
use Rattle.silage_parse.proofs.Outcomes.{valid_start, read_on, program_answer}
use Rattle.silage_parse.proofs.CompletePrograms.{reads_of}
use Rattle.silage_parse.proofs.SoundPrograms.{program_of}

-- no more roles are read than there are tokens
roles_fit : (us : List Token) {ss : List Symbol} {i j : ℕ} {vs ws : List Value} {rs : List Role}
    → Reads us ss i vs rs j ws
    → length rs + min i (length us) ≤ min j (length us)
roles_fit us r_end = omega arith
roles_fit us (r_match {e = e} {i = i} {rs = rs} h a) =
    let x = roles_fit us a in
    elim (slice_get_cases us i).1 [
      | inl s ↦ rw s.2 (omega (arith, x, s.0))
      | inr s ↦ rw s.1 (omega (arith, x, s.0))
    ]
roles_fit us (r_expand {rs = rs} {qs = qs} way a b) =
    let x = roles_fit us a in
    let y = roles_fit us b in
    let z = length-append rs qs in
    omega (arith, x, y, z)
roles_fit us (r_act a) = roles_fit us a

passes_inside : (us : List Token) (p : Program) (roles : List Role)
    → HasRoles us p roles
    → (k : ℕ)
    → Passes roles k
    → k < length us
passes_inside us p roles d k (too_heavy is full) =
    let x = slice_get_within roles k Weighs is in let y = roles_fit us (reads_of us p roles d) in omega (arith, x, y)
passes_inside us p roles d k (too_deep is full) =
    let x = slice_get_within roles k role.Enters is in
    let y = roles_fit us (reads_of us p roles d) in
    omega (arith, x, y)

-- a program within the limits has no role that passes one
pub roles_within : (us : List Token) (p : Program) (roles : List Role)
    → HasRoles us p roles
    → IsWithin us p
    → AreWithin roles
roles_within us p roles d w k passes =
    let lt = passes_inside us p roles d k passes in
    w.limits k lt
    (record {
      within = lt;
      begins =
          record { all = us; program = p; roles = roles; long = omega (arith, lt); agrees = λ m _. refl; derives = d };
      passes = passes;
    })

allowed_none : (f : Effect) (c : Count) → allowed f None c ≡ true
allowed_none Outside c = refl
allowed_none Begins c = refl
allowed_none Inside c = refl
allowed_none Enters c = refl
allowed_none Leaves c = refl

counted_none : (f : Effect) (c : Count) → c ≡ counted f None c
counted_none Outside c = refl
counted_none Begins c = refl
counted_none Inside c = refl
counted_none Enters c = refl
counted_none Leaves c = refl

-- the next token is allowed, and is counted
one_more : (all : List Role)
    → AreWithin all
    → (f : Effect) (x : Option Token) (c : Count) (before rest : List Role)
    → all ≡ before ++ (roles_of f x ++ rest)
    → Counts before c
    → (allowed f x c ≡ true) × Counts (before ++ roles_of f x) (counted f x c)
one_more all within f None c before rest e count = (
  allowed_none f c,
  subst (Counts (before ++ [])) (counted_none f c) (subst (λ x. Counts x c) (sym (append-nil before)) count),
)
one_more all within f (Some t) c before rest e count =
    let ok =
    true_from_ne_false (allowed f (Some t) c) (λ off.
    within (length before)
    (subst (λ x. Passes x (length before)) (sym e) (refused_passes before rest f t c count off))) in
    (ok, count_more before f t c count ok)

-- a reading whose roles pass no limit is a run, up to where another reading begins
run_over : (us : List Token) (all : List Role)
    → AreWithin all
    → {ss rest : List Symbol} {i j k : ℕ} {c : Count} {vs ws xs : List Value} {rs qs : List Role} {o : Outcome}
    → Reads us ss i vs rs j ws
    → Reads us rest j ws qs k xs
    → Valid (ss ++ rest)
    → (before : List Role)
    → all ≡ before ++ (rs ++ qs)
    → Counts before c
    → ((e : Count) → Counts (before ++ rs) e → Runs us rest j e ws o)
    → Runs us (ss ++ rest) i c vs o
run_over us all within {c = c} r_end r v before e count on =
    on c (subst (λ x. Counts x c) (sym (append-nil before)) count)
run_over us all within {c = c} {qs = qs} (r_match {e = f} {i = i} {rs = rs} h a) r v before e count on =
    let now = roles_of f (slice_get us i) in
    let q : all ≡ before ++ (now ++ (rs ++ qs)) = e ∙ ap (λ x. before ++ x) (append_assoc now rs qs) in
    let s = one_more all within f (slice_get us i) c before (rs ++ qs) q count in
    matches h s.0
    (run_over us all within a r v.1 (before ++ now) (q ∙ sym (append_assoc before now (rs ++ qs))) s.1
    (λ g k. on g (subst (λ x. Counts x g) (append_assoc before now rs) k)))
run_over us all within {rest = rest} {c = c} {qs = qs} {o = o}
    (r_expand {p = p} {ps = ps} {ss = ss} {i = i} {vs = vs} {rs = rs} {qs = more} way a b) r v before e count on =
    let next = append b r in
    let predicted : predict (productions p) (kind_at us i) ≡ ps = ll1 us p ps (ss ++ rest) v way (append a next) in
    let q : all ≡ before ++ (rs ++ (more ++ qs)) = e ∙ ap (λ x. before ++ x) (append_assoc rs more qs) in
    let run =
    run_over us all within a next (valid_way p ps (ss ++ rest) v (way_among p (kind_at us i) way)) before q count
    (λ f g.
    run_over us all within b r v.2 (before ++ rs) (q ∙ sym (append_assoc before rs (more ++ qs))) g
    (λ h k. on h (subst (λ x. Counts x h) (append_assoc before rs more) k))) in
    expands (subst (λ x. Runs us (x ++ (ss ++ rest)) i c vs o) (sym predicted) run)
run_over us all within (r_act a) r v before e count on = acts (run_over us all within a r v before e count on)

-- and a program with no role that passes a limit is within them
pub program_within : (us : List Token) (p : Program) (roles : List Role)
    → HasRoles us p roles
    → AreWithin roles
    → IsWithin us p
program_within us p roles d within =
    let run =
    run_over us roles within (read_on (reads_of us p roles d)) r_end valid_start [] (sym (append-nil roles))
    count_none (λ e k. ends) in
    program_answer reads_of program_of us p (expands run)
