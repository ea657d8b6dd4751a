use Rattle.std.proofs.Common.{ℕ, List, [], ◌++◌, Ok, refl, ap, ◌∙◌}
use Rattle.std.proofs.lemmas.Result.{err_from_is_err_and}
use Rattle.micro_image.specs.declared.image.UnitDesc.{UnitDesc}
use Rattle.micro_file.specs.declared.misread.Unread.{Unread}
use Rattle.micro_file.specs.Private.Fields.{◌>>=◌, Reading, many_at}
use Rattle.micro_file.specs.Private.FormAt.{FormAt}
use Rattle.micro_file.specs.Private.Units.{unit_at, judged_at, some_units_at}
use Rattle.micro_file.specs.Private.Ends.{ends_of, all_judged}
use Rattle.micro_file.specs.Private.Reads.{Fails}
use Rattle.micro_file.proofs.Judgement.{as_many, once_judged}
use Rattle.micro_file.proofs.Many.{fails_then}
use Rattle.micro_file.proofs.Readers.{joined}
use Rattle.micro_file.proofs.units.read_counted.Goals as goal

-- what is read, once the units are
abbrev with_rest : List UnitDesc → List ℕ → Unit {0} → Reading (List UnitDesc)
with_rest units after ok = Ok (units, after)

-- what the units fail with, all does
several_failed : (form : FormAt) (e : Unread) (count : ℕ) (bytes : List ℕ)
    → Fails e (many_at (λ _. unit_at form) [] count bytes)
    → Fails e (some_units_at form count bytes)
unfolding some_units_at
several_failed form e count bytes h =
    fails_then e (many_at (λ _. unit_at form) [] count bytes)
    (λ (units : List UnitDesc × List ℕ). judged_at form units.0 count bytes >>= λ ok. Ok units) h

pub returns-in_err-units : goal.returns-in_err-units
returns-in_err-units g c =
    let form = g.R.Fields.form in
    let rest = g.R.Fields.rest in
    let p = err_from_is_err_and c.from_residual-in_err-units.result c.from_residual-in_err-units.ensures.1 in
    rw (p.1, p.2)
    (several_failed form c.in_err-units.field-0.0 c.args.count (rest c.args.reader.now) c.in_err-units.ensures.units)

pub judge-requires : goal.judge-requires
judge-requires g c =
    let form = g.R.Fields.form in
    let rest = g.R.Fields.rest in
    let noted =
    c.in_ok-units.ensures.ends
    ∙ ap (λ (t : List ℕ). t ++ ends_of form c.args.count (rest c.args.reader.now)) c.in_ok-ends.ensures in record {
      ends =
          as_many form c.in_ok-units.units c.args.count (rest c.args.reader.now) (rest c.read_several.new.reader)
          c.read_several.new.ends c.in_ok-units.ensures.units noted;
      room = c.in_ok-units.ensures.room;
    }

pub returns-in_err-judge : goal.returns-in_err-judge
returns-in_err-judge g c =
    let form = g.R.Fields.form in
    let rest = g.R.Fields.rest in
    let noted =
    c.in_ok-units.ensures.ends
    ∙ ap (λ (t : List ℕ). t ++ ends_of form c.args.count (rest c.args.reader.now)) c.in_ok-ends.ensures in
    let judged =
    once_judged form c.in_ok-units.units c.args.count (rest c.args.reader.now) (rest c.read_several.new.reader)
    c.read_several.new.ends c.in_ok-units.ensures.units noted in
    let p = err_from_is_err_and c.from_residual-in_err-judge.result c.from_residual-in_err-judge.ensures.1 in
    rw (p.1, p.2, judged)
    (fails_then c.in_err-judge.field-0.0
    (all_judged form c.in_ok-units.units c.in_ok-units.units c.read_several.new.ends)
    (with_rest c.in_ok-units.units (rest c.read_several.new.reader)) c.in_err-judge.ensures)

pub returns : goal.returns
returns g c =
    let form = g.R.Fields.form in
    let rest = g.R.Fields.rest in
    let noted =
    c.in_ok-units.ensures.ends
    ∙ ap (λ (t : List ℕ). t ++ ends_of form c.args.count (rest c.args.reader.now)) c.in_ok-ends.ensures in
    let judged =
    once_judged form c.in_ok-units.units c.args.count (rest c.args.reader.now) (rest c.read_several.new.reader)
    c.read_several.new.ends c.in_ok-units.ensures.units noted in
    judged
    ∙ joined (all_judged form c.in_ok-units.units c.in_ok-units.units c.read_several.new.ends)
    (with_rest c.in_ok-units.units (rest c.read_several.new.reader)) tt _ c.in_ok-judge.ensures refl
