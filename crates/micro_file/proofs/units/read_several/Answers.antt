use Rattle.std.proofs.Common.{◌+◌, ◌≤◌, [], sym, ◌∙◌}
use Rattle.std.below.core.specs.declared.int.usize.TheConstants as usize
use Rattle.std.proofs.lemmas.List.Elements.{All-push}
use Rattle.std.proofs.lemmas.Result.{err_from_is_err_and}
use Rattle.micro_file.specs.Private.Fields.{many_at}
use Rattle.micro_file.specs.Private.Units.{unit_at}
use Rattle.micro_file.proofs.Judgement.{ends_go_on, ends_done}
use Rattle.micro_file.proofs.Many.{goes_on, ends, is_done}
use Rattle.micro_file.proofs.units.read_several.Goals as goal

pub returns-in_err-unit : goal.returns-in_err-unit
returns-in_err-unit g c =
    let form = g.R.Fields.form in
    let rest = g.R.Fields.rest in
    let p = err_from_is_err_and c.from_residual-in_err-unit.result c.from_residual-in_err-unit.ensures.1 in
    rw (p.1, p.2) (record {
      units =
          ends (λ _. unit_at form) c.loop.units c.args.count c.loop.counter (rest c.loop.reader)
          (many_at (λ _. unit_at form) [] c.args.count (rest c.args.reader.now)) c.loop.invariant.0
          c.in_err-unit.field-0.0 c.loop-test.true c.in_err-unit.ensures;
      ends = tt;
      room = tt;
    })

pub loop-preserved : goal.loop-preserved
loop-preserved g c =
    let form = g.R.Fields.form in
    let rest = g.R.Fields.rest in (
      rw c.in_ok-push-2.ensures.ok
          (goes_on (λ _. unit_at form) c.loop.units c.args.count c.loop.counter (rest c.loop.reader)
          (many_at (λ _. unit_at form) [] c.args.count (rest c.args.reader.now)) c.loop.invariant.0 c.in_ok-unit.unit
          (rest c.read_unit.new.reader) c.loop-test.true c.in_ok-unit.ensures),
      rw (c.in_ok-push.ensures.ok, c.left.ensures.count)
          (ends_go_on form c.loop.ends c.args.count c.loop.counter (rest c.loop.reader) c.in_ok-unit.unit
          (rest c.read_unit.new.reader) c.loop-test.true c.in_ok-unit.ensures) ∙ c.loop.invariant.1,
      rw c.in_ok-push.ensures.ok
          (All-push (λ end. end + form.ram_length ≤ usize.MAX) c.loop.ends c.left.result c.loop.invariant.2
          c.left.ensures.room),
    )

pub returns : goal.returns
returns g c =
    let form = g.R.Fields.form in
    let rest = g.R.Fields.rest in record {
      units =
          is_done (λ _. unit_at form) c.loop.units c.args.count c.loop.counter (rest c.loop.reader)
          (many_at (λ _. unit_at form) [] c.args.count (rest c.args.reader.now)) c.loop.invariant.0 c.loop-test.false;
      ends = sym (ends_done form c.loop.ends c.args.count c.loop.counter (rest c.loop.reader) c.loop-test.false)
          ∙ c.loop.invariant.1;
      room = c.loop.invariant.2;
    }
