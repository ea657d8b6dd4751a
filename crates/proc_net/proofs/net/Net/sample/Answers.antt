use Rattle.std.proofs.Common.{◌≡◌, ◌<◌, List, length, Some, ap, sym, ◌∙◌, subst, arith, ℤ, true, false}
use Rattle.std.specs.List.{All}
use Rattle.std.specs.Prelude.{slice_get}
use Rattle.lists.specs.Rows.{Rows}
use Rattle.net_solution.specs.Solutions.{shape_of, IsNetSolution}
use Rattle.proc_net.specs.declared.processor.Processor.{Processor}
use Rattle.proc_net.specs.Nets.{NetState, parts_of, points_of, sample_turns, IsNetAt}
use Rattle.proc_net.specs.Private.Reading.{IsReadable}
use Rattle.proc_net.specs.Private.States.{TookTurns}
use Rattle.proc_net.specs.Private.Views.{net_of}
use Rattle.proc_net.proofs.Samples.{within_took, lacking_took}
use Rattle.proc_net.proofs.Sampling.{ready_sample, first_by, first_now, cycle_read, sample_done}
use Rattle.proc_net.proofs.Standing.{feeds_length, at_solution}
use Rattle.proc_net.proofs.Turned.{BeginsBy, lacks_says, takes, row_inside}
use Rattle.proc_net.proofs.net.Net.sample.Goals as goal

-- where nothing changes, the net is where its turns lead
pub returns-then-processors-number-gt0-clause-at : goal.returns-then-processors-number-gt0-clause-at
returns-then-processors-number-gt0-clause-at c =
    subst (λ (net : NetState). (puts : List Rows) → IsNetSolution (parts_of net) puts → IsNetAt net puts) c.self.view_is
    (at_solution (net_of c.self.inside) c.self.invariant)

-- and no turn ran
pub returns-then-processors-number-gt0-clause-turns : goal.returns-then-processors-number-gt0-clause-turns
returns-then-processors-number-gt0-clause-turns c =
    let list = c.as_slice-processors.result.now in
    let inside : c.args.number < length c.self.inside.processors =
    omega (arith, c.requires, ap (λ (net : NetState). length net.processors) c.self.view_is) in
    let at = cycle_read (net_of c.self.inside) list c.args.number c.index-processors-number.result
    c.as_slice-processors.ensures inside in
    subst (λ (net : NetState).
    TookTurns net net (sample_turns (shape_of (parts_of net)) (points_of net) c.args.number) false) c.self.view_is
    (within_took (net_of c.self.inside) c.args.number (omega (arith, c.if-processors-number-gt0.true, at)))

pub returns-then-lacks-clause-turns : goal.returns-then-lacks-clause-turns
returns-then-lacks-clause-turns c =
    let list = c.as_slice-processors.result.now in
    let inside : c.args.number < length c.self.inside.processors =
    omega (arith, c.requires, ap (λ (net : NetState). length net.processors) c.self.view_is) in
    let at = cycle_read (net_of c.self.inside) list c.args.number c.index-processors-number.result
    c.as_slice-processors.ensures inside in
    let none =
    lacks_says (net_of c.self.inside) list c.count-samples.result c.args.number c.lacks.result
    c.as_slice-processors.ensures c.count-samples.ensures c.lacks.ensures ∙ c.if-lacks.true in
    subst (λ (net : NetState).
    TookTurns net net (sample_turns (shape_of (parts_of net)) (points_of net) c.args.number) false) c.self.view_is
    (lacking_took (net_of c.self.inside) c.args.number
    (omega (arith, inside, feeds_length (net_of c.self.inside) c.self.invariant)) none
    (omega (arith, c.if-processors-number-gt0.false, at)))

pub returns-then-lacks-clause-at : goal.returns-then-lacks-clause-at
returns-then-lacks-clause-at c =
    subst (λ (net : NetState). (puts : List Rows) → IsNetSolution (parts_of net) puts → IsNetAt net puts) c.self.view_is
    (at_solution (net_of c.self.inside) c.self.invariant)

pub begin-requires-clause-room : goal.begin-requires-clause-room
begin-requires-clause-room c =
    λ own row there row_there.
    (c.self.invariant.each c.args.number own row
    (subst (λ (list : List Processor). slice_get list c.args.number ≡ Some own) c.as_slice-processors.ensures there)
    row_there).words

pub begin-requires-clause-words : goal.begin-requires-clause-words
begin-requires-clause-words c =
    let inside : c.args.number < length c.self.inside.processors =
    omega (arith, c.requires, ap (λ (net : NetState). length net.processors) c.self.view_is) in
    let now =
    lacks_says (net_of c.self.inside) c.as_slice-processors.result.now c.count-samples.result c.args.number
    c.lacks.result c.as_slice-processors.ensures c.count-samples.ensures c.lacks.ensures ∙ c.if-lacks.false in
    subst (λ (list : List Processor). (own : Processor) → slice_get list c.args.number ≡ Some own → own.cycle ≡ 0
    → All (IsReadable list c.self.inside.stream own.ran) own.feed) (sym c.as_slice-processors.ensures)
    (takes (net_of c.self.inside) c.self.invariant c.args.number inside now)

pub run_sample-requires-clause-row : goal.run_sample-requires-clause-row
run_sample-requires-clause-row c =
    let inside : c.args.number < length c.self.inside.processors =
    omega (arith, c.requires, ap (λ (net : NetState). length net.processors) c.self.view_is) in
    row_inside (net_of c.self.inside) c.self.invariant c.args.number inside c.as_slice-processors.result.now
    c.as_slice-processors.ensures c.begin.new.rows c.begin.ensures c.as_slice.result.now c.as_slice.ensures

pub run_sample-requires-clause-ready : goal.run_sample-requires-clause-ready
run_sample-requires-clause-ready c =
    let list = c.as_slice-processors.result.now in
    let inside : c.args.number < length c.self.inside.processors =
    omega (arith, c.requires, ap (λ (net : NetState). length net.processors) c.self.view_is) in
    let now =
    lacks_says (net_of c.self.inside) list c.count-samples.result c.args.number
    c.lacks.result c.as_slice-processors.ensures c.count-samples.ensures c.lacks.ensures ∙ c.if-lacks.false in
    let first = first_by list c.args.number c.index-processors-number.result
    (omega (arith, inside, ap (λ (l : List Processor). length l) c.as_slice-processors.ensures))
    c.index-processors-number.is (omega (arith, c.if-processors-number-gt0.false)) in
    λ own row there row_there.
    ready_sample (net_of c.self.inside) c.self.invariant c.args.number inside now
    (first_now (net_of c.self.inside) list c.args.number c.as_slice-processors.ensures first) c.begin.new.rows
    (subst (λ (l : List Processor). BeginsBy l (net_of c.self.inside) c.begin.new.rows c.args.number)
    c.as_slice-processors.ensures c.begin.ensures) own row there
    (subst (λ (rows : List (List ℤ)). slice_get rows c.args.number ≡ Some row) c.as_slice.ensures row_there)

pub invariant_of-self : goal.invariant_of-self
invariant_of-self c =
    let list = c.as_slice-processors.result.now in
    let inside : c.args.number < length c.self.inside.processors =
    omega (arith, c.requires, ap (λ (net : NetState). length net.processors) c.self.view_is) in
    let first = first_by list c.args.number c.index-processors-number.result
    (omega (arith, inside, ap (λ (l : List Processor). length l) c.as_slice-processors.ensures))
    c.index-processors-number.is (omega (arith, c.if-processors-number-gt0.false)) in
    let done = sample_done (net_of c.self.inside) c.self.invariant c.args.number inside list
    c.as_slice-processors.ensures c.count-samples.result c.count-samples.ensures c.lacks.result c.lacks.ensures
    c.if-lacks.false first c.begin.new.rows c.begin.ensures c.as_slice.result.now c.as_slice.ensures
    c.run_sample.new.processors c.run_sample.ensures in
    done.state

pub returns-clause-turns : goal.returns-clause-turns
returns-clause-turns c =
    let list = c.as_slice-processors.result.now in
    let inside : c.args.number < length c.self.inside.processors =
    omega (arith, c.requires, ap (λ (net : NetState). length net.processors) c.self.view_is) in
    let first = first_by list c.args.number c.index-processors-number.result
    (omega (arith, inside, ap (λ (l : List Processor). length l) c.as_slice-processors.ensures))
    c.index-processors-number.is (omega (arith, c.if-processors-number-gt0.false)) in
    let done = sample_done (net_of c.self.inside) c.self.invariant c.args.number inside list
    c.as_slice-processors.ensures c.count-samples.result c.count-samples.ensures c.lacks.result c.lacks.ensures
    c.if-lacks.false first c.begin.new.rows c.begin.ensures c.as_slice.result.now c.as_slice.ensures
    c.run_sample.new.processors c.run_sample.ensures in
    subst (λ (old : NetState). TookTurns old (net_of (record {
      processors = c.run_sample.new.processors;
      rows = c.begin.new.rows;
      stream = c.self.inside.stream;
      capacity = c.self.inside.capacity;
    }))
    (sample_turns (shape_of (parts_of old)) (points_of old) c.args.number) true) c.self.view_is done.took

pub returns-clause-at : goal.returns-clause-at
returns-clause-at c =
    let list = c.as_slice-processors.result.now in
    let inside : c.args.number < length c.self.inside.processors =
    omega (arith, c.requires, ap (λ (net : NetState). length net.processors) c.self.view_is) in
    let first = first_by list c.args.number c.index-processors-number.result
    (omega (arith, inside, ap (λ (l : List Processor). length l) c.as_slice-processors.ensures))
    c.index-processors-number.is (omega (arith, c.if-processors-number-gt0.false)) in
    let done = sample_done (net_of c.self.inside) c.self.invariant c.args.number inside list
    c.as_slice-processors.ensures c.count-samples.result c.count-samples.ensures c.lacks.result c.lacks.ensures
    c.if-lacks.false first c.begin.new.rows c.begin.ensures c.as_slice.result.now c.as_slice.ensures
    c.run_sample.new.processors c.run_sample.ensures in
    λ puts solution. at_solution _ done.state puts solution
