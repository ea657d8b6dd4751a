-- A sample of the machine is a row that it runs.
use Rattle.std.proofs.Common.{Result, Ok, Err, OnOk, IfErr}
use Rattle.std.proofs.lemmas.Result.{on_ok_weaker}
use Rattle.cycle_sim.specs.Microcode.{inputs_of}
use Rattle.sample_loops.proofs.RowWords.{row_count, row_words}
use Rattle.sample_loops.proofs.SampleRuns.{ready_after, runs_row, meets_in_row, sample_later}
use Rattle.sample_loops.proofs.machine.MachineEngine.step.Goals as goal

both : {T E : Type 0} (r : Result T E) (P Q R : Type 0) → (P → Q → R) → OnOk r P → OnOk r Q → OnOk r R
both (Ok x) P Q R f p q = f p q
both (Err e) P Q R f p q = tt

both_err : {T E : Type 0} (r : Result T E) (P Q R : E → Type 0)
    → ((e : E) → P e → Q e → R e)
    → IfErr r P
    → IfErr r Q
    → IfErr r R
both_err (Ok x) P Q R f p q = tt
both_err (Err e) P Q R f p q = f e p q

pub sample-requires-clause-row : goal.sample-requires-clause-row
sample-requires-clause-row c = row_count (inputs_of c.args.self.now.code) c.args.row.now c.requires.row

pub sample-requires-clause-words : goal.sample-requires-clause-words
sample-requires-clause-words c =
    row_words (inputs_of c.args.self.now.code) c.args.row.now c.outs.ensures.sound.image.inputs c.requires.row

pub returns-clause-age : goal.returns-clause-age
returns-clause-age c =
    on_ok_weaker c.sample.result
    (sample_later c.args.self.now c.sample.new.self c.outs.ensures.sound.image.period.0 c.sample.ensures.code)
    c.sample.ensures.cycle

pub returns-clause-ready : goal.returns-clause-ready
returns-clause-ready c =
    both c.sample.result _ _ _ (ready_after c.args.self.now c.sample.new.self c.requires.ready c.sample.ensures.code)
    c.sample.ensures.cycle c.sample.ensures.running

pub returns-clause-ran : goal.returns-clause-ran
returns-clause-ran c =
    both c.sample.result _ _ _
    (runs_row c.args.self.now c.sample.new.self c.args.row.now c.sample.new.put c.sample.ensures.code)
    c.sample.ensures.stands c.sample.ensures.puts

pub returns-clause-meets : goal.returns-clause-meets
returns-clause-meets c =
    both_err c.sample.result _ _ _ (meets_in_row c.args.self.now c.sample.new.self c.args.row.now)
    c.sample.ensures.conflict c.sample.ensures.stays
