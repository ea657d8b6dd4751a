use Rattle.std.proofs.Common.{arith, ap, ◌≡◌, ◌∙◌, sym, inr, [], ◌∷◌, ℤ, to_z, of_z}
use Rattle.std.specs.Int.{w64}
use Rattle.std.proofs.lemmas.Int.{ints}
use Rattle.cycle_sim.specs.Microcode.{micro_of}
use Rattle.silc.proofs.Demonstrating.{ready, no_conflict, put_more, word_valid}
use Rattle.silc.proofs.demo.run_sample.Goals as goal

pub sample-requires-clause-ready : goal.sample-requires-clause-ready
sample-requires-clause-ready c =
    inr
    (ready c.args.machine.now c.args.n c.requires.stands.0 c.requires.sound.image.period.0 c.requires.few
    c.requires.stands.1)

pub returns-in_err-sample-clause-runs : goal.returns-in_err-sample-clause-runs
returns-in_err-sample-clause-runs c =
    let low = (word_valid c.args.n).low in
    let high = (word_valid c.args.n).high in
    let word : to_z w64 (of_z w64 c.cascade_word.result) ≡ c.cascade_word.result =
    omega (arith, ints, c.cascade_word.ensures, low, high) in
    absurd (no_conflict (micro_of c.args.machine.now.code) c.args.n _ c.in_err-sample.field-0.0
    (ap (λ (w : ℤ). w ∷ []) (word ∙ c.cascade_word.ensures)) c.requires.runs
    (c.in_err-sample.ensures.conflict _ c.requires.stands.1.stands))

pub returns-clause-put : goal.returns-clause-put
returns-clause-put c = λ words put.
    let low = (word_valid c.args.n).low in
    let high = (word_valid c.args.n).high in
    let word : to_z w64 (of_z w64 c.cascade_word.result) ≡ c.cascade_word.result =
    omega (arith, ints, c.cascade_word.ensures, low, high) in
    let taken : to_z w64 (of_z w64 c.only_word.result) ≡ c.only_word.result = omega (arith, ints) in
    put_more c.args.machine.now.code c.args.n _ c.sample.new.put _ c.args.machine.now c.sample.new.self words put
    c.in_ok-sample.ensures.code (ap (λ (w : ℤ). w ∷ []) (word ∙ c.cascade_word.ensures))
    (c.only_word.ensures ∙ ap (λ (w : ℤ). w ∷ []) (sym taken))
    (c.in_ok-sample.ensures.stands _ put.stands) (c.in_ok-sample.ensures.puts _ put.stands)
