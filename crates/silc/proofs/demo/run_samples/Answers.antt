use Rattle.std.proofs.Common.{arith, ◌≡◌, refl, sym, ap, subst, ◌∙◌, ◌+◌, [], ◌∷◌, ◌++◌, ℤ, ◌+ℤ◌, to_z, of_z}
use Rattle.std.specs.Int.{w64, w128}
use Rattle.std.proofs.lemmas.Int.{ints}
use Rattle.cycle_sim.specs.Microcode.{micro_of, IsSound}
use Rattle.silc.specs.Private.Demonstrating.{HasOneWord, HasPutWords, RunsCascade}
use Rattle.silc.proofs.Demonstrating.{runs_fewer, none_put, sum_push, last_push}
use Rattle.silc.proofs.demo.run_samples.Goals as goal

pub run_sample-requires-clause-sound : goal.run_sample-requires-clause-sound
run_sample-requires-clause-sound c = subst IsSound (sym c.loop-n.invariant.state.put.code_is) c.requires.fresh.sound

pub run_sample-requires-clause-one_word : goal.run_sample-requires-clause-one_word
run_sample-requires-clause-one_word c = subst HasOneWord (sym c.loop-n.invariant.state.put.code_is) c.requires.one_word

pub run_sample-requires-clause-stands : goal.run_sample-requires-clause-stands
run_sample-requires-clause-stands c =
    let state = c.loop-n.invariant.state in (
      state.words,
      subst (λ code. HasPutWords code c.loop-n.n c.loop-n.machine state.words) (sym state.put.code_is) state.put,
    )

pub run_sample-requires-clause-runs : goal.run_sample-requires-clause-runs
run_sample-requires-clause-runs c =
    subst (λ code. RunsCascade (micro_of code) (c.loop-n.n + 1)) (sym c.loop-n.invariant.state.put.code_is)
    (runs_fewer (micro_of c.args.machine.code) (c.loop-n.n + 1) c.args.samples
    (omega (arith, c.loop-n-test.true, c.loop-n.auto.n-end)) c.requires.runs)

pub loop-n-init : goal.loop-n-init
loop-n-init c = record {
  state = record { words = []; put = none_put c.args.machine c.requires.fresh; sum_is = refl; last_is = refl };
  bound = (omega (arith, ints), omega (arith, ints));
}

pub loop-n-preserved : goal.loop-n-preserved
loop-n-preserved c =
    let state = c.loop-n.invariant.state in
    let low = c.loop-n.invariant.bound.0 in
    let high = c.loop-n.invariant.bound.1 in
    let few = c.requires.few in
    let before = c.loop-n-test.true in
    let end = c.loop-n.auto.n-end in
    let word : ℤ = c.in_ok-word.word in
    let last : to_z w64 (of_z w64 c.in_ok-word.word) ≡ c.in_ok-word.word = omega (arith, ints) in
    let sum : to_z w128 (of_z w128 (to_z w128 (of_z w128 c.loop-n.totals.sum) +ℤ to_z w128 (of_z w128 c.from.result)))
    ≡ c.loop-n.totals.sum +ℤ c.in_ok-word.word =
    omega (arith, ints, low, high, few, before, end, c.from.ensures) in
    let own =
    subst (λ code. HasPutWords code c.loop-n.n c.loop-n.machine state.words) (sym state.put.code_is) state.put in
    record {
      state = record {
        words = state.words ++ word ∷ [];
        put =
            subst (λ code. HasPutWords code (c.loop-n.n + 1) c.run_sample.new.machine (state.words ++ word ∷ []))
            state.put.code_is (c.in_ok-word.ensures.put state.words own);
        sum_is = sum ∙ ap (λ s. s +ℤ word) state.sum_is ∙ sym (sum_push state.words word);
        last_is = last ∙ sym (last_push state.words word);
      };
      bound = (omega (arith, ints, low, sum), omega (arith, ints, high, sum));
    }
