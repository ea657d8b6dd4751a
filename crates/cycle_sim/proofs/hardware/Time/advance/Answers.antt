use Rattle.std.proofs.Common.{◌≡◌, ◌<◌, ◌≤◌, ◌+◌, ◌%◌, ◌∙◌, ⊎_elim, sym, ap, arith, length, ℕ}
use Rattle.cycle_sim.specs.declared.microcode.Microcode.{Microcode}
use Rattle.cycle_sim.specs.declared.hardware.Time.{Time}
use Rattle.cycle_sim.specs.Microcode.{round_of, IsSound}
use Rattle.cycle_sim.specs.Private.Hardware.{IsTime}
use Rattle.cycle_sim.proofs.TimeLaws.{mod-later, mod-within, div-within, mod-whole, div-whole, within-rounds}
use Rattle.cycle_sim.proofs.hardware.Time.advance.Goals as goal

module _ (code : Microcode) (valid : IsSound code) (old : Time) (is : IsTime code old) (cycles : ℕ)
    (within : old.phase + cycles ≤ code.image.period) (period : ℕ) (period_is : period ≡ code.image.period) where
  some_unroll : 0 < code.image.unroll
  some_unroll =
      ⊎_elim (λ e. omega (arith, e)) (λ more. ⊎_elim (λ e. omega (arith, e)) (λ e. omega (arith, e)) more)
      valid.image.unroll

  module _ (word words : ℕ) (words_is : words ≡ length code.image.words)
      (word_is : word ≡ (old.word + cycles) % words) where
    word_later : word ≡ (old.cycle + cycles) % (round_of code)
    word_later =
        word_is ∙ ap (λ n. (n + cycles) % words) is.word
        ∙ ap (λ n. (old.cycle % (round_of code) + cycles) % n)
        (let e : words ≡ round_of code = omega (arith, words_is, valid.image.word_count) in e)
        ∙ sym (mod-later (round_of code) old.cycle cycles)

    wrapped : period ≤ old.phase + cycles
        → IsTime code (record { cycle = old.cycle + cycles; word = word; sample = old.sample + 1; phase = 0 })
    wrapped last =
        let whole : old.cycle % code.image.period + cycles ≡ code.image.period =
        omega (arith, is.phase, last, within, period_is) in
        record {
          word = word_later;
          sample =
              ap (λ n. n + 1) is.sample ∙ sym (div-whole code.image.period old.cycle cycles valid.image.period.0 whole);
          phase = sym (mod-whole code.image.period old.cycle cycles whole);
        }

  went_on : old.phase + cycles < period
      → IsTime code
      (record {
        cycle = old.cycle + cycles;
        word = old.word + cycles;
        sample = old.sample;
        phase = old.phase + cycles;
      })
  went_on before =
      let below : old.cycle % code.image.period + cycles < code.image.period =
      omega (arith, before, is.phase, period_is) in
      let positive : 0 < code.image.period = valid.image.period.0 in
      record {
        word =
            ap (λ n. n + cycles) is.word
            ∙ sym (mod-within (round_of code) old.cycle cycles
            (within-rounds code.image.unroll code.image.period old.cycle cycles some_unroll positive below));
        sample = is.sample ∙ sym (div-within code.image.period old.cycle cycles below);
        phase = ap (λ n. n + cycles) is.phase ∙ sym (mod-within code.image.period old.cycle cycles below);
      }

pub returns-then-self-from-clause-time : goal.returns-then-self-from-clause-time
returns-then-self-from-clause-time c =
    went_on c.args.code.now c.requires.valid c.args.self.now c.requires.time c.args.cycles c.requires.within
    c.from.result c.from.ensures c.if-self-from.true

pub returns-clause-time : goal.returns-clause-time
returns-clause-time c =
    wrapped c.args.code.now c.requires.valid c.args.self.now c.requires.time c.args.cycles c.requires.within
    c.from.result c.from.ensures
    c.go_round-self.result c.len.result c.len.ensures c.go_round-self.ensures c.if-self-from.false
