use Rattle.std.proofs.Common.{◌≡◌, ◌∙◌, rules, to_z, of_z, w64}
use Rattle.microcode_asm.proofs.HeldSteps.{units_kept}
use Rattle.microcode_asm.proofs.StartSteps.{register_there, register_put, registers_started}
use Rattle.microcode_asm.proofs.starts.start_registers.Goals as goal

pub write_register-requires-clause-unit : goal.write_register-requires-clause-unit
write_register-requires-clause-unit c =
    (register_there c.args.datapath.now c.args.plan.now c.requires.ready c.args.k c.copy_ago.result
    c.index-reg.result.now c.index-arc.result.now c.index-in-loop-ago.result.now c.loop-ago.units c.requires.there
    c.index-arc.ensures c.index-in-loop-ago.ensures c.copy_ago.ensures.there c.index-reg.ensures
    c.loop-ago.invariant.units).unit

pub write_register-requires-clause-port : goal.write_register-requires-clause-port
write_register-requires-clause-port c =
    (register_there c.args.datapath.now c.args.plan.now c.requires.ready c.args.k c.copy_ago.result
    c.index-reg.result.now c.index-arc.result.now c.index-in-loop-ago.result.now c.loop-ago.units c.requires.there
    c.index-arc.ensures c.index-in-loop-ago.ensures c.copy_ago.ensures.there c.index-reg.ensures
    c.loop-ago.invariant.units).file

pub write_register-requires-clause-register : goal.write_register-requires-clause-register
write_register-requires-clause-register c =
    (register_there c.args.datapath.now c.args.plan.now c.requires.ready c.args.k c.copy_ago.result
    c.index-reg.result.now c.index-arc.result.now c.index-in-loop-ago.result.now c.loop-ago.units c.requires.there
    c.index-arc.ensures c.index-in-loop-ago.ensures c.copy_ago.ensures.there c.index-reg.ensures
    c.loop-ago.invariant.units).register

pub loop-ago-preserved : goal.loop-ago-preserved
loop-ago-preserved c =
    let same : to_z w64 (of_z w64 c.word_before.result) ≡ c.word_before.result = search rules in record {
      units = units_kept c.args.datapath.now _ _ c.loop-ago.units c.write_register.new.units c.loop-ago.invariant.units
          c.write_register.ensures;
      started = λ image is started.
          register_put c.args.datapath.now c.args.plan.now c.requires.ready image is c.args.k c.requires.there
          c.copy_ago.result c.loop-ago.ago c.index-reg.result.now c.from-most.result
          (to_z w64 (of_z w64 c.word_before.result))
          c.index-arc.result.now c.index-in-loop-ago.result.now c.as_slice-inits.result.now c.index.result.now
          c.loop-ago.units c.write_register.new.units c.index-arc.ensures c.index-in-loop-ago.ensures
          c.index-reg.ensures c.index.ensures c.as_slice-inits.ensures (same ∙ c.word_before.ensures) c.copy_ago.ensures
          c.loop-ago.auto.ago (c.from-most.ensures ∙ c.periods_until.ensures) c.loop-ago-test.true
          c.write_register.ensures
          (c.loop-ago.invariant.started image is started);
    }

pub returns-clause-started : goal.returns-clause-started
returns-clause-started c image is started =
    registers_started c.args.datapath.now c.args.plan.now c.requires.ready image is c.args.k c.requires.there
    c.loop-ago.ago c.from-most.result c.index-arc.result.now c.loop-ago.units c.index-arc.ensures
    (c.from-most.ensures ∙ c.periods_until.ensures) c.loop-ago-test.false
    (c.loop-ago.invariant.started image is started)
