use Rattle.std.proofs.Common.{refl, arith, ◌≡◌, ◌+◌, ◌/◌}
use Rattle.bus_alloc.proofs.Blocked.{before_in_word, before_no_word, full_more}
use Rattle.bus_alloc.proofs.cycles.CycleSet.first_gap.Goals as goal

pub loop-index-init : goal.loop-index-init
loop-index-init c = record {
  passed = λ i small. before_in_word c.args.from (c.args.from / 64) i small refl;
  full = λ k after less. absurd (omega arith);
}

pub loop-index-preserved : goal.loop-index-preserved
loop-index-preserved c = record {
  passed = λ i small. before_no_word c.args.from (c.loop-index.index + 1) i (omega arith)
      (λ (same : c.args.from / 64 ≡ c.loop-index.index + 1). omega arith);
  full = full_more c.args.self.now.words c.args.from c.loop-index.index _ c.loop-index.passed refl
      c.loop-index.invariant.passed c.if-self-index.false c.loop-index.invariant.full;
}
