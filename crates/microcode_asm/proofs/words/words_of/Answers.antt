use Rattle.std.proofs.Common.{◌≡◌, ℕ, arith, subst}
use Rattle.microcode_asm.specs.Private.Words.{AreWords}
use Rattle.microcode_asm.proofs.WordSteps.{words_more}
use Rattle.microcode_asm.proofs.words.words_of.Goals as goal

pub loop-n-preserved : goal.loop-n-preserved
loop-n-preserved c =
    words_more c.args.issuer.now.datapath.now c.args.issuer.now.plan.now c.loop-n.n c.loop-n.words
    c.put_words.new.words c.in_ok-put_words.ensures c.loop-n.invariant

pub returns : goal.returns
returns c =
    let all : c.loop-n.n ≡ c.args.issuer.now.plan.now.unroll = omega (arith, c.from-unroll.ensures) in
    subst (λ (n : ℕ). AreWords c.args.issuer.now.datapath.now c.args.issuer.now.plan.now n c.loop-n.words) all
    c.loop-n.invariant
