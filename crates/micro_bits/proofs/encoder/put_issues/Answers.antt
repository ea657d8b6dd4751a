use Rattle.std.proofs.Common.{◌≡◌, ◌∙◌, ◌+◌, ◌-◌, ◌++◌, ◌∷◌, ap, sym, subst, ℕ, List, replicate, drop, OnOk, arith}
use Rattle.micro_image.specs.declared.image.Issue.{Issue}
use Rattle.micro_image.specs.Bits.{in_bits}
use Rattle.micro_image.specs.Form.{spelled_operation}
use Rattle.micro_bits.specs.Private.Placed.{placed_issues}
use Rattle.micro_bits.proofs.Placed.{placed_step, placed_end}
use Rattle.micro_bits.proofs.encoder.put_issues.Goals as goal

abbrev put : Issue → List ℕ
put issue = 1 ∷ spelled_operation in_bits issue

pub loop-issue-preserved : goal.loop-issue-preserved
loop-issue-preserved c =
    let units : ℕ = c.args.units in
    let items : List Issue = c.deref-issue-items.result.now in
    let k : ℕ = c.loop-issue.issue-index in
    let out : List ℕ = c.put_issue.new.out in
    let total : List ℕ = c.args.out.now ++ placed_issues units 0 c.args.issues.now in
    let at : c.from-unit.result ≡ c.issue-item.result.unit = c.from-unit.ensures in
    subst (λ (p : ℕ). out ++ placed_issues units (p + 1) (drop (k + 1) items) ≡ total) (sym at)
    (placed_step (λ issue. issue.unit) put 1 units c.loop-issue.out out total items k c.loop-issue.next
    c.issue-item.result c.issue-item.result (omega arith) c.issue-item.is c.loop-issue.invariant
    (c.in_ok-put_issue.ensures
    ∙ ap (λ (zeros : ℕ). c.loop-issue.out ++ (replicate zeros 0 ++ put c.issue-item.result))
    (c.saturating_sub.ensures ∙ ap (λ (p : ℕ). p - c.loop-issue.next) at)))

pub returns : goal.returns
returns c =
    subst (λ (new : List ℕ). OnOk c.put_zeros.result (c.put_zeros.new.out ≡ new))
    (ap (λ (zeros : ℕ). c.loop-issue.out ++ replicate zeros 0) c.saturating_sub-2.ensures
    ∙ placed_end (λ issue. issue.unit) put 1 c.args.units c.loop-issue.out _ c.deref-issue-items.result.now
    c.loop-issue.issue-index c.loop-issue.next (omega arith) c.loop-issue.invariant)
    c.put_zeros.ensures
