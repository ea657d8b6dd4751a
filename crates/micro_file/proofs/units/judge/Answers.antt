use Rattle.std.proofs.Common.{◌≡◌, ℕ, ◌+◌, ◌<◌, ◌≤◌, List, length, get_or, drop, Err, sym, ap, subst, ◌∙◌}
use Rattle.micro_image.specs.declared.image.UnitDesc.{UnitDesc}
use Rattle.micro_file.specs.declared.misread.Misread.TheVariants.{Field}
use Rattle.micro_file.proofs.Judgement.{passed_one, blamed_one, passed_all}
use Rattle.micro_file.proofs.units.judge.Goals as goal

pub returns-then-not-has_ram : goal.returns-then-not-has_ram
returns-then-not-has_ram g c =
    let form = g.R.Fields.form in
    let lt = subst (λ (xs : List UnitDesc). c.loop-k.k < length xs) c.deref-unit-items.ensures c.loop-k-test.true in
    let is =
    subst (λ (xs : List UnitDesc). c.unit-item.result ≡ get_or xs c.loop-k.k c.unit-item.result)
    c.deref-unit-items.ensures c.unit-item.is in
    rw c.refused.ensures (sym c.loop-k.invariant
    ∙ blamed_one form c.args.units.now c.args.units.now c.args.ends.now c.loop-k.k c.unit-item.result c.index.result.now
    c.requires.ends lt is (sym c.has_ram.ensures ∙ c.if-not-has_ram.true)
    ∙ ap (λ (n : ℕ). Err (Field (n + form.ram_length))) (sym c.index.ensures)
    ∙ ap (λ (n : ℕ). Err (Field (c.index.result.now + n))) (sym c.ram_length.ensures))

pub loop-k-preserved : goal.loop-k-preserved
loop-k-preserved g c =
    let form = g.R.Fields.form in
    let lt = subst (λ (xs : List UnitDesc). c.loop-k.k < length xs) c.deref-unit-items.ensures c.loop-k-test.true in
    let is =
    subst (λ (xs : List UnitDesc). c.unit-item.result ≡ get_or xs c.loop-k.k c.unit-item.result)
    c.deref-unit-items.ensures c.unit-item.is in
    sym (passed_one form c.args.units.now c.args.units.now c.args.ends.now c.loop-k.k c.unit-item.result 0
    c.requires.ends lt is (sym c.has_ram.ensures ∙ c.if-not-has_ram.false))
    ∙ c.loop-k.invariant

pub returns : goal.returns
returns g c =
    let form = g.R.Fields.form in
    let le = subst (λ (xs : List UnitDesc). length xs ≤ c.loop-k.k) c.deref-unit-items.ensures c.loop-k-test.false in
    sym c.loop-k.invariant
    ∙ passed_all form c.args.units.now c.args.units.now (drop c.loop-k.k c.args.ends.now) c.loop-k.k le
