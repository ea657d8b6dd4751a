use Rattle.std.proofs.Common.{◌≡◌, ◌∙◌, ◌+◌, ◌-◌, ◌++◌, ap, subst, refl, ℕ, List, replicate, get_or, drop, OnOk, arith}
use Rattle.micro_image.specs.declared.image.Take.{Take}
use Rattle.micro_image.specs.Bits.{take_bits}
use Rattle.micro_bits.specs.Private.Placed.{placed_takes}
use Rattle.micro_bits.proofs.Placed.{placed_step, placed_end}
use Rattle.micro_bits.proofs.encoder.put_takes.Goals as goal

abbrev place : (starts : List ℕ) → Take → ℕ
place starts take = get_or starts take.port.unit 0 + take.port.port

pub loop-take-preserved : goal.loop-take-preserved
loop-take-preserved c =
    let starts : List ℕ = c.args.starts.now in
    let files : ℕ = c.args.files in
    let nothing : Take = record { port = record { unit = 0; port = 0 }; bus = 0; reg = 0 } in
    let items : List Take = c.deref-take-items.result.now in
    let k : ℕ = c.loop-take.take-index in
    let take : Take = get_or items k nothing in
    let out : List ℕ = c.put_take.new.out in
    let total : List ℕ = c.args.out.now ++ placed_takes starts files 0 c.args.takes.now in
    let at : c.file_place-place.result ≡ place starts take = c.file_place-place.ensures in
    let left : place starts take + 0 ≡ c.file_place-place.result = omega (arith, at) in
    subst (λ (p : ℕ). out ++ placed_takes starts files p (drop (k + 1) items) ≡ total) left
    (placed_step (place starts) take_bits 0 files c.loop-take.out out total items k c.loop-take.next
    take nothing (omega arith) refl c.loop-take.invariant
    (c.in_ok-put_take.ensures
    ∙ ap (λ (zeros : ℕ). c.loop-take.out ++ (replicate zeros 0 ++ take_bits take))
    (c.saturating_sub.ensures ∙ ap (λ (p : ℕ). p - c.loop-take.next) at)))

pub returns : goal.returns
returns c =
    subst (λ (new : List ℕ). OnOk c.put_zeros.result (c.put_zeros.new.out ≡ new))
    (ap (λ (zeros : ℕ). c.loop-take.out ++ replicate zeros 0) c.saturating_sub-2.ensures
    ∙ placed_end (place c.args.starts.now) take_bits 0 c.args.files c.loop-take.out _ c.deref-take-items.result.now
    c.loop-take.take-index c.loop-take.next (omega arith) c.loop-take.invariant)
    c.put_zeros.ensures
