use Rattle.std.proofs.Common.{◌≡◌, ◌∙◌, ◌+◌, ◌*◌, ◌-◌, ◌++◌, [], ◌∷◌, ap, ap₂, sym, subst, refl, ℕ, List, replicate}
use Rattle.std.proofs.Common.{get_or, drop}
use Rattle.std.proofs.Common.{OnOk, arith}
use Rattle.micro_image.specs.declared.image.Enable.{Enable}
use Rattle.micro_bits.specs.Private.Placed.{placed_enables}
use Rattle.micro_bits.proofs.Placed.{placed_step, placed_end, one_flag}
use Rattle.micro_bits.proofs.encoder.put_enables.Goals as goal

abbrev place : (buses : ℕ) → Enable → ℕ
place buses enable = enable.unit * buses + enable.bus

pub loop-enable-preserved : goal.loop-enable-preserved
loop-enable-preserved c =
    let nothing : Enable = record { unit = 0; bus = 0 } in
    let nothing : Enable = record { unit = 0; bus = 0 } in
    let items : List Enable = c.deref-enable-items.result.now in
    let k : ℕ = c.loop-enable.enable-index in
    let enable : Enable = get_or items k nothing in
    let out : List ℕ = c.put_behind.new.out in
    let total : List ℕ = c.args.out.now ++ placed_enables c.args.buses c.args.flags 0 c.args.enables.now in
    let at : c.flag_place-place.result ≡ place c.args.buses enable = c.flag_place-place.ensures.place in
    subst (λ (p : ℕ). out ++ placed_enables c.args.buses c.args.flags (p + 1) (drop (k + 1) items) ≡ total) (sym at)
    (placed_step (place c.args.buses) (λ _. 1 ∷ []) 1 c.args.flags c.loop-enable.out out total items k
    c.loop-enable.next
    enable nothing (omega arith) refl c.loop-enable.invariant
    (c.in_ok-put_behind.ensures
    ∙ ap₂ (λ (zeros : ℕ) (own : List ℕ). c.loop-enable.out ++ (replicate zeros 0 ++ own))
    (c.saturating_sub.ensures ∙ ap (λ (p : ℕ). p - c.loop-enable.next) at) one_flag))

pub returns : goal.returns
returns c =
    subst (λ (new : List ℕ). OnOk c.put_zeros.result (c.put_zeros.new.out ≡ new))
    (ap (λ (zeros : ℕ). c.loop-enable.out ++ replicate zeros 0) c.saturating_sub-2.ensures
    ∙ placed_end (place c.args.buses) (λ _. 1 ∷ []) 1 c.args.flags c.loop-enable.out _ c.deref-enable-items.result.now
    c.loop-enable.enable-index c.loop-enable.next (omega arith) c.loop-enable.invariant)
    c.put_zeros.ensures
