use Rattle.std.proofs.Common.{arith, ◌<◌, ◌≡◌, sym, ap, subst, ◌∙◌, ◌+◌, ◌-◌, ◌≤◌, ℕ, List, ◌++◌, length, take, drop}
use Rattle.std.proofs.Common.{length-append}
use Rattle.std.proofs.lemmas.List.{take-append-le, length-take-le}
use Rattle.desk_core.specs.Desk.{IsReading}
use Rattle.desk_core.proofs.DeskLemmas.{never_fall_trans, reading_read, read_input, read_specified}
use Rattle.desk_core.proofs.WholeLemmas.{prefix_read}
use Rattle.desk_core.proofs.whole.read_whole.Goals as goal

-- what the front of the chunk adds
added : (bytes more buf behind : List ℕ) (n m : ℕ)
    → n ≤ m
    → length buf ≡ m
    → more ≡ bytes ++ take n (buf ++ behind)
    → (more ≡ bytes ++ take n buf) × (length more ≡ length bytes + n)
added bytes more buf behind n m le size e =
    let fits : n ≤ length buf = omega arith in
    let sum : more ≡ bytes ++ take n buf = e ∙ ap (λ (xs : List ℕ). bytes ++ xs) (take-append-le n buf behind fits) in (
      sum,
      ap length sum ∙ length-append bytes (take n buf) ∙ ap (λ (k : ℕ). length bytes + k) (length-take-le n buf fits),
    )

pub pieces-preserved : goal.pieces-preserved
pieces-preserved g c =
    let sofar = c.pieces.invariant in
    let step = c.in_ok-n.ensures.ok in
    let more =
    added c.pieces.bytes c.extend_from_slice.new.self c.read.new.buf (drop c.room_for-room.result c.pieces.chunk)
    c.in_ok-n.n _ step.room c.read.auto.buf c.in_ok-extend_from_slice.ensures.ok in
    let size : length c.extend_from_slice.new.self ≡ length c.pieces.bytes + c.in_ok-n.n = more.1 in
    record {
      never_fall = never_fall_trans _ _ _ sofar.never_fall c.in_ok-n.ensures.never_fall;
      within =
          (let count = c.len.ensures in
          let left : c.in_ok-n.n ≤ c.args.limit - c.len.result = c.if-n-left.false in
          let within : length c.pieces.bytes ≤ c.args.limit = sofar.within in
          omega arith);
      reading =
          subst (λ (p : ℕ). IsReading c.args.name.now p (g.D.Desk.view c.args.desk.now) (g.D.Desk.view c.read.new.self))
          (sym size) (reading_read _ _ _ _ _ _ _ _ sofar.reading step);
      held = λ all is.
          let taken = read_input _ _ _ _ _ _ _ _ sofar.reading step all (sym step.input.bytes ∙ is) in
          let some : 0 < c.in_ok-n.n = omega arith in
          let within : length c.pieces.bytes + c.in_ok-n.n ≤ length all = taken.within some in
          omega arith;
      content = λ files is.
          prefix_read _ c.pieces.bytes c.in_ok-n.n _ _ _ (sofar.content files is)
          (read_specified _ _ _ _ _ _ _ _ sofar.reading step files is) more.0;
    }
