use Rattle.std.proofs.Common.{◌≡◌, ap, sym, ℕ, List, get_or, Some, None, arith}
use Rattle.std.specs.Prelude.{slice_get}
use Rattle.micro_bits.proofs.Placed.{number_there, no_number}
use Rattle.micro_bits.proofs.encoder.file_place.Goals as goal
use Rattle.micro_bits.proofs.encoder.file_place.Goals.{in-Some, in-None}

pub returns : goal.returns
returns c =
    let starts : List ℕ = c.args.starts.now in
    let at : get_or starts c.from.result 0 ≡ get_or starts c.args.take.now.port.unit 0 =
    ap (λ (i : ℕ). get_or starts i 0) c.from.ensures in
    elim c.match-get.branch [
      | in-Some w ↦
          let got : Some w.in-Some.start.now ≡ slice_get starts c.from.result = w.in-Some.ensures in
          omega (
            arith,
            w.start-is,
            w.from-start.ensures,
            number_there starts c.from.result w.in-Some.start.now (sym got),
            at,
            c.from-2.ensures,
          )
      | in-None w ↦
          let got : None ≡ slice_get starts c.from.result = w.in-None.ensures in
          omega (arith, w.start-is, no_number starts c.from.result (sym got), at, c.from-2.ensures)
    ]
