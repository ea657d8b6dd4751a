use Rattle.std.proofs.Common.{arith}
use Rattle.image_labels.specs.Labelled.{IsLabelled}
use Rattle.image_labels.proofs.Runs.{labelled_runs}
use Rattle.image_labels.proofs.Whole.{labelled, cycles_fit, on_err}
use Rattle.image_labels.proofs.validation.validate.Goals as goal

pub returns : goal.returns
returns c =
    let is : IsLabelled c.args.graph.now c.args.image.now c.args.certificate.now =
    labelled c.args.graph.now c.args.image.now c.args.certificate.now c.requires.image _ (omega arith) (omega arith)
    c.in_ok-check_copies.ensures.ok c.in_ok-check_cycles.ensures.ok c.in_ok-check_registers.ensures.ok
    c.in_ok-check_cells.ensures.ok
    c.in_ok-check_rows.ensures.ok in
    record {
      runs =
          labelled_runs c.args.graph.now c.args.image.now c.args.certificate.now c.requires.graph c.requires.image is;
      labelled = is;
      refused = tt;
    }

pub returns-in_err-check_cycles-clause-refused : goal.returns-in_err-check_cycles-clause-refused
returns-in_err-check_cycles-clause-refused c =
    let not : IsLabelled c.args.graph.now c.args.image.now c.args.certificate.now → ⊥ =
    λ is. c.in_err-check_cycles.ensures.err
    (cycles_fit c.args.graph.now c.args.image.now c.args.certificate.now c.requires.image _ (omega arith) is) in
    on_err _ not
