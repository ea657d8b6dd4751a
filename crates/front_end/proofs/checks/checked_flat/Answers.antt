use Rattle.silage_syntax.specs.Tree.{view}
use Rattle.front_end.proofs.Counts.{checked}
use Rattle.front_end.proofs.FirstFaults.{graph_error}
use Rattle.front_end.proofs.FaultPlaces.{graph_about}
use Rattle.front_end.proofs.NumberedPlaces.{place_of_loop}
use Rattle.front_end.proofs.checks.checked_flat.Goals as goal

pub loopless_flat-requires : goal.loopless_flat-requires
loopless_flat-requires c = (
  view c.args.program.now,
  record {
    checked = checked c.requires.0 (view c.args.program.now) c.requires.1 c.in_ok-checked.ensures.ok;
    program = c.in_ok-checked.ensures.typed;
    elements = c.in_ok-checked.ensures.elements;
  },
)

pub looped-requires-clause-place : goal.looped-requires-clause-place
looped-requires-clause-place c = λ k is.
    place_of_loop (view c.args.program.now)
    (checked c.requires.0 (view c.args.program.now) c.requires.1 c.in_ok-checked.ensures.ok)
    c.in-Err.error
    (c.in-Err.ensures.err (view c.args.program.now) (record {
      checked = checked c.requires.0 (view c.args.program.now) c.requires.1 c.in_ok-checked.ensures.ok;
      program = c.in_ok-checked.ensures.typed;
      elements = c.in_ok-checked.ensures.elements;
    }))
    k is

pub returns-in-Ok-clause-flat : goal.returns-in-Ok-clause-flat
returns-in-Ok-clause-flat c =
    c.in-Ok.ensures.ok (view c.args.program.now) (record {
      checked = checked c.requires.0 (view c.args.program.now) c.requires.1 c.in_ok-checked.ensures.ok;
      program = c.in_ok-checked.ensures.typed;
      elements = c.in_ok-checked.ensures.elements;
    })

pub returns-clause-err : goal.returns-clause-err
returns-clause-err c =
    graph_error (view c.args.program.now) c.in_ok-checked.ensures.ok c.in-Err.error
    (c.in-Err.ensures.err (view c.args.program.now) (record {
      checked = checked c.requires.0 (view c.args.program.now) c.requires.1 c.in_ok-checked.ensures.ok;
      program = c.in_ok-checked.ensures.typed;
      elements = c.in_ok-checked.ensures.elements;
    }))

pub returns-clause-about : goal.returns-clause-about
returns-clause-about c =
    graph_about (view c.args.program.now) c.in-Err.error c.looped.result
    (c.in-Err.ensures.err (view c.args.program.now) (record {
      checked = checked c.requires.0 (view c.args.program.now) c.requires.1 c.in_ok-checked.ensures.ok;
      program = c.in_ok-checked.ensures.typed;
      elements = c.in_ok-checked.ensures.elements;
    }))
    c.looped.ensures.found c.looped.ensures.none
