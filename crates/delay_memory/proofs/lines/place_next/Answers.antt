use Rattle.delay_memory.proofs.PlaceSteps.{placed_next, none_next, stop_next}
use Rattle.lists.proofs.Results.{on_ok, if_err}
use Rattle.delay_memory.proofs.lines.place_next.Goals as goal

pub returns-in-None-clause-lines : goal.returns-in-None-clause-lines
returns-in-None-clause-lines c =
    none_next c.args.target.now.spare c.args.target.now.datapath.now c.args.delays.now c.args.v c.requires.node
    c.index.result.now c.index.ensures
    c.args.memory.now c.in-None.ensures.none c.requires.before

pub returns-in-Some-clause-lines : goal.returns-in-Some-clause-lines
returns-in-Some-clause-lines c =
    on_ok c.place.result _ _
    (λ placed.
    placed_next c.args.target.now.spare c.args.target.now.datapath.now c.args.delays.now c.args.v c.requires.node
    c.index.result.now c.index.ensures
    c.args.numbers.now c.index-in-Some.result.now c.in-Some.depth c.args.memory.now c.place.new.memory
    c.requires.numbers c.index-in-Some.ensures c.in-Some.ensures.some c.requires.before placed)
    c.place.ensures.placed

pub returns-in-Some-clause-fault : goal.returns-in-Some-clause-fault
returns-in-Some-clause-fault c =
    if_err c.place.result _ _
    (λ fault why.
    stop_next c.args.target.now.spare c.args.target.now.datapath.now c.args.delays.now c.args.v c.requires.node
    c.index.result.now c.index.ensures
    c.in-Some.depth c.args.memory.now fault c.in-Some.ensures.some c.requires.before why)
    c.place.ensures.fault
