use Rattle.std.proofs.Common.{◌≡◌, refl, rules, Ok, Err}
use Rattle.delay_memory.proofs.OneFault.{told, lowered_is, ok_found, ok_refused, err_found, err_refused}
use Rattle.delay_memory.proofs.lowering.lower_to.Goals as goal

pub returns-in_err-lines-clause-fault : goal.returns-in_err-lines-clause-fault
returns-in_err-lines-clause-fault c =
    let t = c.args.target.now in
    let why = told t.hold t.spare c.args.graph t.datapath.now c.in_ok-delays.delays c.in_ok-delays.ensures.delays
    c.in_err-lines.field-0.0 c.in_err-lines.ensures.fault in
    search (rules, why)

pub returns-in_err-lines-clause-found : goal.returns-in_err-lines-clause-found
returns-in_err-lines-clause-found c =
    let t = c.args.target.now in
    let why = told t.hold t.spare c.args.graph t.datapath.now c.in_ok-delays.delays c.in_ok-delays.ensures.delays
    c.in_err-lines.field-0.0 c.in_err-lines.ensures.fault in
    let is : c.from_residual-in_err-lines.result ≡ Err c.in_err-lines.field-0.0 = search rules in
    err_found t.hold t.spare c.args.graph t.datapath.now c.from_residual-in_err-lines.result c.in_err-lines.field-0.0
    is why

pub returns-in_err-lines-clause-refused : goal.returns-in_err-lines-clause-refused
returns-in_err-lines-clause-refused c =
    let t = c.args.target.now in
    let why = told t.hold t.spare c.args.graph t.datapath.now c.in_ok-delays.delays c.in_ok-delays.ensures.delays
    c.in_err-lines.field-0.0 c.in_err-lines.ensures.fault in
    let is : c.from_residual-in_err-lines.result ≡ Err c.in_err-lines.field-0.0 = search rules in
    err_refused t.hold t.spare c.args.graph t.datapath.now c.from_residual-in_err-lines.result c.in_ok-delays.delays
    c.in_ok-delays.ensures.delays c.in_err-lines.field-0.0 is why

pub returns-clause-lowered : goal.returns-clause-lowered
returns-clause-lowered c =
    let t = c.args.target.now in
    lowered_is t.hold t.spare c.args.graph t.datapath.now c.in_ok-delays.delays c.in_ok-numbers.numbers
    (record { nodes = c.in_ok-nodes.nodes; lines = c.in_ok-lines.lines })
    (record {
      long = c.in_ok-delays.ensures.delays;
      layout = record {
        rise = c.in_ok-delays.ensures.rise;
        few = c.in_ok-delays.ensures.few;
        numbered = c.in_ok-numbers.ensures;
      };
      line_count = c.in_ok-lines.ensures.count;
      placed = c.in_ok-lines.ensures.lines;
    })
    c.in_ok-nodes.ensures

pub returns-clause-found : goal.returns-clause-found
returns-clause-found c =
    let t = c.args.target.now in
    ok_found t.hold t.spare c.args.graph t.datapath.now
    (Ok (record { nodes = c.in_ok-nodes.nodes; lines = c.in_ok-lines.lines }))
    (record { nodes = c.in_ok-nodes.nodes; lines = c.in_ok-lines.lines }) refl (returns-clause-lowered c)

pub returns-clause-refused : goal.returns-clause-refused
returns-clause-refused c =
    let t = c.args.target.now in
    ok_refused t.hold t.spare c.args.graph t.datapath.now
    (Ok (record { nodes = c.in_ok-nodes.nodes; lines = c.in_ok-lines.lines }))
    (record { nodes = c.in_ok-nodes.nodes; lines = c.in_ok-lines.lines }) (returns-clause-lowered c)
