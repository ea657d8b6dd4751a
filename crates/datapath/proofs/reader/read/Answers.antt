use Rattle.datapath.proofs.Answered.{describes, refuses, finds, finds_fault}
use Rattle.datapath.proofs.reader.read.Goals as goal

pub returns-clause-described : goal.returns-clause-described
returns-clause-described c = describes c.args.text.now c.read_in_order.result c.read_in_order.ensures.path

pub returns-clause-fault : goal.returns-clause-fault
returns-clause-fault c = refuses c.args.text.now c.read_in_order.result c.read_in_order.ensures.path

pub returns-clause-found : goal.returns-clause-found
returns-clause-found c = finds c.args.text.now c.read_in_order.result c.read_in_order.ensures.path

pub returns-clause-refused : goal.returns-clause-refused
returns-clause-refused c = finds_fault c.args.text.now c.read_in_order.result c.read_in_order.ensures.path
