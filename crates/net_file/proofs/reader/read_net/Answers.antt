use Rattle.net_file.proofs.Allowed.{allowed}
use Rattle.net_file.proofs.Described.{describes, is_clear, refuses}
use Rattle.net_file.proofs.reader.read_net.Goals as goal

pub returns-clause-described : goal.returns-clause-described
returns-clause-described c = describes c.args.text.now c.read_in_order.result c.read_in_order.ensures.net

pub returns-clause-allowed : goal.returns-clause-allowed
returns-clause-allowed c =
    allowed c.args.text.now c.read_in_order.result
    (describes c.args.text.now c.read_in_order.result c.read_in_order.ensures.net)

pub returns-clause-clear : goal.returns-clause-clear
returns-clause-clear c = is_clear c.args.text.now c.read_in_order.result c.read_in_order.ensures.net

pub returns-clause-fault : goal.returns-clause-fault
returns-clause-fault c = refuses c.args.text.now c.read_in_order.result c.read_in_order.ensures.net
