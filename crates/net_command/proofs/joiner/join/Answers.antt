use Rattle.std.proofs.Common.{length, ap, arith}
use Rattle.net_command.proofs.Joining.{as_many, joined}
use Rattle.net_command.proofs.joiner.join.Goals as goal

pub check_joints-requires-clause-ports : goal.check_joints-requires-clause-ports
check_joints-requires-clause-ports c =
    omega (
      arith,
      ap length c.as_slice.ensures,
      ap length c.as_slice-2.ensures,
      as_many c.args.file.now c.args.inputs.now c.in_ok-processors.processors c.in_ok-processors.ensures.ok,
      c.requires.count,
    )

pub returns-in-Ok-clause-ok : goal.returns-in-Ok-clause-ok
returns-in-Ok-clause-ok c =
    joined c.args.file.now c.args.inputs.now c.in_ok-processors.processors c.in_ok-processors.ensures.ok
    c.as_slice.result.now c.as_slice-2.result.now c.as_slice.ensures c.as_slice-2.ensures c.in-Ok.ensures.ok
