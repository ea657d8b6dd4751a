-- What is within the limits has roles that pass none, the text's tokens have such roles, and so they are within
-- the limits.
use Rattle.silage_parse.proofs.Within.{roles_within, program_within}
use Rattle.silage_print.specs.ReadAgain.{HasSourceWithin}
use Rattle.silage_tree.proofs.print_is_parsed.Goals as goal

pub returns : goal.returns
returns c = λ program source.
    let d = source.within.is.derives in
    let limits = roles_within source.tokens program d.0 d.1 source.within in
    let roles : HasSourceWithin program = record {
      bytes = source.bytes;
      tokens = source.tokens;
      roles = d.0;
      has_tokens = source.has_tokens;
      has_roles = d.1;
      within = limits;
    } in
    let r = c.print_is_read.ensures.within program roles in
    record {
      tokens = r.again.tokens;
      has_tokens = r.again.has_tokens;
      read = r.again.read;
      within = program_within r.again.tokens r.again.read r.roles r.has_roles r.within;
      same = r.again.same;
    }
