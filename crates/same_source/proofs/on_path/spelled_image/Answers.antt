use Rattle.std.proofs.Common.{sym}
use Rattle.same_source.proofs.on_path.spelled_image.Goals as goal

pub returns-in-Ok-clause-only : goal.returns-in-Ok-clause-only
returns-in-Ok-clause-only c = record {
  spells = c.in-Ok.ensures.spelled;
  unique = λ other is. sym (c.in-Ok.ensures.every_spelling other is);
}
