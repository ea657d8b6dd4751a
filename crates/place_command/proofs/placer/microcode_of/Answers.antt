use Rattle.plan_commands.proofs.Compiled.{spells_only}
use Rattle.place_command.proofs.placer.microcode_of.Goals as goal

pub returns-clause-ok : goal.returns-clause-ok
returns-clause-ok c = record {
  image = c.in_ok-image.image;
  image_of = c.in_ok-image.ensures.image;
  spelled = spells_only c.in_ok-encode.field-0 c.in_ok-image.image c.in_ok-encode.ensures.spelled;
  short = c.in_ok-encode.ensures.short;
  runs = c.in_ok-image.ensures.runs;
}
