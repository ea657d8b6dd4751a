use Rattle.std.proofs.lemmas.List.Sorted.{IsPermutation-trans}
use Rattle.silc_show.proofs.trace.Run.arrange.Goals as goal

pub returns-in-Some : goal.returns-in-Some
returns-in-Some c = record {
  sound = c.requires.sound;
  all_units = IsPermutation-trans _ _ _ c.requires.all_units c.arrange.ensures;
  time = c.requires.time;
}
