use Rattle.std.proofs.Common.{rules}
use Rattle.silc.proofs.list.listing_of.Goals as goal

pub returns-clause-ok : goal.returns-clause-ok
returns-clause-ok c = record {
  image = c.in_ok-image.image;
  spells = rw (← c.deref.ensures) c.in_ok-image.ensures.spelled;
  text_is = search rules;
}
