use Rattle.std.proofs.Common.{rules}
use Rattle.command_words.proofs.Places.{no_place}
use Rattle.command_words.proofs.word_lists.plain_place.Goals as goal

pub returns-in_err-number_in : goal.returns-in_err-number_in
returns-in_err-number_in c = let none = no_place c.args.text.now c.requires c.in_err-number_in.ensures in search rules
