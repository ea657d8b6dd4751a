use Rattle.command_words.proofs.Places.{some_rise}
use Rattle.command_words.proofs.word_lists.word_list.Goals as goal

pub returns-else-eq-clause-rise : goal.returns-else-eq-clause-rise
returns-else-eq-clause-rise c = some_rise c.args.text.now c.places_apart.result c.places_apart.ensures
