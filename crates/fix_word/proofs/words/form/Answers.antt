use Rattle.std.proofs.Common.{rules}
use Rattle.fix_word.proofs.Bodies.{form_as}
use Rattle.fix_word.proofs.words.form.Goals as goal

pub returns-clause-meaning : goal.returns-clause-meaning
returns-clause-meaning c = form_as c.args.q c.args.fmt.now _ c.requires.format.width (search rules)
