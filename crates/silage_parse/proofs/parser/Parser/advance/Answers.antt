use Rattle.std.proofs.lemmas.Option.{slice_get-get_or}
use Rattle.silage_parse.proofs.Steps.{refl, taken, limited}
use Rattle.silage_parse.proofs.parser.Parser.advance.Goals as goal

pub returns-in-Some : goal.returns-in-Some
returns-in-Some c = record {
  same = refl;
  one = refl;
  as_one_of = λ ks is_of.
      taken _ (slice_get-get_or c.args.self.now.tokens.now c.args.self.now.at c.index-self-self.result c.requires)
      c.in-Some.ensures.some refl refl is_of;
}

pub returns-in-None : goal.returns-in-None
returns-in-None c = λ ks is_of.
    limited c.args.self.now _
    (slice_get-get_or c.args.self.now.tokens.now c.args.self.now.at c.index-self-self.result c.requires)
    c.in-None.ensures.none is_of
