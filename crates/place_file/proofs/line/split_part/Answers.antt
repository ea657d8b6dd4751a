use Rattle.place_file.proofs.Words.{part_and_rest, last_and_none}
use Rattle.place_file.proofs.line.split_part.Goals as goal

pub split_at-requires : goal.split_at-requires
split_at-requires c = c.index_of.ensures.within

pub returns-in-Some : goal.returns-in-Some
returns-in-Some c =
    part_and_rest c.args.byte c.args.text.now c.index_of.result c.index_of.ensures.first c.split_at.result.0.now
    c.split_at.result.1.now c.split_at.ensures.front c.split_at.ensures.back c.in-Some.field-0-0.now c.in-Some.rest.now
    c.in-Some.ensures.cases

pub returns-in-None : goal.returns-in-None
returns-in-None c =
    last_and_none c.args.byte c.args.text.now c.index_of.result c.index_of.ensures.first c.split_at.result.0.now
    c.split_at.result.1.now c.split_at.ensures.front c.split_at.ensures.back c.index_of.ensures.within
    c.in-None.ensures.cases
