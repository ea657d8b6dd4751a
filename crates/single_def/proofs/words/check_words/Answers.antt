use Rattle.std.proofs.Common.{◌∙◌, ap}
use Rattle.silage_syntax.specs.Tree.{function, view_func, view_top}
use Rattle.element_rules.specs.Sizes.{top_is_sized}
use Rattle.lists.proofs.Each.{all_pass}
use Rattle.single_def.proofs.MainTops.{no_top_at, top_at, no_table, same_function}
use Rattle.single_def.proofs.words.check_words.Goals as goal

pub has_few_words-requires : goal.has_few_words-requires
has_few_words-requires c =
    let at =
    top_at c.args.program.now.tops c.args.main c.get.result c.get.ensures c.in-Some-Func.field-0 c.in-Some-Func.is
    (function (view_func c.in-Some-Func.func)) (ap view_top c.in-Some-Func.field-0-is) in
    all_pass top_is_sized _ c.args.main (function (view_func c.in-Some-Func.func)) c.requires.sized at

pub returns : goal.returns
returns c f main =
    c.has_few_words.ensures
    ∙ same_function c.args.program.now.tops c.args.main c.get.result c.get.ensures c.in-Some-Func.field-0
    c.in-Some-Func.is (view_func c.in-Some-Func.func) f (ap view_top c.in-Some-Func.field-0-is) main

pub unreachable-requires : goal.unreachable-requires
unreachable-requires c =
    no_table c.args.program.now.tops c.args.main c.get.result c.get.ensures c.in-Some-Const.field-0 c.in-Some-Const.is _
    c.requires.main.func (ap view_top c.in-Some-Const.field-0-is) c.requires.main.stands

pub unreachable-requires-in-None : goal.unreachable-requires-in-None
unreachable-requires-in-None c =
    no_top_at c.args.program.now.tops c.args.main c.get.result c.get.ensures c.requires.main.func c.in-None.is
    c.requires.main.stands
