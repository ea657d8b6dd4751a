use Rattle.silage_syntax.specs.Tree.{view}
use Rattle.type_rules.proofs.SoundNames.{apart}
use Rattle.fix_types.proofs.TypeAnswers.{all_sound, says_ok, says_fault, says_typed, says_values, each_ok, each_fault}
use Rattle.fix_types.proofs.check_types.Goals as goal

pub invariant_of-tops-clause-apart : goal.invariant_of-tops-clause-apart
invariant_of-tops-clause-apart c = apart (view c.args.program.now) c.requires.clear

pub typed_tops-requires-clause-sound : goal.typed_tops-requires-clause-sound
typed_tops-requires-clause-sound c = all_sound (view c.args.program.now) c.requires.clear c.requires.numbers

pub returns : goal.returns
returns c =
    let p = view c.args.program.now in
    let r = c.typed_tops.result in
    let h = c.typed_tops.ensures in
    record {
      ok = says_ok p r h;
      fault = says_fault p r h;
      typed = says_typed p r h;
      values = says_values p c.requires.clear c.requires.numbers r h;
      each_ok = each_ok p r h;
      each_fault = each_fault p r h;
    }
