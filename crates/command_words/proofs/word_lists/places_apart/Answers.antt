use Rattle.std.proofs.Common.{length, lit<, arith, rules, ◌∙◌}
use Rattle.std.proofs.lemmas.Iterator.Consumers.{YieldsList-turn, YieldsList-end}
use Rattle.std.proofs.lemmas.Iterator.Splits.{YieldsList-from_str_split}
use Rattle.std.proofs.lemmas.List.{length_push}
use Rattle.command_words.specs.WordLists.{parts_of}
use Rattle.command_words.proofs.Places.{no_place_there, too_low, rest_more, read_more, all_read, place_fits}
use Rattle.command_words.proofs.word_lists.places_apart.Goals as goal

pub returns-in_err-place : goal.returns-in_err-place
returns-in_err-place c =
    let parts = YieldsList-from_str_split 44 c.args.text.now (lit< tt) (cc) (cc) (cc) in
    let turn =
    YieldsList-turn parts c.loop-part.yielded _ c.loop-part.yielded_by _ _ c.in-Some.part c.in-Some.is
    c.next.ensures.steps in
    let none =
    no_place_there (parts_of c.args.text.now) (length c.loop-part.yielded) c.loop-part.least c.as_bytes.result.now
    c.in-Some.part.now turn.0 (c.as_bytes.ensures.value ∙ turn.1) c.loop-part.invariant.rest c.in_err-place.ensures in
    search rules

pub returns-then-place-least : goal.returns-then-place-least
returns-then-place-least c =
    let parts = YieldsList-from_str_split 44 c.args.text.now (lit< tt) (cc) (cc) (cc) in
    let turn =
    YieldsList-turn parts c.loop-part.yielded _ c.loop-part.yielded_by _ _ c.in-Some.part c.in-Some.is
    c.next.ensures.steps in
    too_low (parts_of c.args.text.now) (length c.loop-part.yielded) c.loop-part.least c.as_bytes.result.now
    c.in-Some.part.now turn.0 (c.as_bytes.ensures.value ∙ turn.1) c.loop-part.invariant.rest
    (omega (arith, c.in_ok-place.ensures.1, c.if-place-least.true))

pub loop-part-preserved : goal.loop-part-preserved
loop-part-preserved c =
    let parts = YieldsList-from_str_split 44 c.args.text.now (lit< tt) (cc) (cc) (cc) in
    let turn =
    YieldsList-turn parts c.loop-part.yielded _ c.loop-part.yielded_by _ _ c.in-Some.part c.in-Some.is
    c.next.ensures.steps in
    let next = length_push c.loop-part.yielded c.in-Some.part in
    let fits = place_fits c.as_bytes.result.now c.in_ok-place.ensures.0 in
    record {
      read =
          read_more (parts_of c.args.text.now) c.loop-part.places.items c.push.new.self.items
          (length c.loop-part.yielded) _ c.in_ok-place.place c.as_bytes.result.now c.in-Some.part.now turn.0
          (c.as_bytes.ensures.value ∙ turn.1) next c.in_ok-place.ensures.1 c.push.ensures.items
          c.loop-part.invariant.read;
      rest =
          rest_more (parts_of c.args.text.now) (length c.loop-part.yielded) _ c.loop-part.least c.in_ok-place.place
          c.as_bytes.result.now c.in-Some.part.now turn.0 (c.as_bytes.ensures.value ∙ turn.1) next
          c.in_ok-place.ensures.0 c.in_ok-place.ensures.1 c.if-place-least.false
          ∙ c.loop-part.invariant.rest;
      few = omega (arith, c.push.ensures.len, c.loop-part.invariant.few, c.if-place-least.false);
      room = omega (arith, fits, c.in_ok-place.ensures.1);
    }

pub returns : goal.returns
returns c =
    let parts = YieldsList-from_str_split 44 c.args.text.now (lit< tt) (cc) (cc) (cc) in
    let end =
    YieldsList-end parts c.loop-part.yielded _ c.loop-part.yielded_by _ _ c.in-None.is c.next.ensures.steps in
    all_read (parts_of c.args.text.now) c.loop-part.places.items (length c.loop-part.yielded) c.loop-part.least
    (omega (arith, end.1)) c.loop-part.invariant.read c.loop-part.invariant.rest
