use Rattle.std.proofs.Common.{◌≡◌, ◌∙◌, sym, length}
use Rattle.proc_net.specs.Private.States.{places_of}
use Rattle.proc_net.proofs.Loading.{places_last, places_other, loaded_more, left_after}
use Rattle.proc_net.proofs.net.load_all.Goals as goal
use Rattle.proc_net.proofs.net.load_all.Goals.{then-number-count, else-number-count}

places_are : (c : goal.In_ok-push)
    → c.if-number-count.places ≡ places_of (length c.args.images) c.args.capacity c.args.samples c.len-number.result
places_are c =
    elim c.if-number-count.branch [
      | then-number-count w ↦
          places_last (length c.args.images) c.args.capacity c.args.samples c.len-number.result w.max-places.result
          c.if-number-count.places (w.if-number-count.true ∙ c.len-count.ensures) w.max-places.ensures w.places-is
      | else-number-count w ↦
          places_other (length c.args.images) c.args.capacity c.args.samples c.len-number.result
          c.if-number-count.places
          (λ same. w.if-number-count.false (same ∙ sym c.len-count.ensures)) w.places-is
    ]

pub loop-image-preserved : goal.loop-image-preserved
loop-image-preserved c =
    let so_far = c.loop-image.invariant in
    let steps = c.in-Some.ensures.steps in
    let more = loaded_more c.args.images c.args.procs.now c.args.capacity c.args.samples c.loop-image.processors
    c.push.new.self c.in-Some.image c.next.new.self.rest.items c.len-number.result c.index-procs-number.result
    c.as_slice-feed.result.now c.if-number-count.places c.in_ok-load.field-0 so_far.loaded c.requires.count
    (sym so_far.rest ∙ steps.0) c.len-number.ensures c.as_slice-feed.ensures (places_are c)
    c.in_ok-load.ensures c.in_ok-push.ensures.ok in
    record {
      count = left_after _ _ c.in-Some.image _ _ steps.0 steps.1 so_far.count;
      rest = more.0;
      loaded = more.1;
    }
