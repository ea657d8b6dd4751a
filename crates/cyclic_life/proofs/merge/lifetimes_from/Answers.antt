use Rattle.std.proofs.Common.{◌≡◌, ◌∙◌, true, false, ◌+◌, ◌<◌, ◌≤◌, sym, ap, subst, arith, List, [], ◌∷◌, ◌++◌, length}
use Rattle.std.proofs.Common.{drop, get_or}
use Rattle.std.specs.Prelude.{map}
use Rattle.plan_core.specs.declared.registers.Arc.{Arc}
use Rattle.cyclic_life.specs.Private.Reads.{is_alike, later, arc_to, lasts_from, no_read}
use Rattle.cyclic_life.specs.declared.read.Read.{Read}
use Rattle.cyclic_life.proofs.LastReads.{one_of, taken_in, given_out, given_last}
use Rattle.cyclic_life.proofs.merge.lifetimes_from.Goals as goal
use Rattle.cyclic_life.proofs.merge.lifetimes_from.Goals.{then-is_alike, else-is_alike+in_ok-push}

pub loop-read-preserved : goal.loop-read-preserved
loop-read-preserved c =
    let rest = c.args.rest.now in
    let i = c.loop-read.read-index in
    let there : i < length rest = c.loop-read-test.true in
    let arc = arc_to c.args.period in
    let all = map arc (lasts_from c.args.first rest) in
    let done = c.loop-read.arcs in
    let last = c.loop-read.last in
    let low : (get_or rest i no_read).w < 4096 = c.requires.w i no_read there in
    elim c.if-is_alike.branch [
      | then-is_alike w ↦
          let alike : is_alike last (get_or rest i no_read) ≡ true = sym w.if-is_alike.ensures in
          let last_is : c.if-is_alike.last ≡ later last (get_or rest i no_read) = w.last-is ∙ w.later-last.ensures in (
            subst (λ (x : Read). x.w < 4096) (sym last_is)
                (one_of (λ (x : Read). x.w < 4096) last (get_or rest i no_read) c.loop-read.invariant.0 low),
            subst (λ (l : List Arc). l ++ map arc (lasts_from c.if-is_alike.last (drop (i + 1) rest)) ≡ all)
                (sym w.arcs-is)
                (subst (λ (x : Read). done ++ map arc (lasts_from x (drop (i + 1) rest)) ≡ all) (sym last_is)
                (taken_in arc last rest i done all c.loop-read.invariant.1 no_read there alike)),
          )
      | else-is_alike+in_ok-push w ↦
          let unlike : is_alike last (get_or rest i no_read) ≡ false = sym w.if-is_alike.ensures in
          let arcs_are : c.if-is_alike.arcs ≡ done ++ arc last ∷ [] =
          w.arcs-is ∙ w.in_ok-push.ensures.ok ∙ ap (λ (a : Arc). c.loop-read.arcs ++ a ∷ []) w.arc_to_read.ensures in (
            subst (λ (x : Read). x.w < 4096) (sym w.last-is) low,
            subst (λ (x : Read). c.if-is_alike.arcs ++ map arc (lasts_from x (drop (i + 1) rest)) ≡ all)
                (sym w.last-is)
                (given_out arc last rest i done all c.loop-read.invariant.1 no_read there c.if-is_alike.arcs unlike
                arcs_are),
          )
    ]

pub returns : goal.returns
returns c =
    let rest = c.args.rest.now in
    let past : length rest ≤ c.loop-read.read-index =
    omega (arith, c.loop-read-test.false, c.loop-read.auto.read-index-end) in
    let arc = arc_to c.args.period in
    c.in_ok-push-2.ensures.ok ∙ ap (λ (a : Arc). c.loop-read.arcs ++ a ∷ []) c.arc_to_read-2.ensures
    ∙ given_last arc c.loop-read.last rest c.loop-read.read-index c.loop-read.arcs
    (map arc (lasts_from c.args.first rest)) c.loop-read.invariant.1 past
