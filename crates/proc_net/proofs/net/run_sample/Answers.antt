use Rattle.std.proofs.Common.{◌≡◌, List, length, ℤ, refl, sym, ◌∙◌, subst}
use Rattle.std.proofs.lemmas.Option.{slice_get_read}
use Rattle.lists.proofs.Places.{some_once}
use Rattle.proc_net.specs.declared.processor.Processor.{Processor}
use Rattle.proc_net.specs.Private.Runs.{RanSample, CanRunSample}
use Rattle.proc_net.proofs.net.run_sample.Goals as goal

pub sample-requires : goal.sample-requires
sample-requires c =
    subst (CanRunSample c.index_mut.result.now) (sym c.as_slice.ensures)
    (c.requires.ready c.index_mut.result.now c.index-rows-number.result
    (slice_get_read c.args.processors.now (length c.args.processors.now) c.args.number c.index_mut.result.now refl
    c.requires.processor c.index_mut.ensures.value)
    (slice_get_read c.args.rows.now (length c.args.rows.now) c.args.number c.index-rows-number.result refl
    c.requires.row c.index-rows-number.is))

pub returns : goal.returns
returns c = λ own row there row_there.
    let is_own : c.index_mut.result.now ≡ own =
    some_once
    (slice_get_read c.args.processors.now (length c.args.processors.now) c.args.number c.index_mut.result.now refl
    c.requires.processor c.index_mut.ensures.value) there in
    let is_row : c.as_slice.result.now ≡ row =
    c.as_slice.ensures ∙ some_once (slice_get_read c.args.rows.now (length c.args.rows.now) c.args.number
    c.index-rows-number.result refl c.requires.row c.index-rows-number.is) row_there in (
      c.sample.new.self,
      subst (λ (r : List ℤ). RanSample r own c.sample.new.self) is_row
          (subst (λ (o : Processor). RanSample c.as_slice.result.now o c.sample.new.self) is_own c.sample.ensures),
      refl,
    )
