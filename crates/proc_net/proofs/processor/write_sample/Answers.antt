use Rattle.std.proofs.Common.{◌*◌, take, drop}
use Rattle.proc_net.proofs.Writing.{is_written, count_written}
use Rattle.proc_net.proofs.processor.write_sample.Goals as goal

pub returns-clause-others : goal.returns-clause-others
returns-clause-others c =
    is_written c.args.list.now c.put_sample.new.words c.deref_mut.result.now
    (take c.from-width.result (drop (c.args.place * c.from-width.result) c.put_sample.new.words)) c.args.places
    c.args.place c.from-width.result c.requires.room c.requires.place c.from-width.ensures
    (count_written c.args.list.now c.deref_mut.result.now c.put_sample.new.words c.args.places c.args.place
    c.from-width.result c.requires.room c.requires.place c.from-width.ensures c.deref_mut.ensures.value
    c.put_sample.ensures.whole)
    c.deref_mut.ensures.value c.put_sample.ensures.words
