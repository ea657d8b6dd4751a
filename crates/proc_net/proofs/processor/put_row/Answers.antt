use Rattle.proc_net.proofs.Writing.{is_written}
use Rattle.proc_net.proofs.processor.put_row.Goals as goal

pub returns-clause-others : goal.returns-clause-others
returns-clause-others c =
    is_written c.args.list.now c.put_latches.new.words c.deref_mut.result.now c.args.machine.now.storage.latches
    c.args.places c.args.place c.from-width.result c.requires.room c.requires.place c.from-width.ensures
    c.put_latches.ensures.count c.deref_mut.ensures.value c.put_latches.ensures.words
