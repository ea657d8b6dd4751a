-- So many images are loaded, and the others are to come.
use Rattle.std.proofs.Common.{◌≡◌, length, map, drop}
use Rattle.std.specs.Vec.Iter.{into_iter_items, into_iter_len}
use Rattle.proc_net.specs.Private.States.{AreFresh}
use Rattle.proc_net.proofs.net.load_all.Given as goal

abbrev pub invariant-loop-image : goal.invariant-loop-image
invariant-loop-image l = record {
  count : into_iter_len l.image-iterator ≡ length (into_iter_items l.image-iterator);
  rest : into_iter_items l.image-iterator ≡ drop (length l.processors) l.fn.images;
  loaded : AreFresh l.fn.images (map (λ proc. proc.feed) l.procs) l.capacity l.samples l.processors;
}
