use Rattle.std.proofs.Common.{arith, ◌≡◌, sym, ◌∙◌, ap, ℕ, ◌≤◌, length, take, Some}
use Rattle.std.proofs.lemmas.List.{length-take-le}
use Rattle.desk_core.specs.View.{Content}
use Rattle.desk_core.specs.Stored.{bytes_at}
use Rattle.desk_core.proofs.StoredLemmas.{bytes_is}
use Rattle.desk_core.proofs.stored.OpenInput.bytes.Goals as goal

pub slice_bounds-result-end : goal.slice_bounds-result-end
slice_bounds-result-end c =
    let same : c.deref.result.now ≡ bytes_at c.args.files.now c.args.self.file =
    c.deref.ensures
    ∙ bytes_is c.args.files.now c.args.self.file c.index-files-self.result c.requires.first.inside in
    let room : c.args.self.len ≤ length c.deref.result.now =
    omega (arith, ap (length {A = ℕ}) same, c.requires.within) in
    sym (length-take-le c.args.self.len c.deref.result.now room)

pub returns : goal.returns
returns c =
    ap (λ (b : Content). Some (take c.args.self.len b))
    (c.deref.ensures ∙ bytes_is c.args.files.now c.args.self.file c.index-files-self.result c.requires.first.inside)
