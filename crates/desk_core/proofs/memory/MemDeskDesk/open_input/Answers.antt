use Rattle.std.proofs.Common.{arith, ◌≡◌, refl, sym, ◌∙◌, ap, subst, ℕ, length, List, Some, None, true, false, inl, inr}
use Rattle.std.proofs.lemmas.Slice.Eq.{bytes_eq-Decides}
use Rattle.desk_core.specs.View.{Name, Content}
use Rattle.desk_core.specs.Stored.{lookup, name_at, bytes_at, IsFound, IsOpen}
use Rattle.desk_core.specs.declared.stored.Stored.{Stored}
use Rattle.desk_core.proofs.StoredLemmas.{stored_at, lookup_found, found_open, opened_bytes, for_this, same_name}
use Rattle.desk_core.proofs.memory.MemDeskDesk.open_input.Goals as goal

pub invariant_of-self : goal.invariant_of-self
invariant_of-self c =
    let found =
    subst (λ (fs : List Stored). IsFound fs c.args.name.now c.in-Some.file) c.as_slice.ensures c.in-Some.ensures in
    let bytes : c.index.result.now.bytes ≡ bytes_at c.args.self.now.files c.in-Some.file =
    stored_at c.args.self.now.files c.in-Some.file c.index.result.now found.inside c.index.ensures in
    record {
      moves = c.args.self.now.moves;
      input_stands =
          for_this (IsOpen c.args.self.now.files) _
          (found_open _ _ _ _ found (c.len-len.ensures ∙ ap (length {A = ℕ}) bytes));
      output_stands = c.args.self.now.output_stands;
      wants_within =
          (let counted = c.saturating_add-self.ensures in let within = c.args.self.now.wants_within in omega arith);
    }

pub returns-clause-ok : goal.returns-clause-ok
returns-clause-ok c =
    let found =
    subst (λ (fs : List Stored). IsFound fs c.args.name.now c.in-Some.file) c.as_slice.ensures c.in-Some.ensures in
    let bytes : c.index.result.now.bytes ≡ bytes_at c.args.self.now.files c.in-Some.file =
    stored_at c.args.self.now.files c.in-Some.file c.index.result.now found.inside c.index.ensures in
    record {
      place = refl;
      input = record {
        only = λ known is.
            let named : name_at c.args.self.now.files c.in-Some.file ≡ c.args.name.now = found.named in cc;
        named = λ files is there. ap (λ (n : Name). Some (Some n)) found.named;
        bytes = λ files is.
            ap (λ (b : Content). Some (Some b))
            (opened_bytes _ _ _ _ files found (c.len-len.ensures ∙ ap (length {A = ℕ}) bytes) is);
        opened = λ is. cc;
        reads = same_name _ _ found.named;
      };
      no_other = λ s ne t. absurd (ne (sym ((bytes_eq-Decides _ _).0 t) ∙ found.named));
      files = refl;
      output = refl;
      printed = refl;
      writes = refl;
    }

pub returns-clause-exact : goal.returns-clause-exact
returns-clause-exact c = λ left.
    let found =
    subst (λ (fs : List Stored). IsFound fs c.args.name.now c.in-Some.file) c.as_slice.ensures c.in-Some.ensures in
    let here : lookup c.args.self.now.files c.args.name.now ≡ Some (bytes_at c.args.self.now.files c.in-Some.file) =
    lookup_found _ _ _ found in
    let not_due : c.is_due-due.result ≡ false = c.if-not-due.true in (
      λ e. absurd (cc),
      elim [
        | inl due ↦ (let is : c.is_due-due.result ≡ true = c.is_due-due.ensures.1 due in cc)
        | inr none ↦ (let nothing : lookup c.args.self.now.files c.args.name.now ≡ None = none in cc)
      ],
    )
