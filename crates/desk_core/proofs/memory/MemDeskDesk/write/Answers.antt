use Rattle.std.proofs.Common.{arith, ◌≡◌, sym, ◌∙◌, true, Result, Ok, Err, OnOk}
use Rattle.std.specs.Prelude.{is_ok}
use Rattle.desk_core.proofs.StoredLemmas.{appended_first, appended_open}
use Rattle.desk_core.proofs.memory.MemDeskDesk.write.Goals as goal

of_ok : {T E : Type 0} (r : Result T E) (A : Type 0) → is_ok r ≡ true → OnOk r A → A
of_ok (Ok x) A e h = h
of_ok (Err x) A e h = absurd (cc)

pub invariant_of-self : goal.invariant_of-self
invariant_of-self c =
    let grown = of_ok _ _ (sym c.is_ok.ensures.value ∙ c.if-is_ok.true) c.append.ensures.ok in
    record {
      moves = c.args.self.now.moves;
      input_stands = λ i e. appended_open _ _ _ _ i grown (c.args.self.now.input_stands i e);
      output_stands = λ i e. appended_first _ _ _ i _ grown (c.args.self.now.output_stands i e);
      wants_within =
          (let counted = c.saturating_add-self.ensures in let within = c.args.self.now.wants_within in omega arith);
    }
