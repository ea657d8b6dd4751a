-- How the labels of places are found: from a cycle back to the last write.
use Rattle.std.proofs.Common.{◌≡◌, ℕ, suc, ◌+◌, ◌-◌, ◌*◌, ◌<◌, ◌≤◌, ◌==◌, nat_le, refl, sym, ap, ◌∙◌, arith, Option}
use Rattle.std.proofs.Common.{Some, None}
use Rattle.std.proofs.Common.{find, if◌then◌else◌, Bool, true, false, subst}
use Rattle.fix_word.specs.declared.operation.Op.{Op}
use Rattle.fix_word.specs.declared.operation.Op.TheVariants as op
use Rattle.micro_image.specs.declared.image.Enable.{Enable}
use Rattle.micro_image.specs.declared.image.Image.{Image}
use Rattle.micro_image.specs.declared.image.Issue.{Issue}
use Rattle.micro_image.specs.declared.image.Take.{Take}
use Rattle.micro_image.specs.Fields.{nth}
use Rattle.image_labels.specs.declared.label.Certificate.{Certificate}
use Rattle.image_labels.specs.declared.label.Label.{Label}
use Rattle.image_labels.specs.declared.label.Label.TheVariants.{Unknown}
use Rattle.image_labels.specs.Labels.{word_in, delay_on, issued_in, ended_in, is_into, driven_label, taken_label}
use Rattle.image_labels.specs.Labels.{register_label, operand_label, is_address, stored_by, stored_label, cell_label}

some_before : (c back before : ℕ) → back < c → before ≡ c - back - 1 → c - back ≡ suc before
some_before c back before less is = omega (arith, less, is)

next_back : (c back before : ℕ) → back < c → before ≡ c - back - 1 → before ≡ c - (back + 1)
next_back c back before less is = omega (arith, less, is)

module _ (image : Image) (certificate : Certificate) (c back before : ℕ) (less : back < c)
    (is : before ≡ c - back - 1) where
  pub register_found : (u p r : ℕ) (take : Take)
      → find (is_into u p r) (word_in image before).takes ≡ Some take
      → register_label image certificate u p r (c - back)
      ≡ driven_label image certificate before
      (find (λ (enable : Enable). enable.bus == take.bus) (word_in image before).enables)
  register_found u p r take found =
      ap (register_label image certificate u p r) (some_before c back before less is)
      ∙ ap (λ o. taken_label image certificate before o (register_label image certificate u p r before)) found

  pub register_unfound : (u p r : ℕ)
      → find (is_into u p r) (word_in image before).takes ≡ None
      → register_label image certificate u p r (c - back) ≡ register_label image certificate u p r (c - (back + 1))
  register_unfound u p r found =
      ap (register_label image certificate u p r) (some_before c back before less is)
      ∙ ap (λ o. taken_label image certificate before o (register_label image certificate u p r before)) found
      ∙ ap (register_label image certificate u p r) (next_back c back before less is)

  pub cell_written : (u x : ℕ) (o : Option Issue) (label : Label)
      → ended_in image before u ≡ o
      → stored_label image certificate (before - delay_on image u) x o (cell_label image certificate u x before) ≡ label
      → cell_label image certificate u x (c - back) ≡ label
  cell_written u x o label ends stored =
      ap (cell_label image certificate u x) (some_before c back before less is)
      ∙ ap (λ o.
      stored_label image certificate (before - delay_on image u) x o (cell_label image certificate u x before))
      ends
      ∙ stored

  pub cell_kept : (u x : ℕ) (o : Option Issue)
      → ended_in image before u ≡ o
      → stored_label image certificate (before - delay_on image u) x o (cell_label image certificate u x before)
      ≡ cell_label image certificate u x before
      → cell_label image certificate u x (c - back) ≡ cell_label image certificate u x (c - (back + 1))
  cell_kept u x o ends stored =
      cell_written u x o (cell_label image certificate u x before) ends stored
      ∙ ap (cell_label image certificate u x) (next_back c back before less is)

none_left : (c : ℕ) → c - c ≡ 0
none_left c = omega arith

pub register_first : (image : Image) (certificate : Certificate) (u p r c back : ℕ)
    → c ≤ back
    → register_label image certificate u p r (c - back) ≡ nth certificate.registers (u * 1024 + p * 256 + r) Unknown
register_first image certificate u p r c back le =
    ap (register_label image certificate u p r) (let e : c - back ≡ 0 = omega (arith, le) in e)

pub cell_first : (image : Image) (certificate : Certificate) (u x c back : ℕ)
    → c ≤ back
    → cell_label image certificate u x (c - back) ≡ nth certificate.cells (u * 65536 + x) Unknown
cell_first image certificate u x c back le =
    ap (cell_label image certificate u x) (let e : c - back ≡ 0 = omega (arith, le) in e)

-- a store, and another operation
pub store_is : (image : Image) (certificate : Certificate) (b x : ℕ) (issue : Issue) (before : Label) (stores : Bool)
    → issue.op ≡ op.Store
    → stores ≡ is_address (operand_label image certificate b issue 0) x
    → stored_label image certificate b x (Some issue) before
    ≡ (if stores then operand_label image certificate b issue 1 else before)
store_is image certificate b x issue before stores is same =
    ap (λ o. stored_by o image certificate b x issue before) is
    ∙ ap (λ s. if s then operand_label image certificate b issue 1 else before) (sym same)

other_is : (image : Image) (certificate : Certificate) (b x : ℕ) (issue : Issue) (before : Label) (o : Op)
    → (o ≡ op.Store → ⊥)
    → stored_by o image certificate b x issue before ≡ before
other_is image certificate b x issue before op.Store never = absurd (never refl)
other_is image certificate b x issue before _ never = refl

pub no_store : (image : Image) (certificate : Certificate) (b x : ℕ) (issue : Issue) (before : Label)
    → (issue.op ≡ op.Store → ⊥)
    → stored_label image certificate b x (Some issue) before ≡ before
no_store image certificate b x issue before never = other_is image certificate b x issue before issue.op never

ended_by : (image : Image) (c u : ℕ) (b : Bool) (o : Option Issue)
    → nat_le (delay_on image u) c ≡ b
    → (if b then issued_in (word_in image (c - delay_on image u)) u else None) ≡ o
    → ended_in image c u ≡ o
ended_by image c u b o le is =
    ap (λ b. if b then issued_in (word_in image (c - delay_on image u)) u else None) le ∙ is

-- what ends, with the delay as it is read
pub ended_late : (image : Image) (c u d : ℕ) (o : Option Issue)
    → d ≡ delay_on image u
    → d ≤ c
    → o ≡ issued_in (word_in image (c - d)) u
    → o ≡ ended_in image c u
ended_late image c u d o same le is =
    sym (ended_by image c u true o (subst (λ d. nat_le d c ≡ true) same (true_of d c le))
    (subst (λ d. issued_in (word_in image (c - d)) u ≡ o) same (sym is)))
  where
    true_of : (a b : ℕ) → a ≤ b → nat_le a b ≡ true
    true_of a b h = grind arith

pub ended_early : (image : Image) (c u d : ℕ)
    → d ≡ delay_on image u
    → c < d
    → None ≡ ended_in image c u
ended_early image c u d same less =
    sym (ended_by image c u false None (subst (λ d. nat_le d c ≡ false) same (false_of d c less)) refl)
  where
    false_of : (a b : ℕ) → b < a → nat_le a b ≡ false
    false_of a b h = grind arith
