-- Units, all of the hardware and what an issue does are misread inside what is left, in any form.
use Rattle.std.proofs.Common.{◌≡◌, ℕ, zero, suc, ◌+◌, ◌*◌, ◌≤◌, Bool, true, false, cond, List, [], length, Result, Ok}
use Rattle.std.proofs.Common.{Err}
use Rattle.std.proofs.Common.{refl, subst, arith}
use Rattle.operations.specs.declared.units.Kind.{Kind}
use Rattle.operations.specs.declared.units.Kind.TheVariants as kind
use Rattle.micro_image.specs.declared.image.Image.{Image}
use Rattle.micro_image.specs.declared.image.UnitDesc.{UnitDesc}
use Rattle.micro_image.specs.declared.image.Word.{Word}
use Rattle.micro_image.specs.Operations.{reads}
use Rattle.micro_image.specs.Valid.{ports}
use Rattle.micro_file.specs.declared.misread.Misread.{Misread}
use Rattle.micro_file.specs.declared.misread.Misread.TheVariants.{Field}
use Rattle.micro_file.specs.Private.Fields.{Reading, ◌>>=◌, many_at}
use Rattle.micro_file.specs.Private.FormAt.{FormAt}
use Rattle.micro_file.specs.Private.Units.{file_at, cells_at, ram_at, unit_at, is_tied, judged, judged_at}
use Rattle.micro_file.specs.Private.Units.{some_units_at}
use Rattle.micro_file.specs.Private.Units.{units_at}
use Rattle.micro_file.specs.Private.Hardware.{inputs_at, hardware_at, image_at, issue_on_at}
use Rattle.micro_file.specs.Private.Places.{IsIn}
use Rattle.micro_file.proofs.Readers.{bound}
use Rattle.micro_file.proofs.Inside.{IsInside, in_more, next, behind, many_in, counted_in, at_ok, StaysInside}
use Rattle.micro_file.proofs.Inside.{InsideForm}

-- it has no place that is outside what is left
abbrev pub StopsIn : {A : Type 0} → ℕ → Result A Misread → Type 0
StopsIn size (Ok x) = Unit {0}
StopsIn size (Err misread) = IsIn size misread

pub stops_more : {A : Type 0} (m n : ℕ) (r : Result A Misread) → m ≤ n → StopsIn m r → StopsIn n r
stops_more m n (Ok x) le h = tt
stops_more m n (Err misread) le h = in_more m n misread le h

stops_next : {A B : Type 0} (size : ℕ) (r : Result A Misread) (f : A → Result B Misread)
    → StopsIn size r
    → ((x : A) → StopsIn size (f x))
    → StopsIn size (r >>= f)
stops_next size (Ok x) f h g = g x
stops_next size (Err misread) f h g = h

-- what is read, once all else passes
passes : {A X : Type 0} (size : ℕ) (r : Result X Misread) (x : A × List ℕ)
    → StopsIn size r
    → length x.1 ≤ size
    → IsInside size (r >>= λ _. Ok x)
passes size (Ok y) x h le = le
passes size (Err misread) x h le = h

module _ {form : FormAt} (is : InsideForm form) where
  file_in : StaysInside (file_at form)
  unfolding file_at
  file_in left =
      behind (length left) (form.registers left) (λ size. form.initial size.0 size.1) (is.registers left)
      (λ size. is.initial size.0 size.1)

  cells_in : (k : Kind) → StaysInside (cells_at form k)
  unfolding cells_at
  cells_in kind.Ram left =
      behind (length left) (form.cells left) (λ size. form.initial size.0 size.1) (is.cells left)
      (λ size. is.initial size.0 size.1)
  cells_in _ left = omega arith

  ram_in : (k : Kind) → StaysInside (ram_at form k)
  unfolding ram_at
  ram_in kind.Acu left = is.ram left
  ram_in _ left = omega arith

  -- a unit but for its kind and its latency
  abbrev unit_behind : Kind → ℕ × List ℕ → Reading UnitDesc
  unit_behind k l =
      form.gap l.0 l.1 >>= λ g. many_at (λ _. file_at form) [] (ports k) g.1 >>= λ f.
      cells_at form k f.1 >>= λ c. ram_at form k c.1 >>= λ r.
      Ok (record { kind = k; latency = l.0; gap = g.0; files = f.0; cells = c.0; ram = r.0 }, r.1)

  unit_behind_in : (k : Kind) (l : ℕ × List ℕ) → IsInside (length l.1) (unit_behind k l)
  unit_behind_in k l =
      behind (length l.1) (form.gap l.0 l.1) _ (is.gap l.0 l.1) (λ g.
      behind (length g.1) (many_at (λ _. file_at form) [] (ports k) g.1) _
      (many_in (λ _. file_at form) (λ _. file_in) [] (ports k) g.1) (λ f.
      behind (length f.1) (cells_at form k f.1) _ (cells_in k f.1) (λ c.
      behind (length c.1) (ram_at form k c.1) _ (ram_in k c.1) (λ r. omega arith))))

  unit_in : StaysInside (unit_at form)
  unfolding unit_at
  unit_in left =
      behind (length left) (form.kind left) _ (is.kind left) (λ k.
      behind (length k.1) (form.latency k.1) (unit_behind k.0) (is.latency k.1) (λ l. unit_behind_in k.0 l))

  -- a unit is no shorter than the number of an acu's ram
  unit_shorter : (left : List ℕ) (x : UnitDesc × List ℕ)
      → unit_at form left ≡ Ok x
      → length x.1 + form.ram_length ≤ length left
  unfolding unit_at
  unit_shorter left x e =
      let k = bound (form.kind left) (λ k. form.latency k.1 >>= λ l. unit_behind k.0 l) x e in
      let l = bound (form.latency k.0.1) (unit_behind k.0.0) x k.2 in
      omega (
        arith,
        is.start left k.0 l.0 k.1 l.1,
        at_ok (length l.0.1) (unit_behind k.0.0 l.0) x (unit_behind_in k.0.0 l.0) l.2,
      )

  judged_stops : (units : List UnitDesc) (unit : UnitDesc) (behind size : ℕ)
      → behind + form.ram_length ≤ size
      → StopsIn size (judged form units unit behind)
  judged_stops units unit behind size le = by (is_tied units unit)
    where
      by : (b : Bool) → StopsIn {A = Unit {0}} size (cond b (Ok tt) (Err (Field (behind + form.ram_length))))
      by true = tt
      by false = le

  one_stops : (units : List UnitDesc) (n : ℕ) (left : List ℕ)
      → ((rest : List ℕ) → StopsIn (length rest) (judged_at form units n rest))
      → (r : Reading UnitDesc)
      → unit_at form left ≡ r
      → StopsIn (length left)
      (r >>= λ unit. judged form units unit.0 (length unit.1) >>= λ ok. judged_at form units n unit.1)
  one_stops units n left others (Ok unit) e =
      let shorter = unit_shorter left unit e in
      stops_next (length left) (judged form units unit.0 (length unit.1)) (λ ok. judged_at form units n unit.1)
      (judged_stops units unit.0 (length unit.1) (length left) shorter)
      (λ ok. stops_more (length unit.1) (length left) (judged_at form units n unit.1) (omega arith) (others unit.1))
  one_stops units n left others (Err misread) e =
      subst (λ (r : Reading UnitDesc). IsInside (length left) r) e (unit_in left)

  judged_at_stops : (units : List UnitDesc) (n : ℕ) (left : List ℕ)
      → StopsIn (length left) (judged_at form units n left)
  unfolding judged_at
  judged_at_stops units zero left = tt
  judged_at_stops units (suc n) left = one_stops units n left (judged_at_stops units n) (unit_at form left) refl

  some_units_in : (count : ℕ) → StaysInside (some_units_at form count)
  unfolding some_units_at
  some_units_in count left =
      next (length left) (many_at (λ _. unit_at form) [] count left)
      (λ units. judged_at form units.0 count left >>= λ ok. Ok units)
      (many_in (λ _. unit_at form) (λ _. unit_in) [] count left)
      (λ units le.
      passes (length left) (judged_at form units.0 count left) units (judged_at_stops units.0 count left) le)

  units_in : StaysInside (units_at form)
  unfolding units_at
  units_in left =
      behind (length left) (form.units left) (λ count. some_units_at form count.0 count.1) (is.units left)
      (λ count. some_units_in count.0 count.1)

  inputs_in : StaysInside (inputs_at form)
  unfolding inputs_at
  inputs_in left = counted_in form.channels (λ _. form.width) left (is.channels left) (λ _. is.width)

  hardware_in : StaysInside (hardware_at form)
  unfolding hardware_at
  hardware_in left =
      behind (length left) (form.period left) _ (is.period left) (λ p.
      behind (length p.1) (form.unroll p.1) _ (is.unroll p.1) (λ u.
      behind (length u.1) (inputs_at form u.1) _ (inputs_in u.1) (λ i.
      behind (length i.1) (form.channels i.1) _ (is.channels i.1) (λ o.
      behind (length o.1) (units_at form o.1) _ (units_in o.1) (λ n.
      behind (length n.1) (form.buses n.1) _ (is.buses n.1) (λ b. omega arith))))))

  -- an image, whose words are misread so
  pub image_in : (word_at : Image → List ℕ → Reading Word)
      → ((image : Image) → StaysInside (word_at image))
      → StaysInside (image_at form word_at)
  unfolding image_at
  image_in word_at each left =
      behind (length left) (hardware_at form left) _ (hardware_in left) (λ h.
      behind (length h.1) (many_at (λ _. word_at h.0) [] (h.0.period * h.0.unroll) h.1) _
      (many_in (λ _. word_at h.0) (λ _. each h.0) [] (h.0.period * h.0.unroll) h.1) (λ w. omega arith))

  pub issue_on_in : (image : Image) (number : ℕ) (unit : UnitDesc) → StaysInside (issue_on_at form image number unit)
  unfolding issue_on_at
  issue_on_in image number unit left =
      behind (length left) (form.operation unit.kind left) _ (is.operation unit.kind left) (λ o.
      behind (length o.1) (form.format o.0 o.1) _ (is.format o.0 o.1) (λ f.
      behind (length f.1) (form.argument o.0 (length image.inputs) image.outs f.1) _
      (is.argument o.0 (length image.inputs) image.outs f.1) (λ a.
      behind (length a.1) (form.named unit.files (reads o.0) a.1) _ (is.named unit.files (reads o.0) a.1)
      (λ r. omega arith))))
