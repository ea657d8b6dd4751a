-- The writes of a cycle: those of its takes, and those of the stores and outputs that end in it.
use Rattle.std.proofs.Common.{◌≡◌, ℕ, ◌<◌, refl, ap, ◌∙◌, arith, List, [], ◌∷◌, length, ℤ, Bool, true, false}
use Rattle.std.proofs.Common.{Option, Some, None, cond}
use Rattle.std.specs.List.{range_with_len, filter, count_by}
use Rattle.std.proofs.lemmas.List.Sums.{length-filter}
use Rattle.lists.specs.Rows.{Rows}
use Rattle.fix_word.specs.declared.operation.Op.{Op}
use Rattle.fix_word.specs.declared.operation.Op.TheVariants as op
use Rattle.operations.specs.Ranges.{to_nat}
use Rattle.micro_image.specs.declared.image.Enable.{Enable}
use Rattle.micro_image.specs.declared.image.Issue.{Issue}
use Rattle.micro_image.specs.declared.image.Take.{Take}
use Rattle.micro_image.specs.Fields.{Microprogram, driver_at, began, ending}
use Rattle.micro_image.specs.Log.{Register, Latch, Cell, Entry, operand, value, entries_by, entry_of, taken}
use Rattle.micro_image.specs.Log.{taken_from, written, written_of, written_by, result_by}
use Rattle.micro_image.proofs.Each.{In, here, there, Each, none, more, Each-append, Each-flat_map, In-append_left}
use Rattle.micro_image.proofs.Each.{In-append_right, In-flat_map}
use Rattle.plan_soundness.proofs.Elements.{In-range_of, found, find_count}
use Rattle.plan_soundness.proofs.Writes.{in_one, write}

module _ (micro : Microprogram) (z : Rows) (log : List Entry) (t : ℕ) where
  -- the write of a take, of a store and of an output
  abbrev pub taken_write : Take → Enable → ℤ → Entry
  taken_write take driver v = write (Register take.port.unit take.port.port take.reg) t driver.unit v

  abbrev pub stored_write : ℕ → Issue → Entry
  stored_write b issue =
      write (Cell issue.unit (to_nat (operand micro log b issue 0))) t issue.unit (value micro z log b issue)

  abbrev pub put_write : ℕ → Issue → Entry
  put_write b issue = write (Latch (to_nat issue.arg)) t issue.unit (value micro z log b issue)

  result_each : (P : Entry → Type 0) (take : Take) (driver : Enable) (r : Option ℤ)
      → ((v : ℤ) → r ≡ Some v → P (taken_write take driver v))
      → Each P (entry_of (Register take.port.unit take.port.port take.reg) t driver.unit r)
  result_each P take driver None h = none
  result_each P take driver (Some v) h = more (h v refl) none

  taken_each : (P : Entry → Type 0) (take : Take) (o : Option Enable)
      → ((driver : Enable) (v : ℤ)
      → o ≡ Some driver
      → result_by micro z log t driver.unit ≡ Some v
      → P (taken_write take driver v))
      → Each P (taken_from micro z log t take o)
  taken_each P take None h = none
  taken_each P take (Some driver) h =
      result_each P take driver (result_by micro z log t driver.unit) (λ v is. h driver v refl is)

  written_each_by : (P : Entry → Type 0) (o : Op) (b : ℕ) (issue : Issue)
      → (o ≡ op.Store → P (stored_write b issue))
      → (o ≡ op.Output → P (put_write b issue))
      → Each P (written_by o micro z log t b issue)
  written_each_by P op.Output b issue cell latch = more (latch refl) none
  written_each_by P op.Store b issue cell latch = more (cell refl) none
  written_each_by P _ b issue cell latch = none

  written_each : (P : Entry → Type 0) (b : ℕ) (o : Option Issue)
      → ((issue : Issue) → o ≡ Some issue → issue.op ≡ op.Store → P (stored_write b issue))
      → ((issue : Issue) → o ≡ Some issue → issue.op ≡ op.Output → P (put_write b issue))
      → Each P (written_of micro z log t b o)
  written_each P b None cell latch = none
  written_each P b (Some issue) cell latch =
      written_each_by P issue.op b issue (λ is. cell issue refl is) (λ is. latch issue refl is)

  -- what holds of these writes holds of each of the cycle
  pub each_write : (P : Entry → Type 0)
      → ((take : Take) (driver : Enable) (v : ℤ)
      → In take (micro.word_at t).takes
      → driver_at micro t take.bus ≡ Some driver
      → result_by micro z log t driver.unit ≡ Some v
      → P (taken_write take driver v))
      → ((u : ℕ) (issue : Issue)
      → ending micro t u ≡ Some issue
      → issue.op ≡ op.Store
      → P (stored_write (began micro t u) issue))
      → ((u : ℕ) (issue : Issue)
      → ending micro t u ≡ Some issue
      → issue.op ≡ op.Output
      → P (put_write (began micro t u) issue))
      → Each P (entries_by micro z log t)
  unfolding entries_by
  each_write P take cell latch =
      Each-append
      (Each-flat_map P (taken micro z log t) (micro.word_at t).takes
      (λ k among. taken_each P k (driver_at micro t k.bus) (λ driver v drives is. take k driver v among drives is)))
      (Each-flat_map P (written micro z log t) (range_with_len 0 (length micro.units))
      (λ u among. written_each P (began micro t u) (ending micro t u) (cell u) (latch u)))

  -- a take writes
  pub taken_among : (take : Take) (driver : Enable) (v : ℤ)
      → In take (micro.word_at t).takes
      → driver_at micro t take.bus ≡ Some driver
      → result_by micro z log t driver.unit ≡ Some v
      → In (taken_write take driver v) (entries_by micro z log t)
  unfolding entries_by
  taken_among take driver v among drives is =
      In-append_left _
      (In-flat_map (taken micro z log t) among
      (in_one _ _
      (ap (taken_from micro z log t take) drives
      ∙ ap (entry_of (Register take.port.unit take.port.port take.reg) t driver.unit) is)))

  written_among : (u : ℕ) (issue : Issue) (e : Entry)
      → u < length micro.units
      → ending micro t u ≡ Some issue
      → written_by issue.op micro z log t (began micro t u) issue ≡ e ∷ []
      → In e (entries_by micro z log t)
  unfolding entries_by
  written_among u issue e below ends is =
      In-append_right _
      (In-flat_map (written micro z log t)
      (In-range_of (length micro.units) 0 u (omega arith) (omega (arith, below)))
      (in_one _ _ (ap (written_of micro z log t (began micro t u)) ends ∙ is)))

  -- a store writes
  pub stored_among : (u : ℕ) (issue : Issue)
      → u < length micro.units
      → ending micro t u ≡ Some issue
      → issue.op ≡ op.Store
      → In (stored_write (began micro t u) issue) (entries_by micro z log t)
  stored_among u issue below ends is =
      written_among u issue _ below ends (ap (λ o. written_by o micro z log t (began micro t u) issue) is)

  -- an output writes
  pub put_among : (u : ℕ) (issue : Issue)
      → u < length micro.units
      → ending micro t u ≡ Some issue
      → issue.op ≡ op.Output
      → In (put_write (began micro t u) issue) (entries_by micro z log t)
  put_among u issue below ends is =
      written_among u issue _ below ends (ap (λ o. written_by o micro z log t (began micro t u) issue) is)

some_passing : {A : Type 0} (test : A → Bool) (x : A) (xs : List A)
    → In x xs
    → test x ≡ true
    → 0 < length (filter test xs)
some_passing test x xs among passes =
    let it = found test x xs among passes in
    omega (arith, find_count test it.it xs it.is, length-filter test xs)

tail_fewer : {A : Type 0} (x : A) (xs : List A) (b : Bool) → length (cond b (x ∷ xs) xs) < 2 → length xs < 2
tail_fewer x xs true h = omega (arith, h)
tail_fewer x xs false h = h

two_too_many : {A B : Type 0} (x : A) (xs : List A) (b : Bool)
    → b ≡ true
    → 0 < length xs
    → length (cond b (x ∷ xs) xs) < 2
    → B
two_too_many x xs true is some few = absurd (omega (arith, some, few))
two_too_many x xs false is some few = absurd (cc)

only_filtered : {A : Type 0} (test : A → Bool) (x y : A) {xs : List A}
    → In x xs
    → In y xs
    → test x ≡ true
    → test y ≡ true
    → length (filter test xs) < 2
    → x ≡ y
only_filtered test x y here here p q few = refl
only_filtered test x y (here {xs = xs}) (there k) p q few =
    two_too_many x (filter test xs) (test x) p (some_passing test y xs k q) few
only_filtered test x y (there {xs = xs} h) here p q few =
    two_too_many y (filter test xs) (test y) q (some_passing test x xs h p) few
only_filtered test x y (there {y = w} {xs = xs} h) (there k) p q few =
    only_filtered test x y h k p q (tail_fewer w (filter test xs) (test w) few)

-- where fewer than two pass, one that does is the other
pub only_one : {A : Type 0} (test : A → Bool) (x y : A) (xs : List A)
    → In x xs
    → In y xs
    → test x ≡ true
    → test y ≡ true
    → count_by test xs < 2
    → x ≡ y
only_one test x y xs in-x in-y p q few =
    only_filtered test x y in-x in-y p q (omega (arith, few, length-filter test xs))
