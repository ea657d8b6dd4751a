-- All places hold what is wanted of them: each live word that is written in a cycle is there from the next cycle on,
-- until it is read for the last time.
use Rattle.std.proofs.Common.{◌≡◌, ℕ, suc, ◌+◌, ◌-◌, ◌*◌, ◌<◌, ◌≤◌, refl, sym, ap, ◌∙◌, arith, ⊎_elim, [], ◌∷◌, length}
use Rattle.std.proofs.Common.{pos, true, Some, subst}
use Rattle.std.specs.List.{Contains, flat_map, range_with_len}
use Rattle.std.proofs.lemmas.Bool.{cases_lt}
use Rattle.std.proofs.Math.Nat.{add-mul, mul-le-mul_right}
use Rattle.lists.specs.Rows.{Rows}
use Rattle.fix_word.specs.declared.operation.Op.TheVariants as op
use Rattle.operations.specs.Ranges.{to_nat}
use Rattle.datapath.specs.declared.types.Datapath.{Datapath}
use Rattle.plan_core.specs.Hardware.{cells_on}
use Rattle.plan_core.specs.declared.plan.Plan.{Plan}
use Rattle.micro_image.specs.declared.image.Issue.{Issue}
use Rattle.micro_image.specs.declared.image.Take.{Take}
use Rattle.micro_image.specs.Fields.{Microprogram, nth, began, ending}
use Rattle.micro_image.specs.Log.{Place, Register, Latch, Cell, Entry, same_place, Log, Content, operand, value}
use Rattle.micro_image.specs.Log.{entries_by, taken, written, written_of, written_by}
use Rattle.micro_image.proofs.Each.{In, In-append_left, In-append_right, In-flat_map, In-from_Contains, Each-then}
use Rattle.micro_image.proofs.LogLaws.{content-unwritten}
use Rattle.micro_image.proofs.LogWrites.{content-written}
use Rattle.plan_soundness.specs.Parts.{nodes_of, lines_of, node_at, unit_at, cycle_at, arc_at, line_at, ends_at}
use Rattle.plan_soundness.specs.Samples.{past}
use Rattle.plan_soundness.specs.Overlap.{Overlap, shift_of}
use Rattle.plan_soundness.specs.Private.Cells.{cell_in}
use Rattle.plan_soundness.specs.Memory.{store_of}
use Rattle.plan_soundness.specs.Private.Solution.{Counted, LoweredSolves}
use Rattle.plan_soundness.specs.Feasible.{IsFeasibleOver, IsFeasibleLine}
use Rattle.plan_soundness.specs.Executes.{ExecutesOver, IsIssueIn, IsTakeIn, register_in}
use Rattle.plan_soundness.proofs.Elements.{In-range_of}
use Rattle.plan_soundness.proofs.Samples.{one_more, below_count}
use Rattle.plan_soundness.proofs.Slots.{Keeps, right}
use Rattle.plan_soundness.proofs.LiveWords.{LiveWord, in_register, in_cell, in_latch, at_first, stored_in, place_of}
use Rattle.plan_soundness.proofs.LiveWords.{written_at, wanted_to, word_of, stored_late, stored_early, words_apart}
use Rattle.plan_soundness.proofs.LiveWords.{lives}
use Rattle.plan_soundness.proofs.LiveWords.{preloaded}
use Rattle.plan_soundness.proofs.ReadsRight.{AllRight, near_now, store_place, ends_then, began_then}
use Rattle.plan_soundness.proofs.Writes.{writes_of_words, live_in, taken_word, output_no_address, same_sound, same_self}
use Rattle.plan_soundness.proofs.Writes.{not_same, from_past, in_one}

module _ {o : Overlap} (d : Datapath) (p : Plan) (words : Counted) (plan : IsFeasibleOver o d p) (micro : Microprogram)
    (z stream : Rows) (runs : ExecutesOver o d p micro) (solves : LoweredSolves d p stream words)
    (rows : (n c : ℕ) → c < d.period → nth z (n * d.period + c) [] ≡ nth stream n []) where
  abbrev RightAt : ℕ → Type 0
  RightAt t = AllRight d p words plan micro z stream runs solves rows t

  unwritten : (place : Place) (t : ℕ)
      → t < length stream * d.period
      → RightAt t
      → ((b : LiveWord o p) → written_at o d p words b ≡ past * d.period + t → place_of o d p words b ≡ place → ⊥)
      → Content micro z place (suc t) ≡ Content micro z place t
  unwritten place t below right never =
      content-unwritten micro z place t
      (Each-then (λ e is. not_same e.place place _ refl (λ same. never is.live is.starts (sym is.place ∙ same)))
      (writes_of_words d p words plan micro z stream runs solves rows t below right))

  -- there is a write to the place in cycle t
  pub record IsWritten (t : ℕ) (place : Place) : Type 0 where
    pub entry : Entry
    pub among : In entry (entries_by micro z (Log micro z t) t)
    pub place_is : entry.place ≡ place

  -- the words of a lifetime and of a line in sample n
  abbrev live_at : (k n : ℕ) → k < length p.arcs → LiveWord o p
  live_at = live_in d p words plan micro z stream runs solves rows

  abbrev stored_at : (l n : ℕ) → l < length (lines_of p) → LiveWord o p
  stored_at l n there = in_cell l (past + n) there (near_now n (line_at p l).depth)

  write_register : (k n t : ℕ) (there : k < length p.arcs)
      → t ≡ n * d.period + ends_at d p (arc_at p k).node
      → n < length stream
      → RightAt t
      → IsWritten t (place_of o d p words (live_at k n there))
  unfolding entries_by
  write_register k n t in-k at in-n right =
      let take : Take = (runs.take k n in-k).0 in
      let among : Contains (micro.word_at t).takes take =
      subst (λ t. Contains (micro.word_at t).takes take) (sym at) (runs.take k n in-k).1 in
      let is : IsTakeIn d p micro k n t take =
      subst (λ t. IsTakeIn d p micro k n t take) (sym at) (runs.take k n in-k).2 in
      let made = taken_word d p words plan micro z stream runs solves rows k n t take in-k in-n at right is in
      record {
        entry = record {
          place = place_of o d p words (live_at k n in-k);
          cycle = t;
          unit = made.0;
          value = words (arc_at p k).node (past + n);
        };
        among = In-append_left (flat_map (written micro z (Log micro z t) t) (range_with_len 0 (length micro.units)))
            (In-flat_map (taken micro z (Log micro z t) t) (In-from_Contains (micro.word_at t).takes take among)
            (in_one _ _ made.1));
        place_is = refl;
      }

  -- what a store or an output that is issued for node v writes
  written_by_node : (v n t : ℕ) (issue : Issue) (e : Entry)
      → v < length (nodes_of p)
      → ending micro t (unit_at p v) ≡ Some issue
      → written_by issue.op micro z (Log micro z t) t (began micro t (unit_at p v)) issue ≡ e ∷ []
      → In e (entries_by micro z (Log micro z t) t)
  unfolding entries_by
  written_by_node v n t issue e in-v ends is =
      In-append_right (flat_map (taken micro z (Log micro z t) t) (micro.word_at t).takes)
      (In-flat_map (written micro z (Log micro z t) t)
      (In-range_of (length micro.units) 0 (unit_at p v) (omega arith) (omega (arith, runs.known v in-v)))
      (in_one _ _ (ap (written_of micro z (Log micro z t) t (began micro t (unit_at p v))) ends ∙ is)))

  ends_at_t : (v n t : ℕ) (in-v : v < length (nodes_of p))
      → t ≡ n * d.period + ends_at d p v
      → ending micro t (unit_at p v) ≡ Some (runs.issue v n in-v).0
  ends_at_t v n t in-v at =
      ap (λ t. ending micro t (unit_at p v)) at
      ∙ ends_then d p words plan micro z stream runs solves rows v n (runs.issue v n in-v).0 (runs.issue v n in-v).1

  write_latch : (v n t : ℕ)
      → v < length (nodes_of p)
      → (node_at p v).op ≡ op.Output
      → t ≡ n * d.period + ends_at d p v
      → IsWritten t (Latch (to_nat (node_at p v).arg))
  write_latch v n t in-v is-output at =
      let issue : Issue = (runs.issue v n in-v).0 in
      let is : IsIssueIn d p micro v n issue = (runs.issue v n in-v).2 in
      let b : ℕ = began micro t (unit_at p v) in
      let e : Entry = record {
        place = Latch (to_nat issue.arg);
        cycle = t;
        unit = issue.unit;
        value = value micro z (Log micro z t) b issue;
      } in
      record {
        entry = e;
        among = written_by_node v n t issue e in-v (ends_at_t v n t in-v at)
            (ap (λ o. written_by o micro z (Log micro z t) t b issue) (is.op ∙ is-output));
        place_is = ap (λ a. Latch (to_nat a)) (is.arg (output_no_address (node_at p v).op is-output));
      }

  write_cell : (l n t : ℕ) (there : l < length (lines_of p))
      → n < length stream
      → RightAt t
      → t ≡ n * d.period + ends_at d p (store_of (line_at p l))
      → IsWritten t (place_of o d p words (stored_at l n (plan.memory.lines l there).stores.there))
  write_cell l n t in-l in-n right at =
      let line : IsFeasibleLine o d p l = plan.memory.lines l in-l in
      let v : ℕ = store_of (line_at p l) in
      let in-v : v < length (nodes_of p) = line.store in
      let issue : Issue = (runs.issue v n in-v).0 in
      let is : IsIssueIn d p micro v n issue = (runs.issue v n in-v).2 in
      let b : ℕ = began micro t (unit_at p v) in
      let begun : b ≡ n * d.period + cycle_at p v =
      ap (λ t. began micro t (unit_at p v)) at ∙ began_then d p words plan micro z stream runs solves rows v n in
      let e : Entry = record {
        place = Cell issue.unit (to_nat (operand micro (Log micro z t) b issue 0));
        cycle = t;
        unit = issue.unit;
        value = value micro z (Log micro z t) b issue;
      } in
      record {
        entry = e;
        among = written_by_node v n t issue e in-v (ends_at_t v n t in-v at)
            (ap (λ o. written_by o micro z (Log micro z t) t b issue) (is.op ∙ line.stores.is_store));
        place_is = ap (λ b. Cell issue.unit (to_nat (operand micro (Log micro z t) b issue 0))) begun
            ∙ store_place d p words plan micro z stream runs solves rows t v n l issue right in-v in-n line.stores is
            (omega arith);
      }

  cycle_then : (w n t : ℕ) → w + (past + n) * d.period ≡ past * d.period + t → t ≡ n * d.period + w
  cycle_then w n t starts =
      let whole : (past + n) * d.period ≡ past * d.period + n * d.period = add-mul past n d.period in omega arith

  -- what a lifetime is given in the run is of a sample of the stream
  sample_taken : (k s t : ℕ)
      → k < length p.arcs
      → o.first ≤ s
      → ends_at d p (arc_at p k).node + s * d.period ≡ past * d.period + t
      → past ≤ s
  sample_taken k s t in-k from starts =
      ⊎_elim
      (λ (early : s < past). absurd (omega (arith, plan.early k s in-k from early, starts)))
      (λ (late : past ≤ s). late)
      (cases_lt s past)

  -- and what a line is given
  sample_stored : (s e t : ℕ) → stored_in s e + s * d.period ≡ past * d.period + t → past ≤ s
  sample_stored s e t starts =
      ⊎_elim
      (λ (early : s < past).
      absurd (let le : (s + 1) * d.period ≤ past * d.period = mul-le-mul_right d.period (omega (arith, early)) in
      omega (arith, le, one_more s d.period, stored_early s e early, starts, plan.period)))
      (λ (late : past ≤ s). late)
      (cases_lt s past)

  pub is_written : (b : LiveWord o p) (t : ℕ)
      → t < length stream * d.period
      → RightAt t
      → written_at o d p words b ≡ past * d.period + t
      → IsWritten t (place_of o d p words b)
  is_written (in_register k s in-k from) t below right starts =
      let w : ℕ = ends_at d p (arc_at p k).node in
      let n : ℕ = s - past in
      let ends : w + s * d.period ≡ past * d.period + t =
      omega (arith, starts, (plan.arcs k in-k).written, add-mul s (shift_of d p k) d.period) in
      let e : s ≡ past + n = from_past s (sample_taken k s t in-k from ends) in
      let at : t ≡ n * d.period + w = cycle_then w n t (ap (λ s. w + s * d.period) (sym e) ∙ ends) in
      subst (λ s. IsWritten t (Register (arc_at p k).port.unit (arc_at p k).port.port (register_in d p k s))) (sym e)
      (write_register k n t in-k at (below_count n d.period t (length stream) (omega arith) below) right)
  is_written (in_cell l s in-l near) t below right starts =
      let w : ℕ = ends_at d p (store_of (line_at p l)) in
      let n : ℕ = s - past in
      let late : past ≤ s = sample_stored s w t starts in
      let e : s ≡ past + n = from_past s late in
      let at : t ≡ n * d.period + w =
      cycle_then w n t
      (ap (λ s. w + s * d.period) (sym e) ∙ ap (λ w. w + s * d.period) (sym (stored_late s w late)) ∙ starts) in
      subst
      (λ s. IsWritten t (Cell (line_at p l).ram (cell_in (cells_on d (line_at p l).ram) past (line_at p l).offset s)))
      (sym e)
      (write_cell l n t in-l (below_count n d.period t (length stream) (omega arith) below) right at)
  is_written (in_latch v s in-v is from) t below right starts =
      let w : ℕ = ends_at d p v in
      let n : ℕ = s - past in
      write_latch v n t in-v is
      (cycle_then w n t (ap (λ s. w + s * d.period) (sym (from_past s from)) ∙ starts))
  is_written (at_first v in-v is) t below right starts = absurd (omega (arith, starts, plan.period))

  written_right : (b : LiveWord o p) (t : ℕ)
      → t < length stream * d.period
      → RightAt t
      → written_at o d p words b ≡ past * d.period + t
      → Content micro z (place_of o d p words b) (suc t) ≡ word_of o d p words b
  written_right b t below right starts =
      let is = is_written b t below right starts in
      content-written micro z (place_of o d p words b) (word_of o d p words b) t is.entry is.among
      (subst (λ place. same_place place (place_of o d p words b) ≡ true) (sym is.place_is)
      (same_self (place_of o d p words b)))
      (Each-then (λ e of same. of.value ∙ (words_apart d p words plan of.live b (suc (past * d.period + t))
      (sym of.place ∙ same_sound e.place (place_of o d p words b) same)
      (omega (arith, of.starts)) (omega (arith, of.starts, lives d p words plan of.live))
      (omega (arith, starts)) (omega (arith, starts, lives d p words plan b))).1)
      (writes_of_words d p words plan micro z stream runs solves rows t below right))

  keeps :
      Keeps (place_of o d p words) (written_at o d p words) (wanted_to o d p words) (word_of o d p words)
      (past * d.period) (length stream * d.period) (Content micro z)
  keeps = record {
    apart = words_apart d p words plan;
    lives = lives d p words plan;
    preloaded = preloaded d p words plan micro z stream runs solves;
    kept = unwritten;
    written = written_right;
  }

  -- at each cycle of the run each place holds what is wanted of it
  pub all_right : (t : ℕ) → t ≤ length stream * d.period → RightAt t
  all_right =
      right (place_of o d p words) (written_at o d p words) (wanted_to o d p words) (word_of o d p words)
      (past * d.period) (length stream * d.period) (Content micro z) keeps

  -- the last stage takes a period
  last_stage : o.stages * d.period ≡ (o.stages - 1) * d.period + d.period
  last_stage =
      ap (λ n. n * d.period) (whole o.stages plan.stages) ∙ one_more (o.stages - 1) d.period
    where
      whole : (n : ℕ) → 0 < n → n ≡ n - 1 + 1
      whole n some = omega (arith, some)

  -- so each output latch holds at the end of the last stage of a sample the word of its node
  pub latch_right : (v n : ℕ)
      → v < length (nodes_of p)
      → (node_at p v).op ≡ op.Output
      → n + o.stages ≤ length stream
      → Content micro z (Latch (to_nat (node_at p v).arg)) ((n + o.stages) * d.period) ≡ words v (past + n)
  latch_right v n in-v is in-n =
      let whole : (past + n) * d.period ≡ past * d.period + n * d.period = add-mul past n d.period in
      let later : (n + o.stages) * d.period ≡ n * d.period + o.stages * d.period = add-mul n o.stages d.period in
      let le : (n + o.stages) * d.period ≤ length stream * d.period = mul-le-mul_right d.period in-n in
      let ends : ends_at d p v < o.stages * d.period = plan.fits v in-v in
      all_right ((n + o.stages) * d.period) le (in_latch v (past + n) in-v is (omega arith))
      ((n + o.stages) * d.period) (omega arith) (omega arith)
      (omega (arith, whole, later, last_stage, plan.outputs_last v in-v is))

  -- and before the first word 0
  pub latch_first : (v n : ℕ)
      → v < length (nodes_of p)
      → (node_at p v).op ≡ op.Output
      → n + 1 < o.stages
      → n < length stream
      → Content micro z (Latch (to_nat (node_at p v).arg)) ((n + 1) * d.period) ≡ pos 0
  latch_first v n in-v is early in-n =
      let le : (n + 1) * d.period ≤ length stream * d.period = mul-le-mul_right d.period (omega (arith, in-n)) in
      let before : (n + 1) * d.period ≤ (o.stages - 1) * d.period =
      mul-le-mul_right d.period (omega (arith, early)) in
      all_right ((n + 1) * d.period) le (at_first v in-v is) ((n + 1) * d.period) (omega arith)
      (omega (arith, plan.period)) (omega (arith, before, plan.outputs_last v in-v is))
