-- The line of one node is placed, as the code reads its delays and its number.
use Rattle.std.proofs.Common.{◌≡◌, sym, subst, ap, ◌∙◌, arith, ℕ, ◌+◌, ◌<◌, ◌⊎◌, inl, inr, Result, Ok, Err, List, []}
use Rattle.std.proofs.Common.{length, slice_index_or}
use Rattle.std.specs.Prelude.{OnOk, IfErr}
use Rattle.std.proofs.lemmas.List.{get_or_read}
use Rattle.datapath.specs.declared.types.Datapath.{Datapath}
use Rattle.plan_core.specs.Lowered.{own, IsNumber}
use Rattle.delay_memory.specs.Private.Delays.{delays_at}
use Rattle.delay_memory.specs.Private.Numbers.{AreNumbers}
use Rattle.delay_memory.specs.Private.Lines.{IsLongest, IsPlaceFault, Places, AreLinesBefore, IsStop}
use Rattle.delay_memory.specs.declared.fault.LineFault.{LineFault}
use Rattle.delay_memory.specs.declared.fault.LineFault.TheVariants.{Memory}
use Rattle.delay_memory.specs.declared.lines.LineMemory.{LineMemory}
use Rattle.delay_memory.proofs.LineSteps.{lines_next, lines_same, lines_stop}

module _ (spare : ℕ) (d : Datapath) (delays : List (List ℕ)) (v : ℕ) (less : v < length delays)
    (item : List ℕ) (is : item ≡ slice_index_or delays v item) where
  at : item ≡ delays_at delays v
  at = get_or_read delays v item less is []

  pub placed_next : (numbers : List ℕ) (number depth : ℕ) (old new : LineMemory)
      → AreNumbers delays (length delays) numbers
      → number ≡ slice_index_or numbers v number
      → IsLongest item depth
      → AreLinesBefore spare d delays v old
      → Places spare d number depth old new
      → AreLinesBefore spare d delays (v + 1) new
  placed_next numbers number depth old new numbered number_is longest before placed =
      let count = numbered.count in
      lines_next spare d delays v number depth old new less before
      (subst (IsNumber delays (own v)) (sym (get_or_read numbers v number (omega (arith, less, count)) number_is 0))
      (numbered.each v less))
      (subst (λ (xs : List ℕ). IsLongest xs depth) at longest) placed

  pub none_next : (memory : LineMemory)
      → length item ≡ 0
      → AreLinesBefore spare d delays v memory
      → AreLinesBefore spare d delays (v + 1) memory
  none_next memory none before = lines_same spare d delays v memory less (ap length (sym at) ∙ none) before

  pub stop_next : (depth : ℕ) (memory : LineMemory) (f : LineFault)
      → IsLongest item depth
      → AreLinesBefore spare d delays v memory
      → (f ≡ Memory) ⊎ IsPlaceFault spare d memory.lines v depth f
      → (f ≡ Memory) ⊎ IsStop spare d delays f
  stop_next depth memory f longest before (inl e) = inl e
  stop_next depth memory f longest before (inr h) =
      inr (lines_stop spare d delays v depth memory f less before (subst (λ (xs : List ℕ). IsLongest xs depth) at
      longest) h)
