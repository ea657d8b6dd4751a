-- Whether a queue that a processor fills has a free place, reader by reader.
use Rattle.std.proofs.Common.{◌≡◌, ℕ, ◌+◌, ◌<◌, ◌≤◌, Bool, true, false, ◌&&◌, ◌||◌, nat_le, List, [], ◌∷◌, ◌++◌, length}
use Rattle.std.proofs.Common.{get_or, map, refl, ap, sym, ◌∙◌}
use Rattle.std.proofs.Common.{arith, zero-add}
use Rattle.std.specs.List.{list_any, range_with_len}
use Rattle.std.proofs.lemmas.Bool.{or_from}
use Rattle.std.proofs.lemmas.Bool.Decides.{nat_tests}
use Rattle.std.proofs.lemmas.List.{length-map, get_or-map}
use Rattle.std.proofs.lemmas.List.Folds.{list_any-append, list_any_at}
use Rattle.std.proofs.lemmas.List.FromFn.{length-range_with_len, get_or-range_with_len}
use Rattle.lists.proofs.Ranges.{range_more}
use Rattle.net_core.specs.declared.types.Wire.{Wire}
use Rattle.net_turns.specs.Turns.{is_from, reads, is_full, queued, lacks_place}
use Rattle.proc_net.specs.declared.processor.Processor.{Processor}
use Rattle.proc_net.specs.Private.Reading.{points_by, shape_by}

-- the wires of a processor that is there
pub feed_there : (list : List Processor) (number : ℕ) (reader : Processor)
    → number < length list
    → get_or list number reader ≡ reader
    → get_or (map (λ processor. processor.feed) list) number [] ≡ reader.feed
feed_there list number reader h is =
    get_or-map (λ (x : Processor). x.feed) list number reader [] h ∙ ap (λ (x : Processor). x.feed) is

-- tests of two parts
pub both : (a : Bool) (m n k : ℕ) → a ≡ true → m ≤ k → k ≡ n → (a && nat_le m n) ≡ true
both true m n k is le same = let enough : m ≤ n = omega (arith, le, same) in grind (arith, nat_tests)
both false m n k is le same = absurd (cc)

pub not_second : (a : Bool) (m n k : ℕ) → k < m → k ≡ n → (a && nat_le m n) ≡ false
not_second false m n k less same = refl
not_second true m n k less same = let few : n < m = omega (arith, less, same) in grind (arith, nat_tests)

module _ (list : List Processor) (capacity samples own : ℕ) where
  -- the queue to processor r is there and full
  abbrev pub full : ℕ → Bool
  full r =
      reads (shape_by list capacity samples) r own && is_full (shape_by list capacity samples) (points_by list) own r

  full_is : (number : ℕ) (reader : Processor)
      → number < length list
      → get_or list number reader ≡ reader
      → full number ≡ (list_any (is_from own) reader.feed && nat_le capacity (queued (points_by list) own number))
  full_is number reader h is =
      ap (λ (feed : List Wire). list_any (is_from own) feed && nat_le capacity (queued (points_by list) own number))
      (feed_there list number reader h is)

  pub place_lacks : (number : ℕ) (reader : Processor)
      → number < length list
      → get_or list number reader ≡ reader
      → (list_any (is_from own) reader.feed && nat_le capacity (queued (points_by list) own number)) ≡ true
      → true ≡ lacks_place (shape_by list capacity samples) (points_by list) own
  place_lacks number reader h is passes =
      let count : length (map (λ (x : Processor). x.feed) list) ≡ length list =
      length-map list (λ (x : Processor). x.feed) in
      let inside : number < length (map (λ (x : Processor). x.feed) list) = omega (arith, h, count) in
      let within : number < length (range_with_len 0 (length (map (λ (x : Processor). x.feed) list))) =
      omega (arith, inside, length-range_with_len 0 (length (map (λ (x : Processor). x.feed) list))) in
      let here : get_or (range_with_len 0 (length (map (λ (x : Processor). x.feed) list))) number 0 ≡ number =
      get_or-range_with_len 0 (length (map (λ (x : Processor). x.feed) list)) number 0 inside ∙ zero-add number in
      sym
      (list_any_at full (range_with_len 0 (length (map (λ (x : Processor). x.feed) list))) number 0 within
      (ap full here ∙ full_is number reader h is ∙ passes))

  pub place_free : (number : ℕ) (reader : Processor)
      → number < length list
      → get_or list number reader ≡ reader
      → list_any full (range_with_len 0 number) ≡ false
      → (list_any (is_from own) reader.feed && nat_le capacity (queued (points_by list) own number)) ≡ false
      → list_any full (range_with_len 0 (number + 1)) ≡ false
  place_free number reader h is before fails =
      ap (λ (ps : List ℕ). list_any full ps)
      (range_more 0 number ∙ ap (λ (n : ℕ). range_with_len 0 number ++ n ∷ []) (zero-add number))
      ∙ list_any-append full (range_with_len 0 number) (number ∷ [])
      ∙ or_from (list_any full (range_with_len 0 number)) (full number || false) before
      (or_from (full number) false (full_is number reader h is ∙ fails) refl)
