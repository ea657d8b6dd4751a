-- The rows of a net that has run all samples, one after the other.
use Rattle.std.proofs.Common.{◌≡◌, ℕ, ◌+◌, ◌-◌, ◌<◌, ◌≤◌, ◌==◌, List, [], ◌∷◌, ◌++◌, length, take, get_or, true, ℤ}
use Rattle.std.proofs.Common.{sym, ap, ◌∙◌, arith, add-one}
use Rattle.std.proofs.Math.Seq.{take-suc}
use Rattle.std.proofs.lemmas.Bool.Decides.{nat_tests}
use Rattle.std.proofs.lemmas.List.{length-map, flat_map_more, take_all}
use Rattle.std.proofs.lemmas.List.Sums.{AllPass-from_list_all}
use Rattle.std.proofs.lemmas.List.FromFn.{length-map-range_with_len, get_or-map-range_with_len}
use Rattle.lists.specs.Rows.{Rows}
use Rattle.micro_image.specs.Run.{row_of}
use Rattle.net_run.specs.Runs.{last_put}
use Rattle.net_solution.specs.Solutions.{Parts, image_of, program_of, fed, IsNetSolution, AreParts}
use Rattle.net_solution.proofs.Solving.{length-put, length-fed, puts_to, solution}
use Rattle.net_turns.specs.Turns.{start, is_finished}
use Rattle.proc_net.specs.Nets.{NetState, parts_of, shape_in, points_of, last_of, count_of}
use Rattle.sample_io.specs.Samples.{printed, printed_row}

-- a row has a word for each output word of its processor
length-row : (parts : Parts) (puts : List Rows) (p n : ℕ)
    → IsNetSolution parts puts
    → p < length parts.images
    → n < length parts.stream
    → length (get_or (get_or puts p []) n []) ≡ (image_of parts p).outs
length-row parts puts p n is inside h =
    let there : n < length (fed parts puts p) = omega (arith, h, length-fed parts puts p) in
    ap (λ (rows : Rows). length (get_or rows n [])) (is.runs p inside).put
    ∙ ap length
    (get_or-map-range_with_len (row_of (program_of parts p) (fed parts puts p)) 0 (length (fed parts puts p)) n n []
    there (omega arith))
    ∙ length-map-range_with_len _ 0 (image_of parts p).outs

module _ (net : NetState) (are : AreParts (parts_of net)) where
  last_there : last_of net < length (parts_of net).images
  last_there =
      omega (arith, are.count.0, length-map net.processors (λ processor. processor.machine.code.image))

  pub last_is : (puts : List Rows) → get_or puts (last_of net) [] ≡ last_put (parts_of net) puts
  last_is puts =
      ap (λ n. get_or puts (n - 1) [])
      (sym (length-map net.processors (λ processor. processor.machine.code.image)))

  module _ (done : is_finished (shape_in net) (points_of net) ≡ true) where
    -- all rows stand
    pub all_stand : count_of net ≡ length (parts_of net).stream
    all_stand =
        let count : length (points_of net) ≡ length net.processors = length-map net.processors _ in
        let images = length-map net.processors (λ processor. processor.machine.code.image) in
        let there : last_of net < length (points_of net) = omega (arith, count, last_there, images) in
        let test : (count_of net == length (parts_of net).stream) ≡ true =
        AllPass-from_list_all (λ point. point.ran == length (parts_of net).stream) (points_of net) done (last_of net)
        start there in
        grind (arith, nat_tests)

    -- a row is such as can be printed
    pub row_words : (n : ℕ) (row : List ℤ)
        → n < count_of net
        → ((puts : List Rows) → IsNetSolution (parts_of net) puts → row ≡ get_or (get_or puts (last_of net) []) n [])
        → (0 < length row) × (length row ≤ 16)
    row_words n row h row_is =
        let puts = puts_to (parts_of net) (length (parts_of net).images) in
        let is = solution (parts_of net) are in
        let words : length row ≡ (image_of (parts_of net) (last_of net)).outs =
        ap length (row_is puts is)
        ∙ length-row (parts_of net) puts (last_of net) n is last_there (omega (arith, h, all_stand)) in
        let outs = ((are.each (last_of net) last_there).valid).outs in
        (omega (arith, words, outs.0), omega (arith, words, outs.1))

    module _ (puts : List Rows) (is : IsNetSolution (parts_of net) puts) where
      put_count : length (last_put (parts_of net) puts) ≡ count_of net
      put_count =
          ap length (sym (last_is puts)) ∙ length-put (parts_of net) puts (last_of net) is last_there ∙ sym all_stand

      -- a row more
      pub row_more : (n : ℕ) (text : List ℕ) (row : List ℤ)
          → n < count_of net
          → text ≡ printed (take n (last_put (parts_of net) puts))
          → row ≡ get_or (get_or puts (last_of net) []) n []
          → text ++ printed_row row ≡ printed (take (n + 1) (last_put (parts_of net) puts))
      row_more n text row h text_is row_is =
          let all = last_put (parts_of net) puts in
          let here : row ≡ get_or all n [] = row_is ∙ ap (λ (rows : Rows). get_or rows n []) (last_is puts) in
          let more : take (n + 1) all ≡ take n all ++ row ∷ [] =
          ap (λ k. take k all) (add-one n) ∙ take-suc all n [] (omega (arith, h, put_count))
          ∙ ap (λ r. take n all ++ r ∷ []) (sym here) in
          ap (λ t. t ++ printed_row row) text_is
          ∙ flat_map_more printed_row [] (take n all) row
          ∙ ap printed (sym more)

      pub all_rows : (text : List ℕ) (n : ℕ)
          → count_of net ≤ n
          → text ≡ printed (take n (last_put (parts_of net) puts))
          → text ≡ printed (last_put (parts_of net) puts)
      all_rows text n h text_is =
          text_is ∙ ap printed (take_all n (last_put (parts_of net) puts) (omega (arith, h, put_count)))
