-- A net has one solution, and parts that make a net have it.
use Rattle.std.proofs.Common.{◌≡◌, ℕ, zero, suc, ◌+◌, ◌<◌, ◌≤◌, List, [], ◌∷◌, ◌++◌, length, get_or, map, ℤ, pos}
use Rattle.std.proofs.Common.{negsuc}
use Rattle.std.proofs.Common.{refl, ap, ap₂, sym, ◌∙◌, subst, arith, inl, inr}
use Rattle.std.specs.List.{All, AllZip, Contains, range_with_len}
use Rattle.std.proofs.lemmas.Bool.{cases_lt}
use Rattle.std.proofs.lemmas.Int.{ints}
use Rattle.std.proofs.lemmas.List.{length_push, length-map, get_or_append_left, get_or_at, get_or-map, ext_get_or}
use Rattle.std.proofs.lemmas.List.Elements.{All-head, All-tail, All-cons, All-nil, All-contains}
use Rattle.std.proofs.lemmas.List.FromFn.{length-range_with_len, get_or-range_with_len, length-map-range_with_len}
use Rattle.std.proofs.lemmas.List.FromFn.{get_or-map-range_with_len}
use Rattle.lists.specs.Rows.{Rows}
use Rattle.operations.specs.Operations.{IsOperand}
use Rattle.micro_image.specs.Run.{IsRunOut, row_of}
use Rattle.net_core.specs.declared.types.Wire.{Wire}
use Rattle.net_core.specs.declared.types.Wire.TheVariants.{Input, From}
use Rattle.net_turns.specs.Marking.{IsShape}
use Rattle.net_turns.specs.Turns.{feed_of, period_of}
use Rattle.sample_io.specs.declared.channel.Channel.{Channel}
use Rattle.sample_io.specs.Channels.{channel_of, IsInChannel, IsChannel, IsRow}
use Rattle.sample_io.proofs.Widths.{channel_is}
use Rattle.net_solution.specs.Solutions.{Parts, no_image, image_of, program_of, feed_to, shape_of, word_on, row_to, fed}
use Rattle.net_solution.specs.Solutions.{IsNetSolution, IsStreamFor, Fits, AreParts}
use Rattle.net_solution.specs.Private.Solved.{IsReadRow, IsBrought, AreSolved}

-- lists by what agrees on their elements
pub map_same : {A B : Type 0} (f g : A → B) (xs : List A) → All (λ x. f x ≡ g x) xs → map f xs ≡ map g xs
map_same f g [] all = refl
map_same f g (x ∷ xs) all =
    ap₂ ◌∷◌ (All-head (λ y. f y ≡ g y) x xs all) (map_same f g xs (All-tail (λ y. f y ≡ g y) x xs all))

all_map : {A B : Type 0} (P : B → Type 0) (f : A → B) (xs : List A) → All (λ x. P (f x)) xs → All P (map f xs)
all_map P f [] all = All-nil P
all_map P f (x ∷ xs) all =
    All-cons P (f x) (map f xs) (All-head (λ y. P (f y)) x xs all)
    (all_map P f xs (All-tail (λ y. P (f y)) x xs all))

all_range : (P : ℕ → Type 0) (n : ℕ) → ((k : ℕ) → k < n → P k) → All P (range_with_len 0 n)
all_range P n each k d h =
    let within : k < n = omega (arith, h, length-range_with_len 0 n) in
    rw (get_or-range_with_len 0 n k d within) (each (0 + k) (omega (arith, within)))

-- what two lists of rows have in common for the processors below p
abbrev AgreeBelow : ℕ → List Rows → List Rows → Type 0
AgreeBelow p a b = (q : ℕ) → q < p → get_or a q [] ≡ get_or b q []

-- what is put by a processor
abbrev put_by : Parts → List Rows → ℕ → Rows
put_by parts puts p =
    map (row_of (program_of parts p) (fed parts puts p)) (range_with_len 0 (length (fed parts puts p)))

module _ (parts : Parts) where
  pub length-fed : (puts : List Rows) (p : ℕ) → length (fed parts puts p) ≡ length parts.stream
  length-fed puts p = length-map-range_with_len (row_to parts puts p) 0 (length parts.stream)

  pub get_or-fed : (puts : List Rows) (p n : ℕ)
      → n < length parts.stream
      → get_or (fed parts puts p) n [] ≡ row_to parts puts p n
  get_or-fed puts p n h = get_or-map-range_with_len (row_to parts puts p) 0 (length parts.stream) n n [] h (omega arith)

  word_same : (p n : ℕ) (a b : List Rows)
      → AgreeBelow p a b
      → (wire : Wire)
      → IsBrought parts p wire
      → word_on parts a n wire ≡ word_on parts b n wire
  word_same p n a b agree (Input j) is = refl
  word_same p n a b agree (From q j) is = ap (λ (rows : Rows). get_or (get_or rows n []) j (pos 0)) (agree q is.0)

  -- what a processor reads depends on those before it alone
  pub fed_same : (p : ℕ) (a b : List Rows)
      → All (IsBrought parts p) (feed_to parts p)
      → AgreeBelow p a b
      → fed parts a p ≡ fed parts b p
  fed_same p a b wires agree =
      map_same (row_to parts a p) (row_to parts b p) (range_with_len 0 (length parts.stream))
      (λ m d h. map_same (word_on parts a (get_or (range_with_len 0 (length parts.stream)) m d))
      (word_on parts b (get_or (range_with_len 0 (length parts.stream)) m d)) (feed_to parts p)
      (λ k e inside. word_same p _ a b agree (get_or (feed_to parts p) k e) (wires k e inside)))

  module _ (wires : (p : ℕ) → p < length parts.images → All (IsBrought parts p) (feed_to parts p)) where
    -- two solutions agree
    agree : (a b : List Rows)
        → IsNetSolution parts a
        → IsNetSolution parts b
        → (p : ℕ)
        → p ≤ length parts.images
        → AgreeBelow p a b
    agree a b is_a is_b zero h q early = absurd (omega arith)
    agree a b is_a is_b (suc p) h q early =
        elim (cases_lt q p) [
          | inl before ↦ agree a b is_a is_b p (omega arith) q before
          | inr late ↦
              let last : q ≡ p = omega arith in
              let inside : p < length parts.images = omega arith in
              let same = fed_same p a b (wires p inside) (agree a b is_a is_b p (omega arith)) in
              let ends : get_or a p [] ≡ get_or b p [] =
              (is_a.runs p inside).put
              ∙ ap (λ (stream : Rows). map (row_of (program_of parts p) stream) (range_with_len 0 (length stream))) same
              ∙ sym (is_b.runs p inside).put in
              subst (λ (r : ℕ). get_or a r [] ≡ get_or b r []) (sym last) ends
        ]

    -- a net has one solution
    pub one_solution : (a b : List Rows) → IsNetSolution parts a → IsNetSolution parts b → a ≡ b
    one_solution a b is_a is_b =
        ext_get_or [] a b (is_a.count ∙ sym is_b.count)
        (λ q h. agree a b is_a is_b (length parts.images) (omega arith) q (omega (arith, h, is_a.count)))

  -- a processor puts a row for each of the net's
  pub length-put : (puts : List Rows) (p : ℕ)
      → IsNetSolution parts puts
      → p < length parts.images
      → length (get_or puts p []) ≡ length parts.stream
  length-put puts p is h =
      ap length (is.runs p h).put
      ∙ length-map-range_with_len (row_of (program_of parts p) (fed parts puts p)) 0 (length (fed parts puts p))
      ∙ length-fed puts p

  -- as many rows, each of them the row that it puts, are all that it puts
  pub all_put : (puts : List Rows) (p : ℕ) (rows : Rows)
      → IsNetSolution parts puts
      → p < length parts.images
      → length rows ≡ length parts.stream
      → ((n : ℕ) → n < length parts.stream → get_or rows n [] ≡ get_or (get_or puts p []) n [])
      → rows ≡ get_or puts p []
  all_put puts p rows is h count each =
      ext_get_or [] rows (get_or puts p []) (count ∙ sym (length-put puts p is h))
      (λ n within. each n (omega (arith, within, count)))

-- The solution.

abbrev pub puts_to : Parts → ℕ → List Rows
puts_to parts zero = []
puts_to parts (suc p) = puts_to parts p ++ put_by parts (puts_to parts p) p ∷ []

length-puts_to : (parts : Parts) (p : ℕ) → length (puts_to parts p) ≡ p
length-puts_to parts zero = refl
length-puts_to parts (suc p) = length_push (puts_to parts p) _ ∙ omega (arith, length-puts_to parts p)

put_at : (parts : Parts) (n q : ℕ) → q < n → get_or (puts_to parts n) q [] ≡ put_by parts (puts_to parts q) q
put_at parts zero q h = absurd (omega arith)
put_at parts (suc n) q h =
    elim (cases_lt q n) [
      | inl early ↦
          get_or_append_left (puts_to parts n) _ [] q (omega (arith, early, length-puts_to parts n))
          ∙ put_at parts n q early
      | inr late ↦
          let last : q ≡ n = omega arith in
          rw last (get_or_at (puts_to parts n) (put_by parts (puts_to parts n) n) [] [] n (length-puts_to parts n))
    ]

agrees_so_far : (parts : Parts) (n q : ℕ) → q < n → AgreeBelow q (puts_to parts q) (puts_to parts n)
agrees_so_far parts n q h r early = put_at parts q r early ∙ sym (put_at parts n r (omega arith))

-- the words of a row, by the wires that bring them
fits_words : (parts : Parts) (p : ℕ) (word : Wire → ℤ) (feed : List Wire) (widths : List ℕ)
    → AllZip (Fits parts p) feed widths
    → ((wire : Wire) (width : ℕ) → Fits parts p wire width → IsInChannel (channel_of width) (word wire))
    → IsRow (map channel_of widths) (map word feed)
fits_words parts p word [] [] fits each = tt
fits_words parts p word [] (width ∷ widths) fits each = absurd fits
fits_words parts p word (wire ∷ feed) [] fits each = absurd fits
fits_words parts p word (wire ∷ feed) (width ∷ widths) fits each =
    (each wire width fits.0, fits_words parts p word feed widths fits.1 each)

fits_all : (parts : Parts) (p : ℕ) (P : Wire → Type 0) (feed : List Wire) (widths : List ℕ)
    → AllZip (Fits parts p) feed widths
    → ((wire : Wire) (width : ℕ) → Fits parts p wire width → P wire)
    → All P feed
fits_all parts p P [] widths fits each = All-nil P
fits_all parts p P (wire ∷ feed) [] fits each = absurd fits
fits_all parts p P (wire ∷ feed) (width ∷ widths) fits each =
    All-cons P wire feed (each wire width fits.0) (fits_all parts p P feed widths fits.1 each)

fits_length : (parts : Parts) (p : ℕ) (feed : List Wire) (widths : List ℕ)
    → AllZip (Fits parts p) feed widths
    → length feed ≡ length widths
fits_length parts p [] [] fits = refl
fits_length parts p [] (width ∷ widths) fits = absurd fits
fits_length parts p (wire ∷ feed) [] fits = absurd fits
fits_length parts p (wire ∷ feed) (width ∷ widths) fits = omega (arith, fits_length parts p feed widths fits.1)

brought : (parts : Parts) (p : ℕ) (wire : Wire) (width : ℕ) → Fits parts p wire width → IsBrought parts p wire
brought parts p (Input j) width fits = fits.0
brought parts p (From q j) width fits = (fits.0, fits.1)

module _ (parts : Parts) (are : AreParts parts) where
  pub all_brought : (p : ℕ) → p < length parts.images → All (IsBrought parts p) (feed_to parts p)
  all_brought p h =
      fits_all parts p (IsBrought parts p) (feed_to parts p) (image_of parts p).inputs ((are.each p h).wires)
      (brought parts p)

  abbrev all_puts : List Rows
  all_puts = puts_to parts (length parts.images)

  -- what is known of processor q
  record Good (q : ℕ) : Type 0 where
    valid : IsStreamFor (image_of parts q) (fed parts (puts_to parts (length parts.images)) q)
    run :
        IsRunOut (program_of parts q) (fed parts (puts_to parts (length parts.images)) q)
        (get_or (puts_to parts (length parts.images)) q [])

  put_is : (q : ℕ) → q < length parts.images → get_or all_puts q [] ≡ put_by parts all_puts q
  put_is q h =
      put_at parts (length parts.images) q h
      ∙ ap (λ (stream : Rows). map (row_of (program_of parts q) stream) (range_with_len 0 (length stream)))
      (fed_same parts q (puts_to parts q) all_puts (all_brought q h) (agrees_so_far parts (length parts.images) q h))

  word_good : (p n : ℕ)
      → p < length parts.images
      → n < length parts.stream
      → ((q : ℕ) → q < p → Good q)
      → (wire : Wire) (width : ℕ)
      → Fits parts p wire width
      → IsInChannel (channel_of width) (word_on parts all_puts n wire)
  word_good p n inside h good (Input j) width fits = fits.1 n [] h
  word_good p n inside h good (From q j) width fits =
      let before = good q fits.0 in
      let rows : length (get_or all_puts q []) ≡ length parts.stream =
      ap length before.run.put
      ∙ length-map-range_with_len _ 0 (length (fed parts all_puts q))
      ∙ length-fed parts all_puts q in
      fits.2 (fed parts all_puts q) (get_or all_puts q []) before.valid before.run n [] (omega (arith, h, rows))

  good_next : (p : ℕ) → p < length parts.images → ((q : ℕ) → q < p → Good q) → Good p
  good_next p h good =
      let part = are.each p h in
      let valid : IsStreamFor (image_of parts p) (fed parts all_puts p) =
      all_map (IsRow (map channel_of (image_of parts p).inputs)) (row_to parts all_puts p)
      (range_with_len 0 (length parts.stream))
      (all_range (λ n. IsRow (map channel_of (image_of parts p).inputs) (row_to parts all_puts p n))
      (length parts.stream)
      (λ n within.
      fits_words parts p (word_on parts all_puts n) (feed_to parts p) (image_of parts p).inputs part.wires
      (word_good p n h within good))) in
      let (rows, run) = part.runs (fed parts all_puts p) valid in
      record {
        valid = valid;
        run = subst (IsRunOut (program_of parts p) (fed parts all_puts p)) (run.put ∙ sym (put_is p h)) run;
      }

  good_below : (p : ℕ) → p ≤ length parts.images → (q : ℕ) → q < p → Good q
  good_below zero h q early = absurd (omega arith)
  good_below (suc p) h q early =
      elim (cases_lt q p) [
        | inl before ↦ good_below p (omega arith) q before
        | inr late ↦
            let last : q ≡ p = omega arith in
            subst Good (sym last) (good_next p (omega arith) (good_below p (omega arith)))
      ]

  all_good : (q : ℕ) → q < length parts.images → Good q
  all_good = good_below (length parts.images) (omega arith)

  pub solution : IsNetSolution parts (puts_to parts (length parts.images))
  solution = record {
    count = length-puts_to parts (length parts.images);
    runs = λ p h. (all_good p h).run;
  }

  -- what a processor reads is in the ranges of its input words
  pub fed_valid : (puts : List Rows) (p : ℕ)
      → IsNetSolution parts puts
      → p < length parts.images
      → IsStreamFor (image_of parts p) (fed parts puts p)
  fed_valid puts p is h =
      subst (λ (all : List Rows). IsStreamFor (image_of parts p) (fed parts all p))
      (one_solution parts all_brought (puts_to parts (length parts.images)) puts solution is) ((all_good p h).valid)

  -- words in the ranges of input words are such as machines take

  in_channel : (channel : Channel) (word : ℤ) → IsChannel channel → IsInChannel channel word → IsOperand word
  in_channel channel (pos n) is h = omega (arith, ints, is.high, h.1)
  in_channel channel (negsuc n) is h = omega (arith, ints, is.low, h.0)

  read_row : (widths : List ℕ) (row : List ℤ)
      → All (λ width. width ≤ 40) widths
      → IsRow (map channel_of widths) row
      → (length row ≡ length widths) × All IsOperand row
  read_row [] [] all h = (refl, All-nil IsOperand)
  read_row [] (word ∷ row) all h = absurd h
  read_row (width ∷ widths) [] all h = absurd h
  read_row (width ∷ widths) (word ∷ row) all h =
      let few = All-head (λ w. w ≤ 40) width widths all in
      let rest = read_row widths row (All-tail (λ w. w ≤ 40) width widths all) h.1 in (
        omega (arith, rest.0),
        All-cons IsOperand word row (in_channel (channel_of width) word (channel_is width (omega (arith, few))) h.0)
            rest.1,
      )

  all_read : (p : ℕ)
      → p < length parts.images
      → All (IsReadRow (image_of parts p)) (fed parts (puts_to parts (length parts.images)) p)
  all_read p h k d inside =
      let words = read_row (image_of parts p).inputs (get_or (fed parts all_puts p) k d) ((are.each p h).valid).inputs
      ((all_good p h).valid k d inside) in
      record { count = words.0; words = words.1 }

  period_at : (p : ℕ) → p < length parts.images → period_of (shape_of parts) p ≡ (image_of parts p).period
  period_at p h = get_or-map (λ image. image.period) parts.images p no_image 1 h

  wires_down : (p q j : ℕ) → p < length parts.feeds → Contains (feed_of (shape_of parts) p) (From q j) → q < p
  wires_down p q j h wire =
      (All-contains (IsBrought parts p) (feed_to parts p) (From q j)
      (all_brought p (omega (arith, h, are.feeds))) wire).0

  pub is_shape : IsShape (shape_of parts)
  is_shape = record {
    periods = length-map parts.images (λ image. image.period) ∙ sym are.feeds;
    some = λ p h.
        (let inside : p < length parts.images = omega (arith, h, are.feeds) in
        let low : 1 ≤ (image_of parts p).period = ((are.each p inside).valid).period.0 in
        omega (arith, low, period_at p inside));
    capacity = omega (arith, are.capacity.0);
    wires = wires_down;
  }

  -- parts that make a net are solved by these rows
  pub are_solved : AreSolved parts (puts_to parts (length parts.images))
  are_solved = record {
    solution = solution;
    valid = λ p h. (are.each p h).valid;
    reads = all_read;
    wires = all_brought;
    feeds = λ p h. fits_length parts p (feed_to parts p) (image_of parts p).inputs ((are.each p h).wires);
    samples = are.samples;
    shape = is_shape;
  }
