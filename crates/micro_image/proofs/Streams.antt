-- Streams of samples: what is so of the first samples stays so when more samples come.
use Rattle.std.proofs.Common.{◌≡◌, ◌<◌, ◌≤◌, ◌+◌, ◌*◌, ◌∙◌, sym, ap, ap₂, subst, arith, ⊎_elim, mul-le-mul_right, ℕ}
use Rattle.std.proofs.Common.{zero, suc, List, [], ◌∷◌, ◌++◌, length, map, replicate, take, ℤ}
use Rattle.std.proofs.Math.ListN.{get_or-append}
use Rattle.std.proofs.lemmas.Bool.{cases_lt}
use Rattle.std.proofs.lemmas.Grind.{flat_map-append}
use Rattle.std.proofs.lemmas.List.{get_or-append-add, get_or-replicate, length-append, length-replicate}
use Rattle.std.proofs.lemmas.List.FromFn.{take-map-range_with_len, map-range_with_len_more}
use Rattle.std.specs.List.{range_with_len}
use Rattle.lists.specs.Rows.{Rows}
use Rattle.micro_image.specs.Conflict.{IsClear, IsClearBelow}
use Rattle.micro_image.specs.Fields.{Microprogram, nth}
use Rattle.micro_image.specs.Run.{IsRunOut, latches, spread}
use Rattle.micro_image.proofs.Lists.{In-range, map-same}
use Rattle.micro_image.proofs.Prefix.{IsClearBelow-with, IsClearBelow-without, latches-prefix}

-- a stream's cycles
pub length-spread : (period : ℕ) (stream : Rows) → length (spread period stream) ≡ length stream * period
length-spread period [] = omega arith
length-spread period (row ∷ stream) =
    length-append (replicate period row) (spread period stream)
    ∙ ap₂ ◌+◌ (length-replicate period row) (length-spread period stream) ∙ omega arith

-- the cycles of more samples follow
pub spread-append : (period : ℕ) (stream after : Rows)
    → spread period (stream ++ after) ≡ spread period stream ++ spread period after
spread-append period stream after = flat_map-append (λ row. replicate period row) stream after

-- the latches at a cycle of the first samples
pub latches-more : (micro : Microprogram) (stream after : Rows) (t : ℕ)
    → t ≤ length stream * micro.period
    → latches micro (spread micro.period (stream ++ after)) t ≡ latches micro (spread micro.period stream) t
latches-more micro stream after t h =
    ap (λ z. latches micro z t) (spread-append micro.period stream after)
    ∙ latches-prefix micro (spread micro.period stream) (spread micro.period after) t
    (omega (arith, h, length-spread micro.period stream))

-- no conflict in the first samples
pub IsClearBelow-more : (micro : Microprogram) (stream after : Rows) (n : ℕ)
    → n ≤ length stream * micro.period
    → IsClearBelow micro (spread micro.period stream) n
    → IsClearBelow micro (spread micro.period (stream ++ after)) n
IsClearBelow-more micro stream after n h clear =
    subst (λ z. IsClearBelow micro z n) (sym (spread-append micro.period stream after))
    (IsClearBelow-with micro (spread micro.period stream) (spread micro.period after) n
    (omega (arith, h, length-spread micro.period stream)) clear)

-- and back
pub IsClearBelow-fewer : (micro : Microprogram) (stream after : Rows) (n : ℕ)
    → n ≤ length stream * micro.period
    → IsClearBelow micro (spread micro.period (stream ++ after)) n
    → IsClearBelow micro (spread micro.period stream) n
IsClearBelow-fewer micro stream after n h clear =
    IsClearBelow-without micro (spread micro.period stream) (spread micro.period after) n
    (omega (arith, h, length-spread micro.period stream))
    (subst (λ z. IsClearBelow micro z n) (spread-append micro.period stream after) clear)

next_sample : (period : ℕ) (row : List ℤ) (n c : ℕ)
    → suc n * period + c ≡ length (replicate period row) + (n * period + c)
next_sample period row n c = omega (arith, length-replicate period row)

-- each cycle of sample n has the sample's row
pub nth-spread : (period : ℕ) (stream : Rows) (n c : ℕ)
    → n < length stream
    → c < period
    → nth (spread period stream) (n * period + c) [] ≡ nth stream n []
nth-spread period [] n c h k = absurd (omega (arith, h))
nth-spread period (row ∷ stream) zero c h k =
    ap (λ i. nth (spread period (row ∷ stream)) i []) (let e : 0 * period + c ≡ c = omega arith in e)
    ∙ get_or-append (replicate period row) (spread period stream) [] c (omega (arith, k, length-replicate period row))
    ∙ get_or-replicate period c row [] k
nth-spread period (row ∷ stream) (suc n) c h k =
    ap (λ i. nth (spread period (row ∷ stream)) i []) (next_sample period row n c)
    ∙ get_or-append-add (replicate period row) (spread period stream) (n * period + c) []
    ∙ nth-spread period stream n c (omega (arith, h)) k

length_le : (stream after : Rows) → length stream ≤ length (stream ++ after)
length_le stream after = omega (arith, length-append stream after)

rows_fewer : (micro : Microprogram) (stream after : Rows) (k : ℕ)
    → k < length stream
    → latches micro (spread micro.period (stream ++ after)) ((k + 1) * micro.period)
    ≡ latches micro (spread micro.period stream) ((k + 1) * micro.period)
rows_fewer micro stream after k h =
    latches-more micro stream after ((k + 1) * micro.period) (mul-le-mul_right micro.period (omega (arith, h)))

same_rows : (micro : Microprogram) (stream after : Rows)
    → map (λ n. latches micro (spread micro.period (stream ++ after)) ((n + 1) * micro.period))
    (range_with_len 0 (length stream))
    ≡ map (λ n. latches micro (spread micro.period stream) ((n + 1) * micro.period))
    (range_with_len 0 (length stream))
same_rows micro stream after =
    map-same _ _ (range_with_len 0 (length stream))
    (λ k in'. rows_fewer micro stream after k (let range = In-range 0 (length stream) k in' in omega (arith, range.1)))

-- a run over more samples begins with the run over the first
pub IsRunOut-fewer : (micro : Microprogram) (stream after rows : Rows)
    → IsRunOut micro (stream ++ after) rows
    → IsRunOut micro stream (take (length stream) rows)
IsRunOut-fewer micro stream after rows run = record {
  clear =
      IsClearBelow-fewer micro stream after (length stream * micro.period) (omega arith)
      (λ t below. run.clear t (omega (arith, below, mul-le-mul_right micro.period (length_le stream after))));
  put =
      ap (take (length stream)) run.put
      ∙ take-map-range_with_len _ 0 (length (stream ++ after)) (length stream) (length_le stream after)
      ∙ same_rows micro stream after;
}

in_last : (micro : Microprogram) (stream : Rows) (row : List ℤ) (t : ℕ)
    → t < length (stream ++ row ∷ []) * micro.period
    → t < (length stream + 1) * micro.period
in_last micro stream row t below = subst (λ n. t < n * micro.period) (length-append stream (row ∷ [])) below

-- a run goes on by a sample whose cycles are clear
pub IsRunOut-more : (micro : Microprogram) (stream rows : Rows) (row : List ℤ)
    → IsRunOut micro stream rows
    → ((t : ℕ)
    → length stream * micro.period ≤ t
    → t < (length stream + 1) * micro.period
    → IsClear micro (spread micro.period (stream ++ row ∷ [])) t)
    → IsRunOut micro (stream ++ row ∷ [])
    (rows ++ latches micro (spread micro.period (stream ++ row ∷ [])) ((length stream + 1) * micro.period) ∷ [])
IsRunOut-more micro stream rows row run clear = record {
  clear = λ t below.
      ⊎_elim (λ early.
      IsClearBelow-more micro stream (row ∷ []) (length stream * micro.period) (omega arith) run.clear t early)
      (λ late. clear t late (in_last micro stream row t below)) (cases_lt t (length stream * micro.period));
  put =
      ap (λ rows'.
      rows' ++ latches micro (spread micro.period (stream ++ row ∷ [])) ((length stream + 1) * micro.period) ∷ [])
      (run.put ∙ sym (same_rows micro stream (row ∷ [])))
      ∙ sym (map-range_with_len_more
      (λ n. latches micro (spread micro.period (stream ++ row ∷ [])) ((n + 1) * micro.period)) 0 (length stream)
      (length stream) (omega arith))
      ∙ ap (λ n.
      map (λ k. latches micro (spread micro.period (stream ++ row ∷ [])) ((k + 1) * micro.period))
      (range_with_len 0 n))
      (sym (length-append stream (row ∷ [])));
}
