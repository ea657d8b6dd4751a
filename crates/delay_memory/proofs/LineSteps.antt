-- Delay lines are placed one after another.
use Rattle.std.proofs.Common.{◌≡◌, refl, sym, subst, ap, ◌∙◌, arith, ℕ, ◌+◌, ◌<◌, ◌≤◌, ◌==◌, ⊎_elim, List, [], ◌∷◌}
use Rattle.std.proofs.Common.{◌++◌, length, slice_index_or, slice_set, cond, All, Contains}
use Rattle.std.specs.Prelude.{slice_get, take, Some}
use Rattle.std.proofs.lemmas.Bool.{cases_lt, cases_eq, cond-true, cond-false, eq-eqb, ne_eqb}
use Rattle.std.proofs.lemmas.Option.{same_Some}
use Rattle.std.proofs.lemmas.List.{length-set, get_or-set_same, get_or-set_other, length_push, get_or_append_left}
use Rattle.std.proofs.lemmas.List.{get_or_push, take-append-le, take_at}
use Rattle.std.proofs.lemmas.List.Kept.{AllPairs-from_increasing}
use Rattle.std.proofs.lemmas.List.Sums.{sum_by_push}
use Rattle.std.specs.List.Sorted.{IsStrictlyIncreasing}
use Rattle.datapath.specs.declared.types.Datapath.{Datapath}
use Rattle.plan_core.specs.Lowered.{own, IsNumber, used, HasRoom, IsNextLine, AreLines, line_of, no_line, stored}
use Rattle.plan_core.specs.declared.delay_lines.Line.{Line}
use Rattle.plan_soundness.proofs.Elements.{default_any}
use Rattle.delay_memory.specs.Private.Delays.{delays_at}
use Rattle.delay_memory.specs.Private.Lines.{AreUsed, IsLongest, IsPlacedLine, IsNoRoom, IsPlaceFault, Places}
use Rattle.delay_memory.specs.Private.Lines.{AreLinesBefore, IsStop}
use Rattle.delay_memory.specs.declared.fault.LineFault.{LineFault}
use Rattle.delay_memory.specs.declared.fault.LineFault.TheVariants.{NoRam, LinesFull, NoAcu, Memory}
use Rattle.delay_memory.specs.declared.lines.LineMemory.{LineMemory}
use Rattle.delay_memory.proofs.Stored.{stored_next, count_yes, count_no}

module _ (spare : ℕ) (d : Datapath) where
  pub used_none : (n : ℕ) (cells : List ℕ)
      → n ≡ length d.units
      → length cells ≡ n
      → ((u : ℕ) → u < n → slice_index_or cells u 0 ≡ 0)
      → AreUsed spare d [] cells
  used_none n cells count long none = record {
    count = long ∙ count;
    each = λ u less. none u (omega arith);
  }

  used_by : (lines : List Line) (line : Line) (ram : ℕ)
      → used spare (lines ++ line ∷ []) ram ≡ used spare lines ram + cond (line.ram == ram) (line.depth + spare) 0
  used_by lines line ram = sum_by_push (λ (x : Line). cond (x.ram == ram) (x.depth + spare) 0) lines line

  same_cells : (a b k : ℕ) → a ≡ b → cond (a == b) k 0 ≡ k
  same_cells a b k e = cond-true (a == b) k 0 (eq-eqb a b e)

  other_cells : (a b k : ℕ) → (b ≡ a → ⊥) → cond (a == b) k 0 ≡ 0
  other_cells a b k e = cond-false (a == b) k 0 (ne_eqb a b (λ same. e (sym same)))

  pub used_more : (lines : List Line) (line : Line) (cells : List ℕ) (n : ℕ)
      → AreUsed spare d lines cells
      → line.ram < length d.units
      → line.offset ≡ used spare lines line.ram
      → n ≡ line.offset + line.depth + spare
      → AreUsed spare d (lines ++ line ∷ []) (slice_set cells line.ram n)
  used_more lines line cells n before there offset is = record {
    count = length-set cells line.ram n ∙ before.count;
    each = λ u less. ⊎_elim (here u) (other u less) (cases_eq u line.ram);
  }
    where
      here : (u : ℕ)
          → u ≡ line.ram
          → slice_index_or (slice_set cells line.ram n) u 0 ≡ used spare (lines ++ line ∷ []) u
      here u e =
          let count = before.count in
          let set = ap (λ (u : ℕ). slice_index_or (slice_set cells line.ram n) u 0) e
          ∙ get_or-set_same cells line.ram n 0 (omega (arith, there, count)) in
          let more = used_by lines line line.ram in
          let own_cells = same_cells line.ram line.ram (line.depth + spare) refl in
          let same : n ≡ used spare (lines ++ line ∷ []) line.ram = omega (arith, is, offset, more, own_cells) in
          set ∙ same ∙ ap (used spare (lines ++ line ∷ [])) (sym e)

      other : (u : ℕ)
          → u < length d.units
          → (u ≡ line.ram → ⊥)
          → slice_index_or (slice_set cells line.ram n) u 0 ≡ used spare (lines ++ line ∷ []) u
      other u less e =
          let more = used_by lines line u in
          let none = other_cells line.ram u (line.depth + spare) e in
          let same : used spare lines u ≡ used spare (lines ++ line ∷ []) u = omega (arith, more, none) in
          get_or-set_other cells line.ram u n 0 e ∙ before.each u less ∙ same

module _ (spare : ℕ) (d : Datapath) (delays : List (List ℕ)) where
  pub next_line : (lines : List Line) (v number depth : ℕ) (long : List ℕ) (line : Line)
      → IsPlacedLine spare d lines number depth line
      → IsNumber delays (own v) number
      → IsLongest long depth
      → IsNextLine spare d delays lines v long line
  next_line lines v number depth long line placed own_number longest = record {
    node = subst (IsNumber delays (own v)) (sym placed.node) own_number;
    depth = by-depth (λ (k : ℕ). Contains long k) longest.there;
    longest = by-depth (λ (k : ℕ). All (λ (i : ℕ). i ≤ k) long) longest.most;
    room = by-depth (λ (k : ℕ). HasRoom spare d lines (k + spare) line.ram) placed.room.room;
    first = by-depth (λ (k : ℕ). (ram : ℕ) → ram < line.ram → HasRoom spare d lines (k + spare) ram → ⊥)
        placed.room.first;
    offset = placed.offset;
    acu = placed.acu;
  }
    where
      by-depth : (P : ℕ → Type 0) → P depth → P line.depth
      by-depth P h = subst P (sym placed.depth_is) h

  pub lines_more : (lines : List Line) (v : ℕ) (long : List ℕ) (line : Line)
      → AreLines spare d delays lines
      → IsNextLine spare d delays lines v long line
      → slice_get (stored delays) (length lines) ≡ Some (v, long)
      → AreLines spare d delays (lines ++ line ∷ [])
  lines_more lines v long line before next at i w other less is =
      ⊎_elim inside last (cases_lt i (length lines))
    where
      Goal : List Line → Line → Type 0
      Goal front x = IsNextLine spare d delays front w other x

      inside : i < length lines → Goal (take i (lines ++ line ∷ [])) (line_of (lines ++ line ∷ []) i)
      inside here =
          subst (λ (front : List Line). Goal front (line_of (lines ++ line ∷ []) i))
          (sym (take-append-le i lines (line ∷ []) (omega arith)))
          (subst (Goal (take i lines)) (sym (get_or_append_left lines (line ∷ []) no_line i here))
          (before i w other here is))

      last : length lines ≤ i → Goal (take i (lines ++ line ∷ [])) (line_of (lines ++ line ∷ []) i)
      last past =
          let count = length_push lines line in
          let e : i ≡ length lines = omega (arith, past, less, count) in
          let pair : (v, long) ≡ (w, other) = same_Some (v, long) (w, other) (sym at ∙ ap (slice_get (stored
          delays)) (sym e) ∙ is) in
          subst (λ (front : List Line). Goal front (line_of (lines ++ line ∷ []) i))
          (sym (take_at lines (line ∷ []) i (sym e)))
          (subst (Goal lines) (sym (get_or_push lines line no_line i (sym e)))
          (subst (λ (x : ℕ × List ℕ). IsNextLine spare d delays lines x.0 x.1 line) pair next))

  -- the lines of the nodes before node v, and that of node v
  pub lines_next : (v number depth : ℕ) (old new : LineMemory)
      → v < length delays
      → AreLinesBefore spare d delays v old
      → IsNumber delays (own v) number
      → IsLongest (delays_at delays v) depth
      → Places spare d number depth old new
      → AreLinesBefore spare d delays (v + 1) new
  lines_next v number depth old new less before own_number longest placed = record {
    count = let count = before.count in
        let long = length_push old.lines placed.line in
        let is = ap length placed.lines in
        let more = count_yes delays v less some in
        omega (arith, count, long, is, more);
    lines = subst (AreLines spare d delays) (sym placed.lines)
        (lines_more old.lines v (delays_at delays v) placed.line before.lines
        (next_line old.lines v number depth (delays_at delays v) placed.line placed.placed own_number longest) next);
    used = placed.used;
  }
    where
      some : 0 < length (delays_at delays v)
      some = let at = longest.there in let within = at.1 in omega (arith, within)

      next : slice_get (stored delays) (length old.lines) ≡ Some (v, delays_at delays v)
      next = ap (slice_get (stored delays)) before.count ∙ stored_next delays v less some

  -- node v has no line
  pub lines_same : (v : ℕ) (memory : LineMemory)
      → v < length delays
      → length (delays_at delays v) ≡ 0
      → AreLinesBefore spare d delays v memory
      → AreLinesBefore spare d delays (v + 1) memory
  lines_same v memory less none before = record {
    count = before.count ∙ sym (count_no delays v less none);
    lines = before.lines;
    used = before.used;
  }

  -- node v gets none
  pub lines_stop : (v depth : ℕ) (memory : LineMemory) (f : LineFault)
      → v < length delays
      → AreLinesBefore spare d delays v memory
      → IsLongest (delays_at delays v) depth
      → IsPlaceFault spare d memory.lines v depth f
      → IsStop spare d delays f
  lines_stop v depth memory f less before longest refused = record {
    lines = memory.lines;
    v = v;
    depth = depth;
    long = delays_at delays v;
    before = before.lines;
    next = ap (slice_get (stored delays)) before.count
        ∙ stored_next delays v less (let at = longest.there in let within = at.1 in omega (arith, within));
    longest = longest;
    refused = refused;
  }

  pub lines_none : (memory : LineMemory)
      → memory.lines ≡ []
      → AreUsed spare d [] memory.used
      → AreLinesBefore spare d delays 0 memory
  lines_none memory none cells = record {
    count = ap length none;
    lines = λ i v long less is. let empty = ap length none in absurd (omega (arith, less, empty));
    used = subst (λ (ls : List Line). AreUsed spare d ls memory.used) (sym none) cells;
  }

pub place_fault : (spare : ℕ) (d : Datapath) (lines : List Line) (v depth : ℕ) (f : LineFault)
    → IsNoRoom d v f
    → ((ram : ℕ) → HasRoom spare d lines (depth + spare) ram → ⊥)
    → IsPlaceFault spare d lines v depth f
place_fault spare d lines v depth (NoRam w) h none = record { node = h.0; none = h.1 }
place_fault spare d lines v depth (LinesFull w) h none = record { node = h.0; some = h.1; none = none }
place_fault spare d lines v depth (NoAcu ram w) h none = absurd h
place_fault spare d lines v depth Memory h none = absurd h

-- the last of rising delays is the longest
pub longest_last : (long : List ℕ) (n : ℕ)
    → IsStrictlyIncreasing long
    → length long ≡ n + 1
    → IsLongest long (slice_index_or long n 0)
longest_last long n rise count = record {
  there = (n, omega (arith, count), default_any long n (slice_index_or long n 0) 0 (omega (arith, count)));
  most = λ i d less.
      subst (λ (k : ℕ). k ≤ slice_index_or long n 0) (default_any long i 0 d less)
      (⊎_elim
      (λ (below : i < n). let rises = AllPairs-from_increasing long rise i n 0 below (omega (arith, count)) in
      omega (arith, rises))
      (λ (above : n ≤ i).
      let same : i ≡ n = omega (arith, above, less, count) in
      let e = ap (λ (k : ℕ). slice_index_or long k 0) same in
      omega (arith, e))
      (cases_lt i n));
}
