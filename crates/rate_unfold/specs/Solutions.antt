-- The solutions of an unfolded program are those of the program, frame by frame.
use Rattle.std.specs.Prelude.{◌≡◌, ◌↔◌, ℕ, ◌*◌, ◌<◌, ◌≤◌, nat_lt, if◌then◌else◌, length, ℤ, pos, negsuc, neg_ℤ, ◌+ℤ◌}
use Rattle.std.specs.Prelude.{◌*ℤ◌, ◌≤ℤ◌, ◌<ℤ◌}
use Rattle.lists.specs.Rows.{Rows}
use Rattle.recurrences.specs.Kept.{KeepsAllSolutions}
use Rattle.signal_graph.specs.Rules.{max_delay}
use Rattle.signal_graph.specs.Flat.{Program}
use Rattle.signal_graph.specs.Values.{Words}
use Rattle.signal_graph.specs.FlatSolves.{flat_system, flat_out, FlatSolves}
use Rattle.signal_graph.specs.Keeps.{IsStreamOf}
use Rattle.rate_unfold.specs.Frames.{Rates, fast, frame_out}
use Rattle.rate_unfold.specs.Unfolded.{in_phase}

-- the samples that have words, in a stream of this many rows
pub record IsSample (rows : ℕ) (n : ℤ) : Type 0 where
  pub first : neg_ℤ (pos max_delay) ≤ℤ n
  pub last : n <ℤ pos rows

-- the word of element e at a sample, or 0 before the first sample that has words; negsuc k is -(k + 1)
abbrev pub word_at : Words → (e : ℕ) → ℤ → ℤ
word_at words e (pos n) = words e (pos n)
word_at words e (negsuc k) = if nat_lt k max_delay then words e (negsuc k) else pos 0

-- in frame n each element has in phase j the word of its element at sample n * m + j, or 0 where there is none
abbrev pub AreUnfoldedWords : Rates → Program → (frames : Rows) → (words unfolded : Words) → Type 0
AreUnfoldedWords r p frames words unfolded =
    (j e : ℕ) (n : ℤ)
    → j < r.phases
    → e < length p.elems
    → IsSample (length frames) n
    → unfolded (in_phase (length p.elems) j e) n ≡ word_at words e (n *ℤ pos r.phases +ℤ pos j)

-- the rows of the program over frames
abbrev pub fast_of : Rates → Program → (frames : Rows) → Rows
fast_of r p frames = fast r (length p.inputs) frames

-- Over all frames, words solve the program exactly where the unfolded ones solve the unfolded program. Each solution of
-- either has one of the other, however many there are. Rows in the types of the frame's words give the program rows in
-- the types of its own, and the output rows are the frame rows of those of the program.
pub record KeepsFrames (r : Rates) (p unfolded : Program) : Type 0 where
  pub solves : (frames : Rows) (words others : Words)
      → AreUnfoldedWords r p frames words others
      → FlatSolves p (fast_of r p frames) words ↔ FlatSolves unfolded frames others
  pub keeps : (frames : Rows)
      → KeepsAllSolutions (flat_system p (fast_of r p frames)) (flat_system unfolded frames)
      (AreUnfoldedWords r p frames)
  pub stream : (frames : Rows) → IsStreamOf unfolded.inputs frames → IsStreamOf p.inputs (fast_of r p frames)
  pub rows : (frames : Rows) (words others : Words) (count : ℕ)
      → AreUnfoldedWords r p frames words others
      → count ≤ length frames
      → flat_out unfolded others count ≡ frame_out r (length p.outs) (flat_out p words (count * r.phases))
