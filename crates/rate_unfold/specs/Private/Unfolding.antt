-- The unfolded program, as one value.
use Rattle.std.specs.Prelude.{ℕ, ◌+◌, ◌-◌, ◌*◌, ◌/◌, List, map, flat_map, length, slice_index_or}
use Rattle.std.specs.List.{range_with_len}
use Rattle.signal_graph.specs.Flat.{Expr, raw, read, calculation, Parts, no_part, part, Body, word, value, Element}
use Rattle.signal_graph.specs.Flat.{Program}
use Rattle.rate_unfold.specs.Frames.{Rates, frame, frame_types}
use Rattle.rate_unfold.specs.Unfolded.{in_phase, word_in_phase, inits_in_phase}

-- how many frames before phase j of a frame the sample is that is k samples before
abbrev pub frames_before : (m j k : ℕ) → ℕ
frames_before m j k = (k - j + (m - 1)) / m

-- and in which phase
abbrev pub phase_before : (m j k : ℕ) → ℕ
phase_before m j k = j + frames_before m j k * m - k

module _ (m elements j : ℕ) where
  abbrev mutual
    pub expr_in_phase : Expr → Expr
    expr_in_phase (raw w) = raw w
    expr_in_phase (read e k) = read (in_phase elements (phase_before m j k) e) (frames_before m j k)
    expr_in_phase (calculation o fmt parts) = calculation o fmt (parts_in_phase parts)

    pub parts_in_phase : Parts → Parts
    parts_in_phase no_part = no_part
    parts_in_phase (part x rest) = part (expr_in_phase x) (parts_in_phase rest)

abbrev pub body_in_phase : Rates → (elements j : ℕ) → Body → Body
body_in_phase r elements j (word i) = word_in_phase r j i
body_in_phase r elements j (value x) = value (expr_in_phase r.phases elements j x)

abbrev pub element_in_phase : Rates → (elements j : ℕ) → Element → Element
element_in_phase r elements j e = record {
  ty = e.ty;
  body = body_in_phase r elements j e.body;
  inits = inits_in_phase r.phases j e.inits;
}

-- the elements of phase j
abbrev pub elements_in_phase : Rates → List Element → (j : ℕ) → List Element
elements_in_phase r elems j = map (element_in_phase r (length elems) j) elems

abbrev pub frame_out_elements : Rates → Program → List ℕ
frame_out_elements r p =
    frame r.phases r.down (length p.outs) (λ i j. in_phase (length p.elems) j (slice_index_or p.outs i 0))

abbrev pub unfolded : Rates → Program → Program
unfolded r p = record {
  elems = flat_map (elements_in_phase r p.elems) (range_with_len 0 r.phases);
  inputs = frame_types r.phases r.up p.inputs;
  outs = frame_out_elements r p;
}
