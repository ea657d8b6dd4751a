-- A cycle in the lists of what elements read without a delay is a loop of the program.
use Rattle.std.proofs.Common.{◌≡◌, ℕ, ◌<◌, List, Option, Some, None, length, sym, ap, subst, ◌∙◌, arith}
use Rattle.std.specs.Prelude.{Contains, slice_get, option_map}
use Rattle.std.proofs.lemmas.List.{length-map}
use Rattle.std.proofs.lemmas.Option.{slice_get_within, slice_get-map, slice_get-get_or}
use Rattle.recurrences.specs.Systems.{DependsNow, direct, by_way_of}
use Rattle.digraph.specs.Arcs.{HasArc, IsWithin, Reaches, by_arc, by_arcs, IsCycleIn}
use Rattle.signal_graph.specs.Flat.{Element, Program}
use Rattle.signal_graph.specs.FlatRules.{IsFlat}
use Rattle.signal_graph.specs.FlatSolves.{no_element, element_of, ElementReads}
use Rattle.signal_graph.proofs.Values.{body_allowed}
use Rattle.flow_graph.specs.Loops.{IsLoopIn}
use Rattle.flow_graph.specs.Private.ReadsNow.{body_reads_now, read_lists}
use Rattle.flow_graph.proofs.ReadLists.{listed_body_read, body_read_listed}

module _ (p : Program) where
  abbrev list_of : Element → List ℕ
  list_of x = body_reads_now x.body

  pub lists_length : length (read_lists p) ≡ length p.elems
  lists_length = length-map p.elems list_of

  list_at : (e : ℕ) → e < length p.elems → slice_get (read_lists p) e ≡ Some (list_of (element_of p e))
  list_at e within =
      slice_get-map list_of p.elems e ∙ ap (option_map list_of) (slice_get-get_or p.elems e no_element within)

  arc_read : (e d : ℕ) → HasArc (read_lists p) e d → (e < length p.elems) × ElementReads p e d 0
  arc_read e d a =
      let within : e < length p.elems =
      let inside = slice_get_within (read_lists p) e a.heads a.stands in let size = lists_length in omega arith in
      let same : Some a.heads ≡ Some (list_of (element_of p e)) = sym a.stands ∙ list_at e within in
      let is : a.heads ≡ list_of (element_of p e) = cc in
      (within, listed_body_read (element_of p e).body d (subst (λ (xs : List ℕ). Contains xs d) is a.has))

  read_arc : (e d : ℕ) → e < length p.elems → ElementReads p e d 0 → HasArc (read_lists p) e d
  read_arc e d within r = record {
    heads = list_of (element_of p e);
    stands = list_at e within;
    has = body_read_listed (element_of p e).body d r;
  }

  module _ (sound : IsFlat p) where
    read_within : (e d : ℕ) → e < length p.elems → ElementReads p e d 0 → d < length p.elems
    read_within e d within r =
        (body_allowed p (element_of p e).ty (element_of p e).body d 0 (sound.elements e no_element within).body
        r).element

    pub lists_within : IsWithin (read_lists p)
    lists_within e d a =
        let r = arc_read e d a in let inside = read_within e d r.0 r.1 in let size = lists_length in omega arith

    depends : (e d : ℕ) → Reaches (HasArc (read_lists p)) e d → (e < length p.elems) × DependsNow (ElementReads p) e d
    depends e d (by_arc a) = let r = arc_read e d a in (r.0, direct r.1)
    depends e d (by_arcs {w = c} a rest) = let r = arc_read e c a in (r.0, by_way_of c r.1 (depends c d rest).1)

    reaches : (e d : ℕ) → e < length p.elems → DependsNow (ElementReads p) e d → Reaches (HasArc (read_lists p)) e d
    reaches e d within (direct r) = by_arc (read_arc e d within r)
    reaches e d within (by_way_of c r rest) =
        by_arcs (read_arc e c within r) (reaches c d (read_within e c within r) rest)

    pub loop_in : (o : Option ℕ) → IsCycleIn (HasArc (read_lists p)) o → IsLoopIn p o
    loop_in None none = λ e within q. none e (reaches e e within q)
    loop_in (Some e) h =
        let here = depends e e h.cyclic in
        record { element = here.0; loops = here.1; first = λ d within q. h.first d (reaches d d within q) }
