-- Worked plans whose samples overlap, by computing: what is placed takes its place in each period, so cycles count by
-- their remainders.
use Rattle.std.proofs.Common.{◌≡◌, refl, sym, ◌∙◌, ap, subst, arith, ℕ, ◌+◌, ◌-◌, ◌*◌, ◌%◌, ◌<◌, ◌≤◌, Bool, true}
use Rattle.std.proofs.Common.{false, List, length}
use Rattle.std.specs.Prelude.{slice_get, Option, Some, None}
use Rattle.std.proofs.lemmas.Bool.{true≢false}
use Rattle.fix_word.specs.declared.operation.Op.{Op}
use Rattle.fix_word.specs.declared.operation.Op.TheVariants as op
use Rattle.datapath.specs.declared.types.Datapath.{Datapath}
use Rattle.plan_core.specs.Hardware.{gap_on}
use Rattle.plan_core.specs.Assigned.{unit_in}
use Rattle.plan_core.specs.Heights.{latency_of, IsPlacedBefore}
use Rattle.plan_core.specs.Lowered.{Origin, store, load, origins}
use Rattle.plan_core.specs.ListSchedule.{cycle_of, IsEarlier}
pub use Rattle.plan_core.specs.Stages.{IsGapAround, IsSameAround}
use Rattle.plan_core.specs.Stages.{distance, IsLoadOf, op_of, IsInStage, CanIssueInStage, IsPlacedInStage}
use Rattle.plan_core.specs.Stages.{IsStageSchedule, IsWithoutStage, written_around, read_around, AreStageArcs}
use Rattle.plan_core.specs.declared.schedule.Assigned.{Assigned}
use Rattle.plan_core.specs.declared.schedule.Schedule.{Schedule}
use Rattle.plan_core.specs.declared.registers.Arc.{Arc}
use Rattle.plan_core.proofs.Tests.{Test, passed, test_of, lt, le, eq, like, nay, both, implies, below}
use Rattle.plan_core.proofs.ScheduleTests.{placed_before, are_heights, can_issue_over, is_placed_over, are_placed_over}
use Rattle.plan_core.proofs.ScheduleTests.{scheduled_over}
use Rattle.plan_core.proofs.RegisterTests.{are_arcs_over}

abbrev pub gap_around : (period gap t u : ℕ) → Test (IsGapAround period gap t u)
gap_around period gap t u = both (le gap (distance period t u)) (le (distance period t u + gap) period)

abbrev same_around : (period w x : ℕ) → Test (IsSameAround period w x)
same_around period w x = eq (w % period) (x % period)

abbrev pub is_input : Op → Bool
is_input op.Input = true
is_input _ = false

abbrev pub is_output : Op → Bool
is_output op.Output = true
is_output _ = false

abbrev pub is_load : Op → Bool
is_load op.Load = true
is_load _ = false

abbrev pub holds : (b : Bool) → Test (b ≡ true)
holds b = test_of b (λ e. e, λ e. e)

pub input_is : (o : Op) → is_input o ≡ true → o ≡ op.Input
input_is op.Input e = refl
input_is _ e = absurd (true≢false (sym e))

pub output_is : (o : Op) → is_output o ≡ true → o ≡ op.Output
output_is op.Output e = refl
output_is _ e = absurd (true≢false (sym e))

abbrev input_test : (o : Op) → Test (o ≡ op.Input)
input_test o = like (input_is o) (λ e. ap is_input e) (holds (is_input o))

abbrev output_test : (o : Op) → Test (o ≡ op.Output)
output_test o = like (output_is o) (λ e. ap is_output e) (holds (is_output o))

-- what node v of the lowered list is
abbrev origin_at : List (List ℕ) → ℕ → Option Origin
origin_at delays v = slice_get (origins delays) v

abbrev is_store_at : Option Origin → Bool
is_store_at (Some (store u)) = true
is_store_at _ = false

abbrev stored_at : Option Origin → ℕ
stored_at (Some (store u)) = u
stored_at _ = 0

abbrev is_load_at : Option Origin → Bool
is_load_at (Some (load u ago)) = true
is_load_at _ = false

abbrev loaded_at : Option Origin → ℕ
loaded_at (Some (load u ago)) = u
loaded_at _ = 0

abbrev ago_at : Option Origin → ℕ
ago_at (Some (load u ago)) = ago
ago_at _ = 0

store_is : (o : Option Origin) → is_store_at o ≡ true → o ≡ Some (store (stored_at o))
store_is (Some (store u)) e = refl
store_is _ e = absurd (true≢false (sym e))

load_is : (o : Option Origin) → is_load_at o ≡ true → o ≡ Some (load (loaded_at o) (ago_at o))
load_is (Some (load u ago)) e = refl
load_is _ e = absurd (true≢false (sym e))

module _ (delays : List (List ℕ)) where
  -- node v stores what node x loads
  abbrev Meets : (v x : ℕ) → Type 0
  Meets v x =
      (is_store_at (origin_at delays v) ≡ true)
      × ((is_load_at (origin_at delays x) ≡ true)
      × (stored_at (origin_at delays v) ≡ loaded_at (origin_at delays x)))

  abbrev meets : (v x : ℕ) → Test (Meets v x)
  meets v x =
      both (holds (is_store_at (origin_at delays v)))
      (both (holds (is_load_at (origin_at delays x)))
      (eq (stored_at (origin_at delays v)) (loaded_at (origin_at delays x))))

  pub of_meeting : (v x : ℕ) → Meets v x → IsLoadOf delays v x (ago_at (origin_at delays x))
  of_meeting v x m = record {
    node = loaded_at (origin_at delays x);
    its_store = store_is (origin_at delays v) m.0 ∙ ap (λ (u : ℕ). Some (store u)) m.1.1;
    its_load = load_is (origin_at delays x) m.1.0;
  }

  pub to_meeting : (v x ago : ℕ) → IsLoadOf delays v x ago → Meets v x
  to_meeting v x ago h = (
    ap is_store_at h.its_store,
    (ap is_load_at h.its_load, ap stored_at h.its_store ∙ sym (ap loaded_at h.its_load)),
  )

  -- whether something holds of the samples after which node x loads what node v stores
  abbrev each_load : {P : ℕ → Type 0} (v x : ℕ)
      → ((ago : ℕ) → Test (P ago))
      → Test ((ago : ℕ) → IsLoadOf delays v x ago → P ago)
  each_load {P} v x t =
      like {P = Meets v x → P (ago_at (origin_at delays x))}
      (λ h ago l. subst P (ap ago_at l.its_load) (h (to_meeting v x ago l)))
      (λ h m. h (ago_at (origin_at delays x)) (of_meeting v x m))
      (implies (meets v x) (λ z. t (ago_at (origin_at delays x))))

module _ (stages : ℕ) (delays : List (List ℕ)) (d : Datapath) (a : Assigned) where
  abbrev count : ℕ
  count = length a.lowered.nodes

  -- whether something holds of each node that is placed before node v
  abbrev each_earlier : {P : ℕ → Type 0} (height : ℕ → ℕ) (v : ℕ)
      → ((x : ℕ) → Test (P x))
      → Test ((x : ℕ) → IsEarlier a height v x → P x)
  each_earlier {P} height v t =
      like {P = (x : ℕ) → x < count → IsPlacedBefore height x v → P x}
      (λ h x e. h x e.node e.before) (λ h x there before. h x (record { node = there; before = before }))
      (below count (λ x. implies (placed_before height x v) (λ z. t x)))

  abbrev Stores : Schedule → (height : ℕ → ℕ) → (v t : ℕ) → Type 0
  Stores s height v t =
      (x ago : ℕ) → IsLoadOf delays v x ago → IsEarlier a height v x
      → t + latency_of d a v ≤ cycle_of s x + ago * d.period

  abbrev stores_test : (s : Schedule) (height : ℕ → ℕ) (v t : ℕ) → Test (Stores s height v t)
  stores_test s height v t =
      like {P = (x : ℕ) → IsEarlier a height v x → (ago : ℕ) → IsLoadOf delays v x ago
      → t + latency_of d a v ≤ cycle_of s x + ago * d.period}
      (λ h x ago l e. h x e ago l) (λ h x e ago l. h x ago l e)
      (each_earlier height v (λ x. each_load delays v x (λ ago.
      le (t + latency_of d a v) (cycle_of s x + ago * d.period))))

  abbrev Loaded : Schedule → (height : ℕ → ℕ) → (v t : ℕ) → Type 0
  Loaded s height v t =
      (x ago : ℕ) → IsLoadOf delays x v ago → IsEarlier a height v x
      → cycle_of s x + latency_of d a x ≤ t + ago * d.period

  abbrev loads_test : (s : Schedule) (height : ℕ → ℕ) (v t : ℕ) → Test (Loaded s height v t)
  loads_test s height v t =
      like {P = (x : ℕ) → IsEarlier a height v x → (ago : ℕ) → IsLoadOf delays x v ago
      → cycle_of s x + latency_of d a x ≤ t + ago * d.period}
      (λ h x ago l e. h x e ago l) (λ h x e ago l. h x ago l e)
      (each_earlier height v (λ x. each_load delays x v (λ ago.
      le (cycle_of s x + latency_of d a x) (t + ago * d.period))))

  abbrev Again : (v : ℕ) → Type 0
  Again v = gap_on d (unit_in a.units v) ≤ d.period

  abbrev InFirst : (v t : ℕ) → Type 0
  InFirst v t = op_of stages (IsLoadOf delays) d a v ≡ op.Input → t < d.period

  abbrev InLast : (v t : ℕ) → Type 0
  InLast v t = op_of stages (IsLoadOf delays) d a v ≡ op.Output → (stages - 1) * d.period < t + latency_of d a v

  abbrev is_in_stage : (s : Schedule) (height : ℕ → ℕ) (v t : ℕ)
      → Test (IsInStage stages (IsLoadOf delays) d a s height v t)
  is_in_stage s height v t =
      like {P = Again v × (InFirst v t × (InLast v t × (Stores s height v t × Loaded s height v t)))}
      (λ h. record { again = h.0; input = h.1.0; output = h.1.1.0; stores = h.1.1.1.0; loads = h.1.1.1.1 })
      (λ h. (h.again, (h.input, (h.output, (h.stores, h.loads)))))
      (both (le (gap_on d (unit_in a.units v)) d.period)
      (both (implies (input_test (op_of stages (IsLoadOf delays) d a v)) (λ z. lt t d.period))
      (both (implies (output_test (op_of stages (IsLoadOf delays) d a v)) (λ z.
      lt ((stages - 1) * d.period) (t + latency_of d a v)))
      (both (stores_test s height v t) (loads_test s height v t)))))

  abbrev pub are_staged : (s : Schedule) (height : ℕ → ℕ)
      → Test ((v : ℕ) → v < count → IsPlacedInStage stages (IsLoadOf delays) d a s height v)
  are_staged s height =
      are_placed_over (gap_around d.period) (same_around d.period) (stages * d.period) is_in_stage d a s height

  pub staged : (s : Schedule) (height : ℕ → ℕ)
      → (are_heights d a height).passes ≡ true
      → length s.slots ≡ count
      → (are_staged s height).passes ≡ true
      → IsStageSchedule stages delays d a s
  staged s height e are f =
      scheduled_over (gap_around d.period) (same_around d.period) (stages * d.period) is_in_stage d a s height e are f

  abbrev pub are_staged_before : (s : Schedule) (height : ℕ → ℕ) (v : ℕ)
      → Test ((u : ℕ) → u < count → IsPlacedBefore height u v → IsPlacedInStage stages (IsLoadOf delays) d a s height u)
  are_staged_before s height v =
      below count (λ u. implies (placed_before height u v) (λ z.
      is_placed_over (gap_around d.period) (same_around d.period) (stages * d.period) is_in_stage d a s height u))

  abbrev pub is_shut : (s : Schedule) (height : ℕ → ℕ) (v : ℕ)
      → Test ((t : ℕ) → t < stages * d.period → CanIssueInStage stages (IsLoadOf delays) d a s height v t → ⊥)
  is_shut s height v =
      below (stages * d.period) (λ t. nay
      (can_issue_over (gap_around d.period) (same_around d.period) (stages * d.period) is_in_stage d a s height v t))

  pub without_stage : (s : Schedule) (height : ℕ → ℕ) (v : ℕ)
      → v < count
      → 0 < latency_of d a v
      → (are_heights d a height).passes ≡ true
      → (are_staged_before s height v).passes ≡ true
      → (is_shut s height v).passes ≡ true
      → IsWithoutStage stages delays d a v
  without_stage s height v there some e before shut = record {
    height = height;
    heights = passed (are_heights d a height) e;
    there = there;
    schedule = s;
    before = λ u r. passed (are_staged_before s height v) before u r.node r.before;
    none = λ t can. passed (is_shut s height v) shut t (omega (arith, can.fits.period, some)) can;
  }

-- a lifetime begins in the period
abbrev pub are_stage_arcs : (d : Datapath) (a : Assigned) (s : Schedule) (arcs : List Arc)
    → Test (AreStageArcs d a s arcs)
are_stage_arcs d a s arcs = are_arcs_over (written_around d a s) (read_around d a s) d a arcs
