-- Where a source has a plan over frames, `frame` is done, memory runs out, or faults rise. Where it is refused, `frame`
-- tells why, memory runs out, or faults rise.
use Rattle.std.proofs.Common.{◌≡◌, ◌⊎◌, refl, sym, subst, inl, inr, ⊎_elim, Some}
use Rattle.desk_core.specs.View.{Name, Files, View}
use Rattle.desk_core.specs.Desk.{ReadFaultsRose, WriteFaultsRose, content_of}
use Rattle.frame_command.specs.Frame.{IsFrameAnswer}
use Rattle.frame_command.specs.FramePlans.{IsFrameable, IsFrameRefusal, IsFrameRefused, IsFrameError}
use Rattle.frame_command.proofs.OneRefusal.{never_frame_refused, frame_one_refusal}
use Rattle.rate_unfold.specs.Frames.{Rates, AreRates}
use Rattle.statuses.specs.declared.status.Status.{Status}
use Rattle.statuses.specs.declared.status.Status.TheVariants.{Done, Memory, Desk}

module _ (r : Rates) (are : AreRates r) (src datapath : Name) (old new : View) (files : Files)
    (specified : old.files ≡ Some files)
    (no_src : ReadFaultsRose src old new → ⊥) (no_datapath : ReadFaultsRose datapath old new → ⊥) where
  -- no fault of reading rose, so an error tells a refusal, or that there was no memory
  module _ (Tells : Status → Type 0) (memory : Tells Memory)
      (refused : (why : Status) → IsFrameRefusal why
      → IsFrameRefused r why (content_of (files src)) (content_of (files datapath)) → Tells why) where
    tells : (error : Status) → IsFrameError r src datapath old new error → Tells error
    tells error (inl h) = subst Tells (sym h.0) memory
    tells error (inr (inl unread)) = absurd (⊎_elim no_src no_datapath unread.1.rose)
    tells error (inr (inr h)) = refused error h.0 (h.1.why files specified)

    -- and none of writing
    module _ (out : Name) (no_out : WriteFaultsRose out old new → ⊥)
        (done : IsFrameAnswer r src datapath out old new Done → Tells Done) where
      ends : (answer : Status) → IsFrameAnswer r src datapath out old new answer → Tells answer
      ends Done h = done h
      ends Desk (inl h) = tells Desk h
      ends Desk (inr cut) = absurd (no_out cut.written.rose)
      ends error h = tells error h

  pub frame_complete : IsFrameable r (content_of (files src)) (content_of (files datapath))
      → (out : Name)
      → (WriteFaultsRose out old new → ⊥)
      → (answer : Status)
      → IsFrameAnswer r src datapath out old new answer
      → (answer ≡ Done) ⊎ (answer ≡ Memory)
  frame_complete has out no_out =
      ends (λ answer. (answer ≡ Done) ⊎ (answer ≡ Memory)) (inr refl)
      (λ why is h.
      absurd (never_frame_refused r (content_of (files src)) (content_of (files datapath)) are has why is h)) out no_out
      (λ h. inl refl)

  pub frame_refuses : (why : Status)
      → IsFrameRefusal why
      → IsFrameRefused r why (content_of (files src)) (content_of (files datapath))
      → (out : Name)
      → (WriteFaultsRose out old new → ⊥)
      → (answer : Status)
      → IsFrameAnswer r src datapath out old new answer
      → (answer ≡ why) ⊎ (answer ≡ Memory)
  frame_refuses why is h out no_out =
      ends (λ answer. (answer ≡ why) ⊎ (answer ≡ Memory)) (inr refl)
      (λ other theirs its.
      inl (frame_one_refusal r (content_of (files src)) (content_of (files datapath)) are other why theirs its is h))
      out no_out never_done
    where
      never_done : IsFrameAnswer r src datapath out old new Done → (Done ≡ why) ⊎ (Done ≡ Memory)
      never_done done =
          let its = done.compiled files specified in
          absurd (never_frame_refused r (content_of (files src)) (content_of (files datapath)) are
          (its.program, its.path, its.plan, its.planned.has) why is h)
