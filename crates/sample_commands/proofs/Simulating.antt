-- A machine before its first cycle over a stream, and how the parts of `sim` make up its answer.
use Rattle.std.proofs.Common.{◌≡◌, refl, sym, ap, subst, ◌∙◌, arith, inl, inr, ⊎_elim, ◌+◌, ◌*◌, ◌<◌, ◌^◌, ◌%◌, []}
use Rattle.std.proofs.Common.{List, ◌∷◌, length, ℕ, ◌≤◌, rules}
use Rattle.std.proofs.Math.Nat.{zero-mod}
use Rattle.std.specs.List.{range_with_len}
use Rattle.lists.specs.Rows.{Rows}
use Rattle.cycle_sim.specs.declared.microcode.Microcode.{Microcode}
use Rattle.cycle_sim.specs.Machine.{Snapshot, state_of}
use Rattle.cycle_sim.specs.Microcode.{micro_of, inputs_of, code_of}
use Rattle.desk_core.specs.View.{Name, Content, View}
use Rattle.desk_core.specs.Desk.{FaultsNeverFall, WhereSpecified, IsUnchanged, IsPut, content_of}
use Rattle.desk_core.proofs.DeskLemmas.{rose_earlier, never_fall_trans}
use Rattle.micro_image.specs.declared.conflict.Conflict.{Conflict as ConflictValue}
use Rattle.micro_image.specs.Conflict.{IsClearBelow}
use Rattle.micro_image.specs.declared.image.Image.{Image}
use Rattle.micro_image.specs.Fields.{Microprogram, microprogram_of}
use Rattle.micro_image.specs.Run.{State, Stands, IsRunOut, latches, spread}
use Rattle.desk_core.specs.Whole.{IsReadThrough}
use Rattle.micro_file.specs.declared.fault.FormFault.{FormFault}
use Rattle.micro_file.specs.declared.fault.FormFault.TheVariants as form
use Rattle.micro_file.specs.Faults.{placed, IsFormFault}
use Rattle.micro_file.proofs.FirstFault.{spelled_no_fault}
use Rattle.micro_image.specs.Spells.{Spells}
use Rattle.micro_image.proofs.Lists.{map-same}
use Rattle.micro_image.proofs.Streams.{length-spread}
use Rattle.sample_io.specs.declared.channel.Channel.{Channel}
use Rattle.sample_io.specs.Samples.{printed}
use Rattle.sample_loops.specs.Machines.{channels_of, IsReady, RunsRows, PutsRows, StopsInLast, IsConflictInLast}
use Rattle.sample_loops.specs.Private.MachineLaws.{runs_clear}
use Rattle.sample_loops.specs.Streams.{IsRunThrough}
use Rattle.sample_loops.specs.declared.stream.StreamFault.{StreamFault}
use Rattle.sample_loops.specs.declared.stream.StreamFault.TheVariants as stream
use Rattle.silc_files.specs.Endings.{IsAmong}
use Rattle.silc_files.specs.Limits.{microcode_limit, samples_limit}
use Rattle.silc_files.specs.Reading.{OnlyReads}
use Rattle.silc_files.proofs.Endings.{unchanged_still, specified_still, rejected_still, finished_still}
use Rattle.sample_commands.specs.Samples.{AreSamples, IsEndedEarly}
use Rattle.sample_commands.specs.Sim.{HasRun, IsSimUnread, IsSimStopped, IsSimulated, IsSimError, HasSomeImage}
use Rattle.sample_commands.specs.Sim.{IsImageFault, IsOfMicrocode}
use Rattle.sample_commands.specs.StreamEnds.{status_of}
use Rattle.sample_commands.specs.Loaded.{IsFresh, IsNoMachine}
use Rattle.sample_commands.specs.Private.Running.{IsLoaded, IsLoadError}
use Rattle.sample_commands.specs.Streaming.{AreRunOver, IsOpened, IsNotOpened, RunsFiles}
use Rattle.sample_commands.specs.Streaming.{IsNotRunOver}
use Rattle.statuses.specs.declared.status.ImageFault.TheVariants as image_fault
use Rattle.statuses.specs.declared.status.SampleFault.TheVariants as sample_fault
use Rattle.statuses.specs.declared.status.Status.{Status}
use Rattle.statuses.specs.declared.status.Status.TheVariants.{Done, Memory, Desk}
use Rattle.statuses.specs.declared.status.Status.TheVariants.{Image as bad_image}
use Rattle.statuses.specs.declared.status.Status.TheVariants.{Samples as bad_samples, Conflict as in_conflict}
use Rattle.sample_commands.proofs.EarlyEnds.{ended_early, run_finished, run_samples_are, run_put, opened_from}
use Rattle.sample_commands.proofs.EarlyEnds.{unopened_from, not_created_from, unopened_still, ended_still}

-- where bytes spell an image, a machine lacks nothing but memory
pub only_memory : (content : Content) (image : Image)
    → Spells content image
    → (error : Status)
    → IsNoMachine content error
    → error ≡ Memory
only_memory content image spells error =
    ⊎_elim (λ m. m) (λ bad. absurd (spelled_no_fault content image bad.0 spells bad.2))

-- the fault of a file is never that no memory was left
never_memory : (size : ℕ) (misread : _) → placed size misread ≡ form.Memory → ⊥
never_memory size misread e = search rules

of_microcode : (content : Content) (fault : FormFault)
    → IsFormFault content fault
    → IsOfMicrocode (image_fault.File fault)
of_microcode content form.Memory h = never_memory (length content) h.misread (sym h.place)
of_microcode content form.Magic h = tt
of_microcode content form.Version h = tt
of_microcode content (form.Short at) h = tt
of_microcode content (form.Field at) h = tt
of_microcode content (form.Trailing at) h = tt

-- why no machine was made of the bytes of MIC, which was read through
pub not_loaded : (mic : Name) (old new : View) (bytes : Content) (error : Status)
    → IsReadThrough mic microcode_limit old new
    → length bytes ≤ microcode_limit
    → WhereSpecified old (λ files. bytes ≡ content_of (files mic))
    → IsNoMachine bytes error
    → IsLoadError mic old new error
not_loaded mic old new bytes error read within content = ⊎_elim (λ m. inl m)
    (λ bad. inr (inr (
      image_fault.File bad.0,
      bad.1,
      of_microcode bytes bad.0 bad.2,
      record {
        read = read;
        why = λ files known.
            subst (λ (file : Content). IsImageFault file (image_fault.File bad.0)) (content files known)
            (within, bad.2);
      },
    )))

-- a fresh machine, and what it is over rows
module _ (machine : Snapshot) (fresh : IsFresh machine) where
  abbrev micro : Microprogram
  micro = micro_of machine.code

  pub fresh_ready : IsReady micro (state_of machine)
  fresh_ready = record {
    whole = ap (λ n. n % micro.period) fresh.stands.cycle ∙ zero-mod micro.period;
    running = fresh.stands.conflict;
  }

  pub fresh_young : machine.cycle < 2 ^ 47 * micro.period
  fresh_young = omega (arith, fresh.stands.cycle, fresh.sound.image.period.0)

  pub fresh_puts : (rows puts : Rows) → PutsRows micro (state_of machine) rows puts → IsRunOut micro rows puts
  fresh_puts rows puts h = record {
    clear =
        subst (IsClearBelow micro (spread micro.period rows)) (length-spread micro.period rows)
        (h.clear [] fresh.stands);
    put = h.put [] fresh.stands
        ∙ map-same _ _ (range_with_len 0 (length rows)) (λ k is.
        ap (latches micro (spread micro.period rows))
        (let e : 0 + (k + 1) * micro.period ≡ (k + 1) * micro.period = omega arith in e));
  }

  pub fresh_meets : (after : State) (rows : Rows) (conflict : ConflictValue)
      → StopsInLast micro (state_of machine) rows conflict after
      → IsConflictInLast micro [] rows conflict
  fresh_meets after rows conflict h = h.met [] fresh.stands

-- the machine of an image, before its first cycle, and then over rows
pub fresh_run : (image : Image) (machine after : Snapshot) (rows puts : Rows)
    → IsFresh machine
    → machine.code ≡ code_of image
    → after.code ≡ machine.code
    → RunsRows (micro_of machine.code) (state_of machine) rows puts (state_of after)
    → HasRun image rows after (printed puts)
fresh_run image machine after rows puts fresh code same ran = record {
  code_is = same ∙ code;
  stands = subst (λ (code : Microcode). Stands (state_of after) (micro_of code) (spread (micro_of code).period rows))
      code (ran.stands [] fresh.stands);
  rows = puts;
  run = subst (λ (code : Microcode). IsRunOut (micro_of code) rows puts) code
      (fresh_puts machine fresh rows puts
      (runs_clear (micro_of machine.code) (state_of machine) (state_of after) rows puts ran));
  text_is = refl;
}

-- the machine ran over the files to the end of SAMPLES, or it did not
module _ (samples out : Name) (old new : View) (machine after : Snapshot) where
  pub ran_over : AreRunOver samples out machine after old new Done → RunsFiles samples out machine after old new Done
  ran_over = ⊎_elim (λ not. absurd (let e = not.0 in cc)) (λ ran. ran)

  pub not_run_over : (ending : Status)
      → (ending ≡ Done → ⊥)
      → AreRunOver samples out machine after old new ending
      → IsNotRunOver samples out machine old new ending
  not_run_over ending not_done = ⊎_elim (λ not. inl not) (λ ran. inr (after, not_done, ran))

-- a run that is done did not stop
pub not_stopped : (fault : StreamFault) → Done ≡ status_of fault → ⊥
not_stopped stream.Desk e = cc
not_stopped (stream.Row fault) e = cc
not_stopped stream.TooLong e = cc
not_stopped (stream.Conflict conflict) e = cc

-- the machine was loaded, and then it ran over the files
module _ (mic samples out : Name) (old mid new : View) (machine : Snapshot)
    (first : OnlyReads (IsAmong (mic ∷ [])) old mid) (loaded : IsLoaded mic old mid machine) where
  -- SAMPLES or OUT could not be opened
  sim_not_opened : IsNotOpened samples out mid new → IsSimError mic samples out old new Desk
  sim_not_opened = ⊎_elim
      (λ unread. inl (record {
        unchanged = unchanged_still old mid new unread.0 first.unchanged;
        rose =
            inr (unopened_from samples mic microcode_limit (HasSomeImage mic) old mid new first.never_fall loaded.read
            (λ files is. (loaded.image, loaded.specified files is)) unread.0 unread.1);
      }))
      (λ not. inr (record {
        image = loaded.image;
        specified = loaded.specified;
        ended = inl (not_created_from samples out old mid new first.unchanged.files first.never_fall not);
      }))

  module _ (after : Snapshot) (ending : Status) (ran : RunsFiles samples out machine after mid new ending) where
    fall : FaultsNeverFall old ran.mid
    fall = never_fall_trans old mid ran.mid first.never_fall ran.never_fall

    opened : IsOpened samples out old ran.mid
    opened = opened_from samples out old mid ran.mid first.unchanged.files ran.opened

    sim_stopped : (fault : StreamFault)
        → IsEndedEarly samples out (channels_of loaded.image.inputs) (IsRunOut (microprogram_of loaded.image))
        (IsConflictInLast (microprogram_of loaded.image) []) old new fault
        → IsSimError mic samples out old new (status_of fault)
    sim_stopped stream.Desk h = inr (record { image = loaded.image; specified = loaded.specified; ended = h })
    sim_stopped (stream.Row fault) h = record { image = loaded.image; specified = loaded.specified; ended = h }
    sim_stopped stream.TooLong h = record { image = loaded.image; specified = loaded.specified; ended = h }
    sim_stopped (stream.Conflict conflict) h = record { image = loaded.image; specified = loaded.specified; ended = h }

    abbrev its_channels : List Channel
    its_channels = channels_of (inputs_of machine.code)

    sim_through :
        IsRunThrough (samples_limit + 1) its_channels
        (λ rows puts. RunsRows (micro_of machine.code) (state_of machine) rows puts (state_of after)) ran.mid new
        → IsSimulated mic samples out after old new
    sim_through h = record {
      finished = run_finished samples out old ran.mid new fall opened ran.only its_channels _ h;
      image = loaded.image;
      stream = h.run.rows;
      text = printed h.run.put.puts;
      ran =
          fresh_run loaded.image machine after h.run.rows h.run.put.puts loaded.fresh loaded.code ran.code
          h.run.put.given;
      specified = λ files is. record {
        microcode = loaded.specified files is;
        samples_are =
            subst (λ (code : Microcode).
            AreSamples (channels_of (inputs_of code)) (content_of (files samples)) h.run.rows)
            loaded.code
            (run_samples_are samples out old ran.mid new fall opened ran.only its_channels _ h files is);
      };
      put = run_put samples out old ran.mid new fall opened ran.only its_channels _ h;
    }

    sim_ended : (ending ≡ Done → ⊥) → IsSimError mic samples out old new ending
    sim_ended not_done =
        let fresh = loaded.fresh in
        let micro = micro_of machine.code in
        let channels = channels_of (inputs_of machine.code) in
        ⊎_elim
        (λ done. absurd (not_done done.0))
        (λ stopped.
        subst (IsSimError mic samples out old new) (sym stopped.1)
        (sim_stopped stopped.0
        (subst (λ (code : Microcode).
        IsEndedEarly samples out (channels_of (inputs_of code)) (IsRunOut (micro_of code))
        (IsConflictInLast (micro_of code) []) old new stopped.0)
        loaded.code
        (ended_early samples out old ran.mid new fall opened ran.only channels (PutsRows micro (state_of machine))
        (IsRunOut micro)
        (λ rows conflict. StopsInLast micro (state_of machine) rows conflict (state_of after))
        (IsConflictInLast micro [])
        (λ rows puts is. fresh_puts machine fresh rows puts)
        (λ rows conflict is. fresh_meets machine fresh (state_of after) rows conflict) stopped.0 stopped.2))))
        ran.ends

  pub sim_done : (after : Snapshot)
      → RunsFiles samples out machine after mid new Done
      → IsSimulated mic samples out after old new
  sim_done after ran =
      ⊎_elim (λ done. sim_through after Done ran done.1) (λ stopped. absurd (not_stopped stopped.0 stopped.1)) ran.ends

  pub sim_error : (ending : Status)
      → IsNotRunOver samples out machine mid new ending
      → IsSimError mic samples out old new ending
  sim_error ending = ⊎_elim
      (λ desk. subst (IsSimError mic samples out old new) (sym desk.0) (sim_not_opened desk.1))
      (λ ran. sim_ended ran.0 ending ran.2 ran.1)

-- why no machine was made of MIC is why `sim` ends
pub sim_unloaded : (mic samples out : Name) (old new : View) (status : Status)
    → OnlyReads (IsAmong (mic ∷ [])) old new
    → IsLoadError mic old new status
    → IsSimError mic samples out old new status
sim_unloaded mic samples out old new status reads =
    let answer : Status → Type 0 = IsSimError mic samples out old new in
    ⊎_elim (λ m. subst answer (sym m) reads.unchanged)
    (⊎_elim (λ d. subst answer (sym d.0) (inl (record { unchanged = reads.unchanged; rose = inl d.1 })))
    (λ l. subst answer (sym l.1) (l.2, record { unchanged = reads.unchanged; read = l.3.read; why = l.3.why })))

-- a report of the error leaves the answer of `sim` as it is
module _ (mic samples out : Name) (old mid new : View) (same : IsUnchanged mid new) (later : FaultsNeverFall mid new)
    (before : FaultsNeverFall old mid) where
  sim_unread_still : IsSimUnread mic samples old mid → IsSimUnread mic samples old new
  sim_unread_still h = record {
    unchanged = unchanged_still old mid new same h.unchanged;
    rose = ⊎_elim (λ r. inl (rose_earlier _ _ _ (before.reading mic) r (later.reading mic)))
        (λ r. inr (unopened_still samples out old mid new same later before mic microcode_limit (HasSomeImage mic) r))
        h.rose;
  }

  sim_stopped_still : (fault : StreamFault)
      → IsSimStopped mic samples out old mid fault
      → IsSimStopped mic samples out old new fault
  sim_stopped_still fault h = record {
    image = h.image;
    specified = h.specified;
    ended =
        ended_still samples out old mid new same later before (channels_of h.image.inputs)
        (IsRunOut (microprogram_of h.image))
        (IsConflictInLast (microprogram_of h.image) []) fault h.ended;
  }

  pub simulated_still : (machine : Snapshot)
      → IsSimulated mic samples out machine old mid
      → IsSimulated mic samples out machine old new
  simulated_still machine h = record {
    finished = finished_still old mid new same samples samples_limit h.finished;
    image = h.image;
    stream = h.stream;
    text = h.text;
    ran = h.ran;
    specified = h.specified;
    put = specified_still old mid new same (IsPut out h.text) h.put;
  }

  pub sim_reported : (status : Status)
      → IsSimError mic samples out old mid status
      → IsSimError mic samples out old new status
  sim_reported Memory h = unchanged_still old mid new same h
  sim_reported Desk h =
      ⊎_elim (λ early. inl (sim_unread_still early)) (λ late. inr (sim_stopped_still stream.Desk late)) h
  sim_reported (bad_image fault) h = (h.0, rejected_still old mid new same mic microcode_limit _ h.1)
  sim_reported (bad_samples (sample_fault.Row line at)) h =
      sim_stopped_still (stream.Row (record { line = line; at = at })) h
  sim_reported (bad_samples sample_fault.TooLong) h = sim_stopped_still stream.TooLong h
  sim_reported (in_conflict conflict) h = sim_stopped_still (stream.Conflict conflict) h
  sim_reported other h = h
