-- OUT was written after a net was run, or not all of it.
use Rattle.std.proofs.Common.{◌≡◌, ◌≢◌, inl, inr}
use Rattle.desk_core.specs.View.{Name, Content, View}
use Rattle.desk_core.specs.Desk.{WriteFaultsRose, IsPut}
use Rattle.desk_core.specs.Whole.{IsWrittenWhole, IsWrittenInPart}
use Rattle.desk_core.proofs.DeskLemmas.{specified_from}
use Rattle.net_command.specs.Net.{net_samples_limit, IsNetInput, IsNetDone, IsNetError}
use Rattle.net_command.specs.Private.Running.{IsRun}
use Rattle.proc_net.specs.Nets.{NetState}
use Rattle.silc_files.specs.Reading.{OnlyReads}
use Rattle.silc_files.proofs.Endings.{finished, not_written}
use Rattle.statuses.specs.declared.status.Status.{Status}
use Rattle.statuses.specs.declared.status.Status.TheVariants.{Desk}

module _ (net samples out : Name) (apart : out ≢ samples) (old mid new : View) (joined : NetState) (text : Content)
    (run : IsRun net samples out joined text old mid) (reads : OnlyReads (IsNetInput net samples out old) old mid) where
  pub done : IsWrittenWhole out text mid new → IsNetDone net samples out joined old new
  done written = record {
    finished = finished samples out net_samples_limit text old mid new apart run.read written;
    text = text;
    made = run.made;
    put = specified_from (IsPut out text) old.files mid.files new.files reads.unchanged.files written.files;
  }

  pub cut_short : WriteFaultsRose out mid new
      → IsWrittenInPart out text mid new
      → (status : Status)
      → status ≡ Desk
      → IsNetError net samples out old new status
  cut_short rose written status desk =
      inr
      (inr
      (inl (
        desk,
        record {
          joined = joined;
          text = text;
          made = run.made;
          written =
              not_written samples out net_samples_limit text old mid new apart run.read reads.unchanged.files
              reads.never_fall rose written;
        },
      )))
