-- A status names one fault of a stream, so the rows keep the fault that the status tells.
use Rattle.std.proofs.Common.{◌≡◌, ap, ap₂, ◌∙◌, Some}
use Rattle.sample_io.specs.declared.RowFault.{RowFault}
use Rattle.sample_io.specs.FedRows.{FedRows}
use Rattle.sample_loops.specs.Streams.{IsKept}
use Rattle.sample_loops.specs.declared.stream.StreamFault.{StreamFault}
use Rattle.sample_loops.specs.declared.stream.StreamFault.TheVariants as stream
use Rattle.sample_commands.specs.StreamEnds.{status_of}
use Rattle.statuses.specs.declared.status.SampleFault.TheVariants as sample_fault
use Rattle.statuses.specs.declared.status.Status.TheVariants.{Done, Samples}

-- a run that is done told no fault
pub done_keeps : (rows : FedRows) (fault : StreamFault) → Done ≡ status_of fault → IsKept rows fault
done_keeps rows stream.Desk e = tt
done_keeps rows (stream.Row place) e = absurd (cc)
done_keeps rows stream.TooLong e = tt
done_keeps rows (stream.Conflict conflict) e = tt

same_place : (told place : RowFault)
    → Samples (sample_fault.Row told.line told.at) ≡ Samples (sample_fault.Row place.line place.at)
    → told ≡ place
same_place told place e =
    let line : told.line ≡ place.line = cc in
    let at : told.at ≡ place.at = cc in
    ap₂ {C = RowFault} (λ l a. record { line = l; at = a }) line at

pub told_keeps : (rows : FedRows) (told fault : StreamFault)
    → status_of told ≡ status_of fault
    → IsKept rows told
    → IsKept rows fault
told_keeps rows told stream.Desk e kept = tt
told_keeps rows told stream.TooLong e kept = tt
told_keeps rows told (stream.Conflict conflict) e kept = tt
told_keeps rows (stream.Row told) (stream.Row place) e kept =
    kept ∙ ap (λ (f : RowFault). Some f) (same_place told place e)
told_keeps rows stream.Desk (stream.Row place) e kept = absurd (cc)
told_keeps rows stream.TooLong (stream.Row place) e kept = absurd (cc)
told_keeps rows (stream.Conflict conflict) (stream.Row place) e kept = absurd (cc)
