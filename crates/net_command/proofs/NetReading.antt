-- Why NET gives no net, and why a file that it names was not read.
use Rattle.std.proofs.Common.{◌≡◌, ◌<◌, ◌^◌, ◌⊎◌, length, false, refl, subst, inl, inr}
use Rattle.std.proofs.Common.{⊎_elim, arith, nat_le, ap}
use Rattle.std.proofs.lemmas.Bool.Decides.{nat_tests}
use Rattle.desk_core.specs.View.{Name, Content, View}
use Rattle.desk_core.specs.Desk.{WhereSpecified, content_of}
use Rattle.desk_core.specs.Whole.{IsReadThrough}
use Rattle.fault_order.proofs.FirstFaults.{own_first}
use Rattle.net_command.proofs.FaultKinds.{text_told, text_read}
use Rattle.net_command.specs.Net.{IsOfNet}
use Rattle.net_command.specs.Nets.{HasNet}
use Rattle.net_command.specs.Private.Reading.{HasTextFault, IsNoNet, IsNetUnreadable}
use Rattle.net_core.specs.Allowed.{IsNetFile}
use Rattle.net_core.specs.declared.fault.NetFault.{NetFault}
use Rattle.net_core.specs.declared.fault.NetFault.TheVariants as fault
use Rattle.net_core.specs.declared.types.NetFile.{NetFile}
use Rattle.net_file.specs.Described.{IsNetOf}
use Rattle.net_file.specs.NetRules.{IsNetFileFault, HasNoFault}
use Rattle.silc_files.specs.Limits.{text_limit}
use Rattle.silc_files.specs.Reading.{IsReadError}
use Rattle.statuses.specs.Faults.{of_net}
use Rattle.statuses.specs.declared.status.Status.{Status}
use Rattle.statuses.specs.declared.status.Status.TheVariants.{Memory, Net}

-- the status of a fault, which is one of nets but for want of memory
pub net_status : (f : NetFault) → (of_net f ≡ Memory) ⊎ ((of_net f ≡ Net f) × IsOfNet f)
net_status fault.Memory = inl refl
net_status fault.TooLong = inr (refl, tt)
net_status fault.NotToml = inr (refl, tt)
net_status (fault.UnknownKey s) = inr (refl, tt)
net_status (fault.Missing s) = inr (refl, tt)
net_status (fault.WrongKind s) = inr (refl, tt)
net_status (fault.Range s) = inr (refl, tt)
net_status (fault.Unfed j) = inr (refl, tt)
net_status (fault.Overwrites p) = inr (refl, tt)
net_status (fault.Count p) = inr (refl, tt)
net_status (fault.Feed p w) = inr (refl, tt)

module _ (text : Content) (out : Name) where
  pub text_fault : (f : NetFault) → HasTextFault text out f → IsNoNet text out (of_net f)
  text_fault f has = ⊎_elim (λ memory. inl memory) (λ of. inr (f, of.0, of.1, has)) (net_status f)

  -- the text is no net
  pub file_fault : (f : NetFault) → (f ≡ fault.Memory) ⊎ IsNetFileFault text f → IsNoNet text out (of_net f)
  file_fault f (inl memory) = inl (ap of_net memory)
  file_fault f (inr is) = text_fault f (inl is)

-- a text that is too long
pub too_long : (text : Content) → text_limit < length text → IsNetFileFault text fault.TooLong
too_long text h =
    let test : nat_le (length text) (2 ^ 20) ≡ false = grind (arith, nat_tests) in
    own_first (nat_le (length text) (2 ^ 20) ≡ false) fault.TooLong _ test

module _ (net out : Name) (old new : View) where
  pub not_read : (status : Status)
      → IsReadError net text_limit (Net fault.TooLong) old new status
      → IsNetUnreadable net out old new status
  not_read status (inl memory) = inl memory
  not_read status (inr (inl desk)) = inr (inl desk)
  not_read status (inr (inr long)) =
      inr
      (inr (
        fault.TooLong,
        long.0,
        tt,
        long.1.read,
        λ files is. inl (too_long (content_of (files net)) (long.1.above files is)),
      ))

  pub no_net : (text : Content)
      → IsReadThrough net text_limit old new
      → WhereSpecified old (λ files. text ≡ content_of (files net))
      → (status : Status)
      → IsNoNet text out status
      → IsNetUnreadable net out old new status
  no_net text read is status (inl memory) = inl memory
  no_net text read is status (inr (f, told, of, has)) =
      inr (inr (
        f,
        told,
        of,
        text_read net out old new f (text_told text out f has) read,
        λ files at. subst (λ (t : Content). HasTextFault t out f) (is files at) has,
      ))

-- what was read is a net of the text
pub has_net : (read text : Content) (file : NetFile)
    → read ≡ text
    → IsNetOf read file
    → IsNetFile file
    → HasNoFault read
    → HasNet text file
has_net read text file same described allowed clear = record {
  described = subst (λ (t : Content). IsNetOf t file) same described;
  allowed = allowed;
  clear = subst HasNoFault same clear;
}
