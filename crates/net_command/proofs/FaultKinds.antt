-- Which faults a table of rules can tell: those of a net's text and names are none of a wire, those of its joints are.
use Rattle.std.proofs.Common.{◌+◌, ℕ, zero, suc, List, [], ◌∷◌, Option, Some, None, subst, sym, inl, inr}
use Rattle.desk_core.specs.View.{Name, Content, View}
use Rattle.desk_core.specs.Whole.{IsReadThrough}
use Rattle.fault_order.specs.Rules.{Rules, RuleRow, parts, own, none, ◌▸◌, each, each_from, faults, row_faults}
use Rattle.net_command.specs.Net.{AreProcsRead, IsReadToFault}
use Rattle.net_command.specs.Private.Reading.{HasTextFault}
use Rattle.net_core.specs.declared.fault.NetFault.{NetFault}
use Rattle.net_core.specs.declared.fault.NetFault.TheVariants as fault
use Rattle.net_core.specs.declared.types.NetFile.{NetFile}
use Rattle.net_core.specs.declared.types.NetProc.{NetProc}
use Rattle.net_file.specs.NetRules.{document_rules, file_rules}
use Rattle.net_fit.specs.Joints.{joint_rules, proc_rules, wire_rule}
use Rattle.net_fit.specs.Names.{name_rules, read_rule, output_rule}
use Rattle.net_fit.specs.declared.ports.Ports.{Ports}
use Rattle.silc_files.specs.Limits.{text_limit}

module _ (P : NetFault → Type 0) where
  -- each fault of the table is one of these
  abbrev mutual
    pub Tells : Rules NetFault → Type 0
    Tells (parts rules) = TellsIn rules
    Tells (own holds g rules) = P g × TellsIn rules

    pub TellsIn : RuleRow NetFault → Type 0
    TellsIn none = Unit {0}
    TellsIn (x ▸ rules) = Tells x × TellsIn rules

  mutual
    pub told : (x : Rules NetFault) → Tells x → (r : List ℕ) (f : NetFault) → faults x r f → P f
    told (parts rules) all [] f h = absurd h
    told (parts rules) all (k ∷ r) f h = told_in rules all k r f h
    told (own holds g rules) all [] f h = subst P (sym h.1) all.0
    told (own holds g rules) all (k ∷ r) f h = told_in rules all.1 k r f h

    told_in : (rules : RuleRow NetFault)
        → TellsIn rules
        → (k : ℕ) (r : List ℕ) (f : NetFault)
        → row_faults rules k r f
        → P f
    told_in none all k r f h = absurd h
    told_in (x ▸ rules) all zero r f h = told x all.0 r f h
    told_in (x ▸ rules) all (suc k) r f h = told_in rules all.1 k r f h

  tells_each : {A : Type 0} (G : A → Rules NetFault) → ((x : A) → Tells (G x)) → (xs : List A) → TellsIn (each G xs)
  tells_each G all [] = tt
  tells_each G all (x ∷ xs) = (all x, tells_each G all xs)

  tells_from : {A : Type 0} (G : ℕ → A → Rules NetFault)
      → ((k : ℕ) (x : A) → Tells (G k x))
      → (k : ℕ) (xs : List A)
      → TellsIn (each_from G k xs)
  tells_from G all k [] = tt
  tells_from G all k (x ∷ xs) = (all k x, tells_from G all (k + 1) xs)

-- a fault of NET's text or names
abbrev pub IsOfText : NetFault → Type 0
IsOfText (fault.Count p) = ⊥
IsOfText (fault.Feed p w) = ⊥
IsOfText other = Unit {0}

-- a fault of its wires
abbrev pub IsOfWire : NetFault → Type 0
IsOfWire (fault.Count p) = Unit {0}
IsOfWire (fault.Feed p w) = Unit {0}
IsOfWire other = ⊥

document_tells : (d : Option _) → Tells IsOfText (document_rules d)
document_tells None = (tt, tt)
document_tells (Some t) = (
  (tt, tt),
  (
    ((tt, tt), ((tt, tt), ((tt, tt), tt))),
    (
      ((tt, tt), ((tt, tt), ((tt, tt), tt))),
      (
        ((tt, tt), ((tt, tt), ((tt, tt), tt))),
        (
          tells_from IsOfText _ (λ p of. (
            (tt, tt),
            (
              ((tt, tt), ((tt, tt), ((tt, tt), tt))),
              (((tt, tt), ((tt, tt), ((tt, tt), tt))), (((tt, tt), ((tt, tt), ((tt, tt), tt))), tt)),
            ),
          ))
              0 _,
          tt,
        ),
      ),
    ),
  ),
)

file_tells : (bytes : Content) → Tells IsOfText (file_rules bytes)
file_tells bytes = (tt, (document_tells _, tt))

name_tells : (file : NetFile) (out : Name) → Tells IsOfText (name_rules file out)
name_tells file out = (
  tells_each IsOfText (read_rule file.procs) (λ j. (tt, tt)) _,
  (tells_from IsOfText (output_rule out) (λ p proc. (tt, tt)) 0 file.procs, tt),
)

pub text_told : (text : Content) (out : Name) (f : NetFault) → HasTextFault text out f → IsOfText f
text_told text out f (inl first) = told IsOfText (file_rules text) (file_tells text) first.rank f first.here
text_told text out f (inr has) =
    told IsOfText (name_rules has.file out) (name_tells has.file out) has.first.rank f has.first.here

joint_tells : (procs : List NetProc) (ports : List Ports) → Tells IsOfWire (joint_rules procs ports)
joint_tells procs ports =
    tells_from IsOfWire (proc_rules procs ports)
    (λ p proc. (tt, tells_from IsOfWire (wire_rule procs ports p) (λ w wire. (tt, tt)) 0 proc.feed)) 0 procs

pub wire_told : (procs : List NetProc) (ports : List Ports) (r : List ℕ) (f : NetFault)
    → faults (joint_rules procs ports) r f
    → IsOfWire f
wire_told procs ports = told IsOfWire (joint_rules procs ports) (joint_tells procs ports)

module _ (net out : Name) (old new : View) where
  pub text_read : (f : NetFault) → IsOfText f → IsReadThrough net text_limit old new → IsReadToFault net out f old new
  text_read (fault.Count p) of read = absurd of
  text_read (fault.Feed p w) of read = absurd of
  text_read other of read = read

  pub wire_read : (f : NetFault) → IsOfWire f → AreProcsRead net out old new → IsReadToFault net out f old new
  wire_read (fault.Count p) of read = read
  wire_read (fault.Feed p w) of read = read
  wire_read other of read = absurd of
