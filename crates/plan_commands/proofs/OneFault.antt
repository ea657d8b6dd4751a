-- A source has one fault at most, and a file that describes no datapath has one.
use Rattle.std.proofs.Common.{◌≡◌, ◌∙◌, sym, ⊎_elim, Result, Ok, Err}
use Rattle.datapath.specs.Described.{IsPathOf}
use Rattle.datapath.specs.PathRules.{IsPathFault}
use Rattle.datapath.specs.declared.fault.PathFault.{PathFault}
use Rattle.datapath.specs.declared.types.Datapath.{Datapath}
use Rattle.datapath.proofs.DescribedPath.{is_read}
use Rattle.datapath.proofs.FirstPath.{first_read}
use Rattle.desk_core.specs.View.{Content}
use Rattle.source_faults.specs.Faults.{IsFrontFault, IsOfSource}
use Rattle.source_faults.specs.declared.fault.FrontError.TheVariants.{Fault, Memory as front_memory}
use Rattle.source_faults.specs.declared.fault.FrontFault.{FrontFault}
use Rattle.front_end.proofs.OneAnswer.{fault_error}

pub one_source_fault : (s : Content) (f g : FrontFault) → IsOfSource f → IsFrontFault s f → IsFrontFault s g → f ≡ g
one_source_fault s f g is has have = ⊎_elim (λ e. same e) (λ e. never e) (fault_error s (Fault f) (is, has) g have)
  where
    same : Fault f ≡ Fault g → f ≡ g
    same e = cc

    never : Fault f ≡ front_memory → f ≡ g
    never e = absurd (cc)

abbrev pub no_path : PathFault → Result Datapath PathFault
no_path fault = Err fault

pub one_path_fault : (d : Content) (f g : PathFault) → IsPathFault d f → IsPathFault d g → f ≡ g
one_path_fault d f g has have = let both : no_path f ≡ no_path g = sym (first_read d f has) ∙ first_read d g have in cc

-- a file that describes a datapath has none
pub path_or_not : (d : Content) (path : Datapath) → IsPathOf d path → (fault : PathFault) → IsPathFault d fault → ⊥
path_or_not d path described fault has =
    absurd (let both : Ok path ≡ no_path fault = sym (is_read d path described) ∙ first_read d fault has in cc)
