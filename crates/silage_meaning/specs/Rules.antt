-- Two rules on the elements of a program: each is defined once, and none depends on itself without a delay.
use Rattle.std.specs.Prelude.{◌≡◌, ◌⊎◌, ℕ, Option}
use Rattle.silage_syntax.specs.declared.tree.Decl.{Decl}
use Rattle.silage_syntax.specs.Tree.{Manifest, Place, Expr, literal, read, negate, not, binary, shift, cast, choose}
use Rattle.silage_syntax.specs.Tree.{Branches, no_branch, branch, Program}
use Rattle.silage_syntax.specs.Manifests.{LooksBack}
use Rattle.silage_meaning.specs.Instances.{Element, element, IsElement, Site, IsSignal}
use Rattle.silage_meaning.specs.Solves.{Source, word, value, same, number, IsDefined}

-- the element has a definition, and no other
pub record IsDefinedOnce (p : Program) (e : Element) : Type 0 where
  pub source : Source
  pub defined : IsDefined p e source
  pub only : (other : Source) → IsDefined p e other → other ≡ source

abbrev pub HasSingleDefinitions : Program → Type 0
HasSingleDefinitions p = (e : Element) → IsElement p e → IsDefinedOnce p e

-- a read at the site reads this element, this many samples ago
pub data ReadsAt (s : Site) (place : Place) (delay : Option Manifest) (e : Element) (ago : ℕ) : Type 0 where
  reads_at : (d k : ℕ) (decl : Decl)
      → IsSignal s place d decl k
      → LooksBack s.indices delay ago
      → e ≡ element s.instance d k
      → ReadsAt s place delay e ago

-- what an expression at the site reads, in all conditions, branches and factors
abbrev mutual
  pub Reads : Site → Expr → Element → (ago : ℕ) → Type 0
  Reads s (literal l) e ago = ⊥
  Reads s (read place delay) e ago = ReadsAt s place delay e ago
  Reads s (negate at x) e ago = Reads s x e ago
  Reads s (not at x) e ago = Reads s x e ago
  Reads s (binary at o x y) e ago = Reads s x e ago ⊎ Reads s y e ago
  Reads s (shift at left x amount) e ago = Reads s x e ago
  Reads s (cast at ty x) e ago = Reads s x e ago
  Reads s (choose at branches last) e ago = BranchesRead s branches e ago ⊎ Reads s last e ago

  pub BranchesRead : Site → Branches → Element → (ago : ℕ) → Type 0
  BranchesRead s no_branch e ago = ⊥
  BranchesRead s (branch condition x rest) e ago =
      Reads s condition e ago ⊎ (Reads s x e ago ⊎ BranchesRead s rest e ago)

abbrev pub SourceReads : Source → Element → (ago : ℕ) → Type 0
SourceReads (word j) e ago = ⊥
SourceReads (value s x ty) e ago = Reads s x e ago
SourceReads (same other theirs ours) e ago = (e ≡ other) × (ago ≡ 0)
SourceReads (number c k ty) e ago = ⊥

-- a definition of the first element reads the second at the same sample
abbrev pub NeedsNow : Program → Element → Element → Type 0
NeedsNow p e d = (source : Source) × IsDefined p e source × SourceReads source d 0

-- the first element depends on the second without a delay, in one step or more
pub data DependsNow (p : Program) : Element → Element → Type 0 where
  direct : {e c : Element} → NeedsNow p e c → DependsNow p e c
  by_way_of : {e c : Element} (d : Element) → NeedsNow p e d → DependsNow p d c → DependsNow p e c

abbrev pub HasNoDelaylessLoop : Program → Type 0
HasNoDelaylessLoop p = (e : Element) → IsElement p e → DependsNow p e e → ⊥
