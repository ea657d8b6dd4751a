-- The files of a net's processors are read one after the other.
use Rattle.std.proofs.Common.{◌≡◌, ◌∙◌, ◌+◌, ◌<◌, ◌++◌, ℕ, List, [], ◌∷◌, length, take, drop, get_or, sym, ap}
use Rattle.std.proofs.Common.{subst, inl, inr, add-one}
use Rattle.std.specs.List.{AllZip}
use Rattle.std.proofs.Math.Seq.{take-suc}
use Rattle.std.proofs.lemmas.Grind.{flat_map-append}
use Rattle.std.proofs.lemmas.List.{map-append, take-append-drop, flat_map_more, length_push}
use Rattle.lists.proofs.Zips.{zip_push}
use Rattle.desk_core.specs.View.{Name, Files, View}
use Rattle.desk_core.specs.Desk.{WhereSpecified, content_of}
use Rattle.desk_core.specs.Whole.{IsReadThrough}
use Rattle.desk_core.proofs.DeskLemmas.{rose_later}
use Rattle.desk_core.proofs.WholeLemmas.{through_from}
use Rattle.net_command.specs.Net.{IsLastPathRead}
use Rattle.net_command.specs.Processors.{ProcFiles, files_of, names_of}
use Rattle.net_command.specs.Private.Prepared.{HasInputs}
use Rattle.net_command.specs.Private.Reading.{AreUnreadable}
use Rattle.net_core.specs.declared.types.NetProc.{NetProc}
use Rattle.plan_commands.specs.declared.planning.Inputs.{Inputs}
use Rattle.silc_files.specs.Endings.{IsAmong}
use Rattle.silc_files.specs.Limits.{text_limit}
use Rattle.silc_files.specs.Reading.{OnlyReads}
use Rattle.silc_files.proofs.Endings.{among_first, among_more, reads_more, reads_wider}
use Rattle.statuses.specs.declared.status.Status.{Status}

-- the names of a processor's files
abbrev pub own_names : NetProc → List Name
own_names proc = proc.src ∷ proc.dp ∷ []

abbrev own_files : Files → NetProc → ProcFiles
own_files files proc = record { source = content_of (files proc.src); datapath = content_of (files proc.dp) }

-- the processors before this one were read; `all` has what they hold
pub record AreReadTo (procs : List NetProc) (k : ℕ) (old new : View) (all : List Inputs) : Type 0 where
  pub reads : OnlyReads (IsAmong (names_of (take k procs))) old new
  pub have : WhereSpecified old (λ files. AllZip HasInputs (files_of files (take k procs)) all)
  pub count : length all ≡ k
  pub through : 0 < k → IsLastPathRead (take k procs) old new

module _ (procs : List NetProc) (k : ℕ) (proc : NetProc) (below : k < length procs) (is : proc ≡ get_or procs k proc)
  where
    next : take (k + 1) procs ≡ take k procs ++ proc ∷ []
    next =
        ap (λ n. take n procs) (add-one k) ∙ take-suc procs k proc below
        ∙ ap (λ (p : NetProc). take k procs ++ p ∷ []) (sym is)

    next_names : names_of (take k procs) ++ own_names proc ≡ names_of (take (k + 1) procs)
    next_names = flat_map_more own_names [] (take k procs) proc ∙ ap names_of (sym next)

    -- a name of the first processors is one of all
    among_all : (n : ℕ) (name : Name) → IsAmong (names_of (take n procs)) name → IsAmong (names_of procs) name
    among_all n name h =
        subst (λ (ps : List NetProc). IsAmong (names_of ps) name) (take-append-drop n procs)
        (subst (λ (ns : List Name). IsAmong ns name) (sym (flat_map-append own_names (take n procs) (drop n procs)))
        (among_first (names_of (take n procs)) (names_of (drop n procs)) name h))

    own_among : (name : Name) → IsAmong (own_names proc) name → IsAmong (names_of procs) name
    own_among name h =
        among_all (k + 1) name
        (subst (λ (ns : List Name). IsAmong ns name) next_names
        (among_more (names_of (take k procs)) (own_names proc) name h))

    module _ (old mid new : View) (all : List Inputs) (so_far : AreReadTo procs k old mid all)
        (reads : OnlyReads (IsAmong (own_names proc)) mid new) where
      both : OnlyReads (IsAmong (names_of (take (k + 1) procs))) old new
      both =
          subst (λ (ns : List Name). OnlyReads (IsAmong ns) old new) next_names
          (reads_more (names_of (take k procs)) (own_names proc) old mid new so_far.reads reads)

      -- no other name was read
      pub reads_all : OnlyReads (IsAmong (names_of procs)) old new
      reads_all =
          reads_wider (IsAmong (names_of (take (k + 1) procs))) (IsAmong (names_of procs)) old new (among_all (k + 1))
          both

      pub one_more : (inputs : Inputs) (more : List Inputs)
          → WhereSpecified mid (λ files. AllZip HasInputs (files_of files (proc ∷ [])) (inputs ∷ []))
          → IsReadThrough proc.dp text_limit mid new
          → more ≡ all ++ inputs ∷ []
          → AreReadTo procs (k + 1) old new more
      one_more inputs more have through pushed = record {
        reads = both;
        have = λ files at.
            subst (λ (ps : List NetProc). AllZip HasInputs (files_of files ps) more) (sym next)
            (subst (λ (fs : List ProcFiles). AllZip HasInputs fs more)
            (sym (map-append (own_files files) (take k procs) (proc ∷ [])))
            (subst (AllZip HasInputs (files_of files (take k procs) ++ own_files files proc ∷ [])) (sym pushed)
            (zip_push HasInputs (files_of files (take k procs)) all (own_files files proc) inputs
            (so_far.have files at) (have files (so_far.reads.unchanged.files ∙ at)).0)));
        count = ap length pushed ∙ length_push all inputs ∙ ap (λ n. n + 1) so_far.count;
        through = λ some. record {
          before = take k procs;
          last = proc;
          procs_are = next;
          read = through_from proc.dp text_limit old mid new so_far.reads.unchanged.files through;
        };
      }

      pub unread : (status : Status)
          → AreUnreadable (own_names proc) mid new status
          → AreUnreadable (names_of procs) old new status
      unread status (inl memory) = inl memory
      unread status (inr (desk, (name, among, rose))) =
          inr (desk, (name, own_among name among, rose_later _ _ _ (so_far.reads.never_fall.reading name) rose))
