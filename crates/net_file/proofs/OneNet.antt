-- A text describes one net at most.
use Rattle.std.proofs.Common.{◌≡◌, ◌∙◌, ◌+◌, ℕ, List, [], ◌∷◌, Option, Some, None, Result, Ok, refl, sym, ap, ap₂}
use Rattle.std.proofs.Common.{subst}
use Rattle.std.specs.Prelude.{MatchOption}
use Rattle.toml.specs.Data.{Members, get_member}
use Rattle.toml_rows.specs.Rows.{Row, IsValue}
use Rattle.net_core.specs.declared.types.NetFile.{NetFile}
use Rattle.net_core.specs.declared.types.NetProc.{NetProc}
use Rattle.net_core.specs.declared.types.Wire.{Wire}
use Rattle.net_file.specs.Described.{IsProcIn, AreProcsIn, IsNetIn, IsNetOf}
use Rattle.net_file.specs.Table as row

one_match : {A D M : Type 0} (found : Option D) (default : Option A) (value : D → Result A M) (x y : A)
    → MatchOption found (default ≡ Some x) (λ d. value d ≡ Ok x)
    → MatchOption found (default ≡ Some y) (λ d. value d ≡ Ok y)
    → x ≡ y
one_match None default value x y h k = let same = sym h ∙ k in cc
one_match (Some d) default value x y h k = let same = sym h ∙ k in cc

one_value : {A : Type 0} (r : Row A) (t : Members) (x y : A) → IsValue r t x → IsValue r t y → x ≡ y
one_value r t x y = one_match (get_member r.key t) r.default r.value x y

one_proc : (inputs p : ℕ) (t : Members) (a b : NetProc) → IsProcIn inputs p t a → IsProcIn inputs p t b → a ≡ b
one_proc inputs p t a b h k =
    let src = one_value row.src t a.src b.src h.src k.src in
    let dp = one_value row.dp t a.dp b.dp h.dp k.dp in
    let feed = one_value (row.feed inputs p) t a.feed b.feed h.feed k.feed in
    ap₂ (λ (s d : List ℕ). (let proc : NetProc = record { src = s; dp = d; feed = a.feed } in proc)) src dp
    ∙ ap (λ (f : List Wire). (let proc : NetProc = record { src = b.src; dp = b.dp; feed = f } in proc)) feed

all_procs : (inputs p : ℕ) (ts : List Members) (a b : List NetProc)
    → AreProcsIn inputs p ts a
    → AreProcsIn inputs p ts b
    → a ≡ b
all_procs inputs p [] [] [] h k = refl
all_procs inputs p [] [] (y ∷ b) h k = absurd k
all_procs inputs p [] (x ∷ a) b h k = absurd h
all_procs inputs p (t ∷ ts) [] b h k = absurd h
all_procs inputs p (t ∷ ts) (x ∷ a) [] h k = absurd k
all_procs inputs p (t ∷ ts) (x ∷ a) (y ∷ b) h k =
    ap₂ (λ (z : NetProc) (zs : List NetProc). z ∷ zs) (one_proc inputs p t x y h.0 k.0)
    (all_procs inputs (p + 1) ts a b h.1 k.1)

one_in : (t : Members) (a b : NetFile) → IsNetIn t a → IsNetIn t b → a ≡ b
one_in t a b h k =
    let inputs = one_value row.inputs t a.inputs b.inputs h.inputs k.inputs in
    let capacity = one_value row.capacity t a.capacity b.capacity h.capacity k.capacity in
    let tables = one_value row.proc t h.proc k.proc h.proc_is k.proc_is in
    let procs : a.procs ≡ b.procs =
    all_procs b.inputs 0 k.proc a.procs b.procs
    (subst (λ (n : ℕ). AreProcsIn n 0 k.proc a.procs) inputs
    (subst (λ (ts : List Members). AreProcsIn a.inputs 0 ts a.procs) tables h.procs)) k.procs in
    ap₂ (λ (i c : ℕ). (let net : NetFile = record { inputs = i; capacity = c; procs = a.procs } in net)) inputs capacity
    ∙ ap (λ (ps : List NetProc). (let net : NetFile = record { inputs = b.inputs; capacity = b.capacity; procs = ps } in
    net)) procs

pub one_net : (text : List ℕ) (a b : NetFile) → IsNetOf text a → IsNetOf text b → a ≡ b
one_net text a b h k =
    let both = sym h.toml ∙ k.toml in
    let same : h.table ≡ k.table = cc in
    one_in k.table a b (subst (λ (t : Members). IsNetIn t a) same h.net_in) k.net_in
