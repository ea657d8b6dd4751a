-- What is read of a file is what it describes, within the ranges of a net; and the fault that is met is the first.
use Rattle.std.proofs.Common.{◌≡◌, ◌≢◌, ◌^◌, ◌⊎◌, ℕ, ◌+◌, ◌≤◌, Bool, true, false, List, [], ◌∷◌, ◌++◌, length}
use Rattle.std.proofs.Common.{Option}
use Rattle.std.proofs.Common.{Some, None, Result, Ok, Err, nat_lt, nat_le, if◌then◌else◌, refl, ap, ap₂, sym, ◌∙◌}
use Rattle.std.proofs.Common.{subst, inl, inr}
use Rattle.std.proofs.Common.{arith, IsUtf8, append_assoc}
use Rattle.std.specs.Prelude.{IfOk, IfErr, OnOk}
use Rattle.std.specs.Str.{is_utf8}
use Rattle.std.proofs.lemmas.Bool.{cases_Bool, cases_lt, le-ltb}
use Rattle.std.proofs.lemmas.Bool.Decides.{nat_tests}
use Rattle.std.proofs.lemmas.List.{length_push, append-nil}
use Rattle.std.proofs.lemmas.Str.{IsUtf8-from_is_utf8, is_utf8-from_IsUtf8}
use Rattle.toml.specs.Data.{Members}
use Rattle.toml.specs.Parse.{parse_document}
use Rattle.fault_order.specs.Rules.{parts, each_from, faults}
use Rattle.fault_order.specs.Private.FirstMet.{first}
use Rattle.fault_order.proofs.FirstFaults.{Answers}
use Rattle.fault_order.proofs.TableFaults.{then_ok, first_answers}
use Rattle.toml_rows.specs.Reading.{Gives, key, only, in_turn}
use Rattle.toml_rows.proofs.FirstRules.{fault_of, reads_first, key_first, value_is, only_first, turns_first}
use Rattle.toml_rows.proofs.Kept.{same_Ok, bind_ok, value_of_key, has_only}
use Rattle.net_core.specs.declared.fault.NetFault.{NetFault}
use Rattle.net_core.specs.declared.fault.NetFault.TheVariants as fault
use Rattle.net_core.specs.declared.fault.NetSection.TheVariants.{Top, Proc}
use Rattle.net_core.specs.declared.types.NetFile.{NetFile}
use Rattle.net_core.specs.declared.types.NetProc.{NetProc}
use Rattle.net_file.specs.Described.{IsProcIn, AreProcsIn, IsNetIn, IsNetOf}
use Rattle.net_file.specs.NetRules.{in_table, proc_rules, net_rules, document_rules, file_rules, IsNetFileFault}
use Rattle.net_file.specs.NetRules.{HasNoFault}
use Rattle.net_file.specs.Table as row
use Rattle.net_file.specs.Table.{top_keys, proc_keys}
use Rattle.net_file.specs.Private.Reading.{Read, proc_in, proc_at, net_in, document_in, net_of}

proc_described : (inputs p : ℕ) (t : Members) (proc : NetProc) → proc_in inputs p t ≡ Ok proc → IsProcIn inputs p t proc
unfolding proc_in
proc_described inputs p t proc h =
    let at = in_table (Proc p) in
    let (k, ke, h1) = bind_ok (only (in_table (Proc p)) t proc_keys) _ proc h in
    let (src, se, h2) = bind_ok (key (in_table (Proc p)) t row.src) _ proc h1 in
    let (dp, de, h3) = bind_ok (key (in_table (Proc p)) t row.dp) _ proc h2 in
    let (feed, fe, h4) = bind_ok (key (in_table (Proc p)) t (row.feed inputs p)) _ proc h3 in
    let same : record { src = src; dp = dp; feed = feed } ≡ proc = same_Ok _ _ h4 in
    subst (IsProcIn inputs p t) same (record {
      keys = has_only (in_table (Proc p)) t proc_keys k ke;
      src = value_of_key (in_table (Proc p)) t row.src src se;
      dp = value_of_key (in_table (Proc p)) t row.dp dp de;
      feed = value_of_key (in_table (Proc p)) t (row.feed inputs p) feed fe;
    })

-- the tables so far describe the processors so far
procs_push : (inputs p : ℕ) (ts : List Members) (ys : List NetProc) (t : Members) (y : NetProc)
    → AreProcsIn inputs p ts ys
    → IsProcIn inputs (p + length ts) t y
    → AreProcsIn inputs p (ts ++ t ∷ []) (ys ++ y ∷ [])
procs_push inputs p [] [] t y before is = (subst (λ (n : ℕ). IsProcIn inputs n t y) (omega arith) is, tt)
procs_push inputs p [] (z ∷ ys) t y before is = absurd before
procs_push inputs p (s ∷ ts) [] t y before is = absurd before
procs_push inputs p (s ∷ ts) (z ∷ ys) t y before is = (
  before.0,
  procs_push inputs (p + 1) ts ys t y before.1
      (subst (λ (n : ℕ). IsProcIn inputs n t y) (omega arith) is),
)

procs_length : (inputs p : ℕ) (ts : List Members) (ys : List NetProc)
    → AreProcsIn inputs p ts ys
    → length ys ≡ length ts
procs_length inputs p [] [] are = refl
procs_length inputs p [] (z ∷ ys) are = absurd are
procs_length inputs p (s ∷ ts) [] are = absurd are
procs_length inputs p (s ∷ ts) (z ∷ ys) are = omega (arith, procs_length inputs (p + 1) ts ys are.1)

procs_from : (inputs : ℕ) (before xs : List Members) (ys out : List NetProc)
    → AreProcsIn inputs 0 before ys
    → in_turn (proc_at inputs) ys xs ≡ Ok out
    → AreProcsIn inputs 0 (before ++ xs) out
unfolding in_turn
procs_from inputs before [] ys out are h =
    subst (λ (ts : List Members). AreProcsIn inputs 0 ts out) (sym (append-nil before))
    (subst (AreProcsIn inputs 0 before) (same_Ok ys out h) are)
procs_from inputs before (x ∷ xs) ys out are h =
    let (y, e, h1) = bind_ok (proc_at inputs ys x) _ out h in
    let is : IsProcIn inputs (0 + length before) x y =
    subst (λ (n : ℕ). IsProcIn inputs n x y) (procs_length inputs 0 before ys are ∙ omega arith)
    (proc_described inputs (length ys) x y e) in
    subst (λ (ts : List Members). AreProcsIn inputs 0 ts out) (append_assoc before (x ∷ []) xs)
    (procs_from inputs (before ++ x ∷ []) xs (ys ++ y ∷ []) out (procs_push inputs 0 before ys x y are is) h1)

net_described : (t : Members) (net : NetFile) → net_in t ≡ Ok net → IsNetIn t net
unfolding net_in
net_described t net h =
    let (k, ke, h1) = bind_ok (only (in_table Top) t top_keys) _ net h in
    let (inputs, ie, h2) = bind_ok (key (in_table Top) t row.inputs) _ net h1 in
    let (capacity, ce, h3) = bind_ok (key (in_table Top) t row.capacity) _ net h2 in
    let (proc, pe, h4) = bind_ok (key (in_table Top) t row.proc) _ net h3 in
    let (procs, pse, h5) = bind_ok (in_turn (proc_at inputs) [] proc) _ net h4 in
    let same : record { inputs = inputs; capacity = capacity; procs = procs } ≡ net = same_Ok _ _ h5 in
    subst (IsNetIn t) same (record {
      keys = has_only (in_table Top) t top_keys k ke;
      inputs = value_of_key (in_table Top) t row.inputs inputs ie;
      capacity = value_of_key (in_table Top) t row.capacity capacity ce;
      proc = proc;
      proc_is = value_of_key (in_table Top) t row.proc proc pe;
      procs = procs_from inputs [] proc [] procs tt pse;
    })

-- The document.

abbrev document : List ℕ → Option Members
document bytes = if is_utf8 bytes then parse_document bytes else None

document-reads : (bytes : List ℕ) (t : Members) → IsUtf8 bytes → parse_document bytes ≡ Some t → document bytes ≡ Some t
document-reads bytes t u h = rw (is_utf8-from_IsUtf8 bytes u) h

document-refused : (bytes : List ℕ) → (IsUtf8 bytes → parse_document bytes ≡ None) → document bytes ≡ None
document-refused bytes h =
    elim (cases_Bool (is_utf8 bytes)) [
      | inl text ↦ rw text (h (IsUtf8-from_is_utf8 bytes text))
      | inr other ↦ rw other refl
    ]

pub net_of-reads : (bytes : List ℕ) (t : Members) (r : Result NetFile NetFault)
    → length bytes ≤ 2 ^ 20
    → IsUtf8 bytes
    → parse_document bytes ≡ Some t
    → Gives fault.Memory r (net_in t)
    → Gives fault.Memory r (net_of bytes)
unfolding net_of
net_of-reads bytes t r small u h gives = rw (le-ltb (2 ^ 20) (length bytes) small, document-reads bytes t u h) gives

pub net_of-refused : (bytes : List ℕ)
    → length bytes ≤ 2 ^ 20
    → (IsUtf8 bytes → parse_document bytes ≡ None)
    → net_of bytes ≡ Err fault.NotToml
unfolding net_of
net_of-refused bytes small h = rw (le-ltb (2 ^ 20) (length bytes) small, document-refused bytes h) refl

module _ (bytes : List ℕ) (net : NetFile) where
  described : net_of bytes ≡ Ok net → IsNetOf bytes net
  unfolding net_of
  described h = by (nat_lt (2 ^ 20) (length bytes)) refl h
    where
      in_document : (text : Bool)
          → is_utf8 bytes ≡ text
          → (o : Option Members)
          → parse_document bytes ≡ o
          → nat_lt (2 ^ 20) (length bytes) ≡ false
          → document_in (if text then o else None) ≡ Ok net
          → IsNetOf bytes net
      in_document true utf8 (Some t) parsed small g = record {
        short = grind (arith, nat_tests);
        text = utf8;
        table = t;
        toml = parsed;
        net_in = net_described t net g;
      }
      in_document true utf8 None parsed small g = absurd (cc)
      in_document false utf8 o parsed small g = absurd (cc)

      by : (long : Bool)
          → nat_lt (2 ^ 20) (length bytes) ≡ long
          → ◌≡◌ {A = Read NetFile} (if long then Err fault.TooLong else document_in (document bytes)) (Ok net)
          → IsNetOf bytes net
      by true e g = absurd (cc)
      by false e g = in_document (is_utf8 bytes) refl (parse_document bytes) refl e g

-- The first fault.

proc_first : (inputs p : ℕ) (t : Members) → first (proc_rules inputs p t) ≡ fault_of (proc_in inputs p t)
unfolding proc_in
proc_first inputs p t =
    reads_first (only (in_table (Proc p)) t proc_keys) _ _ _ (only_first (in_table (Proc p)) t proc_keys) (λ u ue.
    reads_first (key (in_table (Proc p)) t row.src) _ _ _ (key_first (in_table (Proc p)) t row.src) (λ src se.
    reads_first (key (in_table (Proc p)) t row.dp) _ _ _ (key_first (in_table (Proc p)) t row.dp) (λ dp de.
    reads_first (key (in_table (Proc p)) t (row.feed inputs p)) _ _ _
    (key_first (in_table (Proc p)) t (row.feed inputs p)) (λ feed fe. refl))))

-- as many processors as tables
abbrev Tied : List Members → List NetProc → Type 0
Tied ts ys = length ts ≡ length ys

procs_first : (inputs : ℕ) (tables : List Members)
    → first (parts (each_from (proc_rules inputs) 0 tables)) ≡ fault_of (in_turn (proc_at inputs) [] tables)
procs_first inputs tables =
    turns_first (proc_at inputs) (proc_rules inputs) Tied tables
    (λ before later ys x is tied.
    ap (λ (n : ℕ). first (proc_rules inputs n x)) tied ∙ proc_first inputs (length ys) x)
    (λ before ys x y tied e. length_push before x ∙ ap (λ (n : ℕ). n + 1) tied ∙ sym (length_push ys y)) refl

procs_first_at : (inputs others : ℕ) (tables more : List Members)
    → others ≡ inputs
    → more ≡ tables
    → first (parts (each_from (proc_rules others) 0 more)) ≡ fault_of (in_turn (proc_at inputs) [] tables)
procs_first_at inputs others tables more same is =
    ap₂ (λ (n : ℕ) (ts : List Members). first (parts (each_from (proc_rules n) 0 ts))) same is
    ∙ procs_first inputs tables

net_first : (t : Members) → first (net_rules t) ≡ fault_of (net_in t)
unfolding net_in
net_first t =
    reads_first (only (in_table Top) t top_keys) _ _ _ (only_first (in_table Top) t top_keys) (λ u ue.
    reads_first (key (in_table Top) t row.inputs) _ _ _ (key_first (in_table Top) t row.inputs) (λ inputs ie.
    reads_first (key (in_table Top) t row.capacity) _ _ _ (key_first (in_table Top) t row.capacity) (λ capacity ce.
    reads_first (key (in_table Top) t row.proc) _ _ _ (key_first (in_table Top) t row.proc) (λ proc pe.
    reads_first (in_turn (proc_at inputs) [] proc) _ _ _
    (procs_first_at inputs _ proc _ (value_is (in_table Top) 1 t row.inputs inputs ie)
    (value_is (in_table Top) [] t row.proc proc pe)) (λ procs pse. refl)))))

document_first : (o : Option Members) → first (document_rules o) ≡ fault_of (document_in o)
document_first None = refl
document_first (Some t) = net_first t

file_first : (bytes : List ℕ) → first (file_rules bytes) ≡ fault_of (net_of bytes)
unfolding net_of
file_first bytes =
    elim (cases_lt (2 ^ 20) (length bytes)) [
      | inl long ↦
          let is_long : nat_lt (2 ^ 20) (length bytes) ≡ true = grind (arith, nat_tests) in
          let is_not_short : nat_le (length bytes) (2 ^ 20) ≡ false = grind (arith, nat_tests) in
          rw (is_long, is_not_short) refl
      | inr short ↦
          let is_not_long : nat_lt (2 ^ 20) (length bytes) ≡ false = grind (arith, nat_tests) in
          let is_short : nat_le (length bytes) (2 ^ 20) ≡ true = grind (arith, nat_tests) in
          rw (is_not_long, is_short) (then_ok _ ∙ document_first (document bytes))
    ]

answers : (bytes : List ℕ) (r : Read NetFile) → net_of bytes ≡ r → Answers (faults (file_rules bytes)) (fault_of r)
answers bytes r e =
    subst (Answers (faults (file_rules bytes))) (file_first bytes ∙ ap fault_of e) (first_answers (file_rules bytes))

-- The answer.

memory_or : (e : NetFault) → (e ≡ fault.Memory) ⊎ (e ≢ fault.Memory)
memory_or fault.Memory = inl refl
memory_or fault.TooLong = inr (λ h. absurd (cc))
memory_or fault.NotToml = inr (λ h. absurd (cc))
memory_or (fault.UnknownKey s) = inr (λ h. absurd (cc))
memory_or (fault.Missing s) = inr (λ h. absurd (cc))
memory_or (fault.WrongKind s) = inr (λ h. absurd (cc))
memory_or (fault.Range s) = inr (λ h. absurd (cc))
memory_or (fault.Unfed j) = inr (λ h. absurd (cc))
memory_or (fault.Overwrites p) = inr (λ h. absurd (cc))
memory_or (fault.Count p) = inr (λ h. absurd (cc))
memory_or (fault.Feed p w) = inr (λ h. absurd (cc))

module _ (bytes : List ℕ) where
  pub describes : (r : Result NetFile NetFault) → Gives fault.Memory r (net_of bytes) → IfOk r (IsNetOf bytes)
  describes (Ok net) h = described bytes net h
  describes (Err e) h = tt

  pub is_clear : (r : Result NetFile NetFault) → Gives fault.Memory r (net_of bytes) → OnOk r (HasNoFault bytes)
  is_clear (Ok net) h = answers bytes (Ok net) h
  is_clear (Err e) h = tt

  pub refuses : (r : Result NetFile NetFault)
      → Gives fault.Memory r (net_of bytes)
      → IfErr r (λ f. (f ≡ fault.Memory) ⊎ IsNetFileFault bytes f)
  refuses (Ok net) h = tt
  refuses (Err e) h = by (memory_or e)
    where
      by : (e ≡ fault.Memory) ⊎ (e ≢ fault.Memory) → (e ≡ fault.Memory) ⊎ IsNetFileFault bytes e
      by (inl is) = inl is
      by (inr other) = inr (answers bytes (Err e) (h other))
