-- A word is three lists in a row, in any version: its issues, enables and takes.
use Rattle.std.proofs.Common.{◌≡◌, ℕ, List, ◌++◌, length, Ok, ap, subst, ◌∙◌, append_assoc, arith}
use Rattle.micro_image.specs.declared.image.Enable.{Enable}
use Rattle.micro_image.specs.declared.image.Image.{Image}
use Rattle.micro_image.specs.declared.image.Issue.{Issue}
use Rattle.micro_image.specs.declared.image.Take.{Take}
use Rattle.micro_image.specs.declared.image.Word.{Word}
use Rattle.micro_image.specs.Valid.{IsWordOf}
use Rattle.micro_bits.proofs.Bits.{IsDigits}
use Rattle.micro_file.specs.Private.Fields.{Reading, ◌>>=◌}
use Rattle.micro_file.proofs.Inside.{StaysInside, behind}
use Rattle.micro_file.proofs.Issues.{AreIssues}
use Rattle.micro_file.proofs.Readers.{◌⨟◌, Took, IsReader, ok_is}
use Rattle.micro_file.proofs.Steps.{bound3, joined3}
use Rattle.micro_file.proofs.Transfers.{AreEnables, AreTakes}

module _ (issues_at : List ℕ → Reading (List Issue)) (enables_at : List ℕ → Reading (List Enable))
    (takes_at : List ℕ → Reading (List Take)) where
  abbrev enables_behind : List Issue × List ℕ → Reading (List Enable)
  enables_behind i = enables_at i.1

  abbrev takes_behind : List Issue × List ℕ → List Enable × List ℕ → Reading (List Take)
  takes_behind i e = takes_at e.1

  abbrev whole_word : List Issue × List ℕ → List Enable × List ℕ → List Take × List ℕ → Reading Word
  whole_word i e t = Ok (record { issues = i.0; enables = e.0; takes = t.0 }, t.1)

  -- the word of the lists that are read
  abbrev lists_at : List ℕ → Reading Word
  lists_at left = issues_at left >>= λ i. enables_behind i >>= λ e. takes_behind i e >>= λ t. whole_word i e t

  pub lists_in : StaysInside issues_at → StaysInside enables_at → StaysInside takes_at → StaysInside lists_at
  lists_in issues_in enables_in takes_in left =
      behind (length left) (issues_at left) _ (issues_in left) (λ i.
      behind (length i.1) (enables_at i.1) _ (enables_in i.1) (λ e.
      behind (length e.1) (takes_at e.1) _ (takes_in e.1) (λ t. omega arith)))

  module _ {base : ℕ} (image : Image) {issues_text : List Issue → List ℕ} {enables_text : List Enable → List ℕ}
      {takes_text : List Take → List ℕ} (issues : IsReader base (AreIssues image) issues_text issues_at)
      (enables : IsReader base (AreEnables image) enables_text enables_at)
      (takes : IsReader base (AreTakes image) takes_text takes_at) where
    -- the text of a word by its lists
    abbrev lists_text : Word → List ℕ
    lists_text word = issues_text word.issues ++ enables_text word.enables ++ takes_text word.takes

    lists_took : (left : List ℕ)
        → IsDigits base left
        → (x : Word × List ℕ)
        → lists_at left ≡ Ok x
        → Took base (IsWordOf image) lists_text left x
    lists_took left fits x e =
        let s = bound3 (issues_at left) enables_behind takes_behind whole_word x e in
        let i = issues.took left fits s.0 s.3 in
        let n = enables.took s.0.1 i.text.rest_fits s.1 s.4 in
        let t = takes.took s.1.1 n.text.rest_fits s.2 s.5 in
        let word : Word = record { issues = s.0.0; enables = s.1.0; takes = s.2.0 } in
        subst (λ (p : Word × List ℕ). Took base (IsWordOf image) lists_text left p) (ok_is (word, s.2.1) x s.6)
        (record {
          allowed = record {
            issues = i.allowed.0;
            issues_rise = i.allowed.1;
            enable_count = n.allowed.0.1;
            enables = n.allowed.1;
            enables_rise = n.allowed.2;
            take_count = t.allowed.0.1;
            takes = t.allowed.1;
            takes_rise = t.allowed.2;
          };
          text = i.text ⨟ n.text ⨟ t.text;
        })

    lists_again : (word : Word) (rest : List ℕ)
        → IsWordOf image word
        → lists_at (lists_text word ++ rest) ≡ Ok (word, rest)
    lists_again word rest ok =
        let I = issues_text word.issues in
        let E = enables_text word.enables in
        let T = takes_text word.takes in
        let texts : (I ++ E ++ T) ++ rest ≡ I ++ (E ++ (T ++ rest)) =
        append_assoc (I ++ E) T rest ∙ append_assoc I E (T ++ rest) in
        ap lists_at texts
        ∙ joined3 (issues_at (I ++ (E ++ (T ++ rest)))) enables_behind takes_behind whole_word
        (word.issues, E ++ (T ++ rest)) (word.enables, T ++ rest) (word.takes, rest)
        (issues.again word.issues _ (ok.issues, ok.issues_rise))
        (enables.again word.enables _ ((omega arith, ok.enable_count), ok.enables, ok.enables_rise))
        (takes.again word.takes _ ((omega arith, ok.take_count), ok.takes, ok.takes_rise))

    pub lists_reader : IsReader base (IsWordOf image) lists_text lists_at
    lists_reader = record { took = lists_took; again = lists_again }
