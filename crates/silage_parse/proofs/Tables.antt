-- The tests that tell tokens apart, each a table of some terminals: it has a value for these and for no other.
use Rattle.std.proofs.Common.{◌≡◌, ℕ, List, [], ◌∷◌, map, Option, Some, None, refl, sym, ap, ◌∙◌, true, false, Bool}
use Rattle.std.specs.Prelude.{nat_eq, ◌||◌, if◌then◌else◌}
use Rattle.std.proofs.lemmas.Bool.{eqb-true}
use Rattle.silage_lex.specs.declared.TokenKind.{TokenKind}
use Rattle.silage_lex.specs.declared.TokenKind.TheVariants as kind
use Rattle.silage_lex.specs.declared.punctuation.TheConstants as punctuation
use Rattle.silage_lex.specs.declared.keywords.TheConstants as keyword
use Rattle.silage_syntax.specs.declared.tree.BinOp.TheVariants as op
use Rattle.silage_syntax.specs.declared.tree.MOp.TheVariants as mop
use Rattle.silage_syntax.specs.Grammar.{row, marked, worded, number_of, truth_of, term_operator}
use Rattle.silage_syntax.specs.Grammar.{shift_operator, comparison, operator, Level, Or, And, Sum, Product}
use Rattle.silage_parse.specs.Private.ParseTable.{Terminal, Punctuation, Keyword, is, is_one, number, operators}
use Rattle.silage_parse.specs.Private.ParseTable.{comparisons, shift_operators, truths}
use Rattle.silage_parse.specs.Private.Machine.{or_else}

pub record IsTable {A : Type 0} (test : Option TokenKind → Option A) (ks : List Terminal) : Type 0 where
  pub some : (k : Option TokenKind) {a : A} → test k ≡ Some a → is_one ks k ≡ true
  pub none : (k : Option TokenKind) → test k ≡ None → is_one ks k ≡ false
  pub no_end : is_one ks None ≡ false

told : {A : Type 0} (a : A) (o : Option A) → (o ≡ None → ⊥) → o ≡ Some (or_else a o)
told a (Some x) h = refl
told a None h = absurd (h refl)

untold : {A : Type 0} (o : Option A) → ((x : A) → o ≡ Some x → ⊥) → o ≡ None
untold (Some x) h = absurd (h x refl)
untold None h = refl

pub tells : {A : Type 0} {test : Option TokenKind → Option A} {ks : List Terminal}
    → IsTable test ks
    → (a : A) (k : Option TokenKind)
    → is_one ks k ≡ true
    → test k ≡ Some (or_else a (test k))
tells {test = test} is_table a k h = told a (test k) (λ e. let f = is_table.none k e in cc)

pub lacks : {A : Type 0} {test : Option TokenKind → Option A} {ks : List Terminal}
    → IsTable test ks
    → (k : Option TokenKind)
    → is_one ks k ≡ false
    → test k ≡ None
lacks {test = test} is_table k h = untold (test k) (λ x e. let t = is_table.some k e in cc)

-- tables of symbols and of reserved words
abbrev has_row : {A : Type 0} → List (ℕ × A) → ℕ → Bool
has_row [] n = false
has_row (x ∷ xs) n = nat_eq x.0 n || has_row xs n

row_some : {A : Type 0} (xs : List (ℕ × A)) (n : ℕ) {a : A} → row xs n ≡ Some a → has_row xs n ≡ true
row_some [] n h = cc
row_some (x ∷ xs) n {a} h =
    elim (nat_eq x.0 n) as (λ b. (if b then Some x.1 else row xs n) ≡ Some a → (b || has_row xs n) ≡ true)
    [ true ↦ λ e. refl | false ↦ λ e. row_some xs n e ] h

row_none : {A : Type 0} (xs : List (ℕ × A)) (n : ℕ) → row xs n ≡ None → has_row xs n ≡ false
row_none [] n h = refl
row_none (x ∷ xs) n h =
    elim (nat_eq x.0 n) as (λ b. (if b then Some x.1 else row xs n) ≡ None → (b || has_row xs n) ≡ false)
    [ true ↦ λ e. cc | false ↦ λ e. row_none xs n e ] h

-- the terminals of the rows
abbrev pub rows_of : {A : Type 0} → (ℕ → Terminal) → List (ℕ × A) → List Terminal
rows_of t xs = map (λ x. t x.0) xs

rows_are : {A : Type 0} (t : ℕ → Terminal) (xs : List (ℕ × A)) (n : ℕ) (k : Option TokenKind)
    → ((m : ℕ) → is (t m) k ≡ nat_eq m n)
    → is_one (rows_of t xs) k ≡ has_row xs n
rows_are t [] n k h = refl
rows_are t (x ∷ xs) n k h = rw (h x.0, rows_are t xs n k h) refl

others : {A : Type 0} (t : ℕ → Terminal) (xs : List (ℕ × A)) (k : Option TokenKind)
    → ((m : ℕ) → is (t m) k ≡ false)
    → is_one (rows_of t xs) k ≡ false
others t [] k h = refl
others t (x ∷ xs) k h = rw (h x.0, others t xs k h) refl

mark_some : {A : Type 0} (xs : List (ℕ × A)) (k : Option TokenKind) {a : A}
    → marked xs k ≡ Some a
    → is_one (rows_of Punctuation xs) k ≡ true
mark_some xs (Some (kind.Symbol n)) h = rows_are Punctuation xs n _ (λ m. refl) ∙ row_some xs n h
mark_some xs _ h = cc

mark_none : {A : Type 0} (xs : List (ℕ × A)) (k : Option TokenKind)
    → marked xs k ≡ None
    → is_one (rows_of Punctuation xs) k ≡ false
mark_none xs (Some (kind.Symbol n)) h = rows_are Punctuation xs n _ (λ m. refl) ∙ row_none xs n h
mark_none xs (Some (kind.Reserved n)) h = others Punctuation xs _ (λ m. refl)
mark_none xs (Some (kind.Name n)) h = others Punctuation xs _ (λ m. refl)
mark_none xs (Some (kind.Whole n)) h = others Punctuation xs _ (λ m. refl)
mark_none xs (Some (kind.Point d p)) h = others Punctuation xs _ (λ m. refl)
mark_none xs None h = others Punctuation xs _ (λ m. refl)

marks : {A : Type 0} (xs : List (ℕ × A)) → IsTable (marked xs) (rows_of Punctuation xs)
marks xs =
    record { some = λ k h. mark_some xs k h; none = mark_none xs; no_end = others Punctuation xs None (λ m. refl) }

word_some : {A : Type 0} (xs : List (ℕ × A)) (k : Option TokenKind) {a : A}
    → worded xs k ≡ Some a
    → is_one (rows_of Keyword xs) k ≡ true
word_some xs (Some (kind.Reserved n)) h = rows_are Keyword xs n _ (λ m. refl) ∙ row_some xs n h
word_some xs _ h = cc

word_none : {A : Type 0} (xs : List (ℕ × A)) (k : Option TokenKind)
    → worded xs k ≡ None
    → is_one (rows_of Keyword xs) k ≡ false
word_none xs (Some (kind.Reserved n)) h = rows_are Keyword xs n _ (λ m. refl) ∙ row_none xs n h
word_none xs (Some (kind.Symbol n)) h = others Keyword xs _ (λ m. refl)
word_none xs (Some (kind.Name n)) h = others Keyword xs _ (λ m. refl)
word_none xs (Some (kind.Whole n)) h = others Keyword xs _ (λ m. refl)
word_none xs (Some (kind.Point d p)) h = others Keyword xs _ (λ m. refl)
word_none xs None h = others Keyword xs _ (λ m. refl)

words : {A : Type 0} (xs : List (ℕ × A)) → IsTable (worded xs) (rows_of Keyword xs)
words xs = record { some = λ k h. word_some xs k h; none = word_none xs; no_end = others Keyword xs None (λ m. refl) }

-- the tables of the grammar
pub term_table : IsTable term_operator (operators Sum)
term_table = marks ((punctuation.PLUS, mop.Add) ∷ (punctuation.MINUS, mop.Sub) ∷ [])

pub operator_table : (l : Level) → IsTable (operator l) (operators l)
operator_table Or = marks ((punctuation.PIPE, op.Or) ∷ [])
operator_table And = marks ((punctuation.AMPERSAND, op.And) ∷ [])
operator_table Sum = marks ((punctuation.PLUS, op.Add) ∷ (punctuation.MINUS, op.Sub) ∷ [])
operator_table Product = marks ((punctuation.STAR, op.Mul) ∷ [])

pub comparison_table : IsTable comparison comparisons
comparison_table = marks
    ((punctuation.LESS, op.Lt) ∷ (punctuation.LESS_EQUAL, op.Le) ∷ (punctuation.EQUAL_EQUAL, op.Eq)
    ∷ (punctuation.BANG_EQUAL, op.Ne) ∷ (punctuation.GREATER, op.Gt) ∷ (punctuation.GREATER_EQUAL, op.Ge) ∷ [])

pub shift_table : IsTable shift_operator shift_operators
shift_table = marks ((punctuation.LESS_LESS, true) ∷ (punctuation.GREATER_GREATER, false) ∷ [])

pub truth_table : IsTable truth_of truths
truth_table = words ((keyword.TRUE, true) ∷ (keyword.FALSE, false) ∷ [])

number_some : (k : Option TokenKind) {n : ℕ × ℕ} → number_of k ≡ Some n → is_one number k ≡ true
number_some (Some (kind.Whole n)) h = refl
number_some (Some (kind.Point digits places)) h = refl
number_some _ h = cc

number_none : (k : Option TokenKind) → number_of k ≡ None → is_one number k ≡ false
number_none (Some (kind.Whole n)) h = cc
number_none (Some (kind.Point digits places)) h = cc
number_none _ h = refl

pub number_table : IsTable number_of number
number_table = record { some = λ k h. number_some k h; none = number_none; no_end = refl }

or_false : (b : Bool) → (b || false) ≡ true → b ≡ true
or_false true h = refl
or_false false h = h

pub keyword_known : (n : ℕ) (k : Option TokenKind) → is_one (Keyword n ∷ []) k ≡ true → k ≡ Some (kind.Reserved n)
keyword_known n (Some (kind.Reserved m)) h =
    ap (λ x. Some (kind.Reserved x)) (sym (eqb-true n m (or_false (nat_eq n m) h)))
keyword_known n _ h = cc

pub punctuation_known : (n : ℕ) (k : Option TokenKind)
    → is_one (Punctuation n ∷ []) k ≡ true → k ≡ Some (kind.Symbol n)
punctuation_known n (Some (kind.Symbol m)) h =
    ap (λ x. Some (kind.Symbol x)) (sym (eqb-true n m (or_false (nat_eq n m) h)))
punctuation_known n _ h = cc
