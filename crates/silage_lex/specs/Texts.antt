-- The texts of tokens: words, numbers and symbols.
use Rattle.std.specs.Prelude.{◌≡◌, ℕ, ◌+◌, ◌-◌, ◌*◌, ◌≤◌, ◌&&◌, Bool, false, IsTrue, ◌⊎◌, List, [], ◌∷◌, ◌++◌, length}
use Rattle.std.specs.Prelude.{fold, count_by, slice_get, Some, Contains, codes}
use Rattle.std.specs.List.{list_all}
use Rattle.silage_lex.specs.Bytes.{is_digit, is_letter, is_name_byte}
use Rattle.silage_lex.specs.declared.TokenKind.{TokenKind}
use Rattle.silage_lex.specs.declared.TokenKind.TheVariants.{Name, Whole, Point, Reserved, Symbol}

abbrev pub reserved_words : List (List ℕ)
reserved_words =
    codes "func" ∷ codes "const" ∷ codes "var" ∷ codes "begin" ∷ codes "end" ∷ codes "fix" ∷ codes "bool"
    ∷ codes "trunc" ∷ codes "round" ∷ codes "if" ∷ codes "fi" ∷ codes "true" ∷ codes "false" ∷ codes "sat"
    ∷ codes "down" ∷ codes "up" ∷ []

-- the longest first
abbrev pub symbols : List (List ℕ)
symbols =
    codes "::" ∷ codes ".." ∷ codes "==" ∷ codes "!=" ∷ codes "<=" ∷ codes ">=" ∷ codes "<<" ∷ codes ">>"
    ∷ codes "->" ∷ codes "||" ∷ codes "@@"
    ∷ codes "(" ∷ codes ")" ∷ codes "[" ∷ codes "]" ∷ codes "," ∷ codes ";" ∷ codes ":" ∷ codes "="
    ∷ codes "<" ∷ codes ">"
    ∷ codes "+" ∷ codes "-" ∷ codes "*" ∷ codes "&" ∷ codes "|" ∷ codes "!" ∷ codes "@" ∷ []

-- a letter or `_`, then letters, digits and `_`
abbrev pub is_word : List ℕ → Bool
is_word [] = false
is_word (b ∷ bs) = is_letter b && list_all is_name_byte bs

-- one digit or more
abbrev pub is_digits : List ℕ → Bool
is_digits [] = false
is_digits (b ∷ bs) = is_digit b && list_all is_digit bs

-- digits, a point and digits
pub record IsPointed (whole fraction text : List ℕ) : Type 0 where
  pub shape : text ≡ whole ++ 46 ∷ fraction
  pub whole_digits : IsTrue (is_digits whole)
  pub fraction_digits : IsTrue (is_digits fraction)

abbrev pub HasPoint : List ℕ → Type 0
HasPoint text = (whole : List ℕ) × (fraction : List ℕ) × IsPointed whole fraction text

-- a number, with a point or without one, of any length
abbrev pub IsNumber : List ℕ → Type 0
IsNumber text = IsTrue (is_digits text) ⊎ HasPoint text

-- a word, a number of any length or a symbol
abbrev pub IsTokenText : List ℕ → Type 0
IsTokenText text = IsTrue (is_word text) ⊎ IsNumber text ⊎ Contains symbols text

-- the number whose decimal digits are those of `number` and then these
abbrev pub decimal_after : ℕ → List ℕ → ℕ
decimal_after number digits = fold (λ n b. 10 * n + (b - 48)) number digits

abbrev pub decimal : List ℕ → ℕ
decimal digits = decimal_after 0 digits

-- how many digits a number has in all
abbrev pub digit_count : List ℕ → ℕ
digit_count text = count_by is_digit text

-- a name is a word that is not reserved, and holds its text
pub record IsName (name text : List ℕ) : Type 0 where
  pub same : name ≡ text
  pub word : IsTrue (is_word text)
  pub free : ¬ Contains reserved_words text

-- a number without a point, and its value
pub record IsWhole (value : ℕ) (text : List ℕ) : Type 0 where
  pub digits : IsTrue (is_digits text)
  pub short : digit_count text ≤ 18
  pub value_is : value ≡ decimal text

-- a number with a point: the value of its digits without the point, and how many stand behind it
pub record IsPoint (digits places : ℕ) (text : List ℕ) : Type 0 where
  pub whole : List ℕ
  pub fraction : List ℕ
  pub pointed : IsPointed whole fraction text
  pub short : digit_count text ≤ 18
  pub digits_are : digits ≡ decimal (whole ++ fraction)
  pub places_are : places ≡ length fraction

-- the text is one of this kind
abbrev pub IsText : TokenKind → List ℕ → Type 0
IsText (Name name) text = IsName name text
IsText (Whole value) text = IsWhole value text
IsText (Point digits places) text = IsPoint digits places text
IsText (Reserved n) text = slice_get reserved_words n ≡ Some text
IsText (Symbol n) text = slice_get symbols n ≡ Some text
