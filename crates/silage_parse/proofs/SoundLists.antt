-- Soundness of the table at lists with commas: one proof for what each of them goes on with.
use Rattle.std.proofs.Common.{◌≡◌, ℕ, ◌+◌, List, [], ◌∷◌, ◌++◌, sym, ap, ◌∙◌, subst, append_assoc, append-nil}
use Rattle.silage_lex.specs.declared.Token.{Token}
use Rattle.silage_lex.specs.declared.punctuation.TheConstants as punctuation
use Rattle.silage_syntax.specs.Grammar.{IsPunctuation, IsList, last, more, Role}
use Rattle.silage_parse.specs.Private.ParseTable.{Value, Symbol, Expand, Act, punctuation_of}
use Rattle.silage_parse.specs.Private.ParseTable as the
use Rattle.silage_parse.specs.Private.Machine.{made, Among, here, there, role_of}
use Rattle.silage_parse.specs.Private.CommaLists.{CommaList}
use Rattle.silage_parse.proofs.TokenFacts.{mark_seen}
use Rattle.silage_parse.proofs.SoundSteps.{Means, Pushes, Grows, IsRead, All, a_end, a_take, a_go, a_make}

-- the production with a comma
abbrev pub comma_row : {A : Type 0} → CommaList A → List Symbol
comma_row l = punctuation_of punctuation.COMMA l.comma ∷ Expand l.element ∷ Act l.add ∷ Expand l.more ∷ []

-- what one element is, what some are that go on, what none are, and what one is before some
pub record Listing {A : Type 0} (l : CommaList A) (us : List Token) (One : ℕ → A → List Role → ℕ → Type 0)
    (More : ℕ → List A → List Role → ℕ → Type 0) : Type 0 where
  pub one : (i j : ℕ) (vs ws : List Value) (rs : List Role)
      → IsRead us l.element i vs rs j ws
      → Pushes l.value (λ x. One i x rs j) vs ws
  pub some : (i j : ℕ) (vs ws : List Value) (rs : List Role)
      → Means us l.more i vs rs j ws
      → Grows l.values (λ xs. More i xs rs j) vs ws
  pub none : (i : ℕ) → More i [] [] i
  pub before : (i k j : ℕ) (x : A) (xs : List A) (rs qs : List Role) (t : Token)
      → IsPunctuation us i punctuation.COMMA
      → One (i + 1) x rs k
      → More k xs qs j
      → More i (x ∷ xs) (role_of l.comma t ∷ (rs ++ (qs ++ []))) j

pub more_mean :
    {A : Type 0} {l : CommaList A} {us : List Token} {One : ℕ → A → List Role → ℕ → Type 0}
    {More : ℕ → List A → List Role → ℕ → Type 0}
    → Listing l us One More
    → (i : ℕ) (vs : List Value) (rs : List Role) {ps : List Symbol} {j : ℕ} {ws : List Value}
    → Among (comma_row l ∷ [] ∷ []) ps
    → All us ps i vs rs j ws
    → Grows l.values (λ xs. More i xs rs j) vs ws
more_mean {l = l} {us} {More = More} is i vs rs here
    (a_take {t = t} s h
    (a_go {j = k} {xs = xs} {rs = ps} d (a_make (a_go {j = m} {xs = ys} {rs = qs} r (a_end q w))))) = λ ls bs e.
    let x = is.one (i + 1) k (the.token t ∷ vs) xs ps d in
    let v : made l.add xs ≡ l.values (ls ++ x.0 ∷ []) ∷ bs =
    ap (made l.add) (x.1 ∙ ap (λ z. l.value x.0 ∷ the.token t ∷ z) e) ∙ l.adds x.0 ls t bs in
    let n = is.some k m (made l.add xs) ys qs r.means (ls ++ x.0 ∷ []) bs v in
    let P : ℕ → Type 0 = λ z. More i (x.0 ∷ n.0) (role_of l.comma t ∷ (ps ++ (qs ++ []))) z in (
      x.0 ∷ n.0,
      sym w ∙ n.1 ∙ ap (λ z. l.values z ∷ bs) (append_assoc ls (x.0 ∷ []) n.0),
      subst P q (is.before i k m x.0 n.0 ps qs t (mark_seen us i _ s h) x.2 n.2),
    )
more_mean {l = l} {More = More} is i vs rs (there here) (a_end q w) = λ ls bs e.
    let P : ℕ → Type 0 = λ z. More i [] [] z in
    ([], sym w ∙ e ∙ ap (λ z. l.values z ∷ bs) (sym (append-nil ls)), subst P q (is.none i))
more_mean is i vs rs (there (there x)) h = elim x [ ]

-- lists whose roles the grammar does not say
abbrev pub AfterOne : {A : Type 0} → List Token → (ℕ → A → ℕ → Type 0) → ℕ → List A → ℕ → Type 0
AfterOne {A} us One i xs j = (a : ℕ) (x : A) → One a x i → IsList us A One a (x ∷ xs) j

pub listing : {A : Type 0} (l : CommaList A) (us : List Token) (One : ℕ → A → ℕ → Type 0)
    → ((i j : ℕ) (vs ws : List Value) (rs : List Role)
    → Means us l.element i vs rs j ws
    → Pushes l.value (λ x. One i x j) vs ws)
    → ((i j : ℕ) (vs ws : List Value) (rs : List Role)
    → Means us l.more i vs rs j ws
    → Grows l.values (λ xs. AfterOne us One i xs j) vs ws)
    → Listing l us (λ i x rs j. One i x j) (λ i xs rs j. AfterOne us One i xs j)
listing l us One one some = record {
  one = λ i j vs ws rs d. one i j vs ws rs d.means;
  some = some;
  none = λ i a x o. last o;
  before = λ i k j x xs rs qs t c o n a y p. more p c (n (i + 1) x o);
}
