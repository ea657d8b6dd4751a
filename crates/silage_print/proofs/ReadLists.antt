-- Lists of one part or more, with commas between.
use Rattle.std.proofs.Common.{◌≡◌, ℕ, ◌+◌, ◌≤◌, Bool, true, false, List, [], ◌∷◌, ◌++◌, length, map, refl, ap, ◌∙◌}
use Rattle.std.proofs.Common.{subst, arith}
use Rattle.std.specs.List.{flat_map}
use Rattle.std.proofs.lemmas.Bool.Decides.{nat_tests}
use Rattle.silage_lex.specs.declared.Token.{Token}
use Rattle.silage_lex.specs.declared.TokenKind.{TokenKind}
use Rattle.silage_lex.specs.declared.punctuation.TheConstants as punctuation
use Rattle.silage_syntax.specs.Grammar.{IsPunctuation}
use Rattle.silage_print.specs.Text.{symbol, enclosed, listed, after_comma, several}
use Rattle.silage_print.proofs.KindsAt.{AreAt, split, AreWritten, no_kind, one_kind, joined}

-- a part that is this one up to positions, read by a rule
pub record ReadsBy (A : Type 0) (up_to : A → A) (Rule : ℕ → A → ℕ → Type 0) (x : A) (i j : ℕ) : Type 0 where
  pub tree : A
  pub same : up_to tree ≡ up_to x
  pub reads : Rule i tree j

pub by_end : {A : Type 0} {up_to : A → A} {Rule : ℕ → A → ℕ → Type 0} {x : A} {i j k : ℕ}
    → j ≡ k
    → ReadsBy A up_to Rule x i j
    → ReadsBy A up_to Rule x i k
by_end {A} {up_to} {Rule} {x} {i} {j} {k} e h = let P : ℕ → Type 0 = λ l. ReadsBy A up_to Rule x i l in subst P e h

-- one part or more, of each of which something holds
pub data Goods (A : Type 0) (Good : A → Type 0) : List A → Type 0 where
  only : {x : A} → Good x → Goods A Good (x ∷ [])
  also : {x : A} {xs : List A} → Good x → Goods A Good xs → Goods A Good (x ∷ xs)

pub goods_long : {A : Type 0} {Good : A → Type 0} {xs : List A} → Goods A Good xs → 1 ≤ length xs
goods_long (only g) = omega arith
goods_long (also g gs) = omega arith

module _ (A : Type 0) (Good : A → Type 0) (text : A → List TokenKind)
    (written : (x : A) → Good x → AreWritten (text x)) where
  others_written : {xs : List A} → Goods A Good xs → AreWritten (flat_map (after_comma text) xs)
  others_written (only {x = x} g) = joined (one_kind refl (written x g)) no_kind
  others_written (also {x = x} g gs) = joined (one_kind refl (written x g)) (others_written gs)

  pub listed_written : {xs : List A} → Goods A Good xs → AreWritten (listed text xs)
  listed_written (only {x = x} g) = joined (written x g) no_kind
  listed_written (also {x = x} g gs) = joined (written x g) (others_written gs)

module _ (A : Type 0) (Good : A → Type 0) (text : A → List TokenKind) (up_to : A → A) (us : List Token)
    (One : A → ℕ → A → ℕ → Type 0) (Many : List A → ℕ → List A → ℕ → Type 0)
    (last : (i j : ℕ) (x y : A) → One x i y j → Many (x ∷ []) i (y ∷ []) j)
    (more : (i j k : ℕ) (x y : A) (xs ys : List A)
    → 1 ≤ length xs
    → One x i y j
    → IsPunctuation us j punctuation.COMMA
    → Many xs (j + 1) ys k
    → Many (x ∷ xs) i (y ∷ ys) k)
    (reads : (x : A) → Good x → (i j : ℕ) → AreAt us i (text x) j → ReadsBy A up_to (One x) x i j) where
  comma_first : {xs : List A}
      → Goods A Good xs
      → (i j : ℕ)
      → AreAt us i (flat_map (after_comma text) xs) j
      → IsPunctuation us i punctuation.COMMA × AreAt us (i + 1) (listed text xs) j
  comma_first (only g) i j s = (s.0, s.1)
  comma_first (also g gs) i j s = (s.0, s.1)

  pub listed_read : {xs : List A}
      → Goods A Good xs
      → (i j : ℕ)
      → AreAt us i (listed text xs) j
      → ReadsBy (List A) (map up_to) (Many xs) xs i j
  listed_read (only {x = x} g) i j s =
      let r = split us (text x) [] i j s in
      let y = reads x g i r.0 r.1 in
      by_end r.2 (record { tree = y.tree ∷ []; same = ap (λ t. t ∷ []) y.same; reads = last i r.0 x y.tree y.reads })
  listed_read (also {x = x} {xs = xs} g gs) i j s =
      let r = split us (text x) (flat_map (after_comma text) xs) i j s in
      let y = reads x g i r.0 r.1 in
      let c = comma_first gs r.0 j r.2 in
      let ys = listed_read gs (r.0 + 1) j c.1 in
      record {
        tree = y.tree ∷ ys.tree;
        same = ap (λ t. t ∷ map up_to ys.tree) y.same ∙ ap (λ ts. up_to x ∷ ts) ys.same;
        reads = more i r.0 j x y.tree xs ys.tree (goods_long gs) y.reads c.0 ys.reads;
      }

  -- one part by itself, or parts in parentheses
  pub data Grouped : List A → ℕ → ℕ → Type 0 where
    bare : {x : A} {i j : ℕ} → ReadsBy A up_to (One x) x i j → Grouped (x ∷ []) i j
    inside : {xs : List A} {i j : ℕ}
        → IsPunctuation us i punctuation.LEFT_PAREN
        → ReadsBy (List A) (map up_to) (Many xs) xs (i + 1) j
        → IsPunctuation us j punctuation.RIGHT_PAREN
        → Grouped xs i (j + 1)

  group_end : {xs : List A} {i j k : ℕ} → j ≡ k → Grouped xs i j → Grouped xs i k
  group_end {xs} {i} {j} {k} e h = let P : ℕ → Type 0 = λ l. Grouped xs i l in subst P e h

  pub grouped_read : {xs : List A}
      → Goods A Good xs
      → (b : Bool)
      → (b ≡ false → length xs ≡ 1)
      → (i j : ℕ)
      → AreAt us i (enclosed b (listed text xs)) j
      → Grouped xs i j
  grouped_read {xs} gs true one i j s =
      let r = split us (listed text xs) (symbol punctuation.RIGHT_PAREN ∷ []) (i + 1) j s.1 in
      group_end r.2.1 (inside s.0 (listed_read gs (i + 1) r.0 r.1) r.2.0)
  grouped_read (only {x = x} g) false one i j s =
      let r = split us (text x ++ []) [] i j s in
      let q = split us (text x) [] i r.0 r.1 in
      bare (by_end (q.2 ∙ r.2) (reads x g i q.0 q.1))
  grouped_read (also {xs = xs} g gs) false one i j s =
      let long = goods_long gs in
      let alone = one refl in
      absurd (omega arith)

pub one_of_several : {A : Type 0} (xs : List A) → several xs ≡ false → length xs ≡ 1
one_of_several xs h = grind (arith, nat_tests)
