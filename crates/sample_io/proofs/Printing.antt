-- A row's words, each with a comma behind it, and the line that this becomes with LF for the last comma.
use Rattle.std.proofs.Common.{◌≡◌, ℕ, ◌+◌, ◌-◌, ◌<◌, ◌≤◌, List, [], ◌∷◌, ◌++◌, length, take, drop, map, ℤ, ap, sym, ◌∙◌}
use Rattle.std.proofs.Common.{append_assoc, arith, set, get_or}
use Rattle.std.specs.Fmt.{signed_decimal}
use Rattle.std.specs.List.{join_with_byte, flat_map}
use Rattle.std.proofs.lemmas.List.{append-nil, length-take-le, length-append, take_more, drop-drop}
use Rattle.std.proofs.lemmas.Grind.{flat_map-append}
use Rattle.std.proofs.Math.Seq.{take-set-lt, set-append_seam}

-- a word with the comma behind it
abbrev pub printed_word : ℤ → List ℕ
printed_word word = signed_decimal word ++ 44 ∷ []

-- with a comma behind each text there is one between each two, and one at the end
pub flat_map-join : (word : ℤ) (words : List ℤ)
    → flat_map printed_word (word ∷ words) ≡ join_with_byte 44 (map signed_decimal (word ∷ words)) ++ 44 ∷ []
flat_map-join word [] = append-nil (printed_word word)
flat_map-join word (next ∷ words) =
    ap (λ text. printed_word word ++ text) (flat_map-join next words)
    ∙ append_assoc (signed_decimal word) (44 ∷ []) (join_with_byte 44 (map signed_decimal (next ∷ words)) ++ 44 ∷ [])
    ∙ sym (append_assoc (signed_decimal word) (44 ∷ join_with_byte 44 (map signed_decimal (next ∷ words))) (44 ∷ []))

-- one more word of the row
pub written_more : (words : List ℤ) (i : ℕ) (d : ℤ) (front text : List ℕ)
    → i < length words
    → front ≡ flat_map printed_word (take i words)
    → text ≡ signed_decimal (get_or words i d)
    → front ++ text ++ 44 ∷ [] ≡ flat_map printed_word (take (i + 1) words)
written_more words i d front text within before this =
    append_assoc front text (44 ∷ [])
    ∙ ap (λ line. line ++ (text ++ 44 ∷ [])) before
    ∙ ap (λ new. flat_map printed_word (take i words) ++ (new ++ 44 ∷ [])) this
    ∙ sym (ap (flat_map printed_word) (take_more words i d within)
    ∙ flat_map-append printed_word (take i words) (get_or words i d ∷ [])
    ∙ ap (λ last. flat_map printed_word (take i words) ++ last) (append-nil (printed_word (get_or words i d))))

-- the last comma gives way to LF
pub last_replaced : (put text : List ℕ) (end : ℕ)
    → end ≤ length put
    → take end put ≡ text ++ 44 ∷ []
    → take end (set put (end - 1) 10) ≡ text ++ 10 ∷ []
last_replaced put text end within written =
    let size : end ≡ length text + 1 =
    sym (length-take-le end put within) ∙ ap length written ∙ length-append text (44 ∷ []) in
    let last : end - 1 ≡ length text = omega arith in
    take-set-lt end put (end - 1) 10 (omega arith)
    ∙ ap (λ line. set line (end - 1) 10) written
    ∙ ap (λ i. set (text ++ 44 ∷ []) i 10) last
    ∙ set-append_seam text 44 [] 10

-- lists that are the same from n on are the same further on
pub same_further : {A : Type 0} (n more : ℕ) (xs ys : List A)
    → drop n xs ≡ drop n ys
    → drop (n + more) xs ≡ drop (n + more) ys
same_further n more xs ys same = sym (drop-drop more n xs) ∙ ap (drop more) same ∙ drop-drop more n ys
