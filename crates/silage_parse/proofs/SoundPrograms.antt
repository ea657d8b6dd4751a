-- Soundness of the table: the grammar has the functions, tables and programs that the table reads, with the same roles.
use Rattle.std.proofs.Common.{◌≡◌, ℕ, zero, suc, ◌+◌, ◌≤◌, true, List, [], ◌∷◌, ◌++◌, length, Option, Some, None}
use Rattle.std.proofs.Common.{slice_get, refl, sym, ap, ◌∙◌, subst, ap₂, arith, append_assoc, append-nil, le_refl}
use Rattle.std.proofs.Common.{le_antisymm, zero-le}
use Rattle.lists.proofs.Bools.{first_true as and_first, second_true as and_second}
use Rattle.fix_word.specs.declared.types.FixType.{FixType}
use Rattle.silage_lex.specs.declared.Token.{Token}
use Rattle.silage_syntax.specs.declared.tree.Lit.{Lit}
use Rattle.silage_syntax.specs.declared.tree.Decl.{Decl}
use Rattle.silage_syntax.specs.Tree.{Item, items_of, Top, table, function, Program}
use Rattle.silage_syntax.specs.Grammar.{kind_of, kind_at, from_at, Declared, Role, Plain, plain, IsList, IsDecl}
use Rattle.silage_syntax.specs.Grammar.{IsLocals, is_table, is_function, IsTops, no_tops, one_top, HasRoles}
use Rattle.silage_parse.specs.Private.ParseTable as the
use Rattle.silage_parse.specs.Private.ParseTable.{Terminal, End, is_one, Effect, Outside, Source, Nonterminal, Value}
use Rattle.silage_parse.specs.Private.ParseTable.{Symbol, Match, Act, Expand, Action, productions}
use Rattle.silage_parse.specs.Private.Machine.{made, pushed, roles_of, Among, candidates, here, there, name_text, Reads}
use Rattle.silage_parse.specs.Private.Machine.{r_end, r_match, r_expand, r_act}
use Rattle.silage_parse.proofs.SpanRoles.{plain_none, plain_more, plain_both}
use Rattle.silage_parse.proofs.TokenFacts.{mark_seen, word_seen, name_seen, from_seen, kind_moved}
use Rattle.silage_parse.proofs.Derivations.{opposite, no_end, reads_within, phrase_span}
use Rattle.silage_parse.proofs.FirstFollow.{is_source}
use Rattle.silage_parse.proofs.Readings.{way_among}
use Rattle.silage_parse.proofs.Derivations.{way_no_end, taken}
use Rattle.silage_parse.proofs.SoundSteps.{Means, Sound, All, a_end, a_take, a_go, a_make, settled}
use Rattle.silage_parse.proofs.SoundManifests.{manifest_means, terms_mean, term_means, factors_mean, factor_means}
use Rattle.silage_parse.proofs.SoundManifests.{amount_means, subs_mean, second_sub_means, delay_means}
use Rattle.silage_parse.proofs.SoundTypes.{signed_means, words_mean, more_words_mean, dims_mean, second_dim_means}
use Rattle.silage_parse.proofs.SoundTypes.{fix_means, fix_end_means, mode_means, after_round_means, type_means}
use Rattle.silage_parse.proofs.SoundTypes.{declared_means, more_names_mean, decl_means, more_decls_mean, results_mean}
use Rattle.silage_parse.proofs.SoundTypes.{locals_mean, initial_means}
use Rattle.silage_parse.proofs.SoundExpressions.{chain_means, rest_means, comparison_means, compare_rest_means}
use Rattle.silage_parse.proofs.SoundExpressions.{shift_means, shifts_mean, unary_means, other_unary_means}
use Rattle.silage_parse.proofs.SoundExpressions.{after_minus_means, primary_means, other_primary_means, arms_mean}
use Rattle.silage_parse.proofs.SoundExpressions.{arm_end_means}
use Rattle.silage_parse.proofs.SoundItems.{target_subs_mean, second_target_sub_means, target_means, more_targets_mean}
use Rattle.silage_parse.proofs.SoundItems.{args_mean, more_args_mean, items_mean, item_means, after_target_means}
use Rattle.silage_parse.proofs.SoundItems.{right_side_means, right_name_means, open_name_means}

-- plain tokens: one, some, and none more, before other roles
plain_one : (i j : ℕ) (qs : List Role) {ts : List Role}
    → i + 1 ≤ j
    → ts ≡ plain (i + 1) j ++ qs
    → Plain ∷ ts ≡ plain i j ++ qs
plain_one i j qs w e = ap (λ z. Plain ∷ z) e ∙ ap (λ z. z ++ qs) (sym (plain_more i j w))

plain_some : (qs : List Role) {i k j : ℕ} {rs ts : List Role}
    → i ≤ k
    → k ≤ j
    → rs ≡ plain i k
    → ts ≡ plain k j ++ qs
    → rs ++ ts ≡ plain i j ++ qs
plain_some qs {i} {k} {j} a b e f =
    ap₂ (λ x y. x ++ y) e f ∙ sym (append_assoc (plain i k) (plain k j) qs) ∙ ap (λ x. x ++ qs) (sym (plain_both a b))

plain_over : (j : ℕ) (qs : List Role) → qs ≡ plain j j ++ qs
plain_over j qs = ap (λ x. x ++ qs) (sym (plain_none j))

tops_to : {us : List Token} {i j : ℕ} {ts : List Top} {rs qs : List Role}
    → IsTops us i ts rs j
    → rs ≡ qs
    → IsTops us i ts qs j
tops_to {us} {i} {j} {ts} d q = let P : List Role → Type 0 = λ z. IsTops us i ts z j in subst P q d

table_made :
    (s e c w : Token) (d : Declared) (f : FixType) (ls : List Lit) (at : ℕ) (ts : List Top) (bs : List Value)
    {x3 x2 x1 vs : List Value}
    → x3 ≡ the.lits ls ∷ the.token e ∷ x2
    → x2 ≡ the.fix at f ∷ the.token c ∷ x1
    → x1 ≡ the.name d ∷ the.token w ∷ vs
    → vs ≡ the.tops ts ∷ bs
    → made the.add_table (the.token s ∷ x3)
    ≡ the.tops (ts ++ table (record { name = d.name; at = d.at; dims = d.dims; ty = f; words = ls }) ∷ []) ∷ bs
table_made s e c w d f ls at ts bs p3 p2 p1 p0 = rw (p3, p2, p1, p0) refl

function_made :
    (s e b d c o n w : Token) (ps rs ls : List Decl) (ys : List Item) (at : ℕ) (ts : List Top) (bs : List Value)
    {x5 x4 x3 x2 vs : List Value}
    → x5 ≡ the.items ys ∷ x4
    → x4 ≡ the.decls ls ∷ the.token b ∷ the.token d ∷ x3
    → x3 ≡ the.decls rs ∷ the.token c ∷ x2
    → x2 ≡ the.decls ps ∷ the.token o ∷ the.token n ∷ the.token w ∷ vs
    → vs ≡ the.tops ts ∷ bs
    → at ≡ n.from
    → made the.add_function (the.token s ∷ the.token e ∷ x5)
    ≡ the.tops (ts
    ++ function
    (record { name = name_text n; at = at; params = ps; results = rs; locals = ls; items = items_of ys })
    ∷ []) ∷ bs
function_made s e b d c o n w ps rs ls ys at ts bs p5 p4 p3 p2 p0 f = rw (p5, p4, p3, p2, p0, f) refl

list_from : (us : List Token) {i k j : ℕ} {ds : List Decl}
    → IsList us Decl (IsDecl us) i ds j
    → i ≡ k
    → IsList us Decl (IsDecl us) k ds j
list_from us d q = rw q at d

locals_from : (us : List Token) {i k j : ℕ} {ds : List Decl} → IsLocals us i ds j → i ≡ k → IsLocals us k ds j
locals_from us d q = rw q at d

tops_from : (us : List Token) {i k j : ℕ} {ts : List Top} {rs : List Role}
    → IsTops us i ts rs j
    → i ≡ k
    → IsTops us k ts rs j
tops_from us d q = rw q at d

-- the roles of a function's tokens
function_roles : (i k1 k2 k3 k4 : ℕ) (q5 q6 : List Role) {q1 q2 q3 q4 : List Role}
    → i + 1 + 1 + 1 ≤ k1
    → k1 ≤ k2
    → k2 + 1 ≤ k3
    → k3 + 1 + 1 ≤ k4
    → q1 ≡ plain (i + 1 + 1 + 1) k1
    → q2 ≡ plain k1 k2
    → q3 ≡ plain (k2 + 1) k3
    → q4 ≡ plain (k3 + 1 + 1) k4
    → plain i k4 ++ q5 ++ Plain ∷ Plain ∷ [] ++ q6
    ≡ Plain ∷ Plain ∷ Plain
    ∷ (q1 ++ (q2 ++ Plain ∷ (q3 ++ Plain ∷ Plain ∷ (q4 ++ (q5 ++ Plain ∷ Plain ∷ (q6 ++ []))))))
function_roles i k1 k2 k3 k4 q5 q6 w1 w2 w3 w4 e1 e2 e3 e4 =
    let ts : List Role = q5 ++ Plain ∷ Plain ∷ (q6 ++ []) in
    let c4 = ap (λ z. z ++ ts) e4 in
    let c3 = plain_one k3 k4 ts (omega arith) (plain_one (k3 + 1) k4 ts w4 c4) in
    let c2 = plain_one k2 k4 ts (omega arith) (plain_some ts w3 (omega arith) e3 c3) in
    let c1 = plain_some ts w1 (omega arith) e1 (plain_some ts w2 (omega arith) e2 c2) in
    let c0 =
    plain_one i k4 ts (omega arith)
    (plain_one (i + 1) k4 ts (omega arith) (plain_one (i + 1 + 1) k4 ts (omega arith) c1)) in
    let a : plain i k4 ++ q5 ++ Plain ∷ Plain ∷ [] ++ q6 ≡ plain i k4 ++ ts = simp (append_assoc, append-nil) in
    a ∙ sym c0

pub tops_mean : Sound the.Tops
tops_mean us i vs rs _ _ _ here
    (a_take {t = t0} s0 h0
    (a_go {j = k1} b1
    (a_take {t = t1} s1 h1
    (a_go {j = k2} b2
    (a_take {t = t2} s2 h2
    (a_go {j = k3} b3 (a_take {t = t3} s3 h3 (a_make (a_go {rs = q4} b4 (a_end q w)))))))))) =
    settled us the.Tops i vs rs q w (λ ts bs e.
    let m1 = b1.means in
    let m2 = b2.means in
    let m3 = b3.means in
    let d = m1.0 in
    let top : Top = table (record { name = d.name; at = d.at; dims = d.dims; ty = m2.0; words = m3.0 }) in
    let m4 =
    b4.means (ts ++ top ∷ []) bs
    (table_made t3 t2 t1 t0 m1.0 m2.0 m3.0 (from_at us (k1 + 1)) ts bs m3.1 m2.1 m1.1 e) in
    let w1 = b1.within in
    let w2 = b2.within in
    let w3 = b3.within in
    let c4 = plain_one k3 (k3 + 1) q4 (le_refl (k3 + 1)) (append-nil q4 ∙ plain_over (k3 + 1) q4) in
    let c3 = plain_some q4 w3 (omega arith) (b3.roles Outside refl) c4 in
    let c2 = plain_some q4 w2 (omega arith) (b2.roles Outside refl) (plain_one k2 (k3 + 1) q4 (omega arith) c3) in
    let c1 = plain_some q4 w1 (omega arith) (b1.roles Outside refl) (plain_one k1 (k3 + 1) q4 (omega arith) c2) in (
      top ∷ m4.0,
      m4.1 ∙ ap (λ z. the.tops z ∷ bs) (append_assoc ts (top ∷ []) m4.0),
      tops_to (one_top
          (is_table (word_seen us i _ s0 h0) m1.2 (mark_seen us k1 _ s1 h1) m2.2 (mark_seen us k2 _ s2 h2) m3.2
          (mark_seen us k3 _ s3 h3)) m4.2)
          (sym (plain_one i (k3 + 1) q4 (omega arith) c1)),
    ))
tops_mean us i vs rs _ _ _ (there (there here)) (a_end q w) =
    settled us the.Tops i vs rs q w (λ ts bs e. ([], e ∙ ap (λ z. the.tops z ∷ bs) (sym (append-nil ts)), no_tops))
tops_mean us i vs rs _ _ _ (there here)
    (a_take {t = t0} s0 h0
    (a_take {t = t1} s1 h1
    (a_take {t = t2} s2 h2
    (a_go {j = k1} {xs = x1} b1
    (a_make (a_go {j = k2} {xs = x2} b2
    (a_take {t = t3} s3 h3
    (a_go {j = k3} {xs = x3} b3
    (a_take {t = t4} s4 h4
    (a_take {t = t5} s5 h5
    (a_make (a_go {j = k4} {xs = x4} b4
    (a_make (a_go {j = k5} {rs = q5} b5
    (a_take {t = t6} s6 h6
    (a_take {t = t7} s7 h7 (a_make (a_go {rs = q6} b6 (a_end q w))))))))))))))))))) =
    settled us the.Tops i vs rs q w (λ ts bs e.
    let low : List Value = the.token t2 ∷ the.token t1 ∷ the.token t0 ∷ vs in
    let m1 = b1.means in
    let u1 : made the.first_decl x1 ≡ the.decls (m1.0 ∷ []) ∷ low = ap (made the.first_decl) m1.1 in
    let m2 = b2.means (m1.0 ∷ []) low u1 in
    let m3 = b3.means in
    let m4 = b4.means [] (the.token t5 ∷ the.token t4 ∷ x3) refl in
    let m5 = b5.means [] x4 refl in
    let ps = m1.0 ∷ m2.0 in
    let top : Top =
    function
    (record {
      name = name_text t1;
      at = from_at us (i + 1);
      params = ps;
      results = m3.0;
      locals = m4.0;
      items = items_of m5.0;
    }) in
    let m6 =
    b6.means (ts ++ top ∷ []) bs
    (function_made t7 t6 t5 t4 t3 t2 t1 t0 ps m3.0 m4.0 m5.0 (from_at us (i + 1)) ts bs m5.1 m4.1 m3.1 m2.1 e
    (from_seen us (i + 1) s1)) in (
      top ∷ m6.0,
      m6.1 ∙ ap (λ z. the.tops z ∷ bs) (append_assoc ts (top ∷ []) m6.0),
      tops_to (one_top
          (is_function (word_seen us i _ s0 h0) (name_seen us (i + 1) s1 h1)
          (kind_moved us (mark_seen us (i + 1 + 1) _ s2 h2) (omega arith))
          (list_from us (m2.2 (i + 1 + 1 + 1) m1.0 m1.2) (omega arith)) (mark_seen us k2 _ s3 h3) m3.2
          (mark_seen us k3 _ s4 h4) (word_seen us (k3 + 1) _ s5 h5) (locals_from us m4.2 (omega arith)) m5.2
          (word_seen us k5 _ s6 h6) (mark_seen us (k5 + 1) _ s7 h7)) (tops_from us m6.2 (omega arith)))
          (function_roles i k1 k2 k3 k4 q5 q6 b1.within b2.within b3.within b4.within (b1.roles Outside refl)
          (b2.roles Outside refl) (b3.roles Outside refl) (b4.roles Outside refl)),
    ))
tops_mean us i vs rs _ _ _ (there (there (there x))) h = elim x [ ]

-- where there is one production, it is this one
only_way : {x y : List Symbol} → Among (x ∷ []) y → y ≡ x
only_way here = refl
only_way (there x) = elim x [ ]

-- each nonterminal means what it is to
phrase_means :
    (p : Nonterminal) (us : List Token) (i : ℕ) (vs : List Value) (rs : List Role) (ps : List Symbol) (j : ℕ)
    (ws : List Value)
    → Among (candidates p (kind_at us i)) ps
    → All us ps i vs rs j ws
    → Means us p i vs rs j ws
phrase_means Source = λ us i vs rs ps j ws w a. tt
phrase_means the.Tops = tops_mean
phrase_means the.Signed = signed_means
phrase_means the.Words = words_mean
phrase_means the.MoreWords = more_words_mean
phrase_means the.Dims = dims_mean
phrase_means the.SecondDim = second_dim_means
phrase_means (the.FixIn e) = fix_means e
phrase_means (the.FixEnd e) = fix_end_means e
phrase_means (the.Mode_ e) = mode_means e
phrase_means (the.AfterRound e) = after_round_means e
phrase_means the.Type_ = type_means
phrase_means the.Name_ = declared_means
phrase_means the.MoreNames = more_names_mean
phrase_means the.Decl_ = decl_means
phrase_means the.MoreDecls = more_decls_mean
phrase_means the.Results = results_mean
phrase_means the.Locals = locals_mean
phrase_means the.Manifest_ = manifest_means
phrase_means the.Terms = terms_mean
phrase_means the.Term = term_means
phrase_means the.Factors = factors_mean
phrase_means the.Factor = factor_means
phrase_means the.ManifestPrimary = amount_means
phrase_means the.Subs = subs_mean
phrase_means the.SecondSub = second_sub_means
phrase_means the.Delay = delay_means
phrase_means (the.Chain l) = chain_means l
phrase_means (the.Rest l) = rest_means l
phrase_means the.Comparison = comparison_means
phrase_means the.CompareRest = compare_rest_means
phrase_means the.Shift = shift_means
phrase_means the.Shifts = shifts_mean
phrase_means the.Unary = unary_means
phrase_means the.OtherUnary = other_unary_means
phrase_means the.AfterMinus = λ us i vs rs ps j ws w a.
    after_minus_means us i vs rs (way_among the.AfterMinus (kind_at us i) w) (only_way w) a
phrase_means the.Primary = primary_means
phrase_means the.OtherPrimary = other_primary_means
phrase_means the.Arms = arms_mean
phrase_means the.ArmEnd = arm_end_means
phrase_means the.TargetSubs = target_subs_mean
phrase_means the.SecondTargetSub = second_target_sub_means
phrase_means the.Target = target_means
phrase_means the.MoreTargets = more_targets_mean
phrase_means the.Args = args_mean
phrase_means the.MoreArgs = more_args_mean
phrase_means the.Items_ = items_mean
phrase_means the.Item_ = item_means
phrase_means the.AfterTarget = after_target_means
phrase_means the.RightSide = right_side_means
phrase_means the.AfterRightName = right_name_means
phrase_means the.AfterOpenName = open_name_means
phrase_means the.InitialValue = initial_means

-- the first of the symbols, and the rest, do not wait for the end
opens : (ks : List Terminal) (e : Effect) (ss : List Symbol)
    → no_end (Match ks e ∷ ss) ≡ true
    → (opposite (is_one ks None) ≡ true) × (no_end ss ≡ true)
opens ks e ss h =
    (and_first (opposite (is_one ks None)) (no_end ss) h, and_second (opposite (is_one ks None)) (no_end ss) h)

goes_on : (p : Nonterminal) (ss : List Symbol)
    → no_end (Expand p ∷ ss) ≡ true
    → (opposite (is_source p) ≡ true) × (no_end ss ≡ true)
goes_on p ss h = (and_first (opposite (is_source p)) (no_end ss) h, and_second (opposite (is_source p)) (no_end ss) h)

all_take :
    {us : List Token} {ks : List Terminal} {ss : List Symbol} {i j : ℕ} {vs ws : List Value} {rs : List Role}
    (e : Effect) (t : Token)
    → slice_get us i ≡ Some t
    → is_one ks (kind_at us i) ≡ true
    → All us ss (i + 1) (pushed (slice_get us i) vs) rs j ws
    → All us (Match ks e ∷ ss) i vs (roles_of e (slice_get us i) ++ rs) j ws
all_take {us} {ks} {ss} {i} {j} {vs} {ws} {rs} e t s f a =
    let g : is_one ks (Some t.kind) ≡ true = rw s at f in
    let b : All us ss (i + 1) (the.token t ∷ vs) rs j ws = rw s at a in
    rw s (a_take s g b)

-- a reading as the nonterminals that were read
all_of : {us : List Token} {ss : List Symbol} {i j : ℕ} {vs ws : List Value} {rs : List Role}
    → Reads us ss i vs rs j ws
    → no_end ss ≡ true
    → All us ss i vs rs j ws
all_of r_end h = a_end refl refl
all_of {us} (r_match {ks = ks} {e = e} {ss = ss} {i = i} f a) h =
    let n = opens ks e ss h in
    let t = taken us ks (slice_get us i) f n.0 in
    all_take e t.0 t.1 f (all_of a n.1)
all_of {us} (r_expand {p = p} {ss = ss} {i = i} {j = j} {vs = vs} {xs = xs} {rs = rs} way a b) h =
    let n = goes_on p ss h in
    let m = all_of a (way_no_end p (kind_at us i) way n.0) in
    a_go (record {
      within = reads_within a;
      roles = λ e q. phrase_span e p way a q;
      means = phrase_means p us i vs rs _ j xs way m;
    })
    (all_of b n.1)
all_of (r_act a) h = a_make (all_of a h)

-- a token is before the end
stands : (us : List Token) (i : ℕ) {t : Token} → slice_get us i ≡ Some t → i + 1 ≤ length us
stands [] i h = cc
stands (x ∷ xs) zero h = omega arith
stands (x ∷ xs) (suc i) h = let r = stands xs i h in omega arith

none_behind : (us : List Token) (i : ℕ) → slice_get us i ≡ None → length us ≤ i
none_behind [] i h = zero-le
none_behind (x ∷ xs) zero h = cc
none_behind (x ∷ xs) (suc i) h = let r = none_behind xs i h in omega arith

-- no reading goes past the last token before it asks for the end
reads_bounded : {us : List Token} {ss : List Symbol} {i j : ℕ} {vs ws : List Value} {rs : List Role}
    → Reads us ss i vs rs j ws
    → no_end ss ≡ true
    → i ≤ length us
    → j ≤ length us
reads_bounded r_end h w = w
reads_bounded {us} (r_match {ks = ks} {e = e} {ss = ss} {i = i} f a) h w =
    let n = opens ks e ss h in
    let t = taken us ks (slice_get us i) f n.0 in
    reads_bounded a n.1 (stands us i t.1)
reads_bounded {us} (r_expand {p = p} {ss = ss} {i = i} way a b) h w =
    let n = goes_on p ss h in
    reads_bounded b n.1 (reads_bounded a (way_no_end p (kind_at us i) way n.0) w)
reads_bounded (r_act a) h w = reads_bounded a h w

-- the end is no token
end_known : (o : Option Token) → is_one (End ∷ []) (kind_of o) ≡ true → o ≡ None
end_known None h = refl
end_known (Some t) h = cc

-- what is read by no symbol, by an action, by the end
nothing : {us : List Token} {i j : ℕ} {vs ws : List Value} {rs : List Role}
    → Reads us [] i vs rs j ws
    → (vs ≡ ws) × (rs ≡ [])
nothing r_end = (refl, refl)

behind_action : {us : List Token} {a : Action} {ss : List Symbol} {i j : ℕ} {vs ws : List Value} {rs : List Role}
    → Reads us (Act a ∷ ss) i vs rs j ws
    → Reads us ss i (made a vs) rs j ws
behind_action (r_act a) = a

at_end : (us : List Token) (k : ℕ) (xs : List Value) {j : ℕ} {vs : List Value} {rs : List Role}
    → Reads us (Match (End ∷ []) Outside ∷ []) k xs rs j vs
    → (slice_get us k ≡ None) × (vs ≡ xs) × (rs ≡ [])
at_end us k xs (r_match {rs = rs} f a) =
    let n = end_known (slice_get us k) f in
    let m = nothing a in
    (n, sym m.0 ∙ ap (λ o. pushed o xs) n, ap₂ (λ o z. roles_of Outside o ++ z) n m.1)

tops_end : {us : List Token} {i j k : ℕ} {ts : List Top} {rs : List Role}
    → IsTops us i ts rs j
    → j ≡ k
    → IsTops us i ts rs k
tops_end {us} {i} {ts = ts} {rs = rs} d q = let P : ℕ → Type 0 = λ z. IsTops us i ts rs z in subst P q d

whole_source : (us : List Token) {roles : List Role} {j : ℕ} {vs : List Value}
    → Reads us (Expand the.Tops ∷ Match (End ∷ []) Outside ∷ []) 0 (the.tops [] ∷ []) roles j vs
    → (p : Program) × (vs ≡ the.tops p.tops ∷ []) × HasRoles us p roles
whole_source us (r_expand {j = k} {xs = xs} {rs = rs} {qs = qs} way a b) =
    let open_ = way_no_end the.Tops (kind_at us 0) way refl in
    let m = phrase_means the.Tops us 0 (the.tops [] ∷ []) rs _ k xs way (all_of a open_) [] [] refl in
    let e = at_end us k xs b in
    let low = reads_bounded a open_ zero-le in
    let high = none_behind us k e.0 in
    let len : k ≡ length us = le_antisymm low high in
    (record { tops = m.0 }, e.1 ∙ m.1, tops_end (tops_to m.2 (sym (append-nil rs) ∙ ap (λ z. rs ++ z) (sym e.2))) len)

-- what is read of a whole source is a program, with the same roles
pub program_of : (us : List Token) (roles : List Role) (j : ℕ) (vs : List Value)
    → Reads us (Expand Source ∷ []) 0 [] roles j vs
    → (p : Program) × (vs ≡ the.tops p.tops ∷ []) × HasRoles us p roles
program_of us roles j vs (r_expand {rs = rs} here a b) =
    let p = whole_source us (behind_action a) in
    let n = nothing b in
    (p.0, sym n.0 ∙ p.1, tops_to p.2 (sym (append-nil rs) ∙ ap (λ z. rs ++ z) (sym n.1)))
program_of us roles j vs (r_expand (there x) a b) = elim x [ ]
