-- The canonical text of an item is lighter than the tokens that the item was read from, and so up to programs.
use Rattle.std.proofs.Common.{ℕ, ◌+◌, ◌≤◌, List, [], ◌∷◌, ◌++◌, length, arith}
use Rattle.silage_lex.specs.declared.Token.{Token}
use Rattle.silage_syntax.specs.declared.tree.Lit.{Lit}
use Rattle.silage_syntax.specs.declared.tree.ConstDef.{ConstDef}
use Rattle.silage_syntax.specs.Tree.{Manifest, Place, Expr, Item, equation, call, loop, initial, Items, no_item, item}
use Rattle.silage_syntax.specs.Tree.{Func, Top, table, function}
use Rattle.silage_syntax.specs.Grammar.{IsManifest, Manifest_, Primary_, IsExpr, Chain, Or, Role, Plain, Starts, Enters}
use Rattle.silage_syntax.specs.Grammar.{Leaves, weights, plain, IsTargetSubscripts, no_target_sub, one_target_sub}
use Rattle.silage_syntax.specs.Grammar.{two_target_subs, IsTarget, target, IsTargets, last_target, more_targets}
use Rattle.silage_syntax.specs.Grammar.{IsArguments, last_arg, more_args, IsItem, is_equation, is_call, is_calls}
use Rattle.silage_syntax.specs.Grammar.{is_loop, is_initial, IsItems, no_items, one_item, IsTop, is_table, is_function}
use Rattle.silage_syntax.specs.Grammar.{IsTops, no_tops, one_top}
use Rattle.silage_print.specs.Text.{manifest_text, amount_text, expr_text}
use Rattle.silage_print.proofs.KindsAt.{AreAt}
use Rattle.silage_print.proofs.Weights.{manifest_total, amount_total, expr_total}
use Rattle.silage_print.proofs.Lighter.{weight, weight_free, Lighter, joined, none_lighter, same_role, start_for_plain}
use Rattle.silage_print.proofs.Lighter.{plain_more, plain_less, start_late, text_lighter, plain_lighter}

-- the roles are lighter than those of any tokens that are this part by the rule
abbrev pub Light : {A : Type 0} → (List Token → ℕ → A → List Role → ℕ → Type 0) → A → List Role → Type 0
Light Rule x rs = (ts : List Token) (i j : ℕ) (qs : List Role) → Rule ts i x qs j → Lighter rs qs

-- tokens that are a part by the rule, and no heavier than any that are the other
pub record Has
    {A : Type 0} (Rule : List Token → ℕ → A → List Role → ℕ → Type 0) (us : List Token) (x : A) (i : ℕ) (y : A) (j : ℕ)
    : Type 0 where
  pub roles : List Role
  pub is : Rule us i y roles j
  pub light : Light Rule x roles

-- Texts of outermost expressions.
abbrev pub LightExpr : Expr → List Role → Type 0
LightExpr e rs = (ts : List Token) (i j : ℕ) → IsExpr ts (Chain Or) i e j → Lighter rs (weights ts i j)

abbrev pub LightManifest : Manifest → List Role → Type 0
LightManifest m rs = (ts : List Token) (i j : ℕ) → IsManifest ts Manifest_ i m j → Lighter rs (weights ts i j)

abbrev pub LightAmount : Manifest → List Role → Type 0
LightAmount m rs = (ts : List Token) (i j : ℕ) → IsManifest ts Primary_ i m j → Lighter rs (weights ts i j)

pub light_expr : (us : List Token) (e : Expr) (i j : ℕ) → AreAt us i (expr_text e) j → LightExpr e (weights us i j)
light_expr us e i j s ts a b d = text_lighter us ts (expr_text e) i j a b s (expr_total weight weight_free d)

pub light_manifest : (us : List Token) (m : Manifest) (i j : ℕ)
    → AreAt us i (manifest_text m) j
    → LightManifest m (weights us i j)
light_manifest us m i j s ts a b d =
    text_lighter us ts (manifest_text m) i j a b s (manifest_total weight weight_free d)

pub light_amount : (us : List Token) (m : Manifest) (i j : ℕ)
    → AreAt us i (amount_text m) j
    → LightAmount m (weights us i j)
light_amount us m i j s ts a b d = text_lighter us ts (amount_text m) i j a b s (amount_total weight weight_free d)

-- Places on the left.
pub light_no_sub : Light IsTargetSubscripts [] []
light_no_sub ts i j qs no_target_sub = none_lighter

pub light_sub : {m : Manifest} {ws : List Role}
    → LightManifest m ws
    → Light IsTargetSubscripts (m ∷ []) (Starts ∷ ws ++ Plain ∷ [])
light_sub f ts i j qs (one_target_sub {j = k} a d b) =
    same_role Starts (joined (f ts (i + 1) k d) (same_role Plain none_lighter))

pub light_subs : {m n : Manifest} {ws vs : List Role}
    → LightManifest m ws
    → LightManifest n vs
    → Light IsTargetSubscripts (m ∷ n ∷ []) (Starts ∷ ws ++ Plain ∷ Starts ∷ vs ++ Plain ∷ [])
light_subs f g ts i j qs (two_target_subs {j = k} {k = l} a d b c e h) =
    joined (joined (same_role Starts (f ts (i + 1) k d)) (same_role Plain (same_role Starts (g ts (k + 2) l e))))
    (same_role Plain none_lighter)

pub light_target : (p : Place) {rs : List Role} → Light IsTargetSubscripts p.subs rs → Light IsTarget p (Plain ∷ rs)
light_target p f ts i j qs (target {rs = rs} n s) = same_role Plain (f ts (i + 1) j rs s)

some_targets : {ts : List Token} {i j : ℕ} {ps : List Place} {rs : List Role} → IsTargets ts i ps rs j → 1 ≤ length ps
some_targets (last_target d) = omega arith
some_targets (more_targets d c rest) = omega arith

pub light_last : {p : Place} {rs : List Role} → Light IsTarget p rs → Light IsTargets (p ∷ []) rs
light_last f ts i j qs (last_target d) = f ts i j qs d
light_last f ts i j qs (more_targets d c rest) = let some = some_targets rest in absurd (omega arith)

pub light_more : {p : Place} {ps : List Place} {rs qs : List Role}
    → 1 ≤ length ps
    → Light IsTarget p rs
    → Light IsTargets ps qs
    → Light IsTargets (p ∷ ps) (rs ++ Plain ∷ qs)
light_more long f g ts i j ws (last_target d) = absurd (omega arith)
light_more long f g ts i j ws (more_targets {j = k} {rs = rs} {qs = qs} d c rest) =
    joined (f ts i k rs d) (same_role Plain (g ts (k + 1) j qs rest))

-- Arguments.
some_args : {ts : List Token} {i j : ℕ} {es : List Expr} {rs : List Role} → IsArguments ts i es rs j → 1 ≤ length es
some_args (last_arg d) = omega arith
some_args (more_args d c rest) = omega arith

pub light_last_arg : {e : Expr} {ws : List Role} → LightExpr e ws → Light IsArguments (e ∷ []) ws
light_last_arg f ts i j qs (last_arg d) = f ts i j d
light_last_arg f ts i j qs (more_args d c rest) = let some = some_args rest in absurd (omega arith)

pub light_more_args : {e : Expr} {es : List Expr} {ws qs : List Role}
    → 1 ≤ length es
    → LightExpr e ws
    → Light IsArguments es qs
    → Light IsArguments (e ∷ es) (ws ++ Starts ∷ qs)
light_more_args long f g ts i j rs (last_arg d) = absurd (omega arith)
light_more_args long f g ts i j rs (more_args {j = k} {rs = qs} d c rest) =
    joined (f ts i k d) (same_role Starts (g ts (k + 1) j qs rest))

-- Items.
two_plain : Lighter (Plain ∷ Plain ∷ []) (Plain ∷ Plain ∷ [])
two_plain = same_role Plain (same_role Plain none_lighter)

pub light_equation : {p : Place} {e : Expr} {rs ws : List Role}
    → Light IsTarget p rs
    → LightExpr e ws
    → Light IsItem (equation p e) (rs ++ Starts ∷ ws ++ Plain ∷ [])
light_equation f g ts i j qs (is_equation {j = k} {k = l} {rs = rs} p d e s) =
    joined (joined (f ts i k rs p) (same_role Starts (g ts (k + 1) l e))) (same_role Plain none_lighter)

pub light_call : {p : Place} {f : List ℕ} {es : List Expr} {at : ℕ} {rs qs : List Role}
    → Light IsTarget p rs
    → Light IsArguments es qs
    → Light IsItem (call (p ∷ []) f es at) (rs ++ Starts ∷ Plain ∷ Starts ∷ qs ++ Plain ∷ Plain ∷ [])
light_call f g ts i j ws (is_call {j = k} {k = l} {rs = rs} {qs = qs} p d n o es c s) =
    joined (joined (f ts i k rs p) (same_role Starts (same_role Plain (same_role Starts (g ts (k + 3) l qs es)))))
    two_plain
light_call f g ts i j ws (is_calls {j = k} {k = l} {rs = rs} {qs = qs} q ps c d n o es e s) =
    joined (plain_less
    (joined (light_last f ts (i + 1) k rs ps)
    (start_for_plain (same_role Plain (plain_less (same_role Starts (g ts (k + 4) l qs es)))))))
    two_plain

pub light_calls : {ps : List Place} {f : List ℕ} {es : List Expr} {at : ℕ} {rs qs : List Role}
    → Light IsTargets ps rs
    → Light IsArguments es qs
    → Light IsItem (call ps f es at) (Plain ∷ rs ++ Plain ∷ Plain ∷ Plain ∷ Starts ∷ qs ++ Plain ∷ Plain ∷ [])
light_calls f g ts i j ws (is_call {j = k} {k = l} {rs = rs} {qs = qs} p d n o es c s) =
    joined (plain_more
    (joined (f ts i k rs (last_target p))
    (plain_more (plain_more (plain_more (start_late (plain_less (same_role Starts (g ts (k + 3) l qs es)))))))))
    two_plain
light_calls f g ts i j ws (is_calls {j = k} {k = l} {rs = rs} {qs = qs} q ps c d n o es e s) =
    joined (joined (same_role Plain (f ts (i + 1) k rs ps))
    (same_role Plain (same_role Plain (same_role Plain (same_role Starts (g ts (k + 4) l qs es))))))
    two_plain

pub light_loop : {index : List ℕ} {lo hi : Manifest} {xs : Items} {at : ℕ} {ws vs rs : List Role}
    → LightManifest lo ws
    → LightManifest hi vs
    → Light IsItems xs rs
    → Light IsItem (loop index lo hi xs at)
    (Plain ∷ Plain ∷ Starts ∷ ws ++ Starts ∷ vs ++ Plain ∷ Plain ∷ Enters ∷ rs ++ Leaves ∷ Plain ∷ [])
light_loop f g h ts i j qs (is_loop {j = k} {k = l} {m = m} {rs = rs} o n c lo t hi s e b xs d z) =
    let bounds =
    joined (same_role Plain (same_role Plain (same_role Starts (f ts (i + 3) k lo))))
    (same_role Starts (g ts (k + 1) l hi)) in
    joined (joined bounds (same_role Plain (same_role Plain (same_role Enters (h ts (l + 3) m rs xs)))))
    (same_role Leaves (same_role Plain none_lighter))

pub light_initial : {p : Place} {a : Manifest} {v : Lit} {rs ws : List Role} (k m : ℕ)
    → Light IsTarget p rs
    → LightAmount a ws
    → Light IsItem (initial p a v) (rs ++ Starts ∷ ws ++ plain k m)
light_initial k m f g ts i j qs (is_initial {j = l} {k = n} {m = o} {rs = rs} p d a e v s) =
    joined (joined (f ts i l rs p) (same_role Starts (g ts (l + 1) n a))) (plain_lighter k m n (o + 1))

pub light_no_items : Light IsItems no_item []
light_no_items ts i j qs no_items = none_lighter

pub light_items : {x : Item} {xs : Items} {rs qs : List Role}
    → Light IsItem x rs
    → Light IsItems xs qs
    → Light IsItems (item x xs) (rs ++ qs)
light_items f g ts i j ws (one_item {j = k} {rs = rs} {qs = qs} x xs) = joined (f ts i k rs x) (g ts k j qs xs)

-- Tables, functions and programs.
pub light_table : {c : ConstDef} (i j : ℕ) → Light IsTop (table c) (plain i j)
light_table i j ts k m qs (is_table {m = n} w d c f e ls s) = plain_lighter i j k (n + 1)

function_lighter : (ts : List Token) (k : ℕ) (f : Func) (m : ℕ) (qs ws : List Role) (i j : ℕ)
    → Light IsItems f.items qs
    → IsTop ts k (function f) ws m
    → Lighter (plain i j ++ qs ++ Plain ∷ Plain ∷ []) ws
function_lighter ts k f m qs ws i j g (is_function {m = l} {n = n} {qs = rs} w a o ps c r d b ls xs e s) =
    joined (joined (plain_lighter i j k l) (g ts l n rs xs)) two_plain

pub light_function : {f : Func} {qs : List Role} (i j : ℕ)
    → Light IsItems f.items qs
    → Light IsTop (function f) (plain i j ++ qs ++ Plain ∷ Plain ∷ [])
light_function {f = f} {qs = qs} i j g ts k m ws d = function_lighter ts k f m qs ws i j g d

pub light_no_tops : Light IsTops [] []
light_no_tops ts i j qs no_tops = none_lighter

pub light_tops : {t : Top} {rest : List Top} {rs qs : List Role}
    → Light IsTop t rs
    → Light IsTops rest qs
    → Light IsTops (t ∷ rest) (rs ++ qs)
light_tops f g ts i j ws (one_top {j = k} {rs = rs} {qs = qs} t rest) = joined (f ts i k rs t) (g ts k j qs rest)
