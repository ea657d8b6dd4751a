-- The end of a source, and what begins a table or a function.
use Rattle.std.proofs.Common.{◌≡◌, ℕ, ◌≤◌, ◌<◌, length, List, [], ◌∷◌, Option, None, refl, sym, subst, true, false, Err}
use Rattle.std.proofs.Common.{arith, inl, inr, ◌+◌, ◌++◌, ◌∙◌}
use Rattle.std.specs.Prelude.{slice_get}
use Rattle.std.proofs.lemmas.Option.{slice_get_past, slice_get_cases}
use Rattle.silage_lex.specs.declared.Token.{Token}
use Rattle.silage_lex.specs.declared.keywords.TheConstants as keyword
use Rattle.silage_syntax.specs.declared.tree.Top.{Top as RustTop}
use Rattle.silage_syntax.specs.Tree.{Top, view_top}
use Rattle.silage_syntax.specs.Grammar.{kind_at}
use Rattle.silage_parse.specs.declared.ParseFault.{ParseFault}
use Rattle.silage_parse.specs.declared.ParseFault.TheVariants.{Syntax, Deep, Memory}
use Rattle.silage_parse.specs.declared.parser.Parser.{Parser}
use Rattle.silage_parse.specs.Private.ParseTable.{End, Keyword, Value, Source, is_one}
use Rattle.silage_parse.specs.Private.ParseTable as the
use Rattle.silage_parse.specs.Private.Machine.{Count, Outcome, done, Runs, RunsTo, pushed, expands, acts, matches, ends}
use Rattle.silage_parse.specs.Private.Machine.{wrong}
use Rattle.silage_parse.specs.Private.Parsed.{next, RunsFrom, Leads, Halts, IsRun, source_rest, with_top}

-- token i is there, and is not the end
no_end : (ts : List Token) (i : ℕ) → i < length ts → is_one (End ∷ []) (kind_at ts i) ≡ false
no_end ts i h = elim (slice_get_cases ts i).1 [ inl s ↦ rw s.2 refl | inr s ↦ absurd (omega (arith, s.0)) ]

-- no table and no function begins, and it is not the end
pub no_top : (from : Parser) (tops : List Top)
    → from.at < length from.tokens.now
    → is_one (Keyword keyword.CONST ∷ []) (next from) ≡ false
    → is_one (Keyword keyword.FUNC ∷ []) (next from) ≡ false
    → Halts source_rest from (the.tops tops ∷ []) (Syntax from.at)
no_top from tops inside no_table no_function = λ below under.
    expands (rw (no_table, no_function) (wrong (no_end from.tokens.now from.at inside)))

-- after the last token the source is over
over : {ts : List Token} {i : ℕ} {c : Count} {vs : List Value}
    → slice_get ts i ≡ None
    → Runs ts source_rest i c vs (done vs)
over {ts} {i} {c} {vs} h =
    let P : Option Token → Type 0 = λ x. Runs ts [] (i + 1) c (pushed x vs) (done vs) in
    let ended : is_one (End ∷ []) (kind_at ts i) ≡ true = rw h refl in
    expands (rw h (matches ended refl (subst P (sym h) ends)))

-- The run over the source has come to a table or a function, or to the end.
pub record SoFar (ts : List Token) (tops : List Top) (to : Parser) : Type 0 where
  pub same : to.tokens.now ≡ ts
  pub run : (o : Outcome) → RunsFrom to source_rest (the.tops tops ∷ []) o → RunsTo ts o

pub source_begins : {ts : List Token} {to : Parser} (tops : List Top)
    → to.tokens.now ≡ ts
    → to.at ≡ 0
    → to.counts ≡ record { weight = 0; loops = 0 }
    → tops ≡ []
    → SoFar ts tops to
source_begins tops same at counts none =
    record { same = same; run = λ o r. expands (acts (rw (same, at, counts, none) at r)) }

pub source_goes_on : {ts : List Token} {from to : Parser} (tops : List Top) (top : RustTop)
    → SoFar ts tops from
    → Leads source_rest from (the.tops tops ∷ []) source_rest to (with_top tops top)
    → SoFar ts (tops ++ view_top top ∷ []) to
source_goes_on tops top s l = record { same = l.same ∙ s.same; run = λ o r. s.run o (l.run [] [] o r) }

pub source_over : {ts : List Token} {to : Parser} (tops : List Top)
    → SoFar ts tops to
    → length ts ≤ to.at
    → RunsTo ts (done (the.tops tops ∷ []))
source_over {ts} {to} tops s h = s.run _ (over (slice_get_past to.tokens.now to.at (rw s.same h)))

-- a fault between tables and functions is the whole run's
pub source_stops : {ts : List Token} {to : Parser} (tops : List Top) (f : ParseFault)
    → SoFar ts tops to
    → Halts source_rest to (the.tops tops ∷ []) f
    → IsRun ts (Err f)
source_stops tops (Syntax k) s h = s.run _ (h [] [])
source_stops tops (Deep k) s h = s.run _ (h [] [])
source_stops tops Memory s h = tt
