use Rattle.std.proofs.Common.{◌≡◌, ℕ, [], sym, ap, ◌∙◌, subst, arith, inl, length, Ok, Err, List}
use Rattle.std.specs.Prelude.{◌≢◌}
use Rattle.std.proofs.lemmas.Result.{err_from_is_err_and}
use Rattle.silage_lex.specs.Tokens.{Spaced, HasTokens}
use Rattle.silage_lex.specs.Faults.{HasFault}
use Rattle.silage_lex.specs.declared.LexFault.TheVariants.{Memory}
use Rattle.silage_lex.specs.declared.Token.{Token}
use Rattle.silage_lex.proofs.Reading.{spaced_gap, token_read, line_more}
use Rattle.silage_lex.proofs.Answering.{tokens_after_err, fault_after_err, right_fault}
use Rattle.silage_lex.proofs.OneReading.{tokens_once, tokens_no_fault}
use Rattle.silage_lex.proofs.lex.Goals as goal

-- the open comment in front of the first token
first_gap_fault : (c : goal.After-drop-tokens)
    → c.in_err-at.field-0.0 ≢ Memory
    → HasFault c.args.src.now c.in_err-at.field-0.0
first_gap_fault c = λ _.
    let comment = c.in_err-at.ensures.open in
    record { place = comment.0; before = []; read = comment.1; stands = comment.2 }

-- the fault behind the tokens so far
token_fault : (c : goal.After-drop-tokens-in_err-kind)
    → c.in_err-kind.field-0.0 ≢ Memory
    → HasFault c.args.src.now c.in_err-kind.field-0.0
token_fault c = λ other. record {
  place = c.loop-at.at;
  before = c.loop-at.tokens.items;
  read = c.loop-at.invariant.read;
  stands = c.in_err-kind.ensures.err other;
}

-- the open comment behind the newest token
later_gap_fault : (c : goal.After-drop-tokens-in_err-next)
    → c.in_err-next.field-0.0 ≢ Memory
    → HasFault c.args.src.now c.in_err-next.field-0.0
later_gap_fault c = λ _.
    let i = c.loop-at.invariant in
    let comment = c.in_err-next.ensures.open in
    let read =
    token_read c.args.src.now c.loop-at.tokens.items c.push.new.self.items _ c.in_ok-push.ensures.items i.read
    c.in_ok-kind.ensures.ok i.line in
    record {
      place = comment.0;
      before = c.push.new.self.items;
      read = spaced_gap c.args.src.now 0 c.in_ok-kind.to comment.0 c.push.new.self.items read comment.1;
      stands = comment.2;
    }

pub returns-in_err-at-clause-all_tokens : goal.returns-in_err-at-clause-all_tokens
returns-in_err-at-clause-all_tokens c =
    let p = err_from_is_err_and c.from_residual-in_err-at.result c.from_residual-in_err-at.ensures.1 in
    tokens_after_err c.args.src.now c.from_residual-in_err-at.result c.in_err-at.field-0.0 (p.1 ∙ ap Err p.2)
    (first_gap_fault c)

pub returns-in_err-at-clause-each_fault : goal.returns-in_err-at-clause-each_fault
returns-in_err-at-clause-each_fault c =
    let p = err_from_is_err_and c.from_residual-in_err-at.result c.from_residual-in_err-at.ensures.1 in
    fault_after_err c.args.src.now c.from_residual-in_err-at.result c.in_err-at.field-0.0 (p.1 ∙ ap Err p.2)
    (first_gap_fault c)

pub returns-in_err-kind-clause-all_tokens : goal.returns-in_err-kind-clause-all_tokens
returns-in_err-kind-clause-all_tokens c =
    let p = err_from_is_err_and c.from_residual-in_err-kind.result c.from_residual-in_err-kind.ensures.1 in
    tokens_after_err c.args.src.now c.from_residual-in_err-kind.result c.in_err-kind.field-0.0 (p.1 ∙ ap Err p.2)
    (token_fault c)

pub returns-in_err-kind-clause-each_fault : goal.returns-in_err-kind-clause-each_fault
returns-in_err-kind-clause-each_fault c =
    let p = err_from_is_err_and c.from_residual-in_err-kind.result c.from_residual-in_err-kind.ensures.1 in
    fault_after_err c.args.src.now c.from_residual-in_err-kind.result c.in_err-kind.field-0.0 (p.1 ∙ ap Err p.2)
    (token_fault c)

pub returns-in_err-next-clause-fault : goal.returns-in_err-next-clause-fault
returns-in_err-next-clause-fault c =
    let p = err_from_is_err_and c.from_residual-in_err-next.result c.from_residual-in_err-next.ensures.1 in
    right_fault c.args.src.now c.from_residual-in_err-next.result c.in_err-next.field-0.0 (p.1 ∙ ap Err p.2)
    (later_gap_fault c)

pub returns-in_err-next-clause-all_tokens : goal.returns-in_err-next-clause-all_tokens
returns-in_err-next-clause-all_tokens c =
    let p = err_from_is_err_and c.from_residual-in_err-next.result c.from_residual-in_err-next.ensures.1 in
    tokens_after_err c.args.src.now c.from_residual-in_err-next.result c.in_err-next.field-0.0 (p.1 ∙ ap Err p.2)
    (later_gap_fault c)

pub returns-in_err-next-clause-each_fault : goal.returns-in_err-next-clause-each_fault
returns-in_err-next-clause-each_fault c =
    let p = err_from_is_err_and c.from_residual-in_err-next.result c.from_residual-in_err-next.ensures.1 in
    fault_after_err c.args.src.now c.from_residual-in_err-next.result c.in_err-next.field-0.0 (p.1 ∙ ap Err p.2)
    (later_gap_fault c)

pub loop-at-preserved : goal.loop-at-preserved
loop-at-preserved c =
    let i = c.loop-at.invariant in
    let gap = c.in_ok-next.ensures.gap in
    let rises = c.in_ok-kind.ensures.ok.rises in
    let order = gap.order in
    let read =
    token_read c.args.src.now c.loop-at.tokens.items c.push.new.self.items _ c.in_ok-push.ensures.items i.read
    c.in_ok-kind.ensures.ok i.line in
    let lines = line_more c.args.src.now c.loop-at.at c.in_ok-next.next (omega arith) in
    let count = c.newlines-line-in-loop-at.ensures in
    let line = i.line in
    record {
      within = gap.within;
      line = omega arith;
      read = spaced_gap c.args.src.now 0 c.in_ok-kind.to c.in_ok-next.next c.push.new.self.items read gap.gap;
      starts = c.in_ok-next.ensures.token;
    }

-- at the end of the source its tokens are read
all_read : (c : goal.After-from_vec) → HasTokens c.args.src.now c.from_vec.result
all_read c =
    let i = c.loop-at.invariant in
    let within = i.within in
    let end : c.loop-at.at ≡ length c.args.src.now = let past = c.loop-at-test.false in omega arith in
    let P : ℕ → Type 0 = λ at. Spaced c.args.src.now 0 c.loop-at.tokens.items at in
    let Q : List Token → Type 0 = λ tokens. HasTokens c.args.src.now tokens in
    subst Q (sym c.from_vec.ensures) (subst P end i.read)

pub returns-clause-all_tokens : goal.returns-clause-all_tokens
returns-clause-all_tokens c = λ tokens h.
    inl (ap Ok (tokens_once c.args.src.now c.from_vec.result tokens (all_read c) h))

pub returns-clause-each_fault : goal.returns-clause-each_fault
returns-clause-each_fault c = λ fault h. absurd (tokens_no_fault c.args.src.now c.from_vec.result fault (all_read c) h)
