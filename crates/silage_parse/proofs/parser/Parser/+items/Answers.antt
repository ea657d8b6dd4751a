use Rattle.std.proofs.lemmas.List.{map-append}
use Rattle.silage_syntax.specs.Tree.{view_item}
use Rattle.silage_parse.specs.Private.ParseTable.{Punctuation, Leaves, Expand, AfterTarget, Item_}
use Rattle.silage_parse.specs.Private.Parsed.{item_list, loop_bounds, loop_body, block_end, after_open, place_value}
use Rattle.silage_parse.specs.Private.Parsed.{item_value}
use Rattle.silage_parse.proofs.Steps.{refl, sym, ap, ◌∙◌, [], ◌∷◌, arith, taken_from, taken_name, then_next, start}
use Rattle.silage_parse.proofs.Steps.{matches, parses, reads, does, giving, first, other, stops, stops_at, whole}
use Rattle.silage_parse.proofs.Steps.{further, fault_is}
use Rattle.silage_parse.proofs.Loops.{loop_made}
use Rattle.silage_parse.specs.Private.ParseTable as the
use Rattle.silage_lex.specs.declared.punctuation.TheConstants as punctuation
use Rattle.silage_parse.proofs.parser.Parser.+items.Goals as goal

pub counted_loop-returns-in_err-index : goal.counted_loop-returns-in_err-index
counted_loop-returns-in_err-index t c = λ k same.
    rw (fault_is c.from_residual.result c.from_residual.ensures.1)
    (stops_at _ (start after_open c.args.self.now (the.token k ∷ [])) c.in_err-index.ensures)

pub counted_loop-returns-in_err-lo : goal.counted_loop-returns-in_err-lo
counted_loop-returns-in_err-lo t c = λ k same.
    rw (fault_is c.from_residual-in_err-lo.result c.from_residual-in_err-lo.ensures.1)
    (stops loop_bounds _ [] _ _
    (first (matches (start after_open c.args.self.now (the.token k ∷ [])) c.in_ok-index.ensures.0) refl
    (then_next (Punctuation punctuation.COLON ∷ []) c.in_ok-index.ensures.0 c.requires)) c.in_err-lo.ensures)

pub counted_loop-returns-in_err-items : goal.counted_loop-returns-in_err-items
counted_loop-returns-in_err-items t c = λ k same.
    rw (fault_is c.from_residual-in_err-items.result c.from_residual-in_err-items.ensures.1)
    (stops loop_body _ [] _ _
    (reads loop_bounds [] _
    (first (matches (start after_open c.args.self.now (the.token k ∷ [])) c.in_ok-index.ensures.0) refl
    (then_next (Punctuation punctuation.COLON ∷ []) c.in_ok-index.ensures.0 c.requires)) c.in_ok-lo.ensures.4)
    c.in_err-items.ensures)

pub counted_loop-returns : goal.counted_loop-returns
counted_loop-returns t c =
    let index = c.in_ok-index.ensures in
    λ k same.
    giving (does
    (reads loop_body [] _
    (reads loop_bounds [] _
    (first (matches (start after_open c.args.self.now (the.token k ∷ [])) index.0) refl
    (then_next (Punctuation punctuation.COLON ∷ []) index.0 c.requires)) c.in_ok-lo.ensures.4)
    c.in_ok-items.ensures.3) (λ under. refl))
    (ap (λ x. the.an_item x ∷ [])
    (sym (loop_made c.in_ok-index.index c.in_ok-lo.lo c.in_ok-lo.hi c.into_vec.result c.args.at c.into_vec.ensures
    (taken_name index.0 index.1) same)))

pub loop_body-returns-in_err-expect_reserved : goal.loop_body-returns-in_err-expect_reserved
loop_body-returns-in_err-expect_reserved t c =
    rw (fault_is c.from_residual.result c.from_residual.ensures.1)
    (stops_at _ (start loop_body c.args.self.now []) c.in_err-expect_reserved.ensures)

pub loop_body-returns-in_err-items : goal.loop_body-returns-in_err-items
loop_body-returns-in_err-items t c =
    rw (fault_is c.from_residual-in_err-items.result c.from_residual-in_err-items.ensures.1)
    (stops item_list _ [] _ _ (matches (start loop_body c.args.self.now []) c.in_ok-expect_reserved.ensures)
    c.in_err-items.ensures)

pub loop_body-returns-in_err-block_end : goal.loop_body-returns-in_err-block_end
loop_body-returns-in_err-block_end t c =
    rw (fault_is c.from_residual-in_err-block_end.result c.from_residual-in_err-block_end.ensures.1)
    (stops (block_end Leaves) _ [] _ _
    (reads item_list [] _ (matches (start loop_body c.args.self.now []) c.in_ok-expect_reserved.ensures)
    c.in_ok-items.ensures) c.in_err-block_end.ensures)

pub loop_body-returns : goal.loop_body-returns
loop_body-returns t c =
    let opened = c.in_ok-expect_reserved.ensures in
    let end = c.in_ok-block_end.ensures in (
      opened.token,
      end.0,
      end.1,
      reads (block_end Leaves) [] _
          (reads item_list [] _ (matches (start loop_body c.args.self.now []) opened) c.in_ok-items.ensures) end.2,
    )

pub item-returns-in_err-place-clause-read : goal.item-returns-in_err-place-clause-read
item-returns-in_err-place-clause-read t c =
    rw (fault_is c.from_residual.result c.from_residual.ensures.1)
    (stops_at _ (first (start (Expand Item_ ∷ []) c.args.self.now []) refl (sym c.if-is_name.ensures.value))
    c.in_err-place.ensures.read)

pub item-returns-then-is_name-clause-read : goal.item-returns-then-is_name-clause-read
item-returns-then-is_name-clause-read t c =
    whole (Expand AfterTarget ∷ []) (place_value c.in_ok-place.place ∷ []) (λ x. item_value x ∷ []) _
    c.after_target.result
    (parses (first (start (Expand Item_ ∷ []) c.args.self.now []) refl (sym c.if-is_name.ensures.value))
    c.in_ok-place.ensures.read) c.after_target.ensures

pub item-returns-in_err-expect_symbol-clause-read : goal.item-returns-in_err-expect_symbol-clause-read
item-returns-in_err-expect_symbol-clause-read t c =
    rw (fault_is c.from_residual-in_err-expect_symbol.result c.from_residual-in_err-expect_symbol.ensures.1)
    (stops_at _ (other (start (Expand Item_ ∷ []) c.args.self.now []) refl (sym c.if-is_name.ensures.value))
    c.in_err-expect_symbol.ensures)

pub item-returns-then-is_symbol_later-clause-read : goal.item-returns-then-is_symbol_later-clause-read
item-returns-then-is_symbol_later-clause-read t c =
    whole after_open (the.token c.in_ok-expect_symbol.ensures.token ∷ []) (λ x. item_value x ∷ []) _
    c.counted_loop.result
    (matches (other (start (Expand Item_ ∷ []) c.args.self.now []) refl (sym c.if-is_name.ensures.value))
    c.in_ok-expect_symbol.ensures)
    (c.counted_loop.ensures c.in_ok-expect_symbol.ensures.token
    (sym (taken_from c.in_ok-expect_symbol.ensures) ∙ sym c.start-at.ensures))

pub item-returns-else-is_symbol_later-clause-read : goal.item-returns-else-is_symbol_later-clause-read
item-returns-else-is_symbol_later-clause-read t c =
    whole after_open (the.token c.in_ok-expect_symbol.ensures.token ∷ []) (λ x. item_value x ∷ []) _ c.calls.result
    (matches (other (start (Expand Item_ ∷ []) c.args.self.now []) refl (sym c.if-is_name.ensures.value))
    c.in_ok-expect_symbol.ensures) (c.calls.ensures c.in_ok-expect_symbol.ensures.token)

pub item-returns-then-is_symbol_later-clause-advances : goal.item-returns-then-is_symbol_later-clause-advances
item-returns-then-is_symbol_later-clause-advances t c =
    let opened = c.in_ok-expect_symbol.ensures in
    further after_open c.args.self.now.at c.expect_symbol.new.self (the.token opened.token ∷ [])
    (λ x. item_value x ∷ []) _ c.counted_loop.result (omega (arith, opened.one))
    (c.counted_loop.ensures opened.token (sym (taken_from opened) ∙ sym c.start-at.ensures))

pub item-returns-else-is_symbol_later-clause-advances : goal.item-returns-else-is_symbol_later-clause-advances
item-returns-else-is_symbol_later-clause-advances t c =
    let opened = c.in_ok-expect_symbol.ensures in
    further after_open c.args.self.now.at c.expect_symbol.new.self (the.token opened.token ∷ [])
    (λ x. item_value x ∷ []) _ c.calls.result (omega (arith, opened.one)) (c.calls.ensures opened.token)

pub items-more-init : goal.items-more-init
items-more-init t c = does (start item_list c.args.self.now []) (λ under. rw c.new-list.ensures refl)

pub items-returns-in_err-item : goal.items-returns-in_err-item
items-returns-in_err-item t c =
    rw (fault_is c.from_residual.result c.from_residual.ensures.1)
    (stops_at _ (first c.more.invariant refl (sym c.more-test.ensures.value)) c.in_err-item.ensures.read)

pub items-more-preserved : goal.items-more-preserved
items-more-preserved t c =
    does (parses (first c.more.invariant refl (sym c.more-test.ensures.value)) c.in_ok-item.ensures.read)
    (λ under. rw (c.in_ok-push.ensures.ok, map-append view_item) refl)

pub items-returns : goal.items-returns
items-returns t c = other c.more.invariant refl (sym c.more-test.ensures.value)
