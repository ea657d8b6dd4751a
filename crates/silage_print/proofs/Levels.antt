-- The rule that is read where a level of precedence is asked, and the level of each rule.
use Rattle.std.specs.Prelude.{ℕ, suc, zero}
use Rattle.silage_syntax.specs.Grammar.{Level, Or, And, Sum, Product, ExprRule, Chain, Comparison, Shift, Unary}
use Rattle.silage_syntax.specs.Grammar.{Primary, ManifestRule, Manifest_, Term, Factor, Primary_}

abbrev pub expr_rule : ℕ → ExprRule
expr_rule zero = Chain Or
expr_rule (suc zero) = Chain And
expr_rule (suc (suc zero)) = Comparison
expr_rule (suc (suc (suc zero))) = Chain Sum
expr_rule (suc (suc (suc (suc zero)))) = Chain Product
expr_rule (suc (suc (suc (suc (suc zero))))) = Shift
expr_rule (suc (suc (suc (suc (suc (suc zero)))))) = Unary
expr_rule (suc (suc (suc (suc (suc (suc (suc n))))))) = Primary

abbrev pub manifest_rule : ℕ → ManifestRule
manifest_rule zero = Manifest_
manifest_rule (suc zero) = Manifest_
manifest_rule (suc (suc zero)) = Manifest_
manifest_rule (suc (suc (suc zero))) = Manifest_
manifest_rule (suc (suc (suc (suc zero)))) = Term
manifest_rule (suc (suc (suc (suc (suc zero))))) = Factor
manifest_rule (suc (suc (suc (suc (suc (suc zero)))))) = Factor
manifest_rule (suc (suc (suc (suc (suc (suc (suc n))))))) = Primary_

-- the level of the chain of each rule
abbrev pub chain_level : Level → ℕ
chain_level Or = 0
chain_level And = 1
chain_level Sum = 3
chain_level Product = 4

abbrev pub rule_level : ExprRule → ℕ
rule_level (Chain l) = chain_level l
rule_level Comparison = 2
rule_level Shift = 5
rule_level Unary = 6
rule_level Primary = 7
rule_level _ = 0
