use Rattle.std.proofs.Common.{[], ◌∷◌, codes, refl, sym, ◌∙◌}
use Rattle.term_text.proofs.ByteWords.{reserved_by, not_reserved}
use Rattle.term_text.proofs.write.is_reserved_by.Goals as goal

pub returns-in-97 : goal.returns-in-97
returns-in-97 c = c.is_among.ensures ∙ reserved_by c.args.text.now c.args.first 97 (codes "after" ∷ codes "and" ∷ codes "andalso" ∷ []) c.utf8.text c.requires c.in-97.is (λ rest. refl)

pub returns-in-98 : goal.returns-in-98
returns-in-98 c = c.is_among-in-98.ensures ∙ reserved_by c.args.text.now c.args.first 98 (codes "band" ∷ codes "begin" ∷ codes "bnot" ∷ codes "bor" ∷ codes "bsl" ∷ codes "bsr" ∷ codes "bxor" ∷ []) c.utf8.text c.requires c.in-98.is (λ rest. refl)

pub returns-in-99 : goal.returns-in-99
returns-in-99 c = c.is_among-in-99.ensures ∙ reserved_by c.args.text.now c.args.first 99 (codes "case" ∷ codes "catch" ∷ codes "cond" ∷ []) c.utf8.text c.requires c.in-99.is (λ rest. refl)

pub returns-in-100 : goal.returns-in-100
returns-in-100 c = c.is_among-in-100.ensures ∙ reserved_by c.args.text.now c.args.first 100 (codes "div" ∷ []) c.utf8.text c.requires c.in-100.is (λ rest. refl)

pub returns-in-101 : goal.returns-in-101
returns-in-101 c = c.is_among-in-101.ensures ∙ reserved_by c.args.text.now c.args.first 101 (codes "else" ∷ codes "end" ∷ []) c.utf8.text c.requires c.in-101.is (λ rest. refl)

pub returns-in-102 : goal.returns-in-102
returns-in-102 c = c.is_among-in-102.ensures ∙ reserved_by c.args.text.now c.args.first 102 (codes "fun" ∷ []) c.utf8.text c.requires c.in-102.is (λ rest. refl)

pub returns-in-105 : goal.returns-in-105
returns-in-105 c = c.is_among-in-105.ensures ∙ reserved_by c.args.text.now c.args.first 105 (codes "if" ∷ []) c.utf8.text c.requires c.in-105.is (λ rest. refl)

pub returns-in-108 : goal.returns-in-108
returns-in-108 c = c.is_among-in-108.ensures ∙ reserved_by c.args.text.now c.args.first 108 (codes "let" ∷ []) c.utf8.text c.requires c.in-108.is (λ rest. refl)

pub returns-in-109 : goal.returns-in-109
returns-in-109 c = c.is_among-in-109.ensures ∙ reserved_by c.args.text.now c.args.first 109 (codes "maybe" ∷ []) c.utf8.text c.requires c.in-109.is (λ rest. refl)

pub returns-in-110 : goal.returns-in-110
returns-in-110 c = c.is_among-in-110.ensures ∙ reserved_by c.args.text.now c.args.first 110 (codes "not" ∷ []) c.utf8.text c.requires c.in-110.is (λ rest. refl)

pub returns-in-111 : goal.returns-in-111
returns-in-111 c = c.is_among-in-111.ensures ∙ reserved_by c.args.text.now c.args.first 111 (codes "of" ∷ codes "or" ∷ codes "orelse" ∷ []) c.utf8.text c.requires c.in-111.is (λ rest. refl)

pub returns-in-114 : goal.returns-in-114
returns-in-114 c = c.is_among-in-114.ensures ∙ reserved_by c.args.text.now c.args.first 114 (codes "receive" ∷ codes "rem" ∷ []) c.utf8.text c.requires c.in-114.is (λ rest. refl)

pub returns-in-116 : goal.returns-in-116
returns-in-116 c = c.is_among-in-116.ensures ∙ reserved_by c.args.text.now c.args.first 116 (codes "try" ∷ []) c.utf8.text c.requires c.in-116.is (λ rest. refl)

pub returns-in-119 : goal.returns-in-119
returns-in-119 c = c.is_among-in-119.ensures ∙ reserved_by c.args.text.now c.args.first 119 (codes "when" ∷ []) c.utf8.text c.requires c.in-119.is (λ rest. refl)

pub returns-in-120 : goal.returns-in-120
returns-in-120 c = c.is_among-in-120.ensures ∙ reserved_by c.args.text.now c.args.first 120 (codes "xor" ∷ []) c.utf8.text c.requires c.in-120.is (λ rest. refl)

pub returns-then-not-begins_reserved : goal.returns-then-not-begins_reserved
returns-then-not-begins_reserved c = not_reserved c.args.text.now c.args.first c.utf8.text c.requires (sym c.begins_reserved.ensures ∙ c.if-not-begins_reserved.true)
