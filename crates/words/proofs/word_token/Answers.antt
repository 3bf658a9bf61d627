use Rattle.std.proofs.Common.{sym, ◌∙◌}
use Rattle.words.specs.Letters.{word_before, word_none, word_out}
use Rattle.words.proofs.word_token.Goals as goal

pub returns-then-p-o : goal.returns-then-p-o
returns-then-p-o c = c.id_token.ensures ∙ sym (word_before _ _ _ _ c.if-p-o.true)

pub returns-then-s-p : goal.returns-then-s-p
returns-then-s-p c = c.id_token-then-s-p.ensures ∙ sym (word_out _ _ _ _ c.if-s-p.true)

pub returns-in_default : goal.returns-in_default
returns-in_default c = let r = c.in_default.in_default-own.rest in c.id_token-in_default.ensures ∙ sym (word_none _ c.args.s.now c.args.o c.args.p r.0.0.0.0.0.0.1 r.0.0.0.0.0.1 r.0.0.0.0.1 r.0.0.0.1 r.0.0.1 r.0.1 r.1)
