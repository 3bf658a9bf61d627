use Rattle.teykonasir.proofs.Told.{expand-short, expand-whole}
use Rattle.teykonasir.proofs.teyk_expand.Reads as reads
use Rattle.teykonasir.proofs.teyk_expand.Lts as lts
use Rattle.escapes.proofs.apply_string_escapes.Reads as apply-string-escapes-reads
use Rattle.teykonasir.proofs.expand_code.Reads as expand-code-reads
use Rattle.teykonasir.proofs.put_expanded.Reads as put-expanded-reads
use Rattle.teykonasir.proofs.teyk_expand.Goals as goal

pub returns-then-answer-lt4 : goal.returns-then-answer-lt4
returns-then-answer-lt4 c = expand-short _ _ _ _ _ c.if-answer-lt4.true

pub returns : goal.returns
returns c = expand-whole _ _ _ _ _ c.if-answer-lt4.false _ c.apply_string_escapes-e.ensures.0 _ _ _ c.expand_code.ensures c.apply_string_escapes-e.ensures.1 c.put_expanded.ensures
