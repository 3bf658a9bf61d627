use Rattle.std.proofs.Common.{sym, ap, ◌∙◌, arith}
use Rattle.scan.specs.Far.{closed-within, lands}
use Rattle.scan.specs.Passes.{regex_past}
use Rattle.reading.specs.Regex.{regex_by, regex_token}
use Rattle.reading.specs.Steps.{regex_hashes}
use Rattle.tok.proofs.regex.regex_token.Goals as goal

pub overflow_sub-place : goal.overflow_sub-place
overflow_sub-place c = let e = sym c.in-Ok.ensures in let l = lands _ _ _ _ (regex_past _ _ _ _ _ e) in let g = l.gone in let h = regex_hashes _ _ _ _ _ _ _ (omega arith) e in omega arith

pub overflow_add-place : goal.overflow_add-place
overflow_add-place c = let h = closed-within _ _ _ _ (regex_past _ _ _ _ _ (sym c.in-Ok.ensures)) in omega arith

pub overflow_add-passed : goal.overflow_add-passed
overflow_add-passed c = let h = closed-within _ _ _ _ (regex_past _ _ _ _ _ (sym c.in-Ok.ensures)) in omega arith

pub returns-in-Ok : goal.returns-in-Ok
unfolding regex_token
returns-in-Ok c = c.deliver.ensures ∙ ap (regex_by _ _ _) (sym c.in-Ok.is ∙ c.regex_end.ensures)

pub returns-in-Err : goal.returns-in-Err
unfolding regex_token
returns-in-Err c = c.refuse.ensures ∙ ap (regex_by _ _ _) (sym c.in-Err.is ∙ c.regex_end.ensures)
