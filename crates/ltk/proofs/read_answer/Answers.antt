use Rattle.std.proofs.Common.{rules, sym, ◌∙◌, lt-ltb, le-ltb}
use Rattle.ltk.specs.Ltk.{read_answer}
use Rattle.ltk.proofs.read_answer.Goals as goal

pub returns-then-room-n : goal.returns-then-room-n
unfolding read_answer
returns-then-room-n c = rw (sym c.check.ensures ∙ c.in_ok-n.was) (simp (lt-ltb _ _ c.if-room-n.true))

pub returns : goal.returns
unfolding read_answer
returns c = rw (sym c.check.ensures ∙ c.in_ok-n.was) (simp (le-ltb _ _ c.if-room-n.false))

pub returns-in_err-n : goal.returns-in_err-n
unfolding read_answer
returns-in_err-n c = rw (sym c.check.ensures ∙ c.in_err-n.was) (search rules)
