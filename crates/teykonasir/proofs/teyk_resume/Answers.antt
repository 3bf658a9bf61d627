-- Either a slice is too short, or the numbers are a tokenizer's and it runs on, or they are none's.
use Rattle.teykonasir.proofs.Told.{resume_short, resume_narrow, resume_whole, resume_none}
use Rattle.teykonasir.proofs.teyk_resume.Goals as goal

pub returns-then-answer-lt4 : goal.returns-then-answer-lt4
returns-then-answer-lt4 c = resume_short _ _ _ _ _ _ c.if-answer-lt4.true

pub returns-then-state-lt4 : goal.returns-then-state-lt4
returns-then-state-lt4 c = resume_narrow _ _ _ _ _ _ c.if-answer-lt4.false c.if-state-lt4.true

pub returns-in-Some : goal.returns-in-Some
returns-in-Some c = resume_whole _ _ _ _ _ _ c.if-answer-lt4.false c.if-state-lt4.false _ c.state_from.ensures _ c.in-Some.is _ c.run_numbers-ran.ensures.0 _ _ _ _ c.put_ran.ensures.0 c.put_state.ensures c.run_numbers-ran.ensures.1 c.put_ran.ensures.1

pub returns-in-None : goal.returns-in-None
returns-in-None c = resume_none _ _ _ _ _ _ c.if-answer-lt4.false c.if-state-lt4.false _ c.state_from.ensures c.in-None.is _ c.put.ensures
