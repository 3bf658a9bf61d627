use Rattle.teykonasir.proofs.Told.{run_short, run-whole}
use Rattle.teykonasir.proofs.teyk_run.Reads as reads
use Rattle.teykonasir.proofs.teyk_run.Lts as lts
use Rattle.teykonasir.proofs.put_ran.Reads as put-ran-reads
use Rattle.run.proofs.run_numbers.Reads as run-numbers-reads
use Rattle.tok.proofs.start.Reads as start-reads
use Rattle.teykonasir.proofs.teyk_run.Goals as goal

pub returns-then-answer-lt4 : goal.returns-then-answer-lt4
returns-then-answer-lt4 c = run_short _ _ _ _ _ c.if-answer-lt4.true

pub returns : goal.returns
returns c = run-whole _ _ _ _ _ c.if-answer-lt4.false _ c.start.ensures _ c.run_numbers-ran.ensures.0 _ _ _ c.put_ran.ensures.0 c.run_numbers-ran.ensures.1 c.put_ran.ensures.1
