use Rattle.std.proofs.Common.{ℕ, ◌<◌, arith, List, refl, sym, ◌∙◌, length}
use Rattle.std.specs.Prelude.{Option, Some, None}
use Rattle.record.specs.Readings.{reading_of}
use Rattle.numbers.specs.Leaves.{Leaves, short, whole}
use Rattle.teykonasir_read.specs.Calls.{read_by, read_call}
use Rattle.record.specs.declared.Reading.{Reading}
use Rattle.teykonasir_read.proofs.teyk_read.Goals as goal

-- a short answer is told whatever is chosen
short_by : (x : Option Reading) (s : List ℕ) (shift limit : ℕ) (records answer : List ℕ) → length answer < 6 → Leaves (read_by x s shift limit records answer) 14 records answer
short_by (Some rd) s shift limit records answer h = short 6 _ _ _ _ _ h
short_by None s shift limit records answer h = short 6 _ _ _ _ _ h

pub returns-then-answer-lt6 : goal.returns-then-answer-lt6
unfolding read_call
returns-then-answer-lt6 c =
    let a = c.args in
    short_by (reading_of a.reading) a.text.now a.shift a.limit a.records.now a.answer.now c.if-answer-lt6.true

pub returns-in-Some : goal.returns-in-Some
unfolding read_call
returns-in-Some c =
    let e = sym c.in-Some.ensures in
    let l = c.if-answer-lt6.false in
    let s = c.start_in.ensures in
    let r = c.read_numbers-ran.ensures in
    let p = c.put_read.ensures in
    rw e (whole 6 _ _ _ _ _ (omega (arith, l)) _ _ _ (p.0 ∙ rw (r.0, s)) (r.1 ∙ rw s) (p.1 ∙ rw (r.0, s)))

pub returns-in-None : goal.returns-in-None
unfolding read_call
returns-in-None c =
    let e = sym c.in-None.ensures in
    let l = c.if-answer-lt6.false in
    let p = c.put_six.ensures in
    rw e (whole 6 _ _ _ _ _ (omega (arith, l)) _ _ _ p.0 refl p.1)
