use Rattle.std.proofs.Common.{◌+◌, ◌<◌, ◌≤◌, length, arith, sym, ap, ◌∙◌}
use Rattle.utf8.specs.Picks.{picks}
use Rattle.utf8.proofs.Laws.{bad-within}
use Rattle.record.specs.Checks.{checks, check_utf8}
use Rattle.record.proofs.checks.Goals as goal

pub returns-then-text-gt-TEXT_LIMIT : goal.returns-then-text-gt-TEXT_LIMIT
unfolding checks
returns-then-text-gt-TEXT_LIMIT c = search picks

pub returns-then-shift-text : goal.returns-then-shift-text
unfolding checks
returns-then-shift-text c =
    let a = c.args in
    let h : 18446744073709551615 < a.shift + length a.text.now = omega arith in
    search picks

pub overflow_add-result : goal.overflow_add-result
overflow_add-result c =
    omega (arith, bad-within _ _ (sym c.in-Err.ensures))

pub returns-in-Ok : goal.returns-in-Ok
unfolding checks
returns-in-Ok c =
    let a = c.args in
    let h : a.shift + length a.text.now ≤ 18446744073709551615 = omega arith in
    let e = ap (check_utf8 a.shift) (sym c.in-Ok.is ∙ c.check.ensures) in
    search picks

pub returns-in-Err : goal.returns-in-Err
unfolding checks
returns-in-Err c =
    let a = c.args in
    let h : a.shift + length a.text.now ≤ 18446744073709551615 = omega arith in
    let e = ap (check_utf8 a.shift) (sym c.in-Err.is ∙ c.check.ensures) in
    search picks
