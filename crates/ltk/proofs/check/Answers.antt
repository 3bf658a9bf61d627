use Rattle.std.proofs.Common.{ℕ, ◌+◌, ◌*◌, ◌≡◌, length, sym, ap, ◌∙◌, arith, rules}
use Rattle.ltk.specs.Layout.{number_at}
use Rattle.ltk.specs.Ltk.{count_in, entry_at, entries_of, judge}
use Rattle.ltk.proofs.Checking.{no-mark, short, other-version, other_length, by_records}
use Rattle.ltk.proofs.check.Goals as goal

pub returns-then-not-is_marked : goal.returns-then-not-is_marked
returns-then-not-is_marked c = no-mark _ (sym c.is_marked.ensures ∙ c.if-not-is_marked.true)

pub returns-then-file-lt-HEADER_SIZE : goal.returns-then-file-lt-HEADER_SIZE
returns-then-file-lt-HEADER_SIZE c = short _ (sym c.is_marked.ensures ∙ c.if-not-is_marked.false) c.if-file-lt-HEADER_SIZE.true

pub returns-then-number2-ne-VERSION : goal.returns-then-number2-ne-VERSION
returns-then-number2-ne-VERSION c =
    other-version _ (sym c.is_marked.ensures ∙ c.if-not-is_marked.false) c.if-file-lt-HEADER_SIZE.false (λ e. c.if-number2-ne-VERSION.true (c.number2.ensures.0 ∙ e))

pub returns-then-file-count : goal.returns-then-file-count
returns-then-file-count c =
    let s = c.args.file.now in
    let n = c.number4-count.ensures.0 in
    let v : number_at 2 s 3 ≡ 1 = omega (arith, c.number2.ensures.0) in
    let g : length s ≡ 9 + 9 * count_in s → ⊥ = λ e. c.if-file-count.true (omega (arith, e, n)) in
    other_length s (sym c.is_marked.ensures ∙ c.if-not-is_marked.false) c.if-file-lt-HEADER_SIZE.false v g

pub returns : goal.returns
returns c =
    let s = c.args.file.now in
    let n = c.number4-count.ensures.0 in
    let v : number_at 2 s 3 ≡ 1 = omega (arith, c.number2.ensures.0) in
    let g : length s ≡ 9 + 9 * count_in s = omega (arith, n) in
    c.test.ensures.judged (entry_at s) (λ i h e p. search rules) ∙ ap (λ (k : ℕ). judge (entries_of s k)) n
    ∙ by_records s (sym c.is_marked.ensures ∙ c.if-not-is_marked.false) c.if-file-lt-HEADER_SIZE.false v g
