-- What the code of symbols, quotes and attributes cites: the definitions by the code's own sight of the first character, and a reader after a reader.
use Rattle.std.specs.Prelude.{◌+◌, ◌-◌, ◌<◌, ◌≤◌, ℕ, Bool, ◌||◌, false, cond, List, ◌≡◌, drop, eqb, leb, get_or, length, Ok, Err}
use Rattle.std.proofs.Common.{arith, ◌∙◌, ap, sym, leb-false}
use Rattle.std.proofs.lemmas.Bool.{eqb-false}
use Rattle.utf8.specs.Chars.{'?, '[, '], 'at, 'dquote, 'newline, 'quote}
use Rattle.utf8.proofs.Laws.{seen}
use Rattle.utf8.specs.Laws.{Ended, Seen, sight_ascii}
use Rattle.utf8.specs.Picks.{picks}
use Rattle.unicode_xid.specs.Identifier.{is_identifier_start}
use Rattle.record.specs.declared.Code.TheVariants.{UnterminatedCharacterLiteral, UnterminatedCode}
use Rattle.record.specs.declared.Kind.TheVariants.{CharLiteral, EqualsGreaterThanCode, EqualsGreaterThanQuestionCode, Lifetime}
use Rattle.record.specs.declared.Refusal.{Refusal}
use Rattle.record.specs.declared.Reading.{Reading}
use Rattle.scan.specs.Far.{Far, Lands, far_left, far_none, lands}
use Rattle.scan.specs.IfNext.{if_next}
use Rattle.scan.specs.Passes.{Balance, Good, seek-at}
use Rattle.scan.specs.Runs.{neither, run, run-over}
use Rattle.scan.specs.Seek.{seek}
use Rattle.scan.specs.Turns.{walk_pass}
use Rattle.scan.specs.Until.{left}
use Rattle.scan.specs.Walk.{walk, walk_from}
use Rattle.scan.specs.declared.Sought.TheVariants.{Word}
use Rattle.scan.specs.declared.Turn.{Turn}
use Rattle.scan.specs.declared.Turn.TheVariants.{Fail, Pass}
use Rattle.reading.specs.Answers.{deliver, more, refuse}
use Rattle.reading.specs.Attribute.{attempt_body, attribute_last, attribute_turn}
use Rattle.reading.specs.Passes.{attribute_sound}
use Rattle.reading.specs.Quotes.{char_literal, lifetime_by, lifetimeish}
use Rattle.reading.specs.Symbols.{arrow_code, arrow_look, right_arrow}

-- an ASCII byte that the body of an attempt only passes
pub attribute-on : (s : List ℕ) (from at : ℕ) → at < length s → from ≤ at → get_or s at 0 < 0x80 → (get_or s at 0 ≡ '[ → ⊥) → (get_or s at 0 ≡ '] → ⊥) → (get_or s at 0 ≡ 'dquote → ⊥) → (get_or s at 0 ≡ 'newline → ⊥)
    → (b n : ℕ) → walk_from attribute_turn attribute_last 0 (left s at) b at (n + (at - from)) ≡ walk_from attribute_turn attribute_last 0 (left s (at + 1)) b (at + 1) (n + (at + 1 - from))
unfolding attribute_turn
attribute-on s from at l f a h1 h2 h3 h4 b n =
    let h = seen s at (get_or s at 0) 1 (sym (sight_ascii s at l a)) in
    let e : Pass (at + 1) 0 b ≡ attribute_turn b (get_or s at 0) (left s (at + 1)) at (at + 1) = search picks in
    let z : n + (at - from) + 1 + 0 ≡ n + (at + 1 - from) = omega arith in
    walk_pass attribute_turn attribute_last h b (n + (at - from)) (sym e) (lands 0 s (at + 1) (at + 1) (far_none (left s (at + 1)) (at + 1)))
    ∙ ap (walk_from attribute_turn attribute_last 0 (left s (at + 1)) b (at + 1)) z

-- a byte that the body of an attempt does not only pass
abbrev pub attribute_stop : ℕ → Bool
attribute_stop x = (((eqb x '[ || eqb x ']) || eqb x 'dquote) || eqb x 'newline) || leb 128 x

-- a run of the others leaves the walk as it is
module _ (s : List ℕ) (b : ℕ) where
  passes : (at n : ℕ) → at < length s → attribute_stop (get_or s at 0) ≡ false
      → walk_from attribute_turn attribute_last 0 (left s at) b at n ≡ walk_from attribute_turn attribute_last 0 (left s (at + 1)) b (at + 1) (n + 1)
  passes at n l e =
      let x = get_or s at 0 in
      let e4 = neither (((eqb x '[ || eqb x ']) || eqb x 'dquote) || eqb x 'newline) (leb 128 x) e in
      let e3 = neither ((eqb x '[ || eqb x ']) || eqb x 'dquote) (eqb x 'newline) e4.0 in
      let e2 = neither (eqb x '[ || eqb x ']) (eqb x 'dquote) e3.0 in
      let e1 = neither (eqb x '[) (eqb x ']) e2.0 in
      let u : n + (at - at) ≡ n = omega arith in
      let v : n + (at + 1 - at) ≡ n + 1 = omega arith in
      rw (u, v) at (attribute-on s at at l (omega arith) (leb-false _ _ e4.1) (eqb-false _ _ e1.0) (eqb-false _ _ e1.1) (eqb-false _ _ e2.1) (eqb-false _ _ e3.1) b n)

  pub attribute_run_lem : (from to n : ℕ) → to ≡ from + run attribute_stop (drop from s)
      → walk_from attribute_turn attribute_last 0 (left s to) b to (n + (to - from)) ≡ walk_from attribute_turn attribute_last 0 (left s from) b from n
  attribute_run_lem = run-over s attribute_stop (λ (at n : ℕ). walk_from attribute_turn attribute_last 0 (left s at) b at n) passes

-- what a turn that passes, or fails, tells
module _ {x : Turn} {p m : ℕ} where
  pub good_pass : {cs : List ℕ} {at b : ℕ} → Good cs at x → x ≡ Pass p m b → Far cs at m p
  good_pass h e = (rw e at h).is

  pub good_fail : {cs : List ℕ} {at : ℕ} {r : Refusal} → Good cs at x → x ≡ Fail r p m → Far cs at m p
  good_fail h e = (rw e at h).is

  pub balance_pass : {b b' : ℕ} → Balance b x → x ≡ Pass p m b' → b' ≤ b + 1
  balance_pass h e = (rw e at h).is

-- after a quote
module _ (o : ℕ) {s : List ℕ} {at : ℕ} where
  pub lifetimeish-on : {c w : ℕ} → Seen s at c w
      → lifetimeish o (left s at) at ≡ cond (is_identifier_start c) (lifetime_by o (left s at) at (seek Word (left s at) at)) (char_literal o (left s at) at)
  unfolding lifetimeish
  lifetimeish-on h = rw h.next

  pub lifetimeish-end : Ended s at → lifetimeish o (left s at) at ≡ refuse UnterminatedCharacterLiteral o at 0
  unfolding lifetimeish
  lifetimeish-end h = rw h.none

module _ (s : List ℕ) (at p m : ℕ) where
  -- after a quote and a word
  pub lifetime_at : (o : ℕ) → seek Word (left s at) at ≡ Ok (p, m)
      → lifetime_by o (left s at) at (seek Word (left s at) at) ≡ if_next 'quote (left s p) (deliver CharLiteral o at p (p + 1) (m + 1)) (deliver Lifetime o o p p m)
  lifetime_at o e = rw (e, far_left s at m p (seek-at (left s at) at p m Word e))

  -- after the body of an attempt
  body_far : walk attribute_turn attribute_last 1 (left s at) at ≡ Ok (p, m) → Far (left s at) at m p
  body_far e = (rw e at (attribute_sound (left s at) at)).is

  pub body_lands : walk attribute_turn attribute_last 1 (left s at) at ≡ Ok (p, m) → Lands s at m p
  body_lands e = lands m s at p (body_far e)

  pub body_at : walk attribute_turn attribute_last 1 (left s at) at ≡ Ok (p, m) → attempt_body (left s at) at ≡ if_next '] (left s p) (Ok (p + 1, m + 1)) (Err (p, m))
  unfolding attempt_body
  body_at e = rw (e, far_left s at m p (body_far e))

  pub body_lost : (r : Refusal) → walk attribute_turn attribute_last 1 (left s at) at ≡ Err (r, p, m) → attempt_body (left s at) at ≡ Err (p, m)
  unfolding attempt_body
  body_lost r e = rw e

-- in every reading
module _ (rd : Reading) where
  module _ (o : ℕ) {s : List ℕ} {at : ℕ} where
    -- after =>
    pub arrow_on : {c w : ℕ} → Seen s at c w
        → right_arrow rd o (left s at) at
        ≡ cond (eqb c 'at) (more 1 (arrow_look o (left s (at + w)) (at + w)))
        (cond (eqb c '?) (more 1 (arrow_code rd EqualsGreaterThanQuestionCode o (left s (at + w)) (at + w))) (arrow_code rd EqualsGreaterThanCode o (left s at) at))
    unfolding right_arrow
    arrow_on h = rw (h.next, h.width)

    pub arrow_end : Ended s at → right_arrow rd o (left s at) at ≡ refuse UnterminatedCode o at 0
    unfolding right_arrow
    arrow_end h = rw h.none
