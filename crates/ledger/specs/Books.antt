-- THE BOOKS CLOSE. Theorems about what the contract of `run::run` allows, and so about every run of it from the start of a text: each takes
-- such a run, `Runs`, and speaks of its answer and of the records that the lent list holds. What its count is, the fourth of them, is in
-- proofs/Books.antt.
use Rattle.std.specs.Prelude.{◌*◌, ◌+◌, ◌-◌, ◌/◌, ◌≤◌, ℕ, Bool, cond, false, true, List, [], ◌++◌, ◌∷◌, ◌≡◌, refl, length, take}
use Rattle.std.proofs.Common.{arith, ◌∙◌, ap, sym, length-append}
use Rattle.utf8.specs.Utf8.{chars, reach}
use Rattle.record.specs.Checks.{checks}
use Rattle.record.specs.Records.{over}
use Rattle.record.specs.declared.Kind.{Kind}
use Rattle.record.specs.declared.Reading.{Reading}
use Rattle.record.specs.declared.Reading.TheVariants.{Kept, Old}
use Rattle.record.specs.declared.Token.{Token}
use Rattle.reading.specs.Answers.{start_in}
use Rattle.reading.specs.Attribute.{dropped}
use Rattle.reading.specs.Measures.{Tiled, attempts, gap-last, hashes, is_attribute, marks, tail_of, token-next}
use Rattle.reading.specs.declared.Outcome.TheVariants.{Ended, Running}
use Rattle.run.specs.Checked.{ran_of, ran_with, report, whole_run}
use Rattle.run.specs.Numbers.{group_size, numbers_all}
use Rattle.run.specs.declared.Ran.{Ran}
use Rattle.ledger.specs.Order.{found}
use Rattle.ledger.specs.Runs.{bound_law, end_law, over_law}

-- A run of the text s from its start, with a shift and a work limit: the lent list before and after it, and the answer r. This is the contract
-- of `run::run`, word for word, where the tokenizer is the one that `tok::start_in` gives for a reading. Each theorem holds in both readings.
abbrev pub Runs : Reading → List ℕ → ℕ → ℕ → List Token → Ran → List Token → Type 0
Runs rd s shift limit before r after =
    (r ≡ ran_of s shift limit (length before) (start_in rd)) × (after ≡ over (whole_run s shift limit (length before) (start_in rd)).tokens before)

-- the records that the lent list holds: as many as the answer says
abbrev pub held : Ran → List Token → List Token
held r after = take r.stored after

-- N characters, H hashes, B places that read #![
abbrev pub N : List ℕ → ℕ
N s = length (chars s)

abbrev pub H : List ℕ → ℕ
H s = hashes (chars s)

abbrev pub B : List ℕ → ℕ
B s = marks (chars s)

-- ---- 1. EVERY CHARACTER HAS ONE PLACE
-- `Tiled` (reading/specs/Measures) cuts the characters, in order, into a gap, a token's characters, what is dropped after it, and so on, and at
-- last a gap; a gap holds whitespace and comments only (`Blank`, reading/specs/Blank). How many characters are in gaps, in tokens, and dropped:
unfoldable pub in_gaps : {rd : Reading} {shift : ℕ} {cs : List ℕ} {at : ℕ} {ts : List Token} → Tiled rd shift cs at ts → ℕ
in_gaps (gap-last {cs} g b) = length cs
in_gaps (token-next xs ys zs rest e g b from to some tail more) = length xs + in_gaps more

unfoldable pub in_tokens : {rd : Reading} {shift : ℕ} {cs : List ℕ} {at : ℕ} {ts : List Token} → Tiled rd shift cs at ts → ℕ
in_tokens (gap-last g b) = 0
in_tokens (token-next xs ys zs rest e g b from to some tail more) = length ys + in_tokens more

unfoldable pub in_none : {rd : Reading} {shift : ℕ} {cs : List ℕ} {at : ℕ} {ts : List Token} → Tiled rd shift cs at ts → ℕ
in_none (gap-last g b) = 0
in_none (token-next xs ys zs rest e g b from to some tail more) = length zs + in_none more

-- together they are all the characters, each counted once
pub adds_up : {rd : Reading} {shift : ℕ} {cs : List ℕ} {at : ℕ} {ts : List Token} (d : Tiled rd shift cs at ts) → in_gaps d + in_tokens d + in_none d ≡ length cs
unfolding in_gaps in_tokens in_none
adds_up (gap-last g b) = omega arith
adds_up (token-next xs ys zs rest e g b from to some tail more) =
    omega (arith, adds_up more, ap length e, length-append xs (ys ++ (zs ++ rest)), length-append ys (zs ++ rest), length-append zs rest)

-- what is dropped after a token of the kind, before the characters cs: in the old reading one character after an attribute, if there is one
pub drops-one : (kind : Kind) (c : ℕ) (cs : List ℕ) → is_attribute kind ≡ true → tail_of Old kind (c ∷ cs) ≡ 1
unfolding dropped
drops-one kind c cs e = rw e

none_either_way : (b : Bool) → ◌≡◌ {A = ℕ} (cond b 0 0) 0
none_either_way true = refl
none_either_way false = refl

-- "An attribute at the very end drops nothing."
pub drops_nothing_at_the_end : (rd : Reading) (kind : Kind) → tail_of rd kind [] ≡ 0
unfolding dropped
drops_nothing_at_the_end Old kind = none_either_way (is_attribute kind)
drops_nothing_at_the_end Kept kind = none_either_way (is_attribute kind)

pub others_drop_nothing : (rd : Reading) (kind : Kind) (cs : List ℕ) → is_attribute kind ≡ false → tail_of rd kind cs ≡ 0
others_drop_nothing rd kind cs e = rw e

-- 02, E5: in the kept reading nothing is dropped, so there is no third place: each character is in a token or a gap
pub kept-drops_nothing : (kind : Kind) (cs : List ℕ) → tail_of Kept kind cs ≡ 0
unfolding dropped
kept-drops_nothing kind cs = none_either_way (is_attribute kind)

pub no_third_place : {shift : ℕ} {cs : List ℕ} {at : ℕ} {ts : List Token} (d : Tiled Kept shift cs at ts) → in_none d ≡ 0
unfolding in_none
no_third_place (gap-last g b) = refl
no_third_place (token-next {t = t} xs ys zs rest e g b from to some tail more) = omega (arith, tail, kept-drops_nothing t.kind (zs ++ rest), no_third_place more)

pub two_places : {shift : ℕ} {cs : List ℕ} {at : ℕ} {ts : List Token} (d : Tiled Kept shift cs at ts) → in_gaps d + in_tokens d ≡ length cs
two_places d = omega (arith, adds_up d, no_third_place d)

-- ---- THE THEOREMS, of a run of the text s
module _ (rd : Reading) (s : List ℕ) (shift limit : ℕ) (before : List Token) (r : Ran) (after : List Token) (contract : Runs rd s shift limit before r after) where
  pub reported : r ≡ report (checks s shift) (whole_run s shift limit (length before) (start_in rd))
  unfolding ran_with
  reported = contract.0

  held_are : (whole_run s shift limit (length before) (start_in rd)).tokens ≡ held r after
  held_are = sym (found s shift limit before after (start_in rd) r contract)

  at-end : r.how ≡ Ended → (whole_run s shift limit (length before) (start_in rd)).how ≡ Ended
  at-end e = ap (λ (x : Ran). x.how) (sym reported) ∙ e

  -- A run comes to the end or to a refusal.
  pub stops : r.how ≡ Running → ⊥
  stops e = over_law rd s shift limit (length before) (ap (λ (x : Ran). x.how) (sym reported) ∙ e)

  -- 1. In a run that reaches the end, the gaps, the token spans and the dropped characters tile the text; and it is read to its last byte.
  pub one_place : r.how ≡ Ended → Tiled rd shift (chars s) 0 (held r after) × (reach (chars s) 0 ≡ length s)
  one_place e =
      let h = end_law rd s shift limit (length before) (at-end e) in
      (rw (← held_are) h.0, h.2)

  -- so each of the N characters is counted once: in a gap, in a token, or as dropped
  pub each_once : (e : r.how ≡ Ended) → in_gaps (one_place e).0 + in_tokens (one_place e).0 + in_none (one_place e).0 ≡ N s
  each_once e = adds_up (one_place e).0

  -- 2. In such a run the advances equal N plus those of the failed attribute attempts: for each Hash that the list holds, what the attempt at its
  -- place takes when the text is read from there (`attempts`, reading/specs/Measures).
  pub advances_add_up : r.how ≡ Ended → r.advances ≡ N s + attempts s shift (held r after)
  advances_add_up e =
      let h = end_law rd s shift limit (length before) (at-end e) in
      ap (λ (x : Ran). x.advances) reported ∙ h.1 ∙ ap (λ (ts : List Token). N s + attempts s shift ts) held_are

  -- 3. In every run, whatever stops it.
  pub advances_bound : r.advances ≤ N s + 2 * (H s - B s) + B s * N s
  advances_bound = rw reported (bound_law rd s shift limit (length before))

-- 02, E5: "In demand 3 it has no third place: each character is in a token or a gap"
pub each_in_two : (s : List ℕ) (shift limit : ℕ) (before : List Token) (r : Ran) (after : List Token) (contract : Runs Kept s shift limit before r after) (e : r.how ≡ Ended)
    → in_gaps (one_place Kept s shift limit before r after contract e).0 + in_tokens (one_place Kept s shift limit before r after contract e).0 ≡ N s
each_in_two s shift limit before r after contract e = two_places (one_place Kept s shift limit before r after contract e).0

-- ---- THE SAME OF `run::run_numbers`, whose list is lent as plain numbers, five to a record: its contract, word for word
abbrev pub RunsNumbers : Reading → List ℕ → ℕ → ℕ → List ℕ → Ran → List ℕ → Type 0
RunsNumbers rd s shift limit before r after =
    (r ≡ ran_of s shift limit (length before / group_size) (start_in rd)) × (after ≡ over (numbers_all (whole_run s shift limit (length before / group_size) (start_in rd)).tokens) before)

-- beside a list of records with as much room, it is a run that gives the same answer, and the numbers are those of the records held
pub numbers_too : (rd : Reading) (s : List ℕ) (shift limit : ℕ) (before : List ℕ) (r : Ran) (after : List ℕ) → RunsNumbers rd s shift limit before r after
    → (list : List Token) → length list ≡ length before / group_size
    → (filled : List Token) × Runs rd s shift limit list r filled × (after ≡ over (numbers_all (held r filled)) before)
numbers_too rd s shift limit before r after (a, b) list l =
    let ts = (whole_run s shift limit (length before / group_size) (start_in rd)).tokens in
    let c : Runs rd s shift limit list r (over ts list) = (rw l a, rw l) in
    let e : (whole_run s shift limit (length list) (start_in rd)).tokens ≡ held r (over ts list) = held_are rd s shift limit list r (over ts list) c in
    (over ts list, c, rw (← e, l) b)

-- ---- 5. ONLY ONE ANSWER. A contract that is an equation for the answer, or for the answer and for what is lent, allows one answer; docs/RULES.md
-- lists the contracts that are no such equations.
pub one_answer : {A : Type 0} {x y z : A} → x ≡ z → y ≡ z → x ≡ y
one_answer p q = p ∙ sym q

pub one-answer-lent : {A C : Type 0} {x y z : A} {l m n : C} → (x ≡ z) × (l ≡ n) → (y ≡ z) × (m ≡ n) → (x ≡ y) × (l ≡ m)
one-answer-lent p q = (p.0 ∙ sym q.0, p.1 ∙ sym q.1)

-- so of `run::run`
pub one-run : (rd : Reading) (s : List ℕ) (shift limit : ℕ) (before : List Token) (r r' : Ran) (after after' : List Token)
    → Runs rd s shift limit before r after → Runs rd s shift limit before r' after' → (r ≡ r') × (after ≡ after')
one-run rd s shift limit before r r' after after' p q = one-answer-lent p q
