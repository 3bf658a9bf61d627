-- THE SHEET'S BOOKS: theorems about what the contract of `sheet::take` allows, text after text. Quoted: 02, E2.
use Prim.Native.Nat.{◌*◌, ◌+◌, ◌-◌, ◌<◌, ◌≤◌, suc, zero, ℕ}
use Rattle.std.proofs.Common.{arith, ◌∙◌, ext_get_or, Result, Ok, Err}
use Rattle.std.specs.Prelude.{Bool, cond, eqb, get_or}
use Rattle.std.proofs.Math.Bool.{false, true}
use mathlib.Core.List.{List, [], ◌∷◌}
use Rattle.std.proofs.Math.Path.{◌≡◌, ap, refl, sym}
use Rattle.std.proofs.Math.Dec.{leb, ltb}
use Rattle.std.proofs.Math.ListN.{length}
use borrow.Author.Tests.{eqb-true, le-ltb, leb-false, lt-leb, ltb-false, ne_eqb}
use Rattle.utf8.specs.Utf8.{chars}
use Rattle.record.specs.Checks.{checks}
use Rattle.record.specs.Codes.{checks-refuse}
use Rattle.record.specs.Numbers.{code_number}
use Rattle.record.specs.Records.{refusal}
use Rattle.record.specs.declared.Code.{Code}
use Rattle.record.specs.declared.Code.TheVariants.{BadRecord, SheetFull}
use Rattle.record.specs.declared.Reading.TheVariants.{Old}
use Rattle.record.specs.declared.Refusal.{Refusal}
use Rattle.scan.specs.Deepens.{deeper-none, deeper_of_none, deeper_three, deeper-turned, least}
use Rattle.scan.specs.Depth.{deeper}
use Rattle.reading.specs.Answers.{start_state}
use Rattle.reading.specs.Measures.{attempts}
use Rattle.reading.specs.declared.Outcome.{Outcome}
use Rattle.reading.specs.declared.Outcome.TheVariants.{Ended, Refused as Failed, Running}
use Rattle.run.specs.Checked.{whole_run_with}
use Rattle.ledger.specs.Order.{called}
use Rattle.ledger.specs.Runs.{end_law}
use Rattle.sheet.specs.Adds.{adds, advances_in, deepest_in, empty_sheet, enter, entered, greatest, sheet_size, story, tallies, texts_taken, work_limit}
use Rattle.sheet.specs.Calls.{Going, TalliedIn, going_start, is_tallied, onwards}
use Rattle.sheet.specs.Entries.{entered-four, entered-length, entered-other, four}
use Rattle.sheet.specs.Laws.{Below, added-at, added-deep, added-length, empty_below, empty_length, enter_below, enter-length, enter-other, enter-same, sheet_each, within_of}
use Rattle.sheet.specs.Reads.{read_of}
use Rattle.sheet.specs.Sheet.{added, held, held_by, is_sheet, most_texts, taken, taken_as, within}
use Rattle.sheet.specs.Takes.{never_running, take_full}
use Rattle.sheet.specs.Totals.{Reordered, adds_to, after, chars_by, cost, cost_by, deep_by, depth, greatest_of, is_taken, passed_by, passing, reached, same, sum_of, swapped, taken_of, takes, together, twice}
use Rattle.sheet.specs.declared.Taken.{Taken}
use Rattle.sheet.specs.declared.Taken.TheVariants.{Refused, Tallied, Whole}

-- ---- ONE TEXT
empty_at : (i : ℕ) → get_or empty_sheet i 0 ≡ 0
empty_at i = let h = empty_below.is i in omega arith

-- what stands in the row of a text that reached its end
module _ (s : List ℕ) where
  row : List ℕ
  row = entered s 0 (story s).tokens empty_sheet

  row-length : length row ≡ sheet_size
  unfolding row
  row-length = entered-length s (story s).tokens 0 empty_sheet ∙ empty_length

  row-four : four row ≡ length (chars s)
  unfolding row story
  row-four =
      let h = entered-four s (story s).tokens 0 empty_sheet empty_length (called s 0 work_limit (length s) start_state) in
      omega (arith, h, empty_at 54, empty_at 55, empty_at 56, empty_at 57)

  row_advances : get_or row 58 0 ≡ 0
  unfolding row
  row_advances = entered-other s 58 (record { high = omega arith; a = refl; b = refl; c = refl; d = refl; e = refl }) (story s).tokens 0 empty_sheet empty_length ∙ empty_at 58

  row-texts : get_or row 60 0 ≡ 0
  unfolding row
  row-texts = entered-other s 60 (record { high = omega arith; a = refl; b = refl; c = refl; d = refl; e = refl }) (story s).tokens 0 empty_sheet empty_length ∙ empty_at 60

  row-deep : get_or row 61 0 ≡ 0
  unfolding row
  row-deep = entered-other s 61 (record { high = omega arith; a = refl; b = refl; c = refl; d = refl; e = refl }) (story s).tokens 0 empty_sheet empty_length ∙ empty_at 61

  -- the row with the advances, and then the depth too
  counted : List ℕ
  counted = enter advances_in (story s).state.count row

  deepened : List ℕ
  deepened = enter deepest_in (greatest (story s)) counted

  counted-length : length counted ≡ sheet_size
  unfolding counted
  counted-length = enter-length advances_in (story s).state.count row ∙ row-length

  deepened_length : length deepened ≡ sheet_size
  unfolding deepened
  deepened_length = enter-length deepest_in (greatest (story s)) counted ∙ counted-length

  deepened_other : (i : ℕ) → eqb i 61 ≡ false → get_or deepened i 0 ≡ get_or counted i 0
  unfolding deepened
  deepened_other i e = enter-other deepest_in i (greatest (story s)) counted e

  counted-other : (i : ℕ) → eqb i 58 ≡ false → get_or counted i 0 ≡ get_or row i 0
  unfolding counted
  counted-other i e = enter-other advances_in i (story s).state.count row e

  -- the text's own numbers, by how it ended
  module _ (i : ℕ) where
    whole-at : (story s).how ≡ Ended → adds_to i s ≡ get_or (enter texts_taken 1 deepened) i 0
    unfolding adds row counted deepened
    whole-at e = rw e

    tallied_at : (z : Refusal) → (story s).how ≡ Failed z → adds_to i s ≡ get_or (enter texts_taken 1 (enter (tallies + code_number z.code) 1 empty_sheet)) i 0
    unfolding adds
    tallied_at z e = rw e

  -- the numbers that only the row, or nothing, adds to
  row_only : (i : ℕ) → eqb i 58 ≡ false → eqb i 60 ≡ false → eqb i 61 ≡ false → (story s).how ≡ Ended → adds_to i s ≡ get_or row i 0
  row_only i a b c e = whole-at i e ∙ enter-other texts_taken i 1 deepened b ∙ deepened_other i c ∙ counted-other i a

  none_below : (i : ℕ) → eqb i 60 ≡ false → i < 64 → (z : Refusal) → (story s).how ≡ Failed z → adds_to i s ≡ 0
  none_below i a h z e =
      tallied_at i z e ∙ enter-other texts_taken i 1 (enter (tallies + code_number z.code) 1 empty_sheet) a
      ∙ enter-other (tallies + code_number z.code) i 1 empty_sheet (ne_eqb i (tallies + code_number z.code) (λ q. omega arith)) ∙ empty_at i

  ends_passed : (story s).how ≡ Ended → checks s 0 ≡ Ok tt
  unfolding story whole_run_with
  ends_passed e = go (checks s 0) refl
    where
      go : (c : Result Unit Refusal) → checks s 0 ≡ c → c ≡ Ok tt
      go (Ok tt) q = refl
      go (Err r) q = let f : Failed r ≡ Ended = rw q at e in let w : ◌≡◌ {A = ℕ} 0 1 = cc in absurd (omega arith)

  -- "the four character totals add up to the characters of those that reached their end"
  pub text-characters : four (adds s) ≡ reached s
  unfolding reached
  text-characters = go (story s).how refl
    where
      go : (how : Outcome) → (story s).how ≡ how → four (adds s) ≡ chars_by how s
      go Ended e = omega (arith, row_only 54 refl refl refl e, row_only 55 refl refl refl e, row_only 56 refl refl refl e, row_only 57 refl refl refl e, row-four)
      go (Failed z) e =
          omega (arith, none_below 54 refl (omega arith) z e, none_below 55 refl (omega arith) z e, none_below 56 refl (omega arith) z e, none_below 57 refl (omega arith) z e)
      go Running e = absurd (never_running s e)

  count : (story s).how ≡ Ended → (story s).state.count ≡ length (chars s) + attempts s 0 (story s).tokens
  unfolding story
  count e = let p = ends_passed e in rw p at (end_law Old s 0 work_limit (length s) e).1

  advances_at_lem : (story s).how ≡ Ended → adds_to advances_in s ≡ (story s).state.count
  unfolding counted
  advances_at_lem e =
      let a = enter-other texts_taken 58 1 deepened refl in
      let b = deepened_other 58 refl in
      let c = enter-same advances_in (story s).state.count row (omega (arith, row-length)) in
      omega (arith, whole-at 58 e, a, b, c, row_advances)

  deep-at : (story s).how ≡ Ended → adds_to deepest_in s ≡ greatest (story s)
  unfolding deepened
  deep-at e =
      let a = enter-other texts_taken 61 1 deepened refl in
      let b = enter-same deepest_in (greatest (story s)) counted (omega (arith, counted-length)) in
      omega (arith, whole-at 61 e, a, b, counted-other 61 refl, row-deep)

  -- 02, E4: how deep the text's comments go, where it reached its end
  pub text-depth : adds_to deepest_in s ≡ depth s
  unfolding depth
  text-depth = go (story s).how refl
    where
      go : (how : Outcome) → (story s).how ≡ how → adds_to deepest_in s ≡ deep_by how (story s)
      go Ended e = deep-at e
      go (Failed z) e = none_below 61 refl (omega arith) z e
      go Running e = absurd (never_running s e)

  -- advances are these characters, and what the failed attempts cost
  pub text_advances : adds_to advances_in s ≡ reached s + cost s
  unfolding reached cost
  text_advances = go (story s).how refl
    where
      go : (how : Outcome) → (story s).how ≡ how → adds_to advances_in s ≡ chars_by how s + cost_by how s (story s).tokens
      go Ended e = omega (arith, advances_at_lem e, count e)
      go (Failed z) e = none_below 58 refl (omega arith) z e
      go Running e = absurd (never_running s e)

  -- a text that is taken is counted once, whether it failed or not
  pub text-counted : adds_to texts_taken s ≡ 1
  text-counted = go (story s).how refl
    where
      go : (how : Outcome) → (story s).how ≡ how → adds_to texts_taken s ≡ 1
      go Ended e =
          let b = enter-same texts_taken 1 deepened (omega (arith, deepened_length)) in
          omega (arith, whole-at 60 e, b, deepened_other 60 refl, counted-other 60 refl, row-texts)
      go (Failed z) e =
          let a = enter-length (tallies + code_number z.code) 1 empty_sheet in
          let b = enter-same texts_taken 1 (enter (tallies + code_number z.code) 1 empty_sheet) (omega (arith, a, empty_length)) in
          let c = enter-other (tallies + code_number z.code) 60 1 empty_sheet (ne_eqb 60 (tallies + code_number z.code) (λ q. omega arith)) in
          omega (arith, tallied_at 60 z e, b, c, empty_at 60)
      go Running e = absurd (never_running s e)

  -- to the end of its run
  record Finishes : Type 0 where
    spent : (story s).state.count ≤ work_limit
    below : (story s).how ≡ Ended → Below 0x400000000 row
    low : (story s).how ≡ Ended → greatest (story s) ≤ 0x7FFFFFFF
    tallied : TalliedIn (story s).how

  finish : (k at n : ℕ) (l : List ℕ) → Going s at n l → length s - at < k → Finishes
  unfolding row
  finish zero at n l g h = absurd (omega arith)
  finish (suc k) at n l g h = go (read_of s at n).going refl (finish k)
    where
      go : (b : Bool) → (read_of s at n).going ≡ b → ((at n : ℕ) (l : List ℕ) → Going s at n l → length s - at < k → Finishes) → Finishes
      go true q f = let z = (onwards s at n l g).0 q in f _ _ _ z.to (omega (arith, z.moves, z.to.within, h))
      go false q f =
          let o = (onwards s at n l g).1 q in
          record {
            spent = rw (← o.count_over) o.spent-over;
            below = λ e. rw (← (o.row-over (o.how_over ∙ e))) o.below_over;
            low = λ e. rw (← (o.deep-over (o.how_over ∙ e))) o.low-over;
            tallied = rw (← o.how_over) o.code-over;
          }

  finishes : checks s 0 ≡ (Ok tt) → Finishes
  finishes p = finish (suc (length s)) 0 0 empty_sheet (going_start s p empty_sheet refl).0 (omega arith)

  -- "A text that ends in an error, 15 included": 2, 5, 6, 8, 9, 10, 22, 23 and 15 are tallied, and no other code; there is always room
  pub text_tallied : checks s 0 ≡ (Ok tt) → (z : Refusal) → (story s).how ≡ Failed z → is_tallied z.code ≡ true
  text_tallied p z e = rw e at (finishes p).tallied

  -- and adds no more than 2^50 to any number
  pub text-most : checks s 0 ≡ (Ok tt) → (i : ℕ) → adds_to i s ≤ work_limit
  text-most p i = go (story s).how refl
    where
      f : Finishes
      f = finishes p

      at-end : (story s).how ≡ Ended → (a b c : Bool) → eqb i 58 ≡ a → eqb i 60 ≡ b → eqb i 61 ≡ c → adds_to i s ≤ work_limit
      at-end e true b c q r u = let j = eqb-true i 58 q in rw j (omega (arith, advances_at_lem e, f.spent))
      at-end e false true c q r u = let j = eqb-true i 60 r in rw j (omega (arith, text-counted))
      at-end e false false true q r u = let j = eqb-true i 61 u in rw j (omega (arith, deep-at e, f.low e))
      at-end e false false false q r u = let b = (f.below e).is i in omega (arith, row_only i q r u e, b)

      go : (how : Outcome) → (story s).how ≡ how → adds_to i s ≤ work_limit
      go Ended e = at-end e (eqb i 58) (eqb i 60) (eqb i 61) refl refl refl
      go (Failed z) e = let b = (enter_below texts_taken 1 (enter_below (tallies + code_number z.code) 1 empty_below)).is i in omega (arith, tallied_at i z e, b)
      go Running e = absurd (never_running s e)

  -- and to a number before the advances not much more than it has characters
  text-small : checks s 0 ≡ (Ok tt) → (i : ℕ) → i < advances_in → adds_to i s ≤ 0x400000000
  text-small p i h = go (story s).how refl
    where
      go : (how : Outcome) → (story s).how ≡ how → adds_to i s ≤ 0x400000000
      go Ended e = let b = ((finishes p).below e).is i in omega (arith, row_only i (ne_eqb i 58 (λ q. omega arith)) (ne_eqb i 60 (λ q. omega arith)) (ne_eqb i 61 (λ q. omega arith)) e, b)
      go (Failed z) e = omega (arith, none_below i (ne_eqb i 60 (λ q. omega arith)) (omega arith) z e)
      go Running e = absurd (never_running s e)

-- ---- A TEXT ON A SHEET
module _ (s sheet : List ℕ) where
  held-taken : is_taken (taken s sheet) ≡ true → held s sheet ≡ added sheet (adds s)
  unfolding held
  held-taken = go (taken s sheet)
    where
      go : (t : Taken) → is_taken t ≡ true → held_by t s sheet ≡ added sheet (adds s)
      go Whole e = refl
      go (Tallied r) e = refl
      go (Refused r) e = let w : ◌≡◌ {A = ℕ} 0 1 = cc in absurd (omega arith)

  -- "none is tallied or changes the sheet"
  pub refused_unchanged : is_taken (taken s sheet) ≡ false → held s sheet ≡ sheet
  unfolding held
  refused_unchanged = go (taken s sheet)
    where
      go : (t : Taken) → is_taken t ≡ false → held_by t s sheet ≡ sheet
      go Whole e = let w : ◌≡◌ {A = ℕ} 0 1 = cc in absurd (omega arith)
      go (Tallied r) e = let w : ◌≡◌ {A = ℕ} 0 1 = cc in absurd (omega arith)
      go (Refused r) e = refl

  pub held-length : length (held s sheet) ≡ length sheet
  held-length = go (is_taken (taken s sheet)) refl
    where
      go : (b : Bool) → is_taken (taken s sheet) ≡ b → length (held s sheet) ≡ length sheet
      go true e = ap length (held-taken e) ∙ added-length sheet (adds s)
      go false e = ap length (refused_unchanged e)

  held_at : (i : ℕ) → eqb i deepest_in ≡ false → i < length sheet → get_or (held s sheet) i 0 ≡ get_or sheet i 0 + cond (is_taken (taken s sheet)) (adds_to i s) 0
  held_at i n h = go (is_taken (taken s sheet)) refl
    where
      go : (b : Bool) → is_taken (taken s sheet) ≡ b → get_or (held s sheet) i 0 ≡ get_or sheet i 0 + cond b (adds_to i s) 0
      go true e = rw (held-taken e) (added-at sheet (adds s) i n h)
      go false e = rw (refused_unchanged e) (omega arith)

  held-deep : deepest_in < length sheet → get_or (held s sheet) deepest_in 0 ≡ deeper (get_or sheet deepest_in 0) (cond (is_taken (taken s sheet)) (adds_to deepest_in s) 0)
  held-deep h = go (is_taken (taken s sheet)) refl
    where
      go : (b : Bool) → is_taken (taken s sheet) ≡ b → get_or (held s sheet) deepest_in 0 ≡ deeper (get_or sheet deepest_in 0) (cond b (adds_to deepest_in s) 0)
      go true e = rw (held-taken e) (added-deep sheet (adds s) h)
      go false e = rw (refused_unchanged e) (sym (deeper-none (get_or sheet deepest_in 0)))

  -- what a sheet and a text are, where the text is taken
  pub record Takes : Type 0 where
    pub long : sheet_size ≤ length sheet
    pub passed : checks s 0 ≡ Ok tt
    pub unfull : get_or sheet texts_taken 0 < most_texts
    pub fair : is_sheet sheet ≡ true

  no : {A : Type 0} → false ≡ true → A
  no e = let w : ◌≡◌ {A = ℕ} 0 1 = cc in absurd (omega arith)

  pub took : is_taken (taken s sheet) ≡ true → Takes
  unfolding taken
  took e = go (ltb (length sheet) sheet_size) (checks s 0) (leb most_texts (get_or sheet texts_taken 0)) (is_sheet sheet) refl refl refl refl
    where
      go : (a : Bool) (c : Result Unit Refusal) (b d : Bool) → ltb (length sheet) sheet_size ≡ a → checks s 0 ≡ c → leb most_texts (get_or sheet texts_taken 0) ≡ b → is_sheet sheet ≡ d → Takes
      go true c b d p q r u = no (rw p at e)
      go false (Err z) b d p q r u = no (rw (p, q) at e)
      go false (Ok tt) true d p q r u = no (rw (p, q, r) at e)
      go false (Ok tt) false false p q r u = no (rw (p, q, r, u) at e)
      go false (Ok tt) false true p q r u = record { long = ltb-false _ _ p; passed = q; unfull = leb-false _ _ r; fair = u }

  -- and the other way
  as_taken : (how : Outcome) → is_taken (taken_as how) ≡ true
  as_taken Ended = refl
  as_taken (Failed z) = refl
  as_taken Running = refl

  pub takes_it : Takes → is_taken (taken s sheet) ≡ true
  unfolding taken
  takes_it t = rw (le-ltb (length sheet) sheet_size t.long, t.passed, lt-leb most_texts (get_or sheet texts_taken 0) t.unfull, t.fair) (as_taken (story s).how)

-- ---- TEXTS, ONE AFTER ANOTHER
pub takes-length : (ss : List (List ℕ)) (sheet : List ℕ) → length (takes ss sheet) ≡ length sheet
unfolding takes
takes-length [] sheet = refl
takes-length (s ∷ ss) sheet = takes-length ss (held s sheet) ∙ held-length s sheet

-- what a number is gathered by, a sum or the greater: 0 changes nothing, and texts may be taken together as they come
record Gathers (op : ℕ → ℕ → ℕ) : Type 0 where
  none : (n : ℕ) → op n 0 ≡ n
  three : (a b c : ℕ) → op (op a b) c ≡ op a (op b c)
  turned : (a b : ℕ) → op a b ≡ op b a

sum_gathers : Gathers ◌+◌
sum_gathers = record { none = λ n. omega arith; three = λ a b c. omega arith; turned = λ a b. omega arith }

depth_gathers : Gathers deeper
depth_gathers = record { none = deeper-none; three = deeper_three; turned = deeper-turned }

-- what holds of each text's number holds of what they come to: m is read off a sheet, f off a text
module _ (op : ℕ → ℕ → ℕ) (o : Gathers op) where
  gathered : (m : List ℕ → ℕ) (f : List ℕ → ℕ) → ((s sheet : List ℕ) → sheet_size ≤ length sheet → m (held s sheet) ≡ op (m sheet) (cond (is_taken (taken s sheet)) (f s) 0))
      → (ss : List (List ℕ)) (sheet : List ℕ) → sheet_size ≤ length sheet → m (takes ss sheet) ≡ op (m sheet) (together op f (taken_of ss sheet))
  unfolding takes taken_of together
  gathered m f step [] sheet h = sym (o.none (m sheet))
  gathered m f step (s ∷ ss) sheet h =
      let i = gathered m f step ss (held s sheet) (omega (arith, h, held-length s sheet)) in
      go (is_taken (taken s sheet)) (step s sheet h) i
    where
      go : (b : Bool) → m (held s sheet) ≡ op (m sheet) (cond b (f s) 0) → m (takes ss (held s sheet)) ≡ op (m (held s sheet)) (together op f (taken_of ss (held s sheet)))
          → m (takes ss (held s sheet)) ≡ op (m sheet) (together op f (cond b (s ∷ taken_of ss (held s sheet)) (taken_of ss (held s sheet))))
      go true a i = i ∙ ap (λ (x : ℕ). op x (together op f (taken_of ss (held s sheet)))) a ∙ o.three (m sheet) (f s) (together op f (taken_of ss (held s sheet)))
      go false a i = i ∙ ap (λ (x : ℕ). op x (together op f (taken_of ss (held s sheet)))) (a ∙ o.none (m sheet))

-- "Every total is the sum over the taken texts of a definition that reads each alone"
pub every_total : (i : ℕ) → eqb i deepest_in ≡ false → i < sheet_size → (ss : List (List ℕ)) (sheet : List ℕ) → sheet_size ≤ length sheet
    → get_or (takes ss sheet) i 0 ≡ get_or sheet i 0 + sum_of (adds_to i) (taken_of ss sheet)
every_total i n h = gathered ◌+◌ sum_gathers (λ (l : List ℕ). get_or l i 0) (adds_to i) (λ s sheet k. held_at s sheet i n (omega arith))

pub total-from_empty : (i : ℕ) → eqb i deepest_in ≡ false → i < sheet_size → (ss : List (List ℕ)) → get_or (takes ss empty_sheet) i 0 ≡ sum_of (adds_to i) (taken_of ss empty_sheet)
total-from_empty i n h ss = let e = every_total i n h ss empty_sheet (omega (arith, empty_length)) in omega (arith, e, empty_at i)

-- 02, E4: "the sheet the largest": the greatest of what the sheet held and of the taken texts' own
pub largest : (ss : List (List ℕ)) (sheet : List ℕ) → sheet_size ≤ length sheet
    → get_or (takes ss sheet) deepest_in 0 ≡ deeper (get_or sheet deepest_in 0) (greatest_of depth (taken_of ss sheet))
largest = gathered deeper depth_gathers (λ (l : List ℕ). get_or l deepest_in 0) depth
    (λ s sheet k. held-deep s sheet (omega arith) ∙ ap (λ (x : ℕ). deeper (get_or sheet deepest_in 0) (cond (is_taken (taken s sheet)) x 0)) (text-depth s))

pub largest_from_empty : (ss : List (List ℕ)) → get_or (takes ss empty_sheet) deepest_in 0 ≡ greatest_of depth (taken_of ss empty_sheet)
largest_from_empty ss =
    largest ss empty_sheet (omega (arith, empty_length)) ∙ ap (λ (x : ℕ). deeper x (greatest_of depth (taken_of ss empty_sheet))) (empty_at deepest_in)
    ∙ deeper_of_none (greatest_of depth (taken_of ss empty_sheet))

four-held : (s sheet : List ℕ) → sheet_size ≤ length sheet → four (held s sheet) ≡ four sheet + cond (is_taken (taken s sheet)) (reached s) 0
four-held s sheet k =
    go (is_taken (taken s sheet)) (held_at s sheet 54 refl (omega arith)) (held_at s sheet 55 refl (omega arith)) (held_at s sheet 56 refl (omega arith)) (held_at s sheet 57 refl (omega arith))
  where
    go : (b : Bool) → get_or (held s sheet) 54 0 ≡ get_or sheet 54 0 + cond b (adds_to 54 s) 0 → get_or (held s sheet) 55 0 ≡ get_or sheet 55 0 + cond b (adds_to 55 s) 0
        → get_or (held s sheet) 56 0 ≡ get_or sheet 56 0 + cond b (adds_to 56 s) 0 → get_or (held s sheet) 57 0 ≡ get_or sheet 57 0 + cond b (adds_to 57 s) 0
        → four (held s sheet) ≡ four sheet + cond b (reached s) 0
    go true p q r t = omega (arith, p, q, r, t, text-characters s)
    go false p q r t = omega (arith, p, q, r, t)

-- "the four character totals add up to the characters of those that reached their end"
pub characters-add_up : (ss : List (List ℕ)) → four (takes ss empty_sheet) ≡ sum_of reached (taken_of ss empty_sheet)
characters-add_up ss =
    let e = gathered ◌+◌ sum_gathers four reached four-held ss empty_sheet (omega (arith, empty_length)) in
    omega (arith, e, empty_at 54, empty_at 55, empty_at 56, empty_at 57)

sum-plus : (f g h : List ℕ → ℕ) → ((s : List ℕ) → h s ≡ f s + g s) → (ss : List (List ℕ)) → sum_of h ss ≡ sum_of f ss + sum_of g ss
unfolding together
sum-plus f g h e [] = omega arith
sum-plus f g h e (s ∷ ss) = let a = e s in let i = sum-plus f g h e ss in omega (arith, a, i)

-- the advances are these characters, and what the failed attempts cost
pub advances_add_up : (ss : List (List ℕ)) → get_or (takes ss empty_sheet) advances_in 0 ≡ four (takes ss empty_sheet) + sum_of cost (taken_of ss empty_sheet)
advances_add_up ss =
    let a = total-from_empty 58 refl (omega arith) ss in
    let b = sum-plus reached cost (adds_to 58) text_advances (taken_of ss empty_sheet) in
    omega (arith, a, b, characters-add_up ss)

-- the texts taken are counted, "failed ones counted"
sum_ones : (ss : List (List ℕ)) → sum_of (adds_to 60) ss ≡ length ss
unfolding together
sum_ones [] = refl
sum_ones (s ∷ ss) = let a = text-counted s in let i = sum_ones ss in omega (arith, a, i)

pub texts-counted : (ss : List (List ℕ)) → get_or (takes ss empty_sheet) texts_taken 0 ≡ length (taken_of ss empty_sheet)
texts-counted ss = total-from_empty 60 refl (omega arith) ss ∙ sum_ones (taken_of ss empty_sheet)

-- ---- A SHEET BEGUN EMPTY
pub record Good (sheet : List ℕ) : Type 0 where
  pub size : sheet_size ≤ length sheet
  pub sound : is_sheet sheet ≡ true
  pub room : get_or sheet texts_taken 0 ≤ most_texts

empty_good : Good empty_sheet
unfolding is_sheet empty_sheet within
empty_good = record { size = omega (arith, empty_length); sound = refl; room = omega arith }

good_added : (s sheet : List ℕ) → Takes s sheet → Good (added sheet (adds s))
unfolding is_sheet
good_added s sheet t = record {
  size = omega (arith, n, l);
  sound = within_of (work_limit * get_or (added sheet (adds s)) texts_taken 0) (added sheet (adds s)) (omega (arith, n, l)) (λ i h. each i h (eqb i deepest_in) refl);
  room = omega (arith, c, d, t.unfull);
}
  where
    l : sheet_size ≤ length sheet
    l = t.long

    n : length (added sheet (adds s)) ≡ length sheet
    n = added-length sheet (adds s)

    c : get_or (added sheet (adds s)) texts_taken 0 ≡ get_or sheet texts_taken 0 + adds_to texts_taken s
    c = added-at sheet (adds s) 60 refl (omega (arith, l))

    d : adds_to texts_taken s ≡ 1
    d = text-counted s

    each : (i : ℕ) → i < sheet_size → (b : Bool) → eqb i deepest_in ≡ b → get_or (added sheet (adds s)) i 0 ≤ work_limit * get_or (added sheet (adds s)) texts_taken 0
    each i h true q =
        let a = sheet_each sheet i t.fair l h in
        let b = text-most s t.passed i in
        let j = eqb-true i deepest_in q in
        let m = least (get_or sheet i 0) (adds_to i s) (work_limit * get_or (added sheet (adds s)) texts_taken 0) (omega (arith, a, c, d)) (omega (arith, b, c, d)) in
        let e = added-deep sheet (adds s) (omega (arith, l)) in
        rw (j, e) (rw j at m)
    each i h false q = omega (arith, added-at sheet (adds s) i q (omega (arith, l, h)), sheet_each sheet i t.fair l h, text-most s t.passed i, c, d)

good_held : (s sheet : List ℕ) → Good sheet → Good (held s sheet)
good_held s sheet g = go (is_taken (taken s sheet)) refl
  where
    go : (b : Bool) → is_taken (taken s sheet) ≡ b → Good (held s sheet)
    go true e = rw (held-taken s sheet e) (good_added s sheet (took s sheet e))
    go false e = rw (refused_unchanged s sheet e) g

good_takes : (ss : List (List ℕ)) (sheet : List ℕ) → Good sheet → Good (takes ss sheet)
unfolding takes
good_takes [] sheet g = g
good_takes (s ∷ ss) sheet g = good_takes ss (held s sheet) (good_held s sheet g)

pub begun_empty : (ss : List (List ℕ)) → Good (takes ss empty_sheet)
begun_empty ss = good_takes ss empty_sheet empty_good

-- such a sheet takes every text that passes the checks, until it is full
pub takes_all : (s sheet : List ℕ) → Good sheet → checks s 0 ≡ (Ok tt) → get_or sheet texts_taken 0 < most_texts → is_taken (taken s sheet) ≡ true
takes_all s sheet g p h = takes_it s sheet (record { long = g.size; passed = p; unfull = h; fair = g.sound })

-- which refusals a text can meet, by what a sheet is
module _ (s sheet : List ℕ) (g : Good sheet) where
  checked : (z : Refusal) → checks s 0 ≡ Err z → z.code ≡ BadRecord → ⊥
  checked z e q =
      let h = checks-refuse (λ (c : Code). code_number c ≤ 13) (omega arith) (omega arith) (omega arith) s 0 in
      let l : code_number z.code ≤ 13 = rw e at h.is in
      let m : code_number z.code ≡ 20 = ap code_number q in
      omega arith

  as_not : (how : Outcome) (z : Refusal) → taken_as how ≡ Refused z → ⊥
  as_not Ended z e = let w : ◌≡◌ {A = ℕ} 0 1 = cc in omega arith
  as_not (Failed r) z e = let w : ◌≡◌ {A = ℕ} 0 1 = cc in omega arith
  as_not Running z e = let w : ◌≡◌ {A = ℕ} 0 1 = cc in omega arith

  not_twenty : (z : Refusal) → taken s sheet ≡ Refused z → z.code ≡ BadRecord → ⊥
  unfolding taken
  not_twenty z e q = go (checks s 0) refl (leb most_texts (get_or sheet texts_taken 0)) refl
    where
      long : ltb (length sheet) sheet_size ≡ false
      long = le-ltb (length sheet) sheet_size g.size

      go : (c : Result Unit Refusal) → checks s 0 ≡ c → (b : Bool) → leb most_texts (get_or sheet texts_taken 0) ≡ b → ⊥
      go (Err r) p b u =
          let f : Refused r ≡ Refused z = rw (long, p) at e in
          let h : r ≡ z = cc in
          checked r p (ap (λ (x : Refusal). x.code) h ∙ q)
      go (Ok tt) p true u =
          let f : Refused (refusal SheetFull 0) ≡ Refused z = rw (long, p, u) at e in
          let h : refusal SheetFull 0 ≡ z = cc in
          let k : ◌≡◌ {A = ℕ} 21 20 = ap (λ (x : Refusal). code_number x.code) h ∙ ap code_number q in
          omega arith
      go (Ok tt) p false u = as_not (story s).how z (rw (long, p, u, g.sound) at e)

-- "20 for a sheet with a total above 2^50 for each text taken, which none begun empty ever has"
pub never_twenty : (ss : List (List ℕ)) (s : List ℕ) (z : Refusal) → taken s (takes ss empty_sheet) ≡ Refused z → z.code ≡ BadRecord → ⊥
never_twenty ss s z = not_twenty s (takes ss empty_sheet) (begun_empty ss) z

-- "21 SheetFull, exactly for a 1,025th text, failed ones counted": of the texts that pass the checks
pub at_most : (ss : List (List ℕ)) → length (taken_of ss empty_sheet) ≤ most_texts
at_most ss = let h = (begun_empty ss).room in omega (arith, h, texts-counted ss)

pub full : (ss : List (List ℕ)) (s : List ℕ) → checks s 0 ≡ (Ok tt) → length (taken_of ss empty_sheet) ≡ most_texts → taken s (takes ss empty_sheet) ≡ Refused (refusal SheetFull 0)
full ss s p h = let g = begun_empty ss in sym (take_full s (takes ss empty_sheet) g.size p (omega (arith, h, texts-counted ss))).0

pub not_full : (ss : List (List ℕ)) (s : List ℕ) → checks s 0 ≡ (Ok tt) → length (taken_of ss empty_sheet) < most_texts → is_taken (taken s (takes ss empty_sheet)) ≡ true
not_full ss s p h = takes_all s (takes ss empty_sheet) (begun_empty ss) p (omega (arith, h, texts-counted ss))

one_more : {n : ℕ} (b : Bool) → n ≡ 1 → cond b n 0 ≤ 1
one_more true e = omega arith
one_more false e = omega arith

-- ---- THE ORDER OF THE TEXTS DOES NOT MATTER, where none is one too many
few : (ss : List (List ℕ)) (sheet : List ℕ) → Good sheet → get_or sheet texts_taken 0 + length ss ≤ most_texts → taken_of ss sheet ≡ passing ss
unfolding taken_of passing
few [] sheet g h = refl
few (s ∷ ss) sheet g h =
    let a = held_at s sheet 60 refl (omega (arith, g.size)) in
    let b = one_more (is_taken (taken s sheet)) (text-counted s) in
    go (checks s 0) refl (is_taken (taken s sheet)) refl (few ss (held s sheet) (good_held s sheet g) (omega (arith, h, a, b)))
  where
    go : (c : Result Unit Refusal) → checks s 0 ≡ c → (b : Bool) → is_taken (taken s sheet) ≡ b → taken_of ss (held s sheet) ≡ passing ss
        → cond b (s ∷ taken_of ss (held s sheet)) (taken_of ss (held s sheet)) ≡ cond (passed_by c) (s ∷ passing ss) (passing ss)
    go (Ok tt) p true q rest = ap (λ (l : List (List ℕ)). s ∷ l) rest
    go (Ok tt) p false q rest = let t = takes_all s sheet g p (omega (arith, h)) in let w : false ≡ true = sym q ∙ t in let v : ◌≡◌ {A = ℕ} 0 1 = cc in absurd (omega arith)
    go (Err r) p true q rest = let t = (took s sheet q).passed in let w : Err r ≡ (Ok tt) = sym p ∙ t in let v : ◌≡◌ {A = ℕ} 0 1 = cc in absurd (omega arith)
    go (Err r) p false q rest = rest

reordered_length : {ss rs : List (List ℕ)} → Reordered ss rs → length ss ≡ length rs
reordered_length same = refl
reordered_length (after s r) = ap suc (reordered_length r)
reordered_length (swapped s r) = refl
reordered_length (twice p q) = reordered_length p ∙ reordered_length q

module _ (op : ℕ → ℕ → ℕ) (o : Gathers op) (f : List ℕ → ℕ) where
  abbrev come : List (List ℕ) → ℕ
  come ss = together op f (passing ss)

  abbrev own : List ℕ → ℕ
  own s = cond (passed_by (checks s 0)) (f s) 0

  first : (s : List ℕ) (ss : List (List ℕ)) → come (s ∷ ss) ≡ op (own s) (come ss)
  unfolding passing together
  first s ss = go (passed_by (checks s 0))
    where
      go : (b : Bool) → together op f (cond b (s ∷ passing ss) (passing ss)) ≡ op (cond b (f s) 0) (come ss)
      go true = refl
      go false = sym (o.turned 0 (come ss) ∙ o.none (come ss))

  reordered : {ss rs : List (List ℕ)} → Reordered ss rs → come ss ≡ come rs
  reordered same = refl
  reordered (after {ss} {rs} s r) = first s ss ∙ ap (op (own s)) (reordered r) ∙ sym (first s rs)
  reordered (swapped {ss} s r) =
      first s (r ∷ ss) ∙ ap (op (own s)) (first r ss) ∙ sym (o.three (own s) (own r) (come ss)) ∙ ap (λ (x : ℕ). op x (come ss)) (o.turned (own s) (own r))
      ∙ o.three (own r) (own s) (come ss) ∙ ap (op (own r)) (sym (first s ss)) ∙ sym (first r (s ∷ ss))
  reordered (twice p q) = reordered p ∙ reordered q

  -- a number that is what the taken texts come to is the same in another order
  module _ (m : List (List ℕ) → ℕ) (is : (ss : List (List ℕ)) → m ss ≡ together op f (taken_of ss empty_sheet)) where
    order_at : (ss rs : List (List ℕ)) → Reordered ss rs → length ss ≤ most_texts → m ss ≡ m rs
    order_at ss rs r h =
        let a = few ss empty_sheet empty_good (omega (arith, h, empty_at 60)) in
        let b = few rs empty_sheet empty_good (omega (arith, h, empty_at 60, reordered_length r)) in
        is ss ∙ ap (together op f) a ∙ reordered r ∙ sym (ap (together op f) b) ∙ sym (is rs)

pub any_order : (ss rs : List (List ℕ)) → Reordered ss rs → length ss ≤ most_texts → takes ss empty_sheet ≡ takes rs empty_sheet
any_order ss rs r h =
    ext_get_or 0 (takes ss empty_sheet) (takes rs empty_sheet) (takes-length ss empty_sheet ∙ sym (takes-length rs empty_sheet))
    (λ i l. go i (omega (arith, l, takes-length ss empty_sheet, empty_length)) (eqb i deepest_in) refl)
  where
    go : (i : ℕ) → i < sheet_size → (b : Bool) → eqb i deepest_in ≡ b → get_or (takes ss empty_sheet) i 0 ≡ get_or (takes rs empty_sheet) i 0
    go i j true q = rw (eqb-true i deepest_in q) (order_at deeper depth_gathers depth (λ l. get_or (takes l empty_sheet) deepest_in 0) largest_from_empty ss rs r h)
    go i j false q = order_at ◌+◌ sum_gathers (adds_to i) (λ l. get_or (takes l empty_sheet) i 0) (total-from_empty i q j) ss rs r h

-- ---- SMALL TOTALS: on a sheet begun empty no number before the advances is above 2^44, so a table can sum them
sum-most : (i : ℕ) → i < advances_in → (ss : List (List ℕ)) (sheet : List ℕ) → sum_of (adds_to i) (taken_of ss sheet) ≤ 0x400000000 * length (taken_of ss sheet)
unfolding taken_of together
sum-most i h [] sheet = omega arith
sum-most i h (s ∷ ss) sheet = go (is_taken (taken s sheet)) refl (sum-most i h ss (held s sheet))
  where
    go : (b : Bool) → is_taken (taken s sheet) ≡ b → sum_of (adds_to i) (taken_of ss (held s sheet)) ≤ 0x400000000 * length (taken_of ss (held s sheet))
        → sum_of (adds_to i) (cond b (s ∷ taken_of ss (held s sheet)) (taken_of ss (held s sheet))) ≤ 0x400000000 * length (cond b (s ∷ taken_of ss (held s sheet)) (taken_of ss (held s sheet)))
    go true e j = let a = text-small s (took s sheet e).passed i h in omega (arith, a, j)
    go false e j = j

pub small_totals : (i : ℕ) → i < advances_in → (ss : List (List ℕ)) → get_or (takes ss empty_sheet) i 0 ≤ 0x100000000000
small_totals i h ss =
    let a = total-from_empty i (ne_eqb i 61 (λ q. omega arith)) (omega (arith, h)) ss in
    let b = sum-most i h ss empty_sheet in
    let c = at_most ss in
    omega (arith, a, b, c)
