-- What a text adds, as the code adds it: a row of its own, or one more in a tally.
use Rattle.std.specs.Prelude.{◌+◌, ◌-◌, ◌<◌, ◌≤◌, ℕ, false, true, List, ◌≡◌, leb, ltb, get_or, length, set, Ok, Err}
use Rattle.std.proofs.Math.Decide.{dec_lt}
use Rattle.std.proofs.Common.{arith, ◌∙◌}
use Rattle.std.proofs.Math.Path.{ap, refl, sym}
use Rattle.std.proofs.Math.ListN.{get_or-eq_default}
use borrow.Author.Tests.{le-leb, le-ltb, lt-leb, lt-ltb, ne_eqb}
use Rattle.record.specs.Checks.{checks}
use Rattle.record.specs.Numbers.{code_again, code_number, code_of, codes}
use Rattle.record.specs.Records.{refusal}
use Rattle.record.specs.declared.Code.{Code}
use Rattle.record.specs.declared.Code.TheVariants.{BadRecord, NoRoom, SheetFull}
use Rattle.record.specs.declared.Reading.TheVariants.{Old}
use Rattle.record.specs.declared.Refusal.{Refusal}
use Rattle.scan.specs.Depth.{deeper}
use Rattle.reading.specs.declared.Outcome.{Outcome}
use Rattle.reading.specs.declared.Outcome.TheVariants.{Ended, Refused as Failed, Running}
use Rattle.ledger.specs.Runs.{over_law}
use Rattle.sheet.specs.Adds.{adds, advances_in, deepest_in, empty_sheet, enter, entered, greatest, sheet_size, story, tallies, texts_taken, work_limit}
use Rattle.sheet.specs.Laws.{added_sums, empty_below, empty_length, enter-length, enter-other, plus_empty, plus-enter, sheet_each}
use Rattle.sheet.specs.Sheet.{added, held, held_by, is_sheet, most_texts, plus, taken, taken_as}
use Rattle.sheet.specs.declared.Taken.{Taken}
use Rattle.sheet.specs.declared.Taken.TheVariants.{Refused}

-- a code's tally stands on the sheet
pub code_less : (c : Code) → code_number c < 32
unfolding code_of codes
code_less c = go (dec_lt (code_number c) 32)
  where
    go : Dec (code_number c < 32) → code_number c < 32
    go (yes h) = h
    go (no h) =
        let e : c ≡ BadRecord = sym (code_again c) ∙ get_or-eq_default codes BadRecord {n = code_number c - 1} (omega arith) in
        let f : code_number c ≡ 20 = ap code_number e in
        absurd (omega arith)

-- ---- a text that reached its end
pub whole-adds : (s : List ℕ) (n d : ℕ) (a b c l : List ℕ) → (story s).how ≡ Ended → a ≡ entered s 0 (story s).tokens empty_sheet → n ≡ (story s).state.count
    → d ≡ greatest (story s) → b ≡ enter advances_in n a → c ≡ enter deepest_in d b → l ≡ enter texts_taken 1 c → l ≡ adds s
unfolding adds
whole-adds s n d a b c l e p q g u v w = w ∙ ap (enter texts_taken 1) (v ∙ ap (enter deepest_in d) u ∙ rw (p, q, g, e))

-- on a sheet: l the sums, and then the greater of the depths
pub whole_onto : (s sheet row l m : List ℕ) (d : ℕ) → row ≡ adds s → l ≡ plus sheet row → d ≡ deeper (get_or sheet deepest_in 0) (get_or row deepest_in 0) → m ≡ set l deepest_in d
    → m ≡ added sheet (adds s)
unfolding added
whole_onto s sheet row l m d e p q u = u ∙ rw (q, p, e)

-- ---- a text that ends in an error
module _ (sheet : List ℕ) (k : sheet_size ≤ length sheet) (t : get_or sheet texts_taken 0 < most_texts) (e : is_sheet sheet ≡ true) (z : Refusal) where
  pub tally-fits : (n : ℕ) → n ≡ code_number z.code → (tallies + n < length sheet) × (get_or sheet (tallies + n) 0 + 1 < 0x10000000000000000)
  tally-fits n q =
      let c = code_less z.code in
      let m = sheet_each sheet (64 + n) e k (omega arith) in
      (omega arith, omega (arith, m, t))

  pub texts-fit : (n : ℕ) (l : List ℕ) → l ≡ enter (tallies + n) 1 sheet → (texts_taken < length l) × (get_or l texts_taken 0 + 1 < 0x10000000000000000)
  texts-fit n l q =
      let a = enter-length (64 + n) 1 sheet in
      let b = enter-other (64 + n) 60 1 sheet (ne_eqb 60 (64 + n) (λ w. omega arith)) in
      rw q (omega (arith, a), omega (arith, b, t))

  pub tallied_adds : (s : List ℕ) (n : ℕ) (l m : List ℕ) → (story s).how ≡ Failed z → n ≡ code_number z.code → l ≡ enter (tallies + n) 1 sheet → m ≡ enter texts_taken 1 l → m ≡ added sheet (adds s)
  unfolding adds
  tallied_adds s n l m h q u v =
      let c = code_less z.code in
      let a = empty_length in
      let b = enter-length (tallies + n) 1 empty_sheet in
      let i = enter-other texts_taken 61 1 (enter (tallies + n) 1 empty_sheet) refl in
      let j = enter-other (tallies + n) 61 1 empty_sheet (ne_eqb 61 (tallies + n) (λ w. omega arith)) in
      let y = empty_below.is 61 in
      v ∙ ap (enter texts_taken 1) (u ∙ sym (plus-enter (tallies + n) 1 sheet empty_sheet (omega arith) (omega arith) ∙ ap (enter (tallies + n) 1) (plus_empty sheet)))
      ∙ sym (plus-enter texts_taken 1 sheet (enter (tallies + n) 1 empty_sheet) (omega arith) (omega (arith, a, b)))
      ∙ sym (added_sums sheet (enter texts_taken 1 (enter (tallies + n) 1 empty_sheet)) (omega arith) (omega (arith, i, j, y)))
      ∙ rw (h, q)

-- no run goes on
pub never_running : (s : List ℕ) → (story s).how ≡ Running → ⊥
unfolding story
never_running s e = over_law Old s 0 work_limit (length s) e

-- ---- the order of the refusals
module _ (s sheet : List ℕ) where
  pub take_short : length sheet < sheet_size → (Refused (refusal NoRoom 0) ≡ taken s sheet) × (sheet ≡ held s sheet)
  unfolding held taken
  take_short h = let q = lt-ltb (length sheet) sheet_size h in rw q (refl, refl)

  module _ (l : sheet_size ≤ length sheet) where
    sized : ltb (length sheet) sheet_size ≡ false
    sized = le-ltb (length sheet) sheet_size l

    pub take-stopped : (r : Refusal) → checks s 0 ≡ Err r → (Refused r ≡ taken s sheet) × (sheet ≡ held s sheet)
    unfolding held taken
    take-stopped r e = rw (sized, e) (refl, refl)

    module _ (e : checks s 0 ≡ (Ok tt)) where
      pub take_full : most_texts ≤ get_or sheet texts_taken 0 → (Refused (refusal SheetFull 0) ≡ taken s sheet) × (sheet ≡ held s sheet)
      unfolding held taken
      take_full h = let q = le-leb most_texts (get_or sheet texts_taken 0) h in rw (sized, e, q) (refl, refl)

      module _ (h : get_or sheet texts_taken 0 < most_texts) where
        unfull : leb most_texts (get_or sheet texts_taken 0) ≡ false
        unfull = lt-leb most_texts (get_or sheet texts_taken 0) h

        pub take-bad : is_sheet sheet ≡ false → (Refused (refusal BadRecord 0) ≡ taken s sheet) × (sheet ≡ held s sheet)
        unfolding held taken
        take-bad q = rw (sized, e, unfull, q) (refl, refl)

        -- and a text that is taken
        pub take_good : is_sheet sheet ≡ true → (r : Taken) (to : List ℕ) → r ≡ taken_as (story s).how → to ≡ added sheet (adds s) → (r ≡ taken s sheet) × (to ≡ held s sheet)
        unfolding held taken
        take_good q r to u v = rw (sized, e, unfull, q) (u, v ∙ go (story s).how)
          where
            go : (how : Outcome) → added sheet (adds s) ≡ held_by (taken_as how) s sheet
            go Ended = refl
            go (Failed z) = refl
            go Running = refl
