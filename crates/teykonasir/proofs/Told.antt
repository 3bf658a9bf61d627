-- What a call leaves: one law for an answer that is too short, one for each function where it is not.
use Rattle.std.specs.Prelude.{Option, Some, None, Result}
use Prim.Native.Nat.{ℕ, zero, suc, ◌+◌, ◌-◌, ◌<◌, ◌≤◌}
use native.Mathlib.Omega.{arith}
use mathlib.Core.Bool.{Bool, true, false, cond, ◌&&◌}
use mathlib.Core.List.{List, [], ◌∷◌}
use mathlib.Core.Path.{◌≡◌, refl, sym, ap, ◌∙◌}
use lib.Dec.{ltb}
use lib.ListN.{get_or, length, set}
use borrow.Author.Tests.{lt-ltb, le-ltb}
use Rattle.record.specs.Numbers.{code_number, code_of, codes}
use Rattle.record.specs.Records.{over}
use Rattle.record.specs.Stores.{sets_over}
use Rattle.record.specs.declared.Code.{Code}
use Rattle.record.specs.declared.Code.TheVariants.{BadRecord, NoRoom}
use Rattle.utf8.specs.Picks.{tests}
use Rattle.reading.specs.Answers.{start_state}
use Rattle.reading.specs.declared.Outcome.{Outcome}
use Rattle.reading.specs.declared.Tokenizer.{Tokenizer}
use Rattle.run.specs.Checked.{ran_of, whole_run}
use Rattle.run.specs.Numbers.{numbers_all}
use Rattle.run.specs.declared.Ran.{Ran}
use Rattle.escapes.specs.Answers.{applied}
use Rattle.place.specs.Place.{located, reported}
use Rattle.ltk.specs.Ltk.{entries_in, read_answer, read_numbers, write_answer, written_bytes}
use Rattle.text.specs.Lay.{lay}
use Rattle.text.specs.Names.{code_name, kind_name}
use Rattle.text.specs.Stores.{lay-fit, lay_full}
use Rattle.numbers.specs.Leaves.{Leaves, Left, short, tell, whole}
use Rattle.numbers.specs.Values.{how_code}
use Rattle.teykonasir.specs.Calls.{Resumed, answer_code, answer_count, answer_place, run_numbers, room_in, run_call, resumed, resume_call, expand_code, expand_numbers, expand_call, reported_code, place_numbers, place_call, located_code, located_number, place_at_call, ltk_numbers, read_call, write_call, name_call, kind_name_call, code_name_call, came_code, came_length}
use Rattle.teykonasir.specs.State.{code_known, done_numbers, state_numbers, state_of}
use Rattle.escapes.specs.declared.Part.{Part}
use Rattle.place.specs.declared.Place.{Place}
use Rattle.record.specs.declared.Refusal.{Refusal}

-- three numbers of an answer, each told by a function of it
module _ (answer : List ℕ) where
  pub three : (a b c a' b' c' : ℕ) → a ≡ a' → b ≡ b' → c ≡ c' → over (a ∷ b ∷ c ∷ []) answer ≡ over (a' ∷ b' ∷ c' ∷ []) answer
  three a b c a' b' c' e f g = rw (e, f, g)

module _ (s : List ℕ) (shift limit : ℕ) (records answer : List ℕ) where
  pub run_short : length answer < 4 → Leaves (run_call s shift limit records answer) (code_number NoRoom) records answer
  unfolding run_call
  run_short h = short 4 _ _ _ records answer h

  pub run-whole : 4 ≤ length answer → (t : Tokenizer) → t ≡ start_state → (x : Ran) → x ≡ ran_of s shift limit (room_in records) t
      → (code : ℕ) (lent numbers : List ℕ) → code ≡ how_code x.how
      → lent ≡ over (numbers_all (whole_run s shift limit (room_in records) t).tokens) records
      → numbers ≡ over (run_numbers x) answer
      → Leaves (run_call s shift limit records answer) code lent numbers
  unfolding run_call
  run-whole h t i x e code lent numbers c l n =
      let q : x ≡ ran_of s shift limit (room_in records) start_state = e ∙ ap (λ (u : Tokenizer). ran_of s shift limit (room_in records) u) i in
      whole 4 _ _ _ records answer h code lent numbers
      (c ∙ ap (λ (y : Ran). how_code y.how) q)
      (l ∙ ap (λ (u : Tokenizer). over (numbers_all (whole_run s shift limit (room_in records) u).tokens) records) i)
      (n ∙ ap (λ (y : Ran). over (run_numbers y) answer) q)

-- an element that is there, whatever else would be answered
other : {A : Type 0} (l : List A) (i : ℕ) (a b : A) → i < length l → get_or l i a ≡ get_or l i b
other [] i a b h = absurd (omega (arith, h))
other (x ∷ l) zero a b h = refl
other (x ∷ l) (suc i) a b h = other l i a b (omega (arith, h))

pub code_is : (n : ℕ) (d : Code) → 1 ≤ n → n < 30 → Some (get_or codes (n - 1) d) ≡ code_known n
unfolding code_known code_of codes
code_is n d g h = rw (le-ltb n 1 g, lt-ltb n 30 h) (ap (λ (x : Code). Some x) (other codes (n - 1) d BadRecord (omega (arith, h))))

-- a tokenizer's numbers, by how it stands
module _ (t : Tokenizer) (old new : List ℕ) where
  pub state-plain : (d : Outcome) → t.done ≡ d → new ≡ over (t.at ∷ t.count ∷ done_numbers d) old → new ≡ over (state_numbers t) old
  state-plain d e n = n ∙ ap (λ (x : Outcome). over (t.at ∷ t.count ∷ done_numbers x) old) (sym e)

-- a run from a tokenizer: what the contract says of the call
abbrev pub Moves : Resumed → ℕ → List ℕ → List ℕ → List ℕ → Type 0
Moves x r state lent numbers = (r ≡ x.result) × (state ≡ x.state) × (lent ≡ x.lent) × (numbers ≡ x.numbers)

module _ (s : List ℕ) (shift limit : ℕ) (state records answer : List ℕ) where
  pub resume_short : length answer < 4 → Moves (resume_call s shift limit state records answer) (code_number NoRoom) state records answer
  unfolding resume_call
  resume_short h = rw (lt-ltb (length answer) 4 h) (refl, refl, refl, refl)

  pub resume_narrow : 4 ≤ length answer → length state < 4 → Moves (resume_call s shift limit state records answer) (code_number NoRoom) state records answer
  unfolding resume_call
  resume_narrow g h = rw (le-ltb (length answer) 4 g, lt-ltb (length state) 4 h) (refl, refl, refl, refl)

  long : 4 ≤ length answer → 4 ≤ length state → resume_call s shift limit state records answer ≡ resumed s shift limit state records answer (state_of state)
  unfolding resume_call
  long g h = rw (le-ltb (length answer) 4 g, le-ltb (length state) 4 h)

  pub resume_whole : 4 ≤ length answer → 4 ≤ length state → (k : Option Tokenizer) → k ≡ state_of state → (t : Tokenizer) → k ≡ Some t
      → (x : Ran) → x ≡ ran_of s shift limit (room_in records) t → (code : ℕ) (left lent numbers : List ℕ) → code ≡ how_code x.how
      → left ≡ over (state_numbers x.state) state → lent ≡ over (numbers_all (whole_run s shift limit (room_in records) t).tokens) records
      → numbers ≡ over (run_numbers x) answer → Moves (resume_call s shift limit state records answer) code left lent numbers
  unfolding resumed
  resume_whole g h k e t f x r code left lent numbers c d l n =
      let q : resume_call s shift limit state records answer ≡ resumed s shift limit state records answer (Some t) =
      long g h ∙ ap (resumed s shift limit state records answer) (sym e ∙ f) in
      rw q (c ∙ ap (λ (y : Ran). how_code y.how) r, d ∙ ap (λ (y : Ran). over (state_numbers y.state) state) r, l, n ∙ ap (λ (y : Ran). over (run_numbers y) answer) r)

  pub resume_none : 4 ≤ length answer → 4 ≤ length state → (k : Option Tokenizer) → k ≡ state_of state → k ≡ None
      → (numbers : List ℕ) → numbers ≡ over (code_number BadRecord ∷ 0 ∷ 0 ∷ get_or state 1 0 ∷ []) answer
      → Moves (resume_call s shift limit state records answer) (code_number BadRecord) state records numbers
  unfolding resumed
  resume_none g h k e f numbers n =
      let q : resume_call s shift limit state records answer ≡ resumed s shift limit state records answer None =
      long g h ∙ ap (resumed s shift limit state records answer) (sym e ∙ f) in
      rw q (refl, refl, refl, n)

module _ (s : List ℕ) (idx0 : ℕ) (buffer : List ℕ) (place : ℕ) (answer : List ℕ) where
  pub expand-short : length answer < 4 → Leaves (expand_call s idx0 buffer place answer) (code_number NoRoom) buffer answer
  unfolding expand_call
  expand-short h = short 4 _ _ _ buffer answer h

  pub expand-whole : 4 ≤ length answer → (x : Result Part Refusal) → x ≡ (applied s idx0 buffer place).answer
      → (code : ℕ) (lent numbers : List ℕ) → code ≡ expand_code x → lent ≡ (applied s idx0 buffer place).buffer → numbers ≡ over (expand_numbers x) answer
      → Leaves (expand_call s idx0 buffer place answer) code lent numbers
  unfolding expand_call
  expand-whole h x e code lent numbers c l n =
      whole 4 _ _ _ buffer answer h code lent numbers (c ∙ ap expand_code e) l (n ∙ ap (λ (y : Result Part Refusal). over (expand_numbers y) answer) e)

module _ (s : List ℕ) (p : ℕ) (answer : List ℕ) where
  pub place_short : length answer < 2 → (code_number NoRoom ≡ (place_call s p answer).result) × (answer ≡ (place_call s p answer).numbers)
  unfolding place_call
  place_short h = let l = short 2 (reported_code (reported s p)) (place_numbers (reported s p)) [] [] answer h in (l.0, l.2)

  pub place_whole : 2 ≤ length answer → (x : Result Place Refusal) → x ≡ reported s p → (code : ℕ) (numbers : List ℕ) → code ≡ reported_code x
      → numbers ≡ over (place_numbers x) answer → (code ≡ (place_call s p answer).result) × (numbers ≡ (place_call s p answer).numbers)
  unfolding place_call
  place_whole h x e code numbers c n =
      let l = whole 2 (reported_code (reported s p)) (place_numbers (reported s p)) [] [] answer h code [] numbers (c ∙ ap reported_code e) refl
      (n ∙ ap (λ (y : Result Place Refusal). over (place_numbers y) answer) e) in
      (l.0, l.2)

-- the LTK file, both ways
module _ (old answer new : List ℕ) (a : Result ℕ Refusal) where
  abbrev Call : Left
  Call = tell 3 (answer_code a) (ltk_numbers a) new old answer

  pub ltk_whole : 3 ≤ length answer → (x : Result ℕ Refusal) → x ≡ a → (code place count : ℕ) (lent numbers : List ℕ) → code ≡ answer_code x → place ≡ answer_place x → count ≡ answer_count x
      → lent ≡ new → numbers ≡ over (code ∷ place ∷ count ∷ []) answer → Leaves Call code lent numbers
  ltk_whole h x e code place count lent numbers c p k l n =
      whole 3 _ _ _ old answer h code lent numbers (c ∙ ap answer_code e) l
      (n ∙ three answer code place count _ _ _ c p k ∙ ap (λ (y : Result ℕ Refusal). over (ltk_numbers y) answer) e)

module _ (file records answer : List ℕ) where
  pub read_short : length answer < 3 → Leaves (read_call file records answer) (code_number NoRoom) records answer
  unfolding read_call
  read_short h = short 3 _ _ _ records answer h

  pub read_whole : 3 ≤ length answer → (x : Result ℕ Refusal) → x ≡ read_answer file (room_in records) → (code place count : ℕ) (lent numbers : List ℕ)
      → code ≡ answer_code x → place ≡ answer_place x → count ≡ answer_count x → lent ≡ over (read_numbers file (room_in records)) records
      → numbers ≡ over (code ∷ place ∷ count ∷ []) answer → Leaves (read_call file records answer) code lent numbers
  unfolding read_call
  read_whole h x e code place count lent numbers c p k l n = ltk_whole records answer _ _ h x e code place count lent numbers c p k l n

module _ (records buffer answer : List ℕ) where
  pub write-short : length answer < 3 → Leaves (write_call records buffer answer) (code_number NoRoom) buffer answer
  unfolding write_call
  write-short h = short 3 _ _ _ buffer answer h

  pub write-whole : 3 ≤ length answer → (x : Result ℕ Refusal) → x ≡ write_answer (entries_in records) (length buffer) → (code place count : ℕ) (lent numbers : List ℕ)
      → code ≡ answer_code x → place ≡ answer_place x → count ≡ answer_count x → lent ≡ over (written_bytes (entries_in records) (length buffer)) buffer
      → numbers ≡ over (code ∷ place ∷ count ∷ []) answer → Leaves (write_call records buffer answer) code lent numbers
  unfolding write_call
  write-whole h x e code place count lent numbers c p k l n = ltk_whole buffer answer _ _ h x e code place count lent numbers c p k l n

-- a name: the first number of the answer is set
first : (n : ℕ) (answer : List ℕ) → 1 ≤ length answer → set answer 0 n ≡ over (n ∷ []) answer
first n answer h = sets_over (n ∷ []) answer h

-- the place of a line and a column is that number too
module _ (s : List ℕ) (line column : ℕ) (answer : List ℕ) where
  pub place_at-short : length answer < 1
      → (code_number NoRoom ≡ (place_at_call s line column answer).result) × (answer ≡ (place_at_call s line column answer).numbers)
  unfolding place_at_call
  place_at-short h = let l = short 1 (located_code (located s line column)) (located_number (located s line column) ∷ []) [] [] answer h in (l.0, l.2)

  pub place_at-whole : 1 ≤ length answer → (x : Result ℕ Refusal) → x ≡ located s line column → (code n : ℕ) → code ≡ located_code x → n ≡ located_number x
      → (code ≡ (place_at_call s line column answer).result) × (set answer 0 n ≡ (place_at_call s line column answer).numbers)
  unfolding place_at_call
  place_at-whole h x e code n c m =
      let l = whole 1 (located_code (located s line column)) (located_number (located s line column) ∷ []) [] [] answer h code [] (set answer 0 n)
      (c ∙ ap located_code e) refl (first n answer h ∙ ap (λ (y : ℕ). over (y ∷ []) answer) (m ∙ ap located_number e)) in
      (l.0, l.2)

module _ (name buffer answer : List ℕ) where
  abbrev Call' : Bool → Bool → Left
  Call' known narrow =
      cond known
      (cond narrow (tell 1 (code_number NoRoom) (0 ∷ []) buffer buffer answer) (tell 1 0 (length name ∷ []) (over name buffer) buffer answer))
      (tell 1 (code_number BadRecord) (0 ∷ []) buffer buffer answer)

  short_by : length answer < 1 → (known narrow : Bool) → Leaves (Call' known narrow) (code_number NoRoom) buffer answer
  short_by h true true = short 1 _ _ _ buffer answer h
  short_by h true false = short 1 _ _ _ buffer answer h
  short_by h false narrow = short 1 _ _ _ buffer answer h

  pub name_short : (known : Bool) → length answer < 1 → Leaves (name_call known name buffer answer) (code_number NoRoom) buffer answer
  unfolding name_call
  name_short known h = short_by h known (ltb (length buffer) (length name))

  pub name_none : (known : Bool) → known ≡ false → 1 ≤ length answer → Leaves (name_call known name buffer answer) (code_number BadRecord) buffer (set answer 0 0)
  unfolding name_call
  name_none known k h = rw k (whole 1 _ _ _ buffer answer h _ _ _ refl refl (first 0 answer h))

  fit : length name ≤ length buffer → (Some (length name) ≡ (lay buffer (Some 0) name).to) × (over name buffer ≡ (lay buffer (Some 0) name).held)
  fit h =
      let z : 0 + length name ≡ length name = omega arith in
      let g = lay-fit buffer name 0 (omega arith) in
      (ap (λ (n : ℕ). Some n) (sym z) ∙ g.0, sym (sets_over name buffer h) ∙ g.1)

  came_by_lem : 1 ≤ length answer → (narrow : Bool) → ltb (length buffer) (length name) ≡ narrow → (x : Option ℕ) (held : List ℕ) → x ≡ (lay buffer (Some 0) name).to → held ≡ (lay buffer (Some 0) name).held
      → (code n : ℕ) → code ≡ came_code x → n ≡ came_length x → Leaves (Call' true narrow) code held (set answer 0 n)
  came_by_lem h true b x held e f code n c l =
      let g = lay_full buffer name 0 (omega tests) in
      let i : x ≡ None = e ∙ sym g.0 in
      let j : n ≡ 0 = l ∙ ap came_length i in
      whole 1 _ _ _ buffer answer h _ _ _ (c ∙ ap came_code i) (f ∙ sym g.1) (first n answer h ∙ ap (λ (m : ℕ). over (m ∷ []) answer) j)
  came_by_lem h false b x held e f code n c l =
      let m : length name ≤ length buffer = omega tests in
      let g = fit m in
      let i : x ≡ Some (length name) = e ∙ sym g.0 in
      let j : n ≡ length name = l ∙ ap came_length i in
      whole 1 _ _ _ buffer answer h _ _ _ (c ∙ ap came_code i) (f ∙ sym g.1) (first n answer h ∙ ap (λ (y : ℕ). over (y ∷ []) answer) j)

  pub name_came : (known : Bool) → known ≡ true → 1 ≤ length answer → (x : Option ℕ) (held : List ℕ) → x ≡ (lay buffer (Some 0) name).to → held ≡ (lay buffer (Some 0) name).held
      → (code n : ℕ) → code ≡ came_code x → n ≡ came_length x → Leaves (name_call known name buffer answer) code held (set answer 0 n)
  unfolding name_call
  name_came known k h x held e f code n c l = rw k (came_by_lem h (ltb (length buffer) (length name)) refl x held e f code n c l)

module _ (n : ℕ) (buffer answer : List ℕ) where
  pub kind_short : length answer < 1 → Leaves (kind_name_call n buffer answer) (code_number NoRoom) buffer answer
  unfolding kind_name_call
  kind_short h = name_short (kind_name n) buffer answer (ltb n 54) h

  pub kind_none : 1 ≤ length answer → 54 ≤ n → Leaves (kind_name_call n buffer answer) (code_number BadRecord) buffer (set answer 0 0)
  unfolding kind_name_call
  kind_none h k = name_none (kind_name n) buffer answer (ltb n 54) (le-ltb n 54 k) h

  pub kind_came : 1 ≤ length answer → n < 54 → (x : Option ℕ) (held : List ℕ) → x ≡ (lay buffer (Some 0) (kind_name n)).to → held ≡ (lay buffer (Some 0) (kind_name n)).held
      → (code m : ℕ) → code ≡ came_code x → m ≡ came_length x → Leaves (kind_name_call n buffer answer) code held (set answer 0 m)
  unfolding kind_name_call
  kind_came h k = name_came (kind_name n) buffer answer (ltb n 54) (lt-ltb n 54 k) h

  pub code-short : length answer < 1 → Leaves (code_name_call n buffer answer) (code_number NoRoom) buffer answer
  unfolding code_name_call
  code-short h = name_short (code_name n) buffer answer (ltb 0 n && ltb n 30) h

  pub code_below : 1 ≤ length answer → n < 1 → Leaves (code_name_call n buffer answer) (code_number BadRecord) buffer (set answer 0 0)
  unfolding code_name_call
  code_below h k = name_none (code_name n) buffer answer (ltb 0 n && ltb n 30) (rw (le-ltb 0 n (omega arith))) h

  pub code-above : 1 ≤ length answer → 1 ≤ n → 30 ≤ n → Leaves (code_name_call n buffer answer) (code_number BadRecord) buffer (set answer 0 0)
  unfolding code_name_call
  code-above h j k = name_none (code_name n) buffer answer (ltb 0 n && ltb n 30) (rw (lt-ltb 0 n j, le-ltb n 30 k)) h

  pub code_came : 1 ≤ length answer → 1 ≤ n → n < 30 → (x : Option ℕ) (held : List ℕ) → x ≡ (lay buffer (Some 0) (code_name n)).to → held ≡ (lay buffer (Some 0) (code_name n)).held
      → (code m : ℕ) → code ≡ came_code x → m ≡ came_length x → Leaves (code_name_call n buffer answer) code held (set answer 0 m)
  unfolding code_name_call
  code_came h j k = name_came (code_name n) buffer answer (ltb 0 n && ltb n 30) (rw (lt-ltb 0 n j, lt-ltb n 30 k)) h
