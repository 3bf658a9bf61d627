-- What the code cites.
use Rattle.std.specs.Prelude.{ℕ, ◌*◌, ◌/◌, ◌≤◌, ◌<◌, Bool, true, false, ◌&&◌, cond, ◌≡◌, refl, eqb, ltb, drop, take, Option, Some, Result, Ok, Err}
use Rattle.std.proofs.Common.{arith, le-ltb, lt-ltb, ◌∙◌}
use mathlib.Core.List.{List, [], map}
use Rattle.std.proofs.Math.Path.{sym, ap}
use Rattle.std.proofs.Math.ListN.{length}
use Rattle.std.proofs.Math.Seq.{take-append_seam}
use Rattle.text.specs.Lay.{lay, lay_all}
use Rattle.text.specs.Lines.{records_line, refusal_line}
use Rattle.record.specs.Numbers.{code_number}
use Rattle.record.specs.Records.{over}
use Rattle.record.specs.declared.Code.TheVariants.{TooLong}
use Rattle.record.specs.declared.Reading.TheVariants.{Old}
use Rattle.record.specs.declared.Refusal.{Refusal}
use Rattle.reading.specs.Answers.{start_state}
use Rattle.reading.specs.declared.Outcome.{Outcome}
use Rattle.reading.specs.declared.Outcome.TheVariants.{Ended, Refused, Running}
use Rattle.reading.specs.declared.Tokenizer.{Tokenizer}
use Rattle.run.specs.Checked.{ran_of, ran_with, whole_run}
use Rattle.run.specs.declared.Ran.{Ran}
use Rattle.run.specs.Numbers.{numbers_all}
use Rattle.run.specs.declared.Group.TheVariants.{Five}
use Rattle.lent.specs.Copies.{fitted}
use Rattle.ltk.specs.Faithful.{room-read}
use Rattle.ltk.specs.Ltk.{delivered, entries_in, entry_of, file_check, read_answer, read_tokens, write_answer, written_bytes}
use Rattle.ltk.specs.declared.Entry.{Entry}
use Rattle.ledger.specs.Written.{entries_are}
use Rattle.commands.specs.Laws.{Is, SaidFrom, chunk_are, end-part, fits, head-on, held_all, how_is, mid_part, no_part, numbers_length, only_part, tokens-room}
use Rattle.commands.specs.Lists.{Left, header_lines, highest, limit_lines, record_line, refused_lines, room, text_limit}
use Rattle.commands.specs.Parts.{chunk, held_lines, last_part}
use Rattle.files.specs.Files.{file_last, file_limit, file_lines, pack_err, pack_out, packed_err, packed_out, read_err, unpack_err, unpack_last, unpack_more, unpack_part, unpack_part_err, unpack_tokens}
use Rattle.files.specs.Whole.{none, read_length}

abbrev pub Runs : Outcome → Type 0
Runs (Refused r) = ⊥
Runs Ended = Unit {0}
Runs Running = Unit {0}

-- ---- the command `pack`
pub write_done : (es : List Entry) (name d f x : List ℕ) (n : ℕ) → write_answer es (length d) ≡ Ok n → x ≡ over (written_bytes es (length d)) d
    → Left (packed_out es d) (packed_err es (length d) name f) (Some n) x (Some 0) f
unfolding lay_all
write_done es name d f x n e h = rw e (record { out_to = refl; out_held = h; err-to = refl; err-held = refl })

pub write-not : (es : List Entry) (name d f x : List ℕ) (r : Refusal) (p : Option ℕ) (y : List ℕ) → write_answer es (length d) ≡ Err r → x ≡ over (written_bytes es (length d)) d
    → Is (lay_all f (Some 0) (file_lines name r)) p y → Left (packed_out es d) (packed_err es (length d) name f) (Some 0) x p y
write-not es name d f x r p y e h k = rw e (record { out_to = refl; out_held = h; err-to = k.0; err-held = k.1 })

pub pack_long : (name s d f : List ℕ) (p : Option ℕ) (y : List ℕ) → text_limit < length s → Is (lay_all f (Some 0) (limit_lines name text_limit)) p y
    → Left (pack_out s d) (pack_err name s (length d) f) (Some 0) d p y
unfolding pack_err pack_out
pack_long name s d f p y h k = rw (lt-ltb text_limit (length s) h) (record { out_to = refl; out_held = refl; err-to = k.0; err-held = k.1 })

module _ (s old recs : List ℕ) (t : Tokenizer) (ran : Ran) (start : t ≡ start_state) (is : ran ≡ ran_of s 0 highest room t)
    (stored : recs ≡ fitted (numbers_all (whole_run s 0 highest room t).tokens) old) (wide : 163840 ≤ length old) (short : length s ≤ text_limit) (name d f : List ℕ) where
  pub pack_refused : (r : Refusal) (p : Option ℕ) (y : List ℕ) → ran.how ≡ Refused r → Is (lay_all f (Some 0) (refused_lines name s r)) p y
      → Left (pack_out s d) (pack_err name s (length d) f) (Some 0) d p y
  unfolding pack_err pack_out
  pack_refused r p y e k =
      let h = sym (how_is Old s t ran start is) ∙ e in
      rw (le-ltb text_limit (length s) short, h) (record { out_to = refl; out_held = refl; err-to = k.0; err-held = k.1 })

  pub entries_of_lem : entries_in (take (5 * ran.stored) recs) ≡ map entry_of (whole_run s 0 highest room start_state).tokens
  unfolding ran_with
  entries_of_lem =
      let ts = (whole_run s 0 highest room start_state).tokens in
      let whole = is ∙ ap (ran_of s 0 highest room) start in
      let c : ran.stored ≡ length ts = ap (λ (r : Ran). r.stored) whole in
      let l = tokens-room s 0 highest room start_state in
      let n = numbers_length Five ts in
      let m : 5 * ran.stored ≡ length (numbers_all ts) = omega (arith, c, n) in
      let q : recs ≡ over (numbers_all ts) old = stored ∙ ap (λ (u : Tokenizer). fitted (numbers_all (whole_run s 0 highest room u).tokens) old) start ∙ fits ts old (omega (arith, l, wide)) in
      ap (λ (k : ℕ). entries_in (take k recs)) m ∙ ap (λ (x : List ℕ). entries_in (take (length (numbers_all ts)) x)) q
      ∙ ap entries_in (take-append_seam (numbers_all ts) (drop (length (numbers_all ts)) old)) ∙ entries_are ts

  pub pack_ended : (o : Outcome) (r : Option ℕ) (x : List ℕ) (p : Option ℕ) (y : List ℕ) → ran.how ≡ o → Runs o
      → Left (packed_out (entries_in (take (5 * ran.stored) recs)) d) (packed_err (entries_in (take (5 * ran.stored) recs)) (length d) name f) r x p y
      → Left (pack_out s d) (pack_err name s (length d) f) r x p y
  unfolding pack_err pack_out
  pack_ended Ended r x p y e o k =
      let h = sym (how_is Old s t ran start is) ∙ e in
      rw (le-ltb text_limit (length s) short, h) (rw entries_of_lem at k)
  pack_ended Running r x p y e o k =
      let h = sym (how_is Old s t ran start is) ∙ e in
      rw (le-ltb text_limit (length s) short, h) (rw entries_of_lem at k)
  pack_ended (Refused z) r x p y e o k = absurd o

-- ---- the command `unpack`
read-room : (file : List ℕ) (k : ℕ) → delivered (read_answer file k) ≤ k
unfolding read_answer
read-room file k = room-read k (file_check file)

pub read_few : (file : List ℕ) (k n : ℕ) (a : Result ℕ Refusal) → a ≡ read_answer file k → a ≡ Ok n → n ≤ k
read_few file k n a e d =
    let h : read_answer file k ≡ Ok n = sym e ∙ d in
    rw h at (read-room file k)

pub wide : (l : List ℕ) → 163840 ≡ length l → 163840 ≤ length l
wide l e = omega (arith, e)

pub long_held : (old recs : List ℕ) → length recs ≡ length old → 163840 ≡ length old → 163840 ≤ length recs
long_held old recs e h = omega (arith, e, h)

module _ (file old recs : List ℕ) (a : Result ℕ Refusal) (is : a ≡ read_answer file room) (stored : recs ≡ fitted (numbers_all (read_tokens file room)) old) (wide : 163840 ≤ length old) (held : 163840 ≤ length recs)
    (p : ℕ) (name d : List ℕ) (from : Option ℕ) (f : List ℕ) where
  module _ (n : ℕ) (done : a ≡ Ok n) where
    read_count : n ≡ length (read_tokens file room)
    read_count = sym (read_length file room ∙ ap delivered (sym is ∙ done))

    read-chunk : held_lines Five p n recs ≡ map (record_line Five) (take chunk (drop (chunk * p) (read_tokens file room)))
    read-chunk =
        let l = read_count in
        let m = read_few file room n a is done in
        held_all Five p n recs (omega (arith, m, held)) ∙ chunk_are Five p (read_tokens file room) old recs n (stored ∙ fits (read_tokens file room) old (omega (arith, l, m, wide))) l

    pub read-end : (c : Option ℕ) (e : List ℕ) (r : Option ℕ) (x : List ℕ) → p ≡ n / chunk → Is (lay_all d from (held_lines Five p n recs)) c e → Is (lay e c (records_line n)) r x
        → SaidFrom Five p (read_tokens file room) (file_last (read_answer file room)) (read_err name (read_answer file room)) d from f r x (Some 0) f false
    unfolding lay_all
    read-end c e r x h k g =
        let t : read_answer file room ≡ Ok n = sym is ∙ done in
        rw t (end-part Five p (read_tokens file room) (records_line n) [] d from f n c e r x (Some 0) f read_count h (rw read-chunk at k) g (refl, refl))

    pub read_mid : (r : Option ℕ) (x : List ℕ) → (p ≡ n / chunk → ⊥) → Is (lay_all d from (held_lines Five p n recs)) r x
        → SaidFrom Five p (read_tokens file room) (file_last (read_answer file room)) (read_err name (read_answer file room)) d from f r x (Some 0) f (ltb p (n / chunk))
    read_mid r x h k = mid_part Five p (read_tokens file room) (file_last (read_answer file room)) (read_err name (read_answer file room)) d from f n r x read_count h (rw read-chunk at k)

module _ (file : List ℕ) (a : Result ℕ Refusal) (is : a ≡ read_answer file room) (p : ℕ) (name d : List ℕ) (from : Option ℕ) (f : List ℕ) (z : Refusal) (not : a ≡ Err z) where
  read_none : read_tokens file room ≡ []
  read_none = none (read_tokens file room) (read_length file room ∙ ap delivered (sym is ∙ not))

  pub read-not : (r : Option ℕ) (x : List ℕ) (q : Option ℕ) (y : List ℕ) → p ≡ 0 → Is (lay d from (refusal_line (code_number z.code) z.place)) r x → Is (lay_all f (Some 0) (file_lines name z)) q y
      → SaidFrom Five p (read_tokens file room) (file_last (read_answer file room)) (read_err name (read_answer file room)) d from f r x q y false
  read-not r x q y h k g =
      let t : read_answer file room ≡ Err z = sym is ∙ not in
      rw t (only_part Five p (read_tokens file room) (refusal_line (code_number z.code) z.place) (file_lines name z) d from f r x q y read_none h k g)

  pub read-after : (p ≡ 0 → ⊥) → SaidFrom Five p (read_tokens file room) (file_last (read_answer file room)) (read_err name (read_answer file room)) d from f from d (Some 0) f false
  read-after h = no_part Five p (read_tokens file room) (file_last (read_answer file room)) (read_err name (read_answer file room)) d from f read_none h

module _ (headed : Bool) (name s : List ℕ) (p : ℕ) (d : List ℕ) (c : Option ℕ) (e f : List ℕ) (r : Option ℕ) (x : List ℕ) (q : Option ℕ) (y : List ℕ) (m : Bool)
    (h : Is (lay_all d (Some 0) (header_lines (headed && eqb p 0) name)) c e) where
  pub unpack_long : file_limit < length s → SaidFrom Five p [] (refusal_line (code_number TooLong) 0) (limit_lines name file_limit) e c f r x q y m
      → Left (lay_all d (Some 0) (unpack_part p headed name s)) (lay_all f (Some 0) (unpack_part_err p name s)) r x q y × (m ≡ unpack_more p s)
  unfolding unpack_err unpack_last unpack_more unpack_part unpack_part_err unpack_tokens
  unpack_long l k = rw (lt-ltb file_limit (length s) l) (head-on Five headed name p [] (refusal_line (code_number TooLong) 0) (limit_lines name file_limit) d c e f r x q y m h k)

  pub unpack_read : length s ≤ file_limit → SaidFrom Five p (read_tokens s room) (file_last (read_answer s room)) (read_err name (read_answer s room)) e c f r x q y m
      → Left (lay_all d (Some 0) (unpack_part p headed name s)) (lay_all f (Some 0) (unpack_part_err p name s)) r x q y × (m ≡ unpack_more p s)
  unfolding unpack_err unpack_last unpack_more unpack_part unpack_part_err unpack_tokens
  unpack_read l k = rw (le-ltb file_limit (length s) l) (head-on Five headed name p (read_tokens s room) (file_last (read_answer s room)) (read_err name (read_answer s room)) d c e f r x q y m h k)

-- no listing has more than five parts
pub few_parts : (file : List ℕ) → last_part (unpack_tokens file) ≤ 4
unfolding unpack_tokens
few_parts file = go (ltb file_limit (length file))
  where
    go : (b : Bool) → last_part (cond b [] (read_tokens file room)) ≤ 4
    go true = omega arith
    go false = let l = read_length file room in let m = read-room file room in omega (arith, l, m)
