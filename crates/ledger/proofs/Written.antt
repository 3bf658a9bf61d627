-- What a run with shift 0 delivers is never refused by the LTK writer for 20: of its refusals 14 alone is left, for a short buffer.
use Rattle.std.specs.Prelude.{ℕ, ◌+◌, ◌≤◌, ◌<◌, Bool, true, false, List, [], ◌∷◌, map, ◌≡◌, refl, ltb, Ok, Err}
use Rattle.std.proofs.Common.{arith, sym, ◌∙◌, lt-ltb, le-ltb}
use Rattle.std.proofs.Math.Path.{ap}
use Rattle.std.proofs.Math.ListN.{length}
use Rattle.std.proofs.lemmas.List.{length-map}
use Rattle.std.proofs.lemmas.Bool.{lt-leb}
use Rattle.record.specs.Checks.{text_limit}
use Rattle.record.specs.Numbers.{kind_number}
use Rattle.record.specs.Records.{refusal}
use Rattle.record.specs.declared.Code.TheVariants.{BadRecord, NoRoom}
use Rattle.record.specs.declared.Refusal.{Refusal}
use Rattle.record.specs.declared.Token.{Token}
use Rattle.scan.specs.Far.{fits}
use Rattle.scan.specs.Until.{left}
use Rattle.reading.specs.Run.{run}
use Rattle.reading.specs.declared.Tokenizer.{Tokenizer}
use Rattle.run.specs.Checked.{whole_run}
use Rattle.ltk.specs.Faithful.{passing-answer}
use Rattle.ltk.specs.Layout.{count_limit, last_kind, record_place}
use Rattle.ltk.specs.Ltk.{bad, bytes_for, entry_of, passing, records_ok, write_answer}
use Rattle.ledger.specs.Order.{Ordered, at-most-left, of_run}
use Rattle.ledger.proofs.Order.{ordered}
use Rattle.ledger.specs.Written.{kind_small}

-- records in order, up to a place within the text limit, pass the writer's tests
good : (before : ℕ) (t : Token) → before ≤ t.start → t.start < t.end → t.end ≤ text_limit → bad before (entry_of t) ≡ false
good before t a b c = rw (le-ltb last_kind (kind_number t.kind) (kind_small t.kind), lt-leb t.end t.start b, le-ltb t.start before a, le-ltb text_limit t.end c)

ordered-passes : (from before to : ℕ) (ts : List Token) → before ≤ from → to ≤ text_limit → Ordered from to ts → passing before (map entry_of ts) ≡ true
unfolding passing
ordered-passes from before to [] h l o = refl
ordered-passes from before to (t ∷ ts) h l o =
    rw (good before t (omega (arith, o.0)) o.1 (omega (arith, o.2))) (ordered-passes t.end t.end to ts (omega arith) l o.3)

-- ---- THE THEOREMS. Of every run with shift 0, ended or stopped, with any limit and room, from any tokenizer
module _ (s : List ℕ) (limit room : ℕ) (t : Tokenizer) where
  abbrev pub ran : List Token
  ran = (whole_run s 0 limit room t).tokens

  pub records_ok_lem : records_ok ran ≡ true
  records_ok_lem =
      of_run s 0 limit room t (λ ts. Ordered (t.at + 0) (length s + 0) ts → records_ok ts ≡ true) (λ o. ordered-passes 0 0 0 [] (omega arith) (omega arith) tt)
      (λ a b c o. ordered-passes (t.at + 0) 0 (length s + 0) (run s 0 limit room t).tokens (omega arith) (omega (arith, a.short)) o) (ordered s 0 limit room t)

  pub count_ok : length ran < count_limit
  count_ok =
      of_run s 0 limit room t (λ ts. length ts ≤ length (left s t.at) → length ts < count_limit) (λ h. omega arith)
      (λ a b c h. let f = fits s t.at in omega (arith, a.short)) (at-most-left s 0 limit room t)

  -- the writer's answer: 14 for a short buffer, and else the file
  pub written : (size : ℕ) → write_answer (map entry_of ran) size ≡ bytes_for size (Ok (length ran))
  written size =
      let l = length-map ran entry_of in
      passing-answer (map entry_of ran) size records_ok_lem ∙ rw (l, lt-ltb (length ran) count_limit count_ok)

  pub never_bad_record : (size : ℕ) (r : Refusal) → write_answer (map entry_of ran) size ≡ Err r → r.code ≡ BadRecord → ⊥
  never_bad_record size r e c = go (ltb size (record_place (length ran))) refl
    where
      go : (b : Bool) → ltb size (record_place (length ran)) ≡ b → ⊥
      go true q =
          let f : Err (refusal NoRoom 0) ≡ Err r = rw q at (sym (written size) ∙ e) in
          let g : refusal NoRoom 0 ≡ r = cc in
          let h : NoRoom ≡ BadRecord = ap (λ (x : Refusal). x.code) g ∙ c in
          let z : ◌≡◌ {A = ℕ} 0 1 = cc in
          omega arith
      go false q =
          let f : Ok (record_place (length ran)) ≡ Err r = rw q at (sym (written size) ∙ e) in
          let z : ◌≡◌ {A = ℕ} 0 1 = cc in
          omega arith
