-- The conditions of the file's refusals, each by itself: a file is refused for r exactly if it meets r's, so it meets no two.
use Rattle.std.specs.Prelude.{ℕ, ◌<◌, ◌≤◌, Bool, true, false, List, ◌≡◌, refl, eqb, ltb, length, Err, Result}
use Rattle.std.proofs.Common.{le-ltb, lt-ltb, sym, ◌∙◌}
use Rattle.utf8.specs.Picks.{tests}
use Rattle.record.specs.Records.{refusal}
use Rattle.record.specs.declared.Code.TheVariants.{BadLength, BadMark, UnknownVersion}
use Rattle.record.specs.declared.Refusal.{Refusal}
use Rattle.ltk.specs.Layout.{header_size, number_at, record_place, version, version_place}
use Rattle.ltk.specs.Ltk.{bad_record, count_in, entries, file_check, judge, marked}

-- 01: "17 comes first, for a mark wrong or cut; with fewer than 9 bytes 19 is next. Then 18, then 19 if length isn't 9 + 9 × count, then 20"
pub data Meets (s : List ℕ) (r : Refusal) : Type 0 where
  other-mark : r ≡ refusal BadMark 0 → marked s ≡ false → Meets s r
  too_short : r ≡ refusal BadLength header_size → marked s ≡ true → length s < header_size → Meets s r
  other-version : r ≡ refusal UnknownVersion version_place → marked s ≡ true → header_size ≤ length s → eqb (number_at 2 s version_place) version ≡ false → Meets s r
  other_length : r ≡ refusal BadLength header_size → marked s ≡ true → header_size ≤ length s → eqb (number_at 2 s version_place) version ≡ true
      → eqb (length s) (record_place (count_in s)) ≡ false → Meets s r
  bad_record_lem : marked s ≡ true → header_size ≤ length s → eqb (number_at 2 s version_place) version ≡ true → eqb (length s) (record_place (count_in s)) ≡ true
      → judge (entries s) ≡ Err r → Meets s r

-- a file that meets a refusal's condition is refused so
pub met_refused : (s : List ℕ) (r : Refusal) → Meets s r → file_check s ≡ Err r
unfolding file_check
met_refused s r (other-mark e m) = rw (m, e)
met_refused s r (too_short e m h) = rw (m, lt-ltb (length s) header_size h, e)
met_refused s r (other-version e m h v) = rw (m, le-ltb (length s) header_size h, v, e)
met_refused s r (other_length e m h v l) = rw (m, le-ltb (length s) header_size h, v, l, e)
met_refused s r (bad_record_lem m h v l j) = rw (m, le-ltb (length s) header_size h, v, l, j)

same-refusal : (q r : Refusal) → ◌≡◌ {A = Result ℕ Refusal} (Err q) (Err r) → r ≡ q
same-refusal q r e = cc

-- and one that is refused meets the condition of its refusal
pub refused_met : (s : List ℕ) (r : Refusal) → file_check s ≡ Err r → Meets s r
unfolding file_check
refused_met s r e = go (marked s) (ltb (length s) header_size) (eqb (number_at 2 s version_place) version) (eqb (length s) (record_place (count_in s))) refl refl refl refl
  where
    go : (a b c d : Bool) → marked s ≡ a → ltb (length s) header_size ≡ b → eqb (number_at 2 s version_place) version ≡ c → eqb (length s) (record_place (count_in s)) ≡ d → Meets s r
    go false b c d m h v l = other-mark (same-refusal _ r (rw m at e)) m
    go true true c d m h v l = too_short (same-refusal _ r (rw (m, h) at e)) m (omega tests)
    go true false false d m h v l = other-version (same-refusal _ r (rw (m, h, v) at e)) m (omega tests) v
    go true false true false m h v l = other_length (same-refusal _ r (rw (m, h, v, l) at e)) m (omega tests) v l
    go true false true true m h v l = bad_record_lem m (omega tests) v l (rw (m, h, v, l) at e)

-- THE THEOREM: no file meets the conditions of two refusals
pub one_reason : (s : List ℕ) (q r : Refusal) → Meets s q → Meets s r → r ≡ q
one_reason s q r a b = same-refusal q r (sym (met_refused s q a) ∙ met_refused s r b)
