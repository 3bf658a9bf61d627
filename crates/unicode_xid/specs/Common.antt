-- Letters that most words beyond ASCII are made of, so that the code need not look them up: each of them starts a word. For speed alone.
use Rattle.std.specs.Prelude.{◌≡◌, refl, Bool, true, false, ◌&&◌, ◌||◌, List, [], ◌∷◌, ℕ, zero, suc, ◌<◌, ◌≤◌, leb, ltb, length, get_or}
use Rattle.std.proofs.Common.{le_of_suc-le-suc, not-suc-le-zero, le-leb, leb-true, ltb-true}
use Rattle.utf8.specs.Laws.{both}
use Rattle.unicode_xid.specs.Identifier.{is_identifier_start}
use Rattle.unicode_xid.specs.Laws.{within}
use Rattle.unicode_xid.specs.Ranges.{holds, in_ranges, inside, skip}
use Rattle.unicode_xid.specs.Tables.{start_ranges}

-- Latin, Greek, Cyrillic, kana, Han, Hangul
abbrev pub common : List (ℕ × ℕ)
common =
    (0x00C0, 0x00D6) ∷ (0x00D8, 0x00F6) ∷ (0x00F8, 0x02C1) ∷ (0x038E, 0x03A1) ∷ (0x03A3, 0x03F5) ∷ (0x03F7, 0x0481) ∷
    (0x3041, 0x3096) ∷ (0x30A1, 0x30FA) ∷ (0x30FC, 0x30FF) ∷ (0x4E00, 0xA48C) ∷ (0xAC00, 0xD7A3) ∷ []

or_right : (a b : Bool) → b ≡ true → a || b ≡ true
or_right true b e = refl
or_right false b e = e

-- what the k-th range of a table holds, the table holds
nth : (t : List (ℕ × ℕ)) (k c : ℕ) → k < length t → (get_or t k (0, 0)).0 ≤ c → leb c (get_or t k (0, 0)).1 ≡ true → in_ranges t c ≡ true
unfolding in_ranges holds
nth [] k c h l e = absurd (not-suc-le-zero h)
nth (p ∷ t) zero c h l e = rw (le-leb p.0 c l, e)
nth (p ∷ t) (suc k) c h l e = or_right (holds p c) (in_ranges t c) (nth t k c (le_of_suc-le-suc h) l e)

test : inside common start_ranges ≡ true
unfolding start_ranges inside skip
test = refl

pub common-starts : (k c : ℕ) → ltb k (length common) ≡ true → (get_or common k (0, 0)).0 ≤ c → leb c (get_or common k (0, 0)).1 ≡ true → is_identifier_start c ≡ true
common-starts k c h l e = within common start_ranges c test (nth common k c (ltb-true k (length common) h) l e)

-- the same with both ends tested at once
pub common_both : (k c : ℕ) → ltb k (length common) ≡ true → leb (get_or common k (0, 0)).0 c && leb c (get_or common k (0, 0)).1 ≡ true → is_identifier_start c ≡ true
common_both k c h e =
    let b = both (leb (get_or common k (0, 0)).0 c) _ e in
    common-starts k c h (leb-true (get_or common k (0, 0)).0 c b.0) b.1
