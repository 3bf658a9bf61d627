-- What each reader passes leads to the place that it answers.
use Prim.Native.Nat.{◌+◌, ◌-◌, ◌≤◌, suc, zero, ℕ}
use Rattle.std.proofs.Common.{arith, ◌∙◌, ap, sym, eqb-true, Ok, Err}
use Rattle.std.specs.Prelude.{Bool, cond, true, ◌≡◌, eqb, drop, length}
use Rattle.std.proofs.Math.Bool.{false}
use mathlib.Core.List.{List, [], ◌∷◌}
use Rattle.std.proofs.Math.Path.{refl}
use Rattle.utf8.specs.Chars.{'backtick, 'dquote, 'quote}
use Rattle.utf8.specs.Utf8.{width_of}
use Rattle.record.specs.declared.Code.{Code}
use Rattle.record.specs.declared.Refusal.{Refusal}
use Rattle.scan.specs.Far.{Far, Stops, far_none, fits, from_0, one_more, past_0, stops_by, stops_here, stops_on, then, until-before, until_nothing, until_past}
use Rattle.scan.specs.IfNext.{if_next}
use Rattle.scan.specs.Readers.{com_done, com_step, comment_end, reg_done, reg_step, regex_end, str_done, str_step, string_end}
use Rattle.scan.specs.Seek.{block_comment, seek, seek_done, seek_step, skip_more, regex_skip, string_skip, through, up_to}
use Rattle.scan.specs.Steps.{com_narrow, reg_narrow, str_narrow}
use Rattle.scan.specs.Until.{left}
use Rattle.scan.specs.Walk.{turn_of, walk, walk_from}
use Rattle.scan.specs.declared.Com.TheVariants.{Open}
use Rattle.scan.specs.Shapes.{Found}
use Rattle.scan.specs.Shapes.{Skip}
use Rattle.scan.specs.declared.Sought.{Sought}
use Rattle.scan.specs.declared.Sought.TheVariants.{Backtick, Quote}
use Rattle.scan.specs.declared.Str.TheVariants.{Plain}
use Rattle.scan.specs.declared.Turn.{Turn}
use Rattle.scan.specs.declared.Turn.TheVariants.{Fail, Pass, Stop}

pub seek_narrow : (k : Sought) (j : ℕ) → ((c : ℕ) → seek_done (seek_step k false c) ≡ eqb c j) → width_of j ≡ 1 → (st : Bool) (c : ℕ) → seek_done st ≡ false → seek_done (seek_step k st c) ≡ true → width_of c ≡ 1
seek_narrow k j f w st c b e = ap width_of (eqb-true c j (sym (f c) ∙ e)) ∙ w

module _ (cs : List ℕ) (at p m : ℕ) where
  pub string_past : (q : ℕ) → width_of q ≡ 1 → string_end q cs at ≡ Ok (p, m) → Far cs at (m + 1) (p + 1)
  string_past q w e = past_0 cs at m (p + 1) (until_past (str_step q) str_done (str_narrow q w) p m cs Plain at 0 refl e)

  pub string_none : (q : ℕ) → string_end q cs at ≡ Err (p, m) → Far cs at m p
  string_none q e = from_0 cs at m p (until_nothing (str_step q) str_done p m cs Plain at 0 e)

  pub comment_past : comment_end cs at ≡ Ok (p, m) → Far cs at (m + 1) (p + 1)
  comment_past e = past_0 cs at m (p + 1) (until_past com_step com_done com_narrow p m cs (Open 1) at 0 refl e)

  pub comment_none : comment_end cs at ≡ Err (p, m) → Far cs at m p
  comment_none e = from_0 cs at m p (until_nothing com_step com_done p m cs (Open 1) at 0 e)

  pub regex_past : (h : ℕ) → regex_end h cs at ≡ Ok (p, m) → Far cs at (m + 1) (p + 1)
  regex_past h e = past_0 cs at m (p + 1) (until_past reg_step (reg_done h) (reg_narrow h) p m cs 0 at 0 refl e)

  pub regex_none : (h : ℕ) → regex_end h cs at ≡ Err (p, m) → Far cs at m p
  regex_none h e = from_0 cs at m p (until_nothing reg_step (reg_done h) p m cs 0 at 0 e)

  pub seek-at : (k : Sought) → seek k cs at ≡ Ok (p, m) → Far cs at m p
  seek-at k e = from_0 cs at m p (until-before (seek_step k) seek_done p m cs false at 0 e)

  pub seek-none : (k : Sought) → seek k cs at ≡ Err (p, m) → Far cs at m p
  seek-none k e = from_0 cs at m p (until_nothing (seek_step k) seek_done p m cs false at 0 e)

  pub quote_past : seek Quote cs at ≡ Ok (p, m) → Far cs at (m + 1) (p + 1)
  unfolding width_of
  quote_past e = past_0 cs at m (p + 1) (until_past (seek_step Quote) seek_done (seek_narrow Quote 'quote (λ c. refl) refl) p m cs false at 0 refl e)

  pub backtick_past : seek Backtick cs at ≡ Ok (p, m) → Far cs at (m + 1) (p + 1)
  unfolding width_of
  backtick_past e = past_0 cs at m (p + 1) (until_past (seek_step Backtick) seek_done (seek_narrow Backtick 'backtick (λ c. refl) refl) p m cs false at 0 refl e)

-- an answer that passes m characters leads to its place
abbrev pub SoundIn : List ℕ → ℕ → Skip → Type 0
SoundIn cs at (Ok (p, m)) = Far cs at m p
SoundIn cs at (Err (r, p, m)) = Far cs at m p

pub record Sound (cs : List ℕ) (at : ℕ) (x : Skip) : Type 0 where
  pub is : SoundIn cs at x

-- how many characters an answer has passed: no more than there are
abbrev pub passed_of : Skip → ℕ
passed_of (Ok (p, m)) = m
passed_of (Err (r, p, m)) = m

pub sound_passed : (cs : List ℕ) (at : ℕ) (x : Skip) → Sound cs at x → passed_of x ≤ length cs
sound_passed cs at (Ok (p, m)) h = h.is.within
sound_passed cs at (Err (r, p, m)) h = h.is.within

pub sound_fits : (s : List ℕ) (at : ℕ) {x y : Skip} → x ≡ y → Sound (left s at) at y → passed_of x ≤ length s
sound_fits s at {x} {y} e h = omega (arith, ap passed_of e, sound_passed (left s at) at y h, fits s at)

pub sound_test : (cs : List ℕ) (at : ℕ) (t : Bool) (x y : Skip) → Sound cs at x → Sound cs at y → Sound cs at (cond t x y)
sound_test cs at true x y p q = p
sound_test cs at false x y p q = q

pub sound_here : (cs : List ℕ) (at : ℕ) → Sound cs at (Ok (at, 0))
sound_here cs at = record { is = far_none cs at }

pub sound_lost : (r : Refusal) (cs : List ℕ) (at : ℕ) → Sound cs at (Err (r, at, 0))
sound_lost r cs at = record { is = far_none cs at }

pub sound_more : (m : ℕ) (cs : List ℕ) (at p : ℕ) (x : Skip) → Far cs at m p → Sound (drop m cs) p x → Sound cs at (skip_more m x)
sound_more m cs at p (Ok (q, j)) f h = record { is = then m cs at p j q f h.is }
sound_more m cs at p (Err (r, q, j)) f h = record { is = then m cs at p j q f h.is }

pub sound_one : (c : ℕ) (cs : List ℕ) (at : ℕ) (x : Skip) → Sound cs (at + width_of c) x → Sound (c ∷ cs) at (skip_more 1 x)
sound_one c cs at (Ok (q, j)) h = record { is = one_more c cs at j q h.is }
sound_one c cs at (Err (r, q, j)) h = record { is = one_more c cs at j q h.is }

pub sound_next : (k : ℕ) (cs : List ℕ) (at : ℕ) (l : List ℕ) (x y : Skip) → Sound cs at x → Sound cs at y → Sound cs at (if_next k l x y)
unfolding if_next
sound_next k cs at [] x y p q = q
sound_next k cs at (c ∷ l) x y p q = sound_test cs at (eqb c k) x y p q

-- what is closed, or never closed, leads to its place
pub through_sound : (code : Code) (o : ℕ) (cs : List ℕ) (at : ℕ) (f : Found) → ((p m : ℕ) → f ≡ Ok (p, m) → Far cs at (m + 1) (p + 1)) → ((p m : ℕ) → f ≡ Err (p, m) → Far cs at m p)
    → Sound cs at (through code o f)
through_sound code o cs at (Ok (p, m)) a b = record { is = a p m refl }
through_sound code o cs at (Err (p, m)) a b = record { is = b p m refl }

pub string_sound : (o : ℕ) (cs : List ℕ) (at : ℕ) → Sound cs at (string_skip o cs at)
unfolding width_of
string_sound o cs at = through_sound _ o cs at (string_end 'dquote cs at) (λ p m e. string_past cs at p m 'dquote refl e) (λ p m e. string_none cs at p m 'dquote e)

pub block_sound : (o : ℕ) (cs : List ℕ) (at : ℕ) → Sound cs at (block_comment o cs at)
block_sound o cs at = through_sound _ o cs at (comment_end cs at) (λ p m e. comment_past cs at p m e) (λ p m e. comment_none cs at p m e)

pub regex_sound : (o h : ℕ) (cs : List ℕ) (at : ℕ) → Sound cs at (regex_skip o h cs at)
regex_sound o h cs at = through_sound _ o cs at (regex_end h cs at) (λ p m e. regex_past cs at p m h e) (λ p m e. regex_none cs at p m h e)

pub upto_sound : (k : Sought) (cs : List ℕ) (at : ℕ) → Sound cs at (up_to (seek k cs at))
upto_sound k cs at = go (seek k cs at) refl
  where
    go : (f : Found) → seek k cs at ≡ f → Sound cs at (up_to f)
    go (Ok (p, m)) e = record { is = seek-at cs at p m k e }
    go (Err (p, m)) e = record { is = seek-none cs at p m k e }

-- a turn that passes, or fails, leads to its place
abbrev pub GoodIn : List ℕ → ℕ → Turn → Type 0
GoodIn cs at Stop = Unit {0}
GoodIn cs at (Fail r p m) = Far cs at m p
GoodIn cs at (Pass p m b) = Far cs at m p

pub record Good (cs : List ℕ) (at : ℕ) (x : Turn) : Type 0 where
  pub is : GoodIn cs at x

pub good_test : (cs : List ℕ) (at : ℕ) (t : Bool) (x y : Turn) → Good cs at x → Good cs at y → Good cs at (cond t x y)
good_test cs at true x y p q = p
good_test cs at false x y p q = q

pub good_skip : (b : ℕ) (cs : List ℕ) (at : ℕ) (x : Skip) → Sound cs at x → Good cs at (turn_of b x)
good_skip b cs at (Ok (p, m)) h = record { is = h.is }
good_skip b cs at (Err (r, p, m)) h = record { is = h.is }

pub good_stop : (cs : List ℕ) (at : ℕ) → Good cs at Stop
good_stop cs at = record { is = tt }

pub good_on : (b : ℕ) (cs : List ℕ) (at : ℕ) → Good cs at (Pass at 0 b)
good_on b cs at = record { is = far_none cs at }

pub ruleset goods = (good_test, good_skip, good_stop, good_on, string_sound)

-- a turn of code opens at most one bracket more
abbrev pub BalanceIn : ℕ → Turn → Type 0
BalanceIn b Stop = Unit {0}
BalanceIn b (Fail r p m) = Unit {0}
BalanceIn b (Pass p m b') = b' ≤ b + 1

pub record Balance (b : ℕ) (x : Turn) : Type 0 where
  pub is : BalanceIn b x

pub balance_test : (b : ℕ) (t : Bool) (x y : Turn) → Balance b x → Balance b y → Balance b (cond t x y)
balance_test b true x y p q = p
balance_test b false x y p q = q

pub balance_skip : (b : ℕ) (x : Skip) → Balance b (turn_of b x)
balance_skip b (Ok (p, m)) = record { is = omega arith }
balance_skip b (Err (r, p, m)) = record { is = tt }

pub balance_stop : (b : ℕ) → Balance b Stop
balance_stop b = record { is = tt }

pub balance_same : (b p : ℕ) → Balance b (Pass p 0 b)
balance_same b p = record { is = omega arith }

pub balance_more : (b p : ℕ) → Balance b (Pass p 0 (b + 1))
balance_more b p = record { is = omega arith }

pub balance_less : (b p : ℕ) → Balance b (Pass p 0 (b - 1))
balance_less b p = record { is = omega arith }

pub ruleset balances = (balance_test, balance_skip, balance_stop, balance_same, balance_more, balance_less)

-- a walk whose turns are good leads to its place
abbrev pub FromIn : List ℕ → ℕ → ℕ → Skip → Type 0
FromIn cs at n (Ok (p, m)) = Stops cs at n m p
FromIn cs at n (Err (r, p, m)) = Stops cs at n m p

pub record From (cs : List ℕ) (at n : ℕ) (x : Skip) : Type 0 where
  pub is : FromIn cs at n x

pub from_on : (c : ℕ) (cs : List ℕ) (at n : ℕ) (x : Skip) → From cs (at + width_of c) (n + 1) x → From (c ∷ cs) at n x
from_on c cs at n (Ok (p, m)) h = record { is = stops_on c cs at n m p h.is }
from_on c cs at n (Err (r, p, m)) h = record { is = stops_on c cs at n m p h.is }

pub from_past : (cs : List ℕ) (at n : ℕ) → From cs at n (Ok (at, n))
from_past cs at n = record { is = stops_here cs at n }

pub from_lost : (r : Refusal) (cs : List ℕ) (at n : ℕ) → From cs at n (Err (r, at, n))
from_lost r cs at n = record { is = stops_here cs at n }

pub from-test : (cs : List ℕ) (at n : ℕ) (t : Bool) (x y : Skip) → From cs at n x → From cs at n y → From cs at n (cond t x y)
from-test cs at n true x y p q = p
from-test cs at n false x y p q = q

module _ (see : ℕ → ℕ → List ℕ → ℕ → ℕ → Turn) (last : ℕ → ℕ → ℕ → Skip)
    (good : (b c : ℕ) (cs : List ℕ) (at next : ℕ) → Good cs next (see b c cs at next))
    (ends : (b at n : ℕ) → From [] at n (last b at n)) where
  pub walk_from_lem : (k : ℕ) (cs : List ℕ) (b at n : ℕ) → From cs at n (walk_from see last k cs b at n)
  unfolding walk_from
  walk_from_lem k [] b at n = ends b at n
  walk_from_lem zero (c ∷ cs) b at n = go (see b c cs at (at + width_of c)) refl (λ j b'. walk_from_lem j cs b' (at + width_of c) (n + 1))
    where
      go : (t : Turn) → see b c cs at (at + width_of c) ≡ t → ((j b' : ℕ) → From cs (at + width_of c) (n + 1) (walk_from see last j cs b' (at + width_of c) (n + 1)))
          → From (c ∷ cs) at n (walk_from see last 0 (c ∷ cs) b at n)
      go Stop e f = rw (e, walk_from) (from_past (c ∷ cs) at n)
      go (Fail r p m) e f =
          let h : Far cs (at + width_of c) m p = (rw e at (good b c cs at (at + width_of c))).is in
          rw (e, walk_from) (record { is = stops_on c cs at n (n + 1 + m) p (stops_by cs (at + width_of c) (n + 1) m p h) })
      go (Pass p m b') e f = rw (e, walk_from) (from_on c cs at n _ (f m b'))
  walk_from_lem (suc k) (c ∷ cs) b at n = from_on c cs at n _ (walk_from_lem k cs b (at + width_of c) (n + 1))

  pub walk_sound : (b : ℕ) (cs : List ℕ) (at : ℕ) → Sound cs at (walk see last b cs at)
  walk_sound b cs at = go (walk see last b cs at) refl
    where
      go : (x : Skip) → walk see last b cs at ≡ x → Sound cs at x
      go (Ok (p, m)) e = record { is = from_0 cs at m p (rw e at (walk_from_lem 0 cs b at 0)).is }
      go (Err (r, p, m)) e = record { is = from_0 cs at m p (rw e at (walk_from_lem 0 cs b at 0)).is }
