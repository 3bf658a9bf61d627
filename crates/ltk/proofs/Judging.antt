-- The pure side of the loop that tests records, wherever the records come from.
use Rattle.std.proofs.Common.{ℕ, suc, ◌+◌, ◌-◌, ◌<◌, ◌≤◌, ◌≡◌, true, false, arith, Ok}
use Rattle.ltk.specs.declared.Entry.{Entry}
use Rattle.ltk.specs.Ltk.{bad, bad_record, judged, listed}

-- n records, the one at index i being f i: what is said of those from an index on
module _ (f : ℕ → Entry) (n i before : ℕ) where
  module _ (h : i < n) (e : Entry) (e-is : e ≡ f i) where
    pub stopped : bad before e ≡ true → bad_record i ≡ judged i before (listed f i (n - i))
    unfolding judged listed
    stopped b =
        let l : n - i ≡ suc (n - (i + 1)) = omega arith in
        let t = rw e-is at b in
        rw (l, t)

    pub passed : bad before e ≡ false → judged (i + 1) e.end (listed f (i + 1) (n - (i + 1))) ≡ judged i before (listed f i (n - i))
    unfolding judged listed
    passed b =
        let l : n - i ≡ suc (n - (i + 1)) = omega arith in
        let t = rw e-is at b in
        rw (l, t, e-is)

  pub all_passed : n ≤ i → judged i before (listed f i (n - i)) ≡ Ok i
  unfolding judged listed
  all_passed h =
      let l : n - i ≡ 0 = omega arith in
      rw l
