use Rattle.std.proofs.Common.{ℕ, ◌/◌, false, refl, sym, ap, ◌∙◌, length}
use lib.Seq.{length-sets}
use Rattle.run.proofs.Calls.{call_fits, pend_end, pend_error, pend_full, pend_got, pend_over}
use Rattle.run.proofs.Groups.{asking_end, asking_start, asking_turn}
use Rattle.run.proofs.store_on.Goals as goal

pub loop-g-init : goal.loop-g-init
loop-g-init c =
    let e = c.group_size-size.ensures.0 in
    (refl, e, ap (λ (k : ℕ). length c.args.records.now / k) e, asking_start _ _ _ _ _ _ _ c.requires.0 c.requires.1)

pub returns-then-exceeds : goal.returns-then-exceeds
returns-then-exceeds c =
    let l = c.loop-g in
    rw (← l.invariant.1) (asking_end _ _ _ _ _ _ _ _ _ _ l.invariant.3 _ (pend_over _ _ _ _ _ _ _ c.next_unshifted-x.ensures _ _ (sym c.exceeds.ensures ∙ c.if-exceeds.true)) refl l.invariant.2 _ c.over_limit.ensures)

pub full-requires : goal.full-requires
full-requires c = (call_fits _ _ _ c.args.limit _ _ _ c.next_unshifted-x.ensures c.loop-g.invariant.3.ready _ c.in-Got.is).0

pub returns-then-room-n : goal.returns-then-room-n
returns-then-room-n c =
    let l = c.loop-g in
    rw (← l.invariant.1) (asking_end _ _ _ _ _ _ _ _ _ _ l.invariant.3 _ (pend_full _ _ _ _ _ _ _ c.next_unshifted-x.ensures _ _ (sym c.exceeds.ensures ∙ c.if-exceeds.false) _ c.in-Got.is c.if-room-n.true) refl l.invariant.2 _ c.full.ensures)

pub shift_token-requires : goal.shift_token-requires
shift_token-requires c = call_fits _ _ _ c.args.limit _ _ _ c.next_unshifted-x.ensures c.loop-g.invariant.3.ready _ c.in-Got.is

pub loop-g-preserved : goal.loop-g-preserved
loop-g-preserved c =
    let l = c.loop-g in
    let f = c.put_group.ensures in
    let p = pend_got _ _ _ _ _ _ _ c.next_unshifted-x.ensures _ _ (sym c.exceeds.ensures ∙ c.if-exceeds.false) _ _ c.in-Got.is c.shift_token.ensures c.if-room-n.false in
    (simp length-sets at (ap length f) ∙ l.invariant.0, l.invariant.1, l.invariant.2, asking_turn _ _ _ _ _ _ _ _ _ _ l.invariant.3 _ p refl _ (rw (← l.invariant.1) f))

pub lost-requires : goal.lost-requires
lost-requires c = call_fits _ _ _ c.args.limit _ _ _ c.next_unshifted-x.ensures c.loop-g.invariant.3.ready _ c.in-Error.is

pub returns-in-Error : goal.returns-in-Error
returns-in-Error c =
    let l = c.loop-g in
    rw (← l.invariant.1) (asking_end _ _ _ _ _ _ _ _ _ _ l.invariant.3 _ (pend_error _ _ _ _ _ _ _ c.next_unshifted-x.ensures _ _ (sym c.exceeds.ensures ∙ c.if-exceeds.false) _ c.in-Error.is) refl l.invariant.2 _ c.lost.ensures)

pub returns-in-End : goal.returns-in-End
returns-in-End c =
    let l = c.loop-g in
    rw (← l.invariant.1) (asking_end _ _ _ _ _ _ _ _ _ _ l.invariant.3 _ (pend_end _ _ _ _ _ _ _ c.next_unshifted-x.ensures _ _ (sym c.exceeds.ensures ∙ c.if-exceeds.false) c.in-End.is) refl l.invariant.2 _ c.at_end.ensures)
