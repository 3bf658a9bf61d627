use Rattle.std.proofs.Common.{◌∙◌, ◌≡◌, ap, sym, length}
use Rattle.ltk.specs.Ltk.{token_in, entry_at}
use Rattle.ltk.proofs.Laying.{token-on, token-end, tokens-all}
use Rattle.ltk.proofs.fill_tokens.Goals as goal

pub loop-i-init : goal.loop-i-init
loop-i-init c = tokens-all c.args.file.now c.args.list.now

pub loop-i-preserved : goal.loop-i-preserved
loop-i-preserved c =
    let t : c.from.result ≡ token_in (entry_at c.args.file.now c.loop-i.i) = c.from.ensures ∙ ap token_in c.entry_at.ensures in
    rw t (token-on c.args.file.now (length c.args.list.now) c.loop-i.list c.loop-i.i c.loop-i-test.true ∙ c.loop-i.invariant)

pub returns : goal.returns
returns c = sym (token-end c.args.file.now (length c.args.list.now) c.loop-i.list c.loop-i.i c.loop-i-test.false) ∙ c.loop-i.invariant
