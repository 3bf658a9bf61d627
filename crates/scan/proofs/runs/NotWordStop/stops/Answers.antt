use Rattle.std.proofs.Common.{◌≡◌, Bool, true, false, not, refl, sym}
use Rattle.scan.specs.declared.Sought.TheVariants.{Word}
use Rattle.scan.specs.Runs.{seek_stop, word_on, word_stop}
use Rattle.unicode_xid.specs.Identifier.{ascii_continue}
use Rattle.scan.proofs.runs.NotWordStop.stops.Goals as goal

pub returns : goal.returns
returns c = go (ascii_continue c.args.x) refl
  where
    go : (b : Bool) → ascii_continue c.args.x ≡ b → not c.word_byte.result ≡ seek_stop Word c.args.x
    go true e = rw (c.word_byte.ensures, e) (sym (word_on c.args.x e))
    go false e = rw (c.word_byte.ensures, e) (sym (word_stop c.args.x e))
