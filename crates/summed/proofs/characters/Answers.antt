use Rattle.std.proofs.Common.{rules, ◌≡◌, ◌∙◌, arith}
use Rattle.std.specs.Prelude.{count_by}
use Rattle.std.proofs.lemmas.List.Sums.{count_by-le-length}
use Rattle.summed.proofs.Counts.{starts, characters_starts}
use Rattle.summed.proofs.characters.Goals as goal

pub returns : goal.returns
returns c =
    let s = c.args.text.now in
    let e : c.count.result ≡ count_by starts s = search rules in
    (e ∙ characters_starts s, omega (arith, e, count_by-le-length starts s))
