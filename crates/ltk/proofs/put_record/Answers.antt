use Rattle.ltk.specs.Layout.{record_place}
use Rattle.ltk.proofs.Laying.{record_laid}
use Rattle.ltk.proofs.put_record.Goals as goal

pub returns : goal.returns
returns c = cc (c.put.ensures, c.put-2.ensures, c.put-3.ensures, record_laid c.args.out.now (record_place c.args.i) c.args.e)
