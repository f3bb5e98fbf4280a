use Rattle.book.specs.FrontCases.{rest-is}
use Rattle.book.proofs.judge_rest.Goals as goal

pub returns : goal.returns
returns c = rest-is _ _ c.args.address _ _ _ c.forms.ensures c.flags.ensures c.judge_behind.ensures
