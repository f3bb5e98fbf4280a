use Rattle.std.proofs.Common.{rules}
use Rattle.exporting.proofs.Cases.{write_cases, write-lines, write-put}
use Rattle.exporting.proofs.write_good.Goals as goal

pub put_tags-at-requires : goal.put_tags-at-requires
put_tags-at-requires c = search (rules, write_cases)

pub put_lines-requires : goal.put_lines-requires
put_lines-requires c = (search rules, search rules, search write-lines)

pub returns : goal.returns
returns c = search write-put
