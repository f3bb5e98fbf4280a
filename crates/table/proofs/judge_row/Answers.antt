use Rattle.std.proofs.Common.{rules}
use Rattle.table.specs.Cases.{rows}
use Rattle.table.proofs.judge_row.Goals as goal

pub returns-then-left-lt4 : goal.returns-then-left-lt4
returns-then-left-lt4 c = search (rules, rows)

pub returns-then-left-lt8 : goal.returns-then-left-lt8
returns-then-left-lt8 c = search (rules, rows)

pub returns-then-form_of : goal.returns-then-form_of
returns-then-form_of c = search (rules, rows)

pub returns : goal.returns
returns c = search (rules, rows)
