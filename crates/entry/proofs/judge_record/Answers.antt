use Rattle.std.proofs.Common.{rules}
use Rattle.entry.specs.Cases.{records}
use Rattle.entry.proofs.judge_record.Goals as goal

pub returns-then-book-at : goal.returns-then-book-at
returns-then-book-at c = search (rules, records)

pub returns-then-left-lt4 : goal.returns-then-left-lt4
returns-then-left-lt4 c = search (rules, records)

pub returns-then-size-octets_for : goal.returns-then-size-octets_for
returns-then-size-octets_for c = search (rules, records)

pub returns-then-left-size : goal.returns-then-left-size
returns-then-left-size c = search (rules, records)

pub returns : goal.returns
returns c = search (rules, records)
