use Rattle.std.proofs.Common.{rules}
use Rattle.answers.specs.Verdict.{passed-on}
use Rattle.importing.proofs.FirstCases.{rest_cases, rest-asked, rest-kept, rest-codes, rest-few, rest-taken, rest-types}
use Rattle.importing.proofs.FirstCases.{rest-answer, rest-octets}
use Rattle.importing.proofs.from_lines.Goals as goal

pub judge_asked-requires : goal.judge_asked-requires
judge_asked-requires c = search (rules, rest_cases)

pub returns-in_err-judge_asked : goal.returns-in_err-judge_asked
returns-in_err-judge_asked c = (
  passed-on _ c.from_residual.ensures.1 (search (rest-asked, c.in_err-judge_asked.was)),
  search (rest-kept, c.in_err-judge_asked.was),
)

pub give_book-requires : goal.give_book-requires
give_book-requires c = (
  search rest-codes,
  search rest-few,
  search (rest-taken, c.in_ok-judge_asked.was),
  search (rest-types, c.in_ok-judge_asked.was),
)

pub returns : goal.returns
returns c = (search (rest-answer, c.in_ok-judge_asked.was), search (rest-octets, c.in_ok-judge_asked.was))
