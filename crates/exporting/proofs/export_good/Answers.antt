use Rattle.std.proofs.Common.{rules, ◌∙◌}
use Rattle.answers.specs.Verdict.{passed-on}
use Rattle.exporting.proofs.Cases.{good_cases, good-few, good-room}
use Rattle.exporting.proofs.export_good.Goals as goal

pub returns-in_err-size : goal.returns-in_err-size
returns-in_err-size c = (
  passed-on _ c.from_residual.ensures.1 (search (good_cases, c.in_err-size.was)),
  search (good_cases, c.in_err-size.was),
)

pub returns-then-out-size : goal.returns-then-out-size
returns-then-out-size c = (
  c.refuse.ensures ∙ search (good_cases, c.in_ok-size.was),
  search (good_cases, c.in_ok-size.was),
)

pub write_good-requires : goal.write_good-requires
write_good-requires c = (
  search rules,
  search rules,
  search (good-few, c.in_ok-size.was),
  search (good-room, c.in_ok-size.was),
)

pub returns : goal.returns
returns c = search (good_cases, c.in_ok-size.was)
