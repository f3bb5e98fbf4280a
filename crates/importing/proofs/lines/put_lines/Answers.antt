use Rattle.std.proofs.Common.{rules}
use Rattle.importing.specs.LinesCases.{lines_putting, lines_put}
use Rattle.importing.specs.LinesCases.{put-end, put-more, put-taken, put_count, put_rest, put-kept, put_step}
use Rattle.importing.proofs.lines.put_lines.Goals as goal

pub put_record-put-requires : goal.put_record-put-requires
put_record-put-requires c = search (rules, lines_putting, lines_put)

pub loop-at-smaller : goal.loop-at-smaller
loop-at-smaller c = search (rules, lines_putting, lines_put)

pub loop-at-preserved : goal.loop-at-preserved
loop-at-preserved c = (
  search put-end,
  search put-more,
  search put-kept,
  search put-taken,
  search put_count,
  search put_rest,
  search
      put_step,
)

pub returns : goal.returns
returns c = search (rules, lines_putting, lines_put)
