use Rattle.index.specs.Cases.{kinds}
use Rattle.index.proofs.judge_kind.Goals as goal

pub returns-then-book-gt-OLD_MOST : goal.returns-then-book-gt-OLD_MOST
returns-then-book-gt-OLD_MOST c = search kinds

pub returns-then-offset-eq-OLD_OFFSET : goal.returns-then-offset-eq-OLD_OFFSET
returns-then-offset-eq-OLD_OFFSET c = search kinds

pub returns-then-offset-ne-STARTS_OFFSET : goal.returns-then-offset-ne-STARTS_OFFSET
returns-then-offset-ne-STARTS_OFFSET c = search kinds

pub returns-then-word32-ne-ENTRY_WIDTH : goal.returns-then-word32-ne-ENTRY_WIDTH
returns-then-word32-ne-ENTRY_WIDTH c = search kinds

pub returns : goal.returns
returns c = search kinds
