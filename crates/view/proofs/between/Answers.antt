use Rattle.view.specs.Cut.{none_between, none-behind, rest-between}
use Rattle.view.proofs.between.Goals as goal

pub returns-then-end-start : goal.returns-then-end-start
returns-then-end-start c = search none_between

pub returns-then-book-start : goal.returns-then-book-start
returns-then-book-start c = search none-behind

pub returns-then-book-end : goal.returns-then-book-end
returns-then-book-end c = search rest-between
