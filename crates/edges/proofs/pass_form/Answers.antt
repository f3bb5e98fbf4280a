use Rattle.edges.specs.Cases.{passings}
use Rattle.edges.proofs.pass_form.Goals as goal

pub returns-then-form-eq-TEXT : goal.returns-then-form-eq-TEXT
returns-then-form-eq-TEXT c = search passings

pub returns-then-form : goal.returns-then-form
returns-then-form c = search passings

pub returns : goal.returns
returns c = search passings
