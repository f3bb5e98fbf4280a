use Rattle.std.proofs.Common.{ap, ◌∙◌}
use Rattle.entry.specs.Record.{is_clear}
use Rattle.entry.specs.Cases.{clear-held}
use Rattle.entry.proofs.keys_held.Goals as goal

pub returns : goal.returns
returns c = c.is_ok.ensures.value ∙ clear-held _ ∙ ap is_clear c.judge_keys.ensures
