-- What `why` answers: a reason, or the refusal.
use Rattle.answers.specs.Verdict.{Answer}
use Rattle.reason.specs.declared.Reason.{Reason}

abbrev pub Reply : Type 0
Reply = Answer Reason
