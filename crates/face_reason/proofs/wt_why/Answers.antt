use Rattle.face_reason.proofs.wt_why.Goals as goal

pub returns : goal.returns
returns c = (cc, cc)
