use Rattle.face_reading.proofs.looking.wt_lookup.Goals as goal

pub returns : goal.returns
returns c = (cc, cc)
