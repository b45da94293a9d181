use Rattle.group_parts.proofs.Written.{content_read-written, content_written-read, written-from}
use Rattle.group_parts.proofs.laws.contents_are_spelled.Goals as goal

pub returns-clause-back : goal.returns-clause-back
returns-clause-back g c = λ content bytes e. content_read-written g.K.Kem content bytes e

pub returns-clause-one : goal.returns-clause-one
returns-clause-one g c = λ content bytes h e. content_written-read g.K.Kem content bytes h e

pub returns-clause-drawn : goal.returns-clause-drawn
returns-clause-drawn g c = λ content payload secret positive fits public. written-from g.K.Kem content (record { payload = payload; secret = secret; positive = positive; fits = fits; public = public })
