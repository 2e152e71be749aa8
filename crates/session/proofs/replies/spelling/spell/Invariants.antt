use Rattle.session.proofs.Spelling.{Begun}
use Rattle.session.proofs.replies.spelling.spell.Given as goal

abbrev pub invariant-loop-field : goal.invariant-loop-field
invariant-loop-field l = Begun l.fields l.initial.out l.out l.field-index l.at
