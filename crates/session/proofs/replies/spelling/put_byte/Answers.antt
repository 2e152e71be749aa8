use Rattle.std.proofs.Common.{refl}
use Rattle.text.proofs.WriteLaws.{set_put}
use Rattle.session.proofs.replies.spelling.put_byte.Goals as goal

pub returns : goal.returns
returns c = record { bytes = set_put _ _ _ c.requires; place = refl }
