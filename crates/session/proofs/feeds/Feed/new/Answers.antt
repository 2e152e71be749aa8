use Rattle.session.proofs.Pieces.{lines_part, pieces_join}
use Rattle.session.proofs.feeds.Feed.new.Goals as goal

pub returns-clause-lines : goal.returns-clause-lines
returns-clause-lines c = lines_part

pub returns-clause-pieces : goal.returns-clause-pieces
returns-clause-pieces c = pieces_join
