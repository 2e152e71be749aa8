use Rattle.text.proofs.WordLaws.{words_parts}
use Rattle.text.proofs.words.Reader.of.Goals as goal

pub returns-clause-parts : goal.returns-clause-parts
returns-clause-parts c = words_parts c.args.line.now
