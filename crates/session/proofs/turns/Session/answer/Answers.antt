use Rattle.session.proofs.Feeding.{answered}
use Rattle.session.proofs.turns.Session.answer.Goals as goal

pub returns : goal.returns
returns c =
    let chunk = c.in-Some.ensures.cases in
    answered _ _ _ _ c.args.line.now c.args.buffer.now _ _ chunk.enough c.reply.ensures.state c.reply.ensures.number (rw chunk.same at c.reply.ensures.spelt)
