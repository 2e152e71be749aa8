use Rattle.std.proofs.Common.{◌++◌, sym, ap, ◌∙◌}
use Rattle.session.specs.Sessions.{heard}
use Rattle.session.specs.Turns.{view}
use Rattle.session.proofs.Feeding.{line_ended, chunk_ended, same_heard}
use Rattle.session.proofs.feeds.Feed.end_line.Goals as goal

pub returns-then-is_empty : goal.returns-then-is_empty
returns-then-is_empty c =
    let f = c.args.self.now in
    let part = c.args.part.now in
    let chunk = c.in_ok-out.ensures.cases in
    let e = c.reply.ensures in
    let none = c.is_empty.ensures.0 c.if-is_empty.true in
    (chunk.enough, chunk_ended f _ _ c.args.buffer.now _ _ (line_ended f _ part _ _ _ _ (ap (λ l. heard (view f.session) (l ++ part)) (sym none)) none e.state e.number (rw chunk.same at e.spelt)))

pub returns : goal.returns
returns c =
    let f = c.args.self.now in
    let chunk = c.in_ok-out.ensures.cases in
    let e = c.reply-2.ensures in
    let whole = f.begun ++ c.args.part.now in
    let line = c.as_bytes.ensures.bytes ∙ c.replace-line.ensures.value ∙ c.put.ensures in
    (chunk.enough, chunk_ended f _ _ c.args.buffer.now _ _ (line_ended f _ c.as_bytes.result.now whole _ _ _ (ap (heard (view f.session)) line ∙ same_heard (view f.session) whole) (c.replace-line.ensures.after ∙ c.new.ensures) e.state e.number (rw chunk.same at e.spelt)))
