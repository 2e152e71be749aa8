use Rattle.std.proofs.Common.{◌≡◌, [], ◌∷◌, length, sym, ap, ◌∙◌, arith}
use Rattle.text.specs.Texts.{added}
use Rattle.text.specs.TextLemmas.{filled_text}
use Rattle.text.proofs.TextLaws.{added_full, push_fits}
use Rattle.text.proofs.texts.Text.push.Goals as goal

pub returns-then-self-lt-ROOM : goal.returns-then-self-lt-ROOM
returns-then-self-lt-ROOM c =
    let t = c.self.inside in
    push_fits t.bytes t.len c.self.invariant.1 c.args.byte c.if-self-lt-ROOM.true ∙ ap (λ l. added l (c.args.byte ∷ [])) c.self.view_is

pub returns-else-self-lt-ROOM : goal.returns-else-self-lt-ROOM
returns-else-self-lt-ROOM c =
    let t = c.self.inside in
    let full : length c.args.self.now ≡ 96 = omega (arith, filled_text t.bytes t.len c.args.self.now c.self.view_is c.self.invariant, c.self.invariant.0, c.if-self-lt-ROOM.false) in
    sym (added_full c.args.self.now (c.args.byte ∷ []) full)
