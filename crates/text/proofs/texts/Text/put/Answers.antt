use Rattle.std.proofs.Common.{◌≡◌, ◌≤◌, ◌-◌, [], ◌∷◌, get_or, length, take, min, sym, ap, ◌∙◌, arith}
use Rattle.std.proofs.lemmas.List.{take_more, take_all}
use Rattle.text.specs.Texts.{added}
use Rattle.text.specs.TextLemmas.{filled_text}
use Rattle.text.proofs.TextLaws.{added_added, added_front, added_full, added_none}
use Rattle.text.proofs.texts.Text.put.Goals as goal

pub loop-b-init : goal.loop-b-init
loop-b-init c =
    let t = c.self.inside in
    let short : length c.args.self.now ≤ 96 = omega (arith, filled_text t.bytes t.len c.args.self.now c.self.view_is c.self.invariant, c.self.invariant.0) in
    sym (added_none c.args.self.now short)

pub loop-b-preserved : goal.loop-b-preserved
loop-b-preserved c =
    let front = take c.min-fits.result c.args.part.now in
    let i = c.loop-b.b-index in
    let b = get_or front i 0 in
    c.push.ensures ∙ ap (λ l. added l (b ∷ [])) c.loop-b.invariant ∙ added_added c.args.self.now (take i front) (b ∷ [])
    ∙ ap (added c.args.self.now) (sym (take_more front i 0 c.loop-b-test.true))

pub returns : goal.returns
returns c =
    let t = c.self.inside in
    let text = c.args.self.now in
    let part = c.args.part.now in
    let long = filled_text t.bytes t.len text c.self.view_is c.self.invariant in
    let fits : c.min-fits.result ≡ min (96 - length text) (length part) = omega (arith, long, c.min-fits.ensures) in
    let short : length text ≤ 96 = omega (arith, long, c.self.invariant.0) in
    c.loop-b.invariant ∙ ap (added text) (take_all c.loop-b.b-index _ c.loop-b-test.false ∙ ap (λ n. take n part) fits) ∙ added_front text part short

pub returns-then-self-eq-ROOM : goal.returns-then-self-eq-ROOM
returns-then-self-eq-ROOM c =
    let t = c.self.inside in
    let full = filled_text t.bytes t.len c.args.self.now c.self.view_is c.self.invariant ∙ c.if-self-eq-ROOM.true in
    sym (added_full c.args.self.now c.args.part.now full)
