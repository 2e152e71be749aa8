use Rattle.std.proofs.Common.{◌≡◌, ◌-◌, ◌≤◌, ◌++◌, length, drop, None, sym, refl, ap, ◌∙◌, subst, arith}
use Rattle.std.proofs.lemmas.List.{take_rest, length-drop, length-take}
use Rattle.std.specs.Option.{option_map}
use Rattle.text.specs.Cuts.{before, after}
use Rattle.session.specs.Feeds.{LineEnded, kept}
use Rattle.session.proofs.Feeding.{cut_shorter, cut_whole, line_fed, rest_after, rest_kept, stopped}
use Rattle.session.proofs.feeds.Feed.feed.Goals as goal

pub returns : goal.returns
returns c =
    let at = c.loop-after.invariant in
    let none : after 10 (drop at.0 c.args.input.now) ≡ None = ap (after 10) (sym at.1) ∙ sym c.cut.ensures.back ∙ ap (option_map (λ x. x.now)) c.in_default.is in
    rest_kept _ _ _ _ _ _ _ at.2 c.loop-after.rest.now (at.1 ∙ sym (cut_whole _ none)) _ none refl refl c.put.ensures

pub returns-in_default-end_line : goal.returns-in_default-end_line
returns-in_default-end_line c =
    let at = c.loop-after.invariant in
    let e = c.in_default-end_line.ensures in
    stopped _ _ _ _ _ _ _ c.loop-after.rest.now at.0 _ at.2 at.1 (omega (arith, e.0, ap length e.2)) e.1 (e.2 ∙ take_rest c.loop-after.buffer c.loop-after.written)

pub loop-after-smaller : goal.loop-after-smaller
loop-after-smaller c = cut_shorter _ _ (sym c.cut.ensures.back ∙ ap (option_map (λ x. x.now)) c.in-Some.is)

pub loop-after-preserved : goal.loop-after-preserved
loop-after-preserved c =
    let at = c.loop-after.invariant in
    let e = c.in-Some-end_line.ensures in
    let b = c.loop-after.buffer in
    let w = c.loop-after.written in
    let room = take_rest b w in
    let is = c.cut.ensures.front ∙ ap (before 10) at.1 in
    let some = ap (after 10) (sym at.1) ∙ sym c.cut.ensures.back ∙ ap (option_map (λ x. x.now)) c.in-Some.is in
    let inside : 96 ≤ length b - w = omega (arith, e.0, ap length room, length-drop w b) in
    let ended = subst (λ x. LineEnded c.loop-after.self c.end_line.new.self (kept c.loop-after.self ++ c.cut.result.0.now) x c.end_line.new.buffer c.in-Some-end_line.n) room e.1 in
    (_, rest_after _ _ _ _ _ _ _ at.2 _ is _ _ _ _ some ended inside, line_fed _ _ _ _ _ _ _ at.2 _ is _ _ _ _ some ended inside)

pub invariant_of-self : goal.invariant_of-self
invariant_of-self c = rw (c.put.ensures, length-take) (omega arith)
