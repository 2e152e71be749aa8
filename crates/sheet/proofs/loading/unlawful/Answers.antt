use Rattle.std.proofs.Common.{◌≡◌, ◌+◌, drop, map, sym, ap, ◌∙◌, arith}
use Rattle.sheet.specs.Loads.{row_of}
use Rattle.sheet.specs.Spans.{spread}
use Rattle.sheet.specs.Tables.{first_unlawful, live_of}
use Rattle.sheet.proofs.Reading.{found, live_low, passed}
use Rattle.sheet.proofs.loading.unlawful.Goals as goal

pub returns-then-not-is_lawful : goal.returns-then-not-is_lawful
returns-then-not-is_lawful g c = found _ _ _ _ _ _ c.loop-i-test.true c.from-row.ensures (sym c.is_lawful.ensures ∙ c.if-not-is_lawful.true) ∙ c.loop-i.invariant.same

pub loop-i-preserved : goal.loop-i-preserved
loop-i-preserved g c =
    let m = g.K.Item.GREATEST in
    let next : c.spread-reached.result ≡ spread m (live_of c.from-row.result c.loop-i.reached) = c.spread-reached.ensures ∙ ap (spread m) c.live.ensures in
    record {
      few = omega (arith, ap (λ s. s.end) next, live_low c.from-row.result c.loop-i.reached, g.met.K.Item.kind.small, c.loop-i.invariant.few);
      same = ap (λ s. first_unlawful m (c.loop-i.i + 1 + 1) s (map row_of (drop (c.loop-i.i + 1) c.args.pairs.now))) next ∙ passed _ _ _ _ _ _ c.loop-i-test.true c.from-row.ensures (sym c.is_lawful.ensures ∙ c.if-not-is_lawful.false) ∙ c.loop-i.invariant.same;
    }
