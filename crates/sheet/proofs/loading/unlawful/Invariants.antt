use Rattle.std.proofs.Common.{◌≡◌, ◌+◌, ◌*◌, ◌≤◌, drop, map}
use Rattle.sheet.specs.Loads.{row_of}
use Rattle.sheet.specs.Spans.{first}
use Rattle.sheet.specs.Tables.{first_unlawful}
use Rattle.sheet.proofs.loading.unlawful.Given as goal

abbrev pub invariant-loop-i : goal.invariant-loop-i
invariant-loop-i g l =
    let m = g.K.Item.GREATEST in
    record {
      few : l.reached.end ≤ 16 + 15 * l.i;
      same : first_unlawful m (l.i + 1) l.reached (map row_of (drop l.i l.pairs)) ≡ first_unlawful m 1 (first m) (map row_of l.pairs);
    }
