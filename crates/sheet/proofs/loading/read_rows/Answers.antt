use Rattle.std.proofs.Common.{rules, tests}
use Rattle.std.proofs.lemmas.Iterator.{YieldsList-from_map, YieldsList-from_slice}
use Rattle.std.proofs.lemmas.Iterator.Adapters.{items_from_extend}
use Rattle.std.proofs.lemmas.Iterator.Consumers.{YieldsList-at, YieldsList-from_copied}
use Rattle.sheet.specs.Loads.{row_of}
use Rattle.sheet.proofs.loading.read_rows.Goals as goal

pub returns : goal.returns
returns c =
    let read = items_from_extend c.extend.result c.extend.ensures.ran (YieldsList-from_map _ row_of (YieldsList-at c.map.ensures.source (YieldsList-from_copied (YieldsList-at c.copied.ensures.source (YieldsList-from_slice c.args.pairs.now c.iter.ensures.rest)))) c.map.ensures.closure (λ x r q k. search (rules, tests))) in
    search rules
