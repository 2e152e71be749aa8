use Rattle.std.proofs.Common.{◌≡◌, map, None, sym, ap, ◌∙◌, rules}
use Rattle.std.proofs.lemmas.List.{take_rest}
use Rattle.sheet.specs.Loads.{fault_in, first_fault, header_tests, or_else, row_fault, row_of, rows_of, rows_in}
use Rattle.sheet.specs.Spans.{first}
use Rattle.sheet.specs.Tables.{first_unlawful}
use Rattle.sheet.proofs.Reading.{pairs_rows}
use Rattle.sheet.proofs.loading.rows_checked.Given as given
use Rattle.sheet.proofs.loading.rows_checked.Goals as goal
use Rattle.sheet.proofs.loading.rows_checked.Goals.{After-unlawful}

-- the pairs are read as the rows of the sheet
rows : (g : given.Over) (c : After-unlawful g) → map row_of c.as_chunks.result.0.now ≡ rows_in c.args.bytes.now
rows g c = ap (map row_of) c.as_chunks.ensures.front ∙ pairs_rows _ ∙ ap rows_of (take_rest c.args.bytes.now 8)

-- the header is fine, so only a row may be at fault
fault : (g : given.Over) (c : After-unlawful g) → fault_in g.K.Item.GREATEST c.args.bytes.now ≡ row_fault c.unlawful.result
fault g c =
    let m = g.K.Item.GREATEST in
    let fine : first_fault (header_tests g.K.Item.GREATEST c.args.bytes.now) ≡ None = search rules in
    ap (λ o. or_else o (row_fault (first_unlawful m 1 (first m) (rows_in c.args.bytes.now)))) fine ∙ ap row_fault (sym (c.unlawful.ensures ∙ ap (first_unlawful m 1 (first m)) (rows g c)))

pub returns-in-Some : goal.returns-in-Some
returns-in-Some g c = fault g (goal.at.returns-in-Some g c).After-unlawful ∙ ap row_fault c.in-Some.is

pub returns-in-None : goal.returns-in-None
returns-in-None g c = let at = (goal.at.returns-in-None g c).After-unlawful in (fault g at ∙ ap row_fault c.in-None.is, rows g at)
