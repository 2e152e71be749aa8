use Rattle.std.proofs.Common.{◌≡◌, ◌+◌, ◌*◌, ◌≤◌, length, ap, ◌∙◌, arith, rules}
use Rattle.std.proofs.lemmas.List.{length-map}
use Rattle.text.specs.Writes.{put_at}
use Rattle.text.proofs.WriteLaws.{length_put}
use Rattle.sheet.specs.Bytes.{header}
use Rattle.sheet.specs.Sheets.{lines, row_in, sheet}
use Rattle.sheet.proofs.Drawn.{sheet_drawn}
use Rattle.sheet.proofs.Drawings.{drawn, too_short, length_rows}
use Rattle.sheet.proofs.Steps.{sheet_few}
use Rattle.sheet.proofs.drawing.draw.Given as given
use Rattle.sheet.proofs.drawing.draw.Goals as goal
use Rattle.sheet.proofs.drawing.draw.Goals.{After-extent_of-rows, After-put-start}

few : (g : given.Over) (c : After-extent_of-rows g) → c.extent_of-rows.result.rows ≤ 4096
few g c =
    let b = g.P.Plan.meaning c.args.plan.now in
    let most = sheet_few g.K.Item.GREATEST b (g.met.P.Plan.lawful _) in
    omega (arith, c.extent_of-rows.ensures.rows, length-map (lines g.K.Item.GREATEST b) row_in)

pub overflow_cast-result : goal.overflow_cast-result
overflow_cast-result g c = let h = few g (goal.at.overflow_cast-result g c).After-extent_of-rows in search rules

pub overflow_cast-rows : goal.overflow_cast-rows
overflow_cast-rows g c = let h = few g (goal.at.overflow_cast-rows g c).After-extent_of-rows in search rules

pub returns-then-buffer-needed : goal.returns-then-buffer-needed
returns-then-buffer-needed g c = record {
  drawn = too_short _ _ _ _ (ap (λ n. 8 + 2 * n) c.extent_of-rows.ensures.rows) c.if-buffer-needed.true;
  series = sheet_drawn g.K.Item.GREATEST g.K.Item.score g.met.K.Item.kind _ (g.met.P.Plan.lawful c.args.plan.now);
}

-- what stands after the header is written
begun : (g : given.Over) (c : After-put-start g) → c.put-start.new.out ≡ put_at c.args.buffer.now 0 (header g.K.Item.GREATEST (length (sheet g.K.Item.GREATEST (g.P.Plan.meaning c.args.plan.now))))
begun g c = c.put-start.ensures.bytes ∙ ap (put_at c.args.buffer.now 0) (c.header.ensures ∙ ap (header g.K.Item.GREATEST) c.extent_of-rows.ensures.rows)

pub put_rows-requires : goal.put_rows-requires
put_rows-requires g c =
    let m = g.K.Item.GREATEST in
    let rows = sheet m (g.P.Plan.meaning c.args.plan.now) in
    let room : 8 + 2 * c.extent_of-rows.result.rows ≤ length c.args.buffer.now = c.if-buffer-needed.false in
    let same = length_put c.args.buffer.now 0 (header m (length rows)) (omega arith) in
    omega (arith, c.extent_of-rows.ensures.rows, c.put-start.ensures.place, ap length c.header.ensures, length_rows rows, ap length (begun g (goal.at.put_rows-requires g c).After-put-start) ∙ same)

pub returns : goal.returns
returns g c =
    let m = g.K.Item.GREATEST in
    let b = g.P.Plan.meaning c.args.plan.now in
    let room : 8 + 2 * length (sheet m b) ≤ length c.args.buffer.now = omega (arith, c.if-buffer-needed.false, c.extent_of-rows.ensures.rows) in
    record {
      drawn = drawn m b _ _ _ _ _ room (omega (arith, c.put-start.ensures.place, ap length c.header.ensures)) (begun g (goal.at.returns g c).After-put-start) c.put_rows.ensures.bytes c.put_rows.ensures.place;
      series = sheet_drawn m g.K.Item.score g.met.K.Item.kind b (g.met.P.Plan.lawful c.args.plan.now);
    }
