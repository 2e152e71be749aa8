use Rattle.std.proofs.Common.{◌≡◌, ◌+◌, ◌≤◌, [], ◌∷◌, ◌++◌, length, Err, vec_items, sym, refl, ap, ◌∙◌, arith, w32, to_z, of_z, rules}
use Rattle.std.proofs.lemmas.Result.{err_from_is_err_and}
use Rattle.std.proofs.lemmas.Int.{to_z-of_z}
use Rattle.sheet.specs.Loads.{rows_in}
use Rattle.sheet.specs.Tables.{closing_of}
use Rattle.sheet.proofs.Exactness.{fine_from, rows_most, rows_some}
use Rattle.sheet.proofs.Outcomes.{refused_for, no_memory, taken, keeps_few, keeps_sound, keeps_closing}
use Rattle.sheet.proofs.tables.Table.load.Given as given
use Rattle.sheet.proofs.tables.Table.load.Goals as goal
use Rattle.sheet.proofs.tables.Table.load.Goals.{In-Some, After-closing}

pub returns-in_err-rows_checked : goal.returns-in_err-rows_checked
returns-in_err-rows_checked g c =
    let p = err_from_is_err_and c.from_residual.result c.from_residual.ensures.1 in
    refused_for g.K.Item.GREATEST c.args.bytes.now (c.type_inv.bytes 6).fits c.args.self.now _ _ (p.1 ∙ ap Err p.2) c.in_err-rows_checked.ensures

pub returns-in_err-rows : goal.returns-in_err-rows
returns-in_err-rows g c =
    let p = err_from_is_err_and c.from_residual-in_err-rows.result c.from_residual-in_err-rows.ensures.1 in
    no_memory g.K.Item.GREATEST c.args.bytes.now (c.type_inv.bytes 6).fits c.args.self.now _ (p.1 ∙ ap Err p.2) c.in_ok-rows_checked.ensures.0

pub overflow_cast-count : goal.overflow_cast-count
overflow_cast-count g c =
    let most = rows_most g.K.Item.GREATEST c.args.bytes.now (fine_from _ _ c.in_ok-rows_checked.ensures.0) in
    let items = ap length (c.in_ok-rows.ensures ∙ c.in_ok-rows_checked.ensures.1) in
    let few : c.len-count.result ≤ 4096 = omega (arith, c.len-count.ensures, c.in_ok-rows.rows.ok.0) in
    search rules

-- the rows that are kept and the last are those of the sheet
all : (g : given.Over) (c : In-Some g) → vec_items c.pop.new.self ++ (c.in-Some.last ∷ []) ≡ rows_in c.args.bytes.now
all g c = sym c.in-Some.ensures.items ∙ c.in_ok-rows.ensures ∙ c.in_ok-rows_checked.ensures.1

-- and the last one closes the table
closing : (g : given.Over) (c : After-closing g) → to_z w32 (of_z w32 c.closing.result) ≡ closing_of c.in-Some.last
closing g c = to_z-of_z w32 c.closing.result (record { sfits = c.closing.type_inv }) ∙ c.closing.ensures

pub invariant_of-drop : goal.invariant_of-drop
invariant_of-drop g c =
    let m = g.K.Item.GREATEST in
    let none = c.in_ok-rows_checked.ensures.0 in
    let rows = all g (goal.at.invariant_of-drop g c).In-Some in
    let closes = closing g (goal.at.invariant_of-drop g c).After-closing in
    record {
      few = omega (arith, keeps_few m c.args.bytes.now none _ _ rows, c.pop.new.self.ok.0);
      sound = keeps_sound m c.args.bytes.now none _ _ rows;
      floor = rw closes (keeps_closing m c.args.bytes.now none _ _ rows).0;
      roof = rw closes (keeps_closing m c.args.bytes.now none _ _ rows).1;
    }

pub returns-in-Some : goal.returns-in-Some
returns-in-Some g c =
    let at = goal.at.returns-in-Some g c in
    let number : c.len-count.result ≡ length (vec_items c.pop.new.self) + 1 = omega (arith, c.len-count.ensures, c.in-Some.ensures.len, c.pop.new.self.ok.0) in
    taken g.K.Item.GREATEST c.args.bytes.now c.in_ok-rows_checked.ensures.0 _ _ (all g at.In-Some) (c.type_inv.bytes 6).fits c.args.self.now _ _ refl (closing g at.After-closing) number

pub returns-in_default : goal.returns-in_default
returns-in_default g c =
    let some = rows_some g.K.Item.GREATEST c.args.bytes.now (fine_from _ _ c.in_ok-rows_checked.ensures.0) in
    let items = ap length (c.in_ok-rows.ensures ∙ c.in_ok-rows_checked.ensures.1) in
    absurd (omega (arith, c.in_default.ensures.cases.0, c.in_ok-rows.rows.ok.0))
