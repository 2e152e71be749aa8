use Rattle.std.proofs.Common.{Bool, IsTrue, ◌↔◌, sym, ap, ◌∙◌}
use Rattle.sheet.specs.Bytes.{bytes_of}
use Rattle.sheet.specs.Loads.{rows_in}
use Rattle.sheet.proofs.Ends.{ends_from_sheet, sheet_from_ends}
use Rattle.sheet.proofs.Exactness.{sheet_reread}
use Rattle.sheet.proofs.ItemEnds.{same_from_sheet, sheet_from_same}
use Rattle.alike.proofs.Growth.{lives}
use Rattle.alike.proofs.Replies.{reply_from_ends}
use Rattle.alike.proofs.Series.{ends_from_reply}
use Rattle.alike.proofs.interchangeable.Goals as goal

-- an answer tells what is as much as what it tells
as_much : (r : Bool) (A B : Type 0) → (IsTrue r ↔ A) → (A → B) → (B → A) → (IsTrue r ↔ B)
as_much r A B t f g = (λ x. f (t.0 x), λ b. t.1 (g b))

pub returns : goal.returns
returns g c =
    let m = g.K.Item.GREATEST in
    let kind = g.met.K.Item.kind in
    let p = g.P.Plan.meaning c.args.one.now in
    let q = g.Q.Plan.meaning c.args.other.now in
    let p-law = g.met.P.Plan.lawful c.args.one.now in
    let q-law = g.met.Q.Plan.lawful c.args.other.now in
    let tells = c.same_sheet.ensures in
    record {
      sheets = as_much _ _ _ tells (ap (bytes_of m)) (λ e. sym (sheet_reread m p p-law) ∙ ap rows_in e ∙ sheet_reread m q q-law);
      ends = as_much _ _ _ tells (same_from_sheet m g.K.Item.score kind p q p-law q-law) (sheet_from_same m g.K.Item.score kind p q p-law q-law);
      stands = as_much _ _ _ tells (λ e. reply_from_ends m p q (ends_from_sheet m p q p-law q-law e)) (λ a. sheet_from_ends m p q p-law q-law (ends_from_reply m p q a));
      lives = (lives m p, lives m q);
    }
