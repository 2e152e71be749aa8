use Rattle.std.proofs.Common.{◌+◌, ◌^◌, ◌<◌, ◌≤◌, [], ◌∷◌, length, decimal, sym, ap, ◌∙◌, subst, arith, rules}
use Rattle.text.proofs.TextLaws.{length_decimal_u32}
use Rattle.text.specs.Writes.{put_at}
use Rattle.session.specs.Replies.{field_text}
use Rattle.text.proofs.WriteLaws.{put_then, place_then, length_put}
use Rattle.session.proofs.replies.spelling.put_field.Goals as goal

pub put_number-requires : goal.put_number-requires
put_number-requires c =
    let fits : c.in-Count.n < 2 ^ 32 = search rules in
    let room : c.args.at + 1 ≤ length c.args.out.now = omega (arith, c.requires) in
    omega (arith, c.requires, c.put_byte-at.ensures.place, length_decimal_u32 c.in-Count.n fits, ap length c.put_byte-at.ensures.bytes ∙ length_put c.args.out.now c.args.at (32 ∷ []) room)

pub returns-in-Count : goal.returns-in-Count
returns-in-Count c =
    let n = c.in-Count.n in
    let fits : n < 2 ^ 32 = search rules in
    let room : c.args.at + 1 ≤ length c.args.out.now = omega (arith, c.requires) in
    let is = ap field_text (sym c.in-Count.is) in
    record {
      puts = record { bytes = put_then _ _ _ _ _ (32 ∷ []) (decimal n) room c.put_byte-at.ensures.bytes c.put_byte-at.ensures.place c.put_number.ensures.bytes ∙ ap (λ l. put_at c.args.out.now c.args.at (32 ∷ l)) is; place = place_then _ _ _ (32 ∷ []) (decimal n) c.put_byte-at.ensures.place c.put_number.ensures.place ∙ ap (λ l. c.args.at + length (32 ∷ l)) is };
      short = subst (λ l. length l ≤ 10) is (length_decimal_u32 n fits);
    }
