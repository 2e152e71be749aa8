use Rattle.std.proofs.Common.{◌+◌, ◌/◌, ◌%◌, ◌≤◌, [], ◌∷◌, length, sym, ap, ◌∙◌, arith, rules}
use Rattle.session.proofs.Spelling.{two_digits}
use Rattle.text.proofs.TextLaws.{length_decimal_u32}
use Rattle.text.proofs.WriteLaws.{length_put, place_then, put_then}
use Rattle.text.specs.Writes.{put_at}
use Rattle.session.proofs.replies.spelling.put_digits.Goals as goal

pub write_digits-start-requires : goal.write_digits-start-requires
write_digits-start-requires c = search (rules, length_decimal_u32)

pub put_byte-units-requires : goal.put_byte-units-requires
put_byte-units-requires c = omega (arith, c.requires, ap length (two_digits c.args.n c.if-n-ge10.true c.if-n-lt100.true))

pub put_byte-requires : goal.put_byte-requires
put_byte-requires c =
    let two = two_digits c.args.n c.if-n-ge10.true c.if-n-lt100.true in
    let room : c.args.at + 1 ≤ length c.args.out.now = omega (arith, c.requires, ap length two) in
    let one = c.put_byte-units.ensures in
    omega (arith, c.requires, ap length two, one.place, ap length one.bytes ∙ length_put c.args.out.now c.args.at ((48 + c.args.n / 10) ∷ []) room)

pub returns-then-n-lt100 : goal.returns-then-n-lt100
returns-then-n-lt100 c =
    let n = c.args.n in
    let two = two_digits n c.if-n-ge10.true c.if-n-lt100.true in
    let room : c.args.at + 1 ≤ length c.args.out.now = omega (arith, c.requires, ap length two) in
    let one = c.put_byte-units.ensures in
    let other = c.put_byte.ensures in
    record {
      bytes = put_then _ _ _ _ _ ((48 + n / 10) ∷ []) ((48 + n % 10) ∷ []) room one.bytes one.place other.bytes ∙ ap (put_at c.args.out.now c.args.at) (sym two);
      place = place_then _ _ _ ((48 + n / 10) ∷ []) ((48 + n % 10) ∷ []) one.place other.place ∙ ap (λ l. c.args.at + length l) (sym two);
    }
