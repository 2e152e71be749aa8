use Rattle.std.proofs.Common.{◌+◌, length, sym, ap, ◌∙◌, arith}
use Rattle.std.proofs.lemmas.Fmt.{decimal_digit}
use Rattle.text.specs.Writes.{put_at}
use Rattle.session.proofs.replies.spelling.put_number.Goals as goal

pub put_byte-requires : goal.put_byte-requires
put_byte-requires c = omega (arith, c.requires, ap length (decimal_digit c.args.n c.if-n-lt10.true))

pub returns-then-n-lt10 : goal.returns-then-n-lt10
returns-then-n-lt10 c =
    let one = decimal_digit c.args.n c.if-n-lt10.true in
    record {
      bytes = c.put_byte.ensures.bytes ∙ ap (put_at c.args.out.now c.args.at) (sym one);
      place = c.put_byte.ensures.place ∙ ap (λ l. c.args.at + length l) (sym one);
    }
