use Rattle.std.proofs.Common.{sym, rules}
use Rattle.std.proofs.lemmas.List.{take_rest}
use Rattle.text.proofs.CutLaws.{cut_at, cut_none}
use Rattle.text.proofs.cuts.cut.Goals as goal

pub returns-in-Some : goal.returns-in-Some
returns-in-Some c =
    let found = cut_at c.args.at c.args.bytes.now c.in-Some.i (search rules) (search rules) (search rules) in
    record { front = sym found.0; back = rw take_rest (sym found.1) }

pub returns-in-None : goal.returns-in-None
returns-in-None c =
    let none = cut_none c.args.at c.args.bytes.now (search rules) in
    record { front = sym none.0; back = sym none.1 }
