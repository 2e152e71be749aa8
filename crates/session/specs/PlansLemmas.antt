-- The plan of a session keeps the rules of a plan. Assumes nothing.
use Rattle.std.proofs.Common.{rules}
use Rattle.plan.specs.Boundaries.{Lawful}
use Rattle.plan.proofs.Lawfulness.{line_lawful, single_lawful, cut_lawful}
use Rattle.session.specs.Plans.{base_meaning, chosen_meaning, unchosen}
use Rattle.session.specs.declared.chosen.Base.{Base}
use Rattle.session.specs.declared.chosen.Base.TheVariants.{Line, Single}
use Rattle.session.specs.declared.chosen.Chosen.{Chosen}
use Rattle.session.specs.declared.chosen.Chosen.TheVariants.{Unchosen, Whole, Cut}

pub base_lawful : (b : Base) → Lawful (base_meaning b)
base_lawful (Line p) =
    let n = p.numbers in
    line_lawful _ _ _ _ _ n.accept_intercept_ok n.reject_intercept_ok n.slope_ok n.cut_size_ok n.cut_number_ok
base_lawful (Single p) = single_lawful _ _ p.numbers.last_size_ok p.numbers.number_ok

unchosen_lawful : Lawful unchosen
unchosen_lawful = search rules

pub chosen_lawful : (c : Chosen) → Lawful (chosen_meaning c)
chosen_lawful Unchosen = unchosen_lawful
chosen_lawful (Whole b) = base_lawful b
chosen_lawful (Cut p) = cut_lawful _ _ _ p.numbers.size_ok p.numbers.number_ok (base_lawful p.below)
