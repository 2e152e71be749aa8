-- What the plan of a session means. Assumes nothing.
use Rattle.std.specs.Prelude.{pos, negsuc}
use Rattle.plan.specs.Boundaries.{Boundary}
use Rattle.plan.specs.Makes.{line_meaning, single_meaning, cut_meaning}
use Rattle.session.specs.declared.chosen.Base.{Base}
use Rattle.session.specs.declared.chosen.Base.TheVariants.{Line, Single}
use Rattle.session.specs.declared.chosen.Chosen.{Chosen}
use Rattle.session.specs.declared.chosen.Chosen.TheVariants.{Unchosen, Whole, Cut}

abbrev pub base_meaning : Base → Boundary
base_meaning (Line p) = line_meaning p.numbers.accept_intercept p.numbers.reject_intercept p.numbers.slope p.numbers.cut_size p.numbers.cut_number
base_meaning (Single p) = single_meaning p.numbers.last_size p.numbers.number

-- Until a plan is chosen: one size, at which every count is rejected.
abbrev pub unchosen : Boundary
unchosen = record { last = 1; pairs = λ n. (negsuc 0, pos 0) }

abbrev pub chosen_meaning : Chosen → Boundary
chosen_meaning Unchosen = unchosen
chosen_meaning (Whole b) = base_meaning b
chosen_meaning (Cut c) = cut_meaning c.numbers.size c.numbers.number (base_meaning c.below)
