-- Each make keeps the rules of a plan, by its numbers. Assumes nothing.
use Rattle.std.proofs.Common.{ℕ, rules}
use Rattle.plan.specs.Boundaries.{Boundary, Lawful}
use Rattle.plan.specs.Limits.{Within, max_size, max_acceptance, max_intercept, max_slope}
use Rattle.plan.specs.Makes.{line_meaning, single_meaning, cut_meaning}

pub line_lawful : (ha hr g n a : ℕ) → Within 1 max_intercept ha → Within 1 max_intercept hr → Within 1 max_slope g → Within 1 max_size n → Within 0 max_acceptance a → Lawful (line_meaning ha hr g n a)
line_lawful ha hr g n a h_ha h_hr h_g h_n h_a = search rules

pub single_lawful : (n a : ℕ) → Within 1 max_size n → Within 0 max_acceptance a → Lawful (single_meaning n a)
single_lawful n a h_n h_a = search rules

pub cut_lawful : (c a : ℕ) (b : Boundary) → Within 1 max_size c → Within 0 max_acceptance a → Lawful b → Lawful (cut_meaning c a b)
cut_lawful c a b h_c h_a law = search rules
