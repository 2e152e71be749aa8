-- A table of sound rows is a lawful plan. Assumes nothing.
use Rattle.std.proofs.Common.{◌≡◌, ℕ, ◌+◌, ◌-◌, ◌≤◌, true, ltb, List, length, ℤ, pos, negsuc, ◌+ℤ◌, ◌≤ℤ◌, ◌<ℤ◌, Some, None, Option, sym, ap, ◌∙◌, arith}
use Rattle.std.proofs.lemmas.Int.{ints}
use Rattle.std.proofs.lemmas.Bool.{and_parts, leb-true, ltb-true, le-ltb, cond-false, cond_both}
use Rattle.plan.specs.Boundaries.{Lawful}
use Rattle.sheet.specs.Soundness.{Sound, AllSound, modest_if_any}
use Rattle.sheet.specs.Tables.{apart, small_if_any, accepts_to, rejects_at, pair_of, table_meaning}
use Rattle.sheet.specs.declared.rows.Row.{Row}

-- what a pair of a lawful plan keeps
abbrev Kept : ℤ × ℤ → Type 0
Kept p = (negsuc 0 ≤ℤ p.0) × (p.0 <ℤ p.1) × (p.1 ≤ℤ pos 254)

sound_kept : (a r : Option ℕ) → apart a r ≡ true → small_if_any a ≡ true → modest_if_any r ≡ true → Kept (accepts_to a, rejects_at r)
sound_kept None None h k l = (omega (arith, ints), omega (arith, ints), omega (arith, ints))
sound_kept None (Some r) h k l = (omega (arith, ints), omega (arith, ints), omega (arith, ints, leb-true r 254 l))
sound_kept (Some a) None h k l = (omega (arith, ints), omega (arith, ints, leb-true a 253 k), omega (arith, ints))
sound_kept (Some a) (Some r) h k l = (omega (arith, ints), omega (arith, ints, ltb-true a r h), omega (arith, ints, leb-true r 254 l))

row_kept : (r : Row) → Sound r → Kept (pair_of r)
row_kept r h =
    let p = and_parts (apart r.acceptance r.rejection) _ h in
    let q = and_parts (small_if_any r.acceptance) (modest_if_any r.rejection) p.1 in
    sound_kept r.acceptance r.rejection p.0 q.0 q.1

pub table_lawful : (rows : List Row) (closing : ℤ) → length rows ≤ 4095 → AllSound rows → negsuc 0 ≤ℤ closing → closing ≤ℤ pos 253 → Lawful (table_meaning rows closing)
table_lawful rows closing few all low high = record {
  some = omega arith;
  few = omega arith;
  floor = λ n h. (kept n h).0;
  apart = λ n h. (kept n h).1;
  roof = λ n h. (kept n h).2;
  closed = ap (λ (p : ℤ × ℤ). p.1) at_last ∙ sym (ap (λ (p : ℤ × ℤ). p.0 +ℤ pos 1) at_last);
}
  where
    kept : (n : ℕ) → (1 ≤ n) × (n ≤ length rows + 1) → Kept ((table_meaning rows closing).pairs n)
    kept n h = cond_both (ltb n (length rows + 1)) _ _ Kept (λ e. row_kept _ (all (n - 1) (omega (arith, ltb-true n (length rows + 1) e, h)))) (λ e. (low, omega (arith, ints), omega (arith, ints)))

    at_last : (table_meaning rows closing).pairs (length rows + 1) ≡ (closing, closing +ℤ pos 1)
    at_last = cond-false _ _ _ (le-ltb (length rows + 1) (length rows + 1) (omega arith))
