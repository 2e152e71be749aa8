-- Pairs of a lawful plan as counts, and the ruling on a count by them. Assumes nothing.
use Rattle.std.proofs.Common.{◌≡◌, ℕ, ◌<◌, ◌≤◌, ℤ, pos, negsuc, ◌+ℤ◌, ◌≤ℤ◌, ◌<ℤ◌, Some, None, refl, arith}
use Rattle.std.proofs.lemmas.Int.{ints}
use Rattle.std.proofs.lemmas.Bool.Decides.{nat_tests}
use Rattle.plan.specs.Boundaries.{Boundary, Lawful, asked}
use Rattle.plan.specs.Rulings.{Rules}
use Rattle.plan.specs.declared.verdicts.Verdict.TheVariants.{Accept, Reject}
use Rattle.sheet.specs.Spans.{past, whole}

-- what a plan answers for a size
pub asked_some : (b : Boundary) (n : ℕ) (p : ℤ × ℤ) → asked b n ≡ Some p → (1 ≤ n) × (n ≤ b.last) × (p ≡ b.pairs n)
asked_some b n p e = (grind (arith, nat_tests), grind (arith, nat_tests), grind (arith, nat_tests))

-- a lawful pair accepts below, and rejects from, at most 254
bounds : (x y : ℤ) → negsuc 0 ≤ℤ x → x <ℤ y → y ≤ℤ pos 254 → (past x ≤ whole y) × (whole y ≤ 254)
bounds (pos a) (pos c) f l r = (omega (arith, ints), omega (arith, ints))
bounds (pos a) (negsuc c) f l r = absurd (omega (arith, ints))
bounds (negsuc a) (pos c) f l r = (omega arith, omega (arith, ints))
bounds (negsuc a) (negsuc c) f l r = (omega arith, omega arith)

pub pair_bounds : (b : Boundary) → Lawful b → (n : ℕ) → 1 ≤ n → n ≤ b.last → (past (b.pairs n).0 ≤ whole (b.pairs n).1) × (whole (b.pairs n).1 ≤ 254)
pair_bounds b law n one to = bounds _ _ (law.floor n (one, to)) (law.apart n (one, to)) (law.roof n (one, to))

-- at the last size no count is live
closes : (x y : ℤ) → negsuc 0 ≤ℤ x → y ≡ x +ℤ pos 1 → past x ≡ whole y
closes (pos a) (pos c) f e = omega (arith, ints)
closes (pos a) (negsuc c) f e = absurd (omega (arith, ints))
closes (negsuc a) (pos c) f e = omega (arith, ints)
closes (negsuc a) (negsuc c) f e = refl

pub pair_closes : (b : Boundary) → Lawful b → past (b.pairs b.last).0 ≡ whole (b.pairs b.last).1
pair_closes b law = closes _ _ (law.floor b.last (law.some, omega arith)) law.closed

-- the ruling on a count
pub accepted : (p : ℤ × ℤ) (d : ℕ) → d < past p.0 → Rules p d (Some Accept)
accepted p d h = by_sign p.0 h
  where
    by_sign : (x : ℤ) → d < past x → pos d ≤ℤ x
    by_sign (pos a) h = omega (arith, ints)
    by_sign (negsuc a) h = absurd (omega arith)

pub from_accepted : (p : ℤ × ℤ) (d : ℕ) → Rules p d (Some Accept) → d < past p.0
from_accepted p d r = by_sign p.0 r
  where
    by_sign : (x : ℤ) → pos d ≤ℤ x → d < past x
    by_sign (pos a) h = omega (arith, ints)
    by_sign (negsuc a) h = absurd (omega (arith, ints))

above : (x : ℤ) (d : ℕ) → past x ≤ d → x <ℤ pos d
above (pos a) d h = omega (arith, ints)
above (negsuc a) d h = omega (arith, ints)

from_above : (x : ℤ) (d : ℕ) → x <ℤ pos d → past x ≤ d
from_above (pos a) d h = omega (arith, ints)
from_above (negsuc a) d h = omega arith

below : (x : ℤ) (d : ℕ) → d < whole x → pos d <ℤ x
below (pos a) d h = omega (arith, ints)
below (negsuc a) d h = absurd (omega arith)

from_below : (x : ℤ) (d : ℕ) → pos d <ℤ x → d < whole x
from_below (pos a) d h = omega (arith, ints)
from_below (negsuc a) d h = absurd (omega (arith, ints))

upon : (x : ℤ) (d : ℕ) → whole x ≤ d → x ≤ℤ pos d
upon (pos a) d h = omega (arith, ints)
upon (negsuc a) d h = omega (arith, ints)

from_upon : (x : ℤ) (d : ℕ) → x ≤ℤ pos d → whole x ≤ d
from_upon (pos a) d h = omega (arith, ints)
from_upon (negsuc a) d h = omega arith

pub rejected : (p : ℤ × ℤ) (d : ℕ) → past p.0 ≤ d → whole p.1 ≤ d → Rules p d (Some Reject)
rejected p d h k = (above p.0 d h, upon p.1 d k)

pub from_rejected : (p : ℤ × ℤ) (d : ℕ) → Rules p d (Some Reject) → (past p.0 ≤ d) × (whole p.1 ≤ d)
from_rejected p d r = (from_above p.0 d r.0, from_upon p.1 d r.1)

pub lives : (p : ℤ × ℤ) (d : ℕ) → past p.0 ≤ d → d < whole p.1 → Rules p d None
lives p d h k = (above p.0 d h, below p.1 d k)

pub from_live : (p : ℤ × ℤ) (d : ℕ) → Rules p d None → (past p.0 ≤ d) × (d < whole p.1)
from_live p d r = (from_above p.0 d r.0, from_below p.1 d r.1)
