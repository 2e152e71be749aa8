-- Bays that are written and read. Assumes nothing.
use Rattle.std.proofs.Common.{◌≡◌, ℕ, zero, suc, replicate, None, refl}
use Rattle.stand.specs.Bays.{held, Small}

-- every bay of a new stand is empty
pub held_none : (n b : ℕ) → held (replicate n None) b ≡ None
held_none zero b = refl
held_none (suc n) zero = refl
held_none (suc n) (suc b) = held_none n b

pub small_none : (n : ℕ) → Small (replicate n None)
small_none n b r e = let none = held_none n b in cc
