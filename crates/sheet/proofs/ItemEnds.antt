-- Lawful plans have one sheet if and only if they end every series of items of a kind alike. Assumes nothing.
use Rattle.std.proofs.Common.{◌≡◌, ℕ, zero, suc, ◌-◌, ◌≤◌, List, [], ◌∷◌, ◌++◌, map, length, take, replicate, Some, None, Option, sym, refl, ap, ◌∙◌, subst, arith}
use mathlib.Core.Logic.{∥∥₁_elim, ∥∥₁_map₂}
use native.Mathlib.Nat.{ℕ_set}
use Rattle.std.proofs.ByRecursion.{All-append}
use Rattle.std.proofs.lemmas.List.{length-append, length-map, length-replicate, take_at}
use Rattle.std.specs.List.{AllByRecursion}
use Rattle.plan.specs.Boundaries.{Boundary, Lawful}
use Rattle.plan.specs.Items.{Kind}
use Rattle.plan.specs.Limits.{max_size}
use Rattle.plan.specs.Rulings.{Ends}
use Rattle.plan.specs.declared.verdicts.Verdict.{Verdict}
use Rattle.plan.specs.declared.verdicts.Verdict.TheVariants.{Accept, Reject}
use Rattle.sheet.proofs.Ends.{Agree, agree_on, ends_from_sheet, sheet_from_rulings}
use Rattle.sheet.specs.Series.{SameEnds}
use Rattle.sheet.specs.Sheets.{sheet}

-- rulings by numbers, so that an equation of them has one proof at most
code : Option Verdict → ℕ
code None = 0
code (Some Accept) = 1
code (Some Reject) = 2

decode : ℕ → Option Verdict
decode zero = None
decode (suc zero) = Some Accept
decode (suc (suc n)) = Some Reject

back : (v : Option Verdict) → decode (code v) ≡ v
unfolding code decode
back None = refl
back (Some Accept) = refl
back (Some Reject) = refl

same_from_code : (v w : Option Verdict) → code v ≡ code w → v ≡ w
same_from_code v w e = sym (back v) ∙ ap decode e ∙ back w

few_zeros : (m n : ℕ) → AllByRecursion (λ x. x ≤ m) (replicate n 0)
few_zeros m zero = tt
few_zeros m (suc n) = (omega arith, few_zeros m n)

module _ {X : Type 0} (m : ℕ) (score : X → ℕ) (kind : Kind m score) where
  pub scores_small : (xs : List X) → AllByRecursion (λ x. x ≤ m) (map score xs)
  scores_small [] = tt
  scores_small (x ∷ xs) = (kind.bounded x, scores_small xs)

  -- some items give any counts up to m
  pub lifted : (xs : List ℕ) → AllByRecursion (λ x. x ≤ m) xs → ∥ ((ys : List X) × (map score ys ≡ xs)) ∥₁
  lifted [] small = ∣ ([], refl) ∣₁
  lifted (x ∷ xs) small = ∥∥₁_map₂ (kind.onto x small.0) (lifted xs small.1) (λ a b. (a.0 ∷ b.0, both a.1 b.1))
    where
      both : {y x : ℕ} {ys xs : List ℕ} → y ≡ x → ys ≡ xs → ◌≡◌ {A = List ℕ} (y ∷ ys) (x ∷ xs)
      both e f = cc

  module _ (p q : Boundary) (law_p : Lawful p) (law_q : Lawful q) where
    pub same_from_sheet : sheet m p ≡ sheet m q → SameEnds score p q
    same_from_sheet e xs long n v = ends_from_sheet m p q law_p law_q e (map score xs) (scores_small xs) n v

    agree_by_items : SameEnds score p q → Agree m p q
    agree_by_items same n d one in_p in_q from =
        let zeros : List ℕ = replicate (max_size - n) 0 in
        let xs : List ℕ = from.counts ++ zeros in
        let long : length xs ≡ max_size = omega (arith, length-append from.counts zeros, length-replicate {A = ℕ} (max_size - n) 0, from.size, law_p.few) in
        let front : take n xs ≡ from.counts = take_at from.counts zeros n from.size in
        same_from_code _ _
        (∥∥₁_elim (lifted xs (All-append (λ x. x ≤ m) from.counts zeros from.small (few_zeros m (max_size - n)))) (ℕ_set _ _) (λ ys.
        ap code (agree_on m p q n d one in_p in_q from xs (omega (arith, law_p.few)) front (λ k v.
        subst (λ l. (Ends p l k v → Ends q l k v) × (Ends q l k v → Ends p l k v)) ys.1 (same ys.0 (sym (length-map ys.0 score) ∙ ap length ys.1 ∙ long) k v)))))

    pub sheet_from_same : SameEnds score p q → sheet m p ≡ sheet m q
    sheet_from_same same = sheet_from_rulings m p q law_p law_q (agree_by_items same)
