-- Plans end every series alike if their stands reply alike. Assumes nothing.
use Rattle.std.proofs.Common.{◌≡◌, ℕ, zero, suc, ◌<◌, ◌≤◌, false, ltb, List, [], ◌∷◌, ◌++◌, map, length, get_or, take, Some, None, Ok, Option, sym, refl, ap, ◌∙◌, subst, ⊎_elim, add-one, arith}
use Rattle.std.proofs.ByRecursion.{All-get_or}
use Rattle.std.proofs.lemmas.List.{length-take-le, take-take, take_more}
use Rattle.std.proofs.lemmas.Bool.{le-ltb, cases_lt, cond-false}
use Rattle.std.specs.List.{AllByRecursion}
use Rattle.plan.specs.Boundaries.{Boundary}
use Rattle.plan.specs.Rulings.{Judges, Ends, total}
use Rattle.plan.specs.declared.verdicts.Verdict.{Verdict}
use Rattle.stand.specs.Calls.{has_verdict, reply_by, answer, one_more}
use Rattle.stand.specs.Histories.{Step, Occupied, Holds}
use Rattle.stand.specs.declared.records.Call.{Call}
use Rattle.stand.specs.declared.records.Call.TheVariants.{Open, Take, Read, Clear}
use Rattle.stand.specs.declared.records.Record.{Record}
use Rattle.stand.specs.declared.records.Reply.TheVariants.{Opened, Lot}
use Rattle.stand.proofs.Living.{pushed, born}
use Rattle.sheet.specs.Series.{EndAlike}
use Rattle.alike.specs.Lives.{Life, ReplyAlike, call_in}
use Rattle.alike.proofs.Endings.{ends_on, undecided}
use Rattle.alike.proofs.Growth.{grow, lives, told_once}

-- a lot in bay 0 to which items of a series were taken, up to the end of the series
module _ (m : ℕ) (p : Boundary) (xs : List ℕ) (small : AllByRecursion (λ x. x ≤ m) xs) (n : ℕ) (v : Verdict) (ends : Ends p xs n v) where
  fed : (k : ℕ) → k ≤ n → (h : List Step) × Life m p h × Occupied 0 h (take k xs)
  fed zero within =
      let s : Step = (Open 0, Ok (Opened 0)) in
      let start = born m p [] (λ b. refl) in (
        s ∷ [],
        grow m p [] s start.replies (None, start.holds 0, refl),
        record { earlier = []; opening = s; since = []; split = refl; opens = (refl, refl); uncleared = tt; items = refl },
      )
  fed (suc k) within =
      let was = fed k (omega arith) in
      let inside : k < length xs = omega (arith, ends.reached) in
      let x = get_or xs k 0 in
      let r : Record = record { size = length (take k xs); count = total (take k xs); verdict = None } in
      let s : Step = (Take 0 x, Ok (Lot (one_more p x r))) in
      let known : ltb m x ≡ false = le-ltb m x (All-get_or (λ x. x ≤ m) xs k 0 inside small) in
      let reply : s.1 ≡ answer m has_verdict p (Take 0 x) (Some r) = ap (λ f. reply_by f (Lot (one_more p x r))) (sym (cond-false (ltb m x) _ None known)) in
      let items : take k xs ++ (x ∷ []) ≡ take (suc k) xs = sym (take_more xs k 0 inside) ∙ ap (λ j. take j xs) (add-one k) in (
        was.0 ++ (s ∷ []),
        grow m p was.0 s was.1 (Some r, (take k xs, was.2, refl, refl, undecided p xs n v ends k (omega arith)), reply),
        subst (Occupied 0 (was.0 ++ (s ∷ []))) items (pushed 0 was.0 s (take k xs) (x ∷ []) was.2 (λ c. kinds c.0) refl),
      )
    where
      kinds : {a b j : ℕ} → ◌≡◌ {A = Call} (Take a j) (Clear b) → ⊥
      kinds e = cc

module _ (m : ℕ) (p q : Boundary) (alike : ReplyAlike m p q) where
  -- a reading shows the verdict of both plans
  seen : (h : List Step) (ys : List ℕ) (v : Option Verdict) → Life m p h → Occupied 0 h ys → Judges p ys v → Judges q ys v
  seen h ys v life occ judged =
      let r : Record = record { size = length ys; count = total ys; verdict = v } in
      let s : Step = (Read 0, Ok (Lot r)) in
      let read = grow m p h s life (Some r, (ys, occ, refl, refl, judged), refl) in
      let other = lives m q (map call_in (h ++ (s ∷ []))) in
      let same = alike (h ++ (s ∷ [])) other.0 (sym other.1) read other.2 in
      let replied = subst (Life m q) (sym same) other.2 h s [] refl in
      by_bay replied.0 replied.1 replied.2
    where
      by_bay : (o : Option Record) → Holds q h 0 o → Ok (Lot (record { size = length ys; count = total ys; verdict = v })) ≡ answer m has_verdict q (Read 0) o → Judges q ys v
      by_bay None hold e = cc
      by_bay (Some t) hold e =
          let verdict : t.verdict ≡ v = cc in
          subst (Judges q ys) verdict (subst (λ l. Judges q l t.verdict) (told_once m p h life 0 hold.0 ys hold.1 occ) hold.4)

  -- so the plans end a series at the same size: q judges its items up to there as p does, and gives no verdict sooner
  ends_across : (xs : List ℕ) → AllByRecursion (λ x. x ≤ m) xs → (n : ℕ) (v : Verdict) → Ends p xs n v → Ends q xs n v
  ends_across xs small n v e =
      let end = across n (omega arith) (Some v) (n, ends_on p xs (take n xs) n v (sym (take-take n n xs (omega arith))) (omega (arith, long n (omega arith))) e) in
      let k = end.0 in
      let within : k ≤ n = omega (arith, end.1.reached, long n (omega arith)) in
      let ended : Ends q xs k v = ends_on q (take n xs) xs k v (take-take k n xs within) (omega (arith, e.reached)) end.1 in
      ⊎_elim
      (λ sooner. absurd (across k within None (undecided p xs n v e k sooner) k v (ends_on q xs (take k xs) k v (sym (take-take k k xs (omega arith))) (omega (arith, long k within)) ended)))
      (λ late. let same : k ≡ n = omega arith in subst (λ j. Ends q xs j v) same ended)
      (cases_lt k n)
    where
      long : (k : ℕ) → k ≤ n → length (take k xs) ≡ k
      long k within = length-take-le k xs (omega (arith, e.reached))

      across : (k : ℕ) → k ≤ n → (o : Option Verdict) → Judges p (take k xs) o → Judges q (take k xs) o
      across k within o j = let lot = fed m p xs small n v e k within in seen lot.0 (take k xs) o lot.1 lot.2 j

pub ends_from_reply : (m : ℕ) (p q : Boundary) → ReplyAlike m p q → EndAlike m p q
ends_from_reply m p q alike xs small n v = (ends_across m p q alike xs small n v, ends_across m q p (λ g h same x y. sym (alike h g (sym same) y x)) xs small n v)
