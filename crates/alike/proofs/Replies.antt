-- Stands reply alike if their plans end every series alike. Assumes nothing.
use Rattle.std.proofs.Common.{◌≡◌, ℕ, ◌+◌, ◌≤◌, ltb, List, [], ◌∷◌, ◌++◌, map, length, Some, None, Ok, Option, Result, sym, refl, ap, ◌∙◌, subst, append_assoc}
use Rattle.std.proofs.ByRecursion.{All-push}
use Rattle.std.proofs.lemmas.Bool.{ltb-false}
use Rattle.std.specs.List.{AllByRecursion}
use Rattle.plan.specs.Boundaries.{Boundary}
use Rattle.plan.specs.Rulings.{Judges, ruling_at}
use Rattle.plan.specs.declared.refusals.Refusal.{Refusal}
use Rattle.plan.specs.declared.verdicts.Verdict.{Verdict}
use Rattle.plan.proofs.Judging.{judged_more}
use Rattle.stand.specs.Calls.{bay_of, tests, first_fitting, has_verdict, granted, reply_by, answer}
use Rattle.stand.specs.Histories.{Step, Holds, Replied}
use Rattle.stand.specs.declared.records.Call.{Call}
use Rattle.stand.specs.declared.records.Call.TheVariants.{Open, Take, Read, Clear}
use Rattle.stand.specs.declared.records.Record.{Record}
use Rattle.stand.specs.declared.records.Reply.{Reply}
use Rattle.stand.specs.declared.records.Reply.TheVariants.{Lot}
use Rattle.stand.proofs.Living.{not_first, none_from}
use Rattle.sheet.specs.Series.{EndAlike}
use Rattle.alike.specs.Lives.{Life, ReplyAlike, call_in}
use Rattle.alike.proofs.Endings.{judges_one}
use Rattle.alike.proofs.Growth.{front, holds_one, few}

module _ (m : ℕ) (p q : Boundary) (ends : EndAlike m p q) where
  -- the plans judge series alike
  judges_across : (xs : List ℕ) → AllByRecursion (λ x. x ≤ m) xs → (v : Option Verdict) → Judges p xs v → Judges q xs v
  judges_across xs small None j = λ n v e. j n v ((ends xs small n v).1 e)
  judges_across xs small (Some v) j = (j.0, (ends xs small j.0 v).0 j.1)

  module _ (h : List Step) (life : Life m p h) where
    -- so after a life the bays hold the same
    holds_across : (b : ℕ) (o : Option Record) → Holds p h b o → Holds q h b o
    holds_across b None hold = hold
    holds_across b (Some r) hold = (hold.0, hold.1, hold.2, hold.3, judges_across hold.0 (few m p h life b hold.0 hold.1) r.verdict hold.4)

    -- and rule alike on one more item
    rulings : (b n : ℕ) (r : Record) → n ≤ m → Holds p h b (Some r) → r.verdict ≡ None → ruling_at p (r.size + 1) (r.count + n) ≡ ruling_at q (r.size + 1) (r.count + n)
    rulings b n r small hold live =
        let xs = hold.0 in
        let none = subst (Judges p xs) live hold.4 in
        let all = few m p h life b xs hold.1 in
        let by_p = judges_across (xs ++ (n ∷ [])) (All-push (λ x. x ≤ m) xs n all small) _ (judged_more p xs n none) in
        let by_q = judged_more q xs n (judges_across xs all None none) in
        subst (λ k. ruling_at p (k + 1) (r.count + n) ≡ ruling_at q (k + 1) (r.count + n)) (sym hold.2)
        (subst (λ d. ruling_at p (length xs + 1) (d + n) ≡ ruling_at q (length xs + 1) (d + n)) (sym hold.3)
        (judges_one q (xs ++ (n ∷ [])) _ _ by_p by_q))

    answers : (c : Call) (o : Option Record) → Holds p h (bay_of c) o → answer m has_verdict p c o ≡ answer m has_verdict q c o
    answers (Open b) o hold = refl
    answers (Take b n) o hold = by_test (first_fitting (tests m has_verdict (Take b n) o)) refl
      where
        granted_alike : (o : Option Record) → Holds p h b o → first_fitting (tests m has_verdict (Take b n) o) ≡ None → granted p (Take b n) o ≡ granted q (Take b n) o
        granted_alike None hold f =
            let t = (not_first (ltb m n) _ _ (not_first (ltb 31 b) _ _ f).1).1 in
            cc
        granted_alike (Some r) hold f =
            let t = not_first (ltb m n) _ _ (not_first (ltb 31 b) _ _ f).1 in
            ap (λ v. Lot (record { size = r.size + 1; count = r.count + n; verdict = v })) (rulings b n r (ltb-false m n t.0) hold (none_from r.verdict (not_first (has_verdict r) _ _ t.1).0))

        by_test : (f : Option Refusal) → first_fitting (tests m has_verdict (Take b n) o) ≡ f → reply_by f (granted p (Take b n) o) ≡ reply_by f (granted q (Take b n) o)
        by_test None e = ap Ok (granted_alike o hold e)
        by_test (Some x) e = refl
    answers (Read b) o hold = refl
    answers (Clear b) o hold = refl

    one_step : Life m q h → (s t : Step) → s.0 ≡ t.0 → Replied m p h s → Replied m q h t → s ≡ t
    one_step other s t calls x y =
        let held_by_q = holds_across (bay_of s.0) x.0 x.1 in
        let same = holds_one m q h other (bay_of s.0) x.0 y.0 held_by_q (subst (λ c. Holds q h (bay_of c) y.0) (sym calls) y.1) in
        pair calls (x.2 ∙ answers s.0 x.0 x.1 ∙ ap (answer m has_verdict q s.0) same ∙ ap (λ c. answer m has_verdict q c y.0) calls ∙ sym y.2)
      where
        pair : {c d : Call} {r u : Result Reply Refusal} → c ≡ d → r ≡ u → ◌≡◌ {A = Step} (c, r) (d, u)
        pair e f = cc

  on : (g h e : List Step) → map call_in g ≡ map call_in h → Life m p (e ++ g) → Life m q (e ++ h) → g ≡ h
  on [] [] e same x y = refl
  on [] (t ∷ h) e same x y = cc
  on (s ∷ g) [] e same x y = cc
  on (s ∷ g) (t ∷ h) e same x y =
      let calls : s.0 ≡ t.0 = cc in
      let others : map call_in g ≡ map call_in h = cc in
      let first = one_step e (front m p e (s ∷ g) x) (front m q e (t ∷ h) y) s t calls (x e s g refl) (y e t h refl) in
      let here : Life m q (e ++ (s ∷ h)) = subst (λ z. Life m q (e ++ (z ∷ h))) (sym first) y in
      let rest = on g h (e ++ (s ∷ [])) others (subst (Life m p) (sym (append_assoc e (s ∷ []) g)) x) (subst (Life m q) (sym (append_assoc e (s ∷ []) h)) here) in
      cc

pub reply_from_ends : (m : ℕ) (p q : Boundary) → EndAlike m p q → ReplyAlike m p q
reply_from_ends m p q ends g h = on m p q ends g h []
