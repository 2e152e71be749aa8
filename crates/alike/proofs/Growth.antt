-- Lives grow by one step at a time, and in a life a bay holds one thing. Assumes nothing.
use Rattle.std.proofs.Common.{◌≡◌, ℕ, ◌≤◌, Bool, true, false, cond, eqb, ltb, ◌⊎◌, List, [], ◌∷◌, ◌++◌, map, length, replicate, is_some, is_ok, Some, None, Option, sym, refl, ap, ◌∙◌, subst, inl, inr, ⊎_elim, append_assoc, append-nil, arith}
use Rattle.std.proofs.ByRecursion.{All-append}
use Rattle.std.proofs.lemmas.List.{length-append, length-set, map_push}
use Rattle.std.proofs.lemmas.Bool.{ltb-false, true≢false, false≢true}
use Rattle.std.specs.List.{AllByRecursion}
use Rattle.plan.specs.Boundaries.{Boundary}
use Rattle.plan.specs.Rulings.{Judges, total}
use Rattle.plan.specs.declared.refusals.Refusal.{Refusal}
use Rattle.plan.specs.declared.verdicts.Verdict.{Verdict}
use Rattle.stand.specs.Calls.{bay_of, has_verdict, reply_by, answer}
use Rattle.stand.specs.Histories.{Step, Opens, Clears, taken_by, taken, Occupied, Holds, Replied, Lived}
use Rattle.stand.specs.declared.records.Call.{Call}
use Rattle.stand.specs.declared.records.Call.TheVariants.{Open, Take, Read, Clear}
use Rattle.stand.specs.declared.records.Record.{Record}
use Rattle.stand.specs.declared.records.Reply.{Reply}
use Rattle.stand.proofs.Emptiness.{held_none}
use Rattle.stand.proofs.Living.{not_first, taken_push, born, lived_more}
use Rattle.stand.proofs.Splits.{split_push, all_before}
use Rattle.alike.specs.Lives.{Life, Lives, call_in}
use Rattle.alike.proofs.Endings.{judges_one}

module _ (m : ℕ) (p : Boundary) where
  -- the front of a life is a life, and so is a life with one more step
  pub front : (h t : List Step) → Life m p (h ++ t) → Life m p h
  front h t life e s u eq = life e s (u ++ t) (ap (λ l. l ++ t) eq ∙ append_assoc e (s ∷ u) t)

  pub grow : (h : List Step) (s : Step) → Life m p h → Replied m p h s → Life m p (h ++ (s ∷ []))
  grow h s life new e x t eq =
      ⊎_elim
      (λ here. subst (λ k. Replied m p k x) (sym here.0) (subst (Replied m p h) (sym here.1) new))
      (λ before. life e x before.0 before.2)
      (split_push h e s x t eq)

  -- what holds at the start, and stays with each step, holds of every life
  module _ (P : List Step → Type 0) (none : P []) (more : (h : List Step) (s : Step) → P h → Replied m p h s → P (h ++ (s ∷ []))) where
    from : (h t : List Step) → P h → Life m p (h ++ t) → P (h ++ t)
    from h [] holds life = subst P (sym (append-nil h)) holds
    from h (s ∷ t) holds life =
        let joined : (h ++ (s ∷ [])) ++ t ≡ h ++ (s ∷ t) = append_assoc h (s ∷ []) t in
        subst P joined (from (h ++ (s ∷ [])) t (more h s holds (life h s t refl)) (subst (Life m p) (sym joined) life))

    throughout : (h : List Step) → Life m p h → P h
    throughout h life = from [] h none life

-- every list of calls has a life: the bays of a stand answer the calls one by one
pub lives : (m : ℕ) (p : Boundary) → Lives m p
lives m p calls = on calls [] (replicate 32 None) refl (born m p _ (held_none 32))
  where
    on : (calls : List Call) (h : List Step) (bays : List (Option Record)) → length bays ≡ 32 → Lived m p h bays → (g : List Step) × (map call_in g ≡ map call_in h ++ calls) × Life m p g
    on [] h bays all lived = (h, sym (append-nil _), lived.replies)
    on (c ∷ calls) h bays all lived =
        let r = on calls _ _ (length-set bays (bay_of c) _ ∙ all) (lived_more m p h bays all lived c) in
        (r.0, r.1 ∙ ap (λ l. l ++ calls) (map_push call_in h _) ∙ append_assoc (map call_in h) (c ∷ []) calls, r.2)

-- an occupied bay was opened by the last step, or was occupied before it
back : (b : ℕ) (h : List Step) (s : Step) (xs : List ℕ) → Occupied b (h ++ (s ∷ [])) xs → (Opens b s × (xs ≡ [])) ⊎ ((ys : List ℕ) × Occupied b h ys × (ys ++ taken_by b s.0 (is_ok s.1) ≡ xs))
back b h s xs occ =
    ⊎_elim
    (λ here. inl (subst (Opens b) here.1 occ.opens, sym occ.items ∙ ap (taken b) here.2))
    (λ before.
    let all = all_before (λ x. Clears b x → ⊥) before.0 s (subst (AllByRecursion (λ x. Clears b x → ⊥)) before.1 occ.uncleared) in
    let was : Occupied b h (taken b before.0) = record { earlier = occ.earlier; opening = occ.opening; since = before.0; split = before.2; opens = occ.opens; uncleared = all.0; items = refl } in
    inr (taken b before.0, was, sym (taken_push b before.0 s) ∙ ap (taken b) (sym before.1) ∙ occ.items))
    (split_push h occ.earlier s occ.opening occ.since occ.split)

-- at first no bay is occupied
nothing : (b : ℕ) (xs : List ℕ) → Occupied b [] xs → ⊥
nothing b xs x = omega (arith, simp length-append at (ap length x.split))

-- a call with a reply other than a refusal was not refused
unrefused : (f : Option Refusal) (r : Reply) → is_ok (reply_by f r) ≡ true → f ≡ None
unrefused None r h = refl
unrefused (Some e) r h = absurd (false≢true h)

-- after a history the items of a lot are told in one way
abbrev ToldOnce : List Step → Type 0
ToldOnce h = (b : ℕ) (xs ys : List ℕ) → Occupied b h xs → Occupied b h ys → xs ≡ ys

module _ (m : ℕ) (p : Boundary) where
  -- an occupied bay is not opened
  shut : (b : ℕ) (h : List Step) (s : Step) (xs : List ℕ) → Replied m p h s → Opens b s → Occupied b h xs → ⊥
  shut b h s xs replied opens occ =
      let o = replied.0 in
      let ok : is_ok (answer m has_verdict p (Open b) o) ≡ true = subst (λ c. is_ok (answer m has_verdict p c o) ≡ true) opens.0 (ap is_ok (sym replied.2) ∙ opens.1) in
      let free = (not_first (ltb 31 b) _ _ (unrefused _ _ ok)).1 in
      by_bay o (subst (λ c. Holds p h (bay_of c) o) opens.0 replied.1) (not_first (is_some o) _ _ free).0
    where
      by_bay : (o : Option Record) → Holds p h b o → is_some o ≡ false → ⊥
      by_bay None hold e = hold xs occ
      by_bay (Some r) hold e = true≢false e

  -- so it is after a life
  pub told_once : (h : List Step) → Life m p h → ToldOnce h
  told_once = throughout m p ToldOnce (λ b xs ys x y. absurd (nothing b xs x)) more
    where
      more : (h : List Step) (s : Step) → ToldOnce h → Replied m p h s → ToldOnce (h ++ (s ∷ []))
      more h s once replied b xs ys x y =
          ⊎_elim
          (λ x_new. ⊎_elim
          (λ y_new. x_new.1 ∙ sym y_new.1)
          (λ y_old. absurd (shut b h s y_old.0 replied x_new.0 y_old.1))
          (back b h s ys y))
          (λ x_old. ⊎_elim
          (λ y_new. absurd (shut b h s x_old.0 replied y_new.0 x_old.1))
          (λ y_old. sym x_old.2 ∙ ap (λ l. l ++ taken_by b s.0 (is_ok s.1)) (once b x_old.0 y_old.0 x_old.1 y_old.1) ∙ y_old.2)
          (back b h s ys y))
          (back b h s xs x)

  -- and a bay holds one thing
  pub holds_one : (h : List Step) → Life m p h → (b : ℕ) (o u : Option Record) → Holds p h b o → Holds p h b u → o ≡ u
  holds_one h life b None None x y = refl
  holds_one h life b None (Some r) x y = absurd (x y.0 y.1)
  holds_one h life b (Some r) None x y = absurd (y x.0 x.1)
  holds_one h life b (Some r) (Some t) x y =
      let same = told_once h life b x.0 y.0 x.1 y.1 in
      let sized : r.size ≡ t.size = x.2 ∙ ap length same ∙ sym y.2 in
      let counted : r.count ≡ t.count = x.3 ∙ ap total same ∙ sym y.3 in
      let judged = judges_one p y.0 r.verdict t.verdict (subst (λ l. Judges p l r.verdict) same x.4) y.4 in
      ap Some (one_record sized counted judged)
    where
      one_record : {a b c d : ℕ} {v w : Option Verdict} → a ≡ b → c ≡ d → v ≡ w → ◌≡◌ {A = Record} (record { size = a; count = c; verdict = v }) (record { size = b; count = d; verdict = w })
      one_record e f g = cc

  -- no item gave more than the kind allows
  taken_few : (b : ℕ) (c : Call) (o : Option Record) → AllByRecursion (λ x. x ≤ m) (taken_by b c (is_ok (answer m has_verdict p c o)))
  taken_few b (Open a) o = tt
  taken_few b (Take a n) o = by_ok (is_ok (answer m has_verdict p (Take a n) o)) refl (eqb a b)
    where
      by_ok : (ok : Bool) → is_ok (answer m has_verdict p (Take a n) o) ≡ ok → (same : Bool) → AllByRecursion (λ x. x ≤ m) (cond ok (cond same (n ∷ []) []) [])
      by_ok true e true = (ltb-false m n (not_first (ltb m n) _ _ (not_first (ltb 31 a) _ _ (unrefused _ _ e)).1).0, tt)
      by_ok true e false = tt
      by_ok false e same = tt
  taken_few b (Read a) o = tt
  taken_few b (Clear a) o = tt

  abbrev Few : List Step → Type 0
  Few h = (b : ℕ) (xs : List ℕ) → Occupied b h xs → AllByRecursion (λ x. x ≤ m) xs

  pub few : (h : List Step) → Life m p h → Few h
  few = throughout m p Few (λ b xs x. absurd (nothing b xs x)) more
    where
      more : (h : List Step) (s : Step) → Few h → Replied m p h s → Few (h ++ (s ∷ []))
      more h s small replied b xs x =
          ⊎_elim
          (λ new. subst (AllByRecursion (λ x. x ≤ m)) (sym new.1) tt)
          (λ old.
          let last : AllByRecursion (λ x. x ≤ m) (taken_by b s.0 (is_ok s.1)) = subst (λ r. AllByRecursion (λ x. x ≤ m) (taken_by b s.0 (is_ok r))) (sym replied.2) (taken_few b s.0 replied.0) in
          subst (AllByRecursion (λ x. x ≤ m)) old.2 (All-append (λ x. x ≤ m) old.0 _ (small b old.0 old.1) last))
          (back b h s xs x)
