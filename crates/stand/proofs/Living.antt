-- One more call keeps the law over histories. Assumes nothing.
use Rattle.std.proofs.Common.{◌≡◌, ℕ, ◌+◌, ◌<◌, ◌≤◌, Bool, true, false, cond, not, ◌||◌, eqb, ltb, leb, List, [], ◌∷◌, ◌++◌, map, length, get_or, take, set, is_some, is_ok, Some, None, Ok, Err, Option, Result, sym, refl, ap, ◌∙◌, subst, ⊎_elim, append_assoc, append-nil, arith}
use Rattle.std.proofs.ByRecursion.{All-push}
use Rattle.std.proofs.lemmas.List.{length_push, set_past, set-get_or, get_or-map, get_or-set_same, get_or-set_other, map-set, take_more_set}
use Rattle.std.proofs.lemmas.Bool.{cond-true, cond-false, cases_eq, cases_lt, lt-ltb, ne_eqb, eq-eqb, lt-leb, true≢false, both_ways}
use Rattle.std.specs.List.{AllByRecursion}
use Rattle.plan.specs.Boundaries.{Boundary, Lawful}
use Rattle.plan.specs.Refusals.{refuse}
use Rattle.plan.specs.Rulings.{Judges, ruling_at, total}
use Rattle.plan.specs.declared.refusals.Layer.TheVariants.{Bay, Number}
use Rattle.plan.specs.declared.refusals.Refusal.{Refusal}
use Rattle.plan.specs.declared.verdicts.Verdict.{Verdict}
use Rattle.plan.proofs.Judging.{judged_more, unfinished, total_push}
use Rattle.stand.specs.Bays.{held}
use Rattle.stand.specs.Calls.{bay_of, tests, first_fitting, has_verdict, decided_by, satisfies, granted, left, reply_by, answer, after, told, Served}
use Rattle.stand.specs.Histories.{Step, Opens, Clears, taken_by, taken, Occupied, Holds, Replied, Lived, call_of, step_of, steps}
use Rattle.stand.specs.Refusals.{refused_call}
use Rattle.stand.specs.declared.records.Call.{Call}
use Rattle.stand.specs.declared.records.Call.TheVariants.{Open, Take, Read, Clear}
use Rattle.stand.specs.declared.records.Entry.{Entry}
use Rattle.stand.specs.declared.records.Record.{Record}
use Rattle.stand.specs.declared.records.Reply.{Reply}
use Rattle.stand.specs.declared.records.StandFault.{StandFault}
use Rattle.stand.proofs.Splits.{split_push, all_before}

-- a call after which bay b is occupied as before
abbrev Idle : ℕ → Step → Type 0
Idle b s = (Opens b s → ⊥) × (Clears b s → ⊥) × (taken_by b s.0 (is_ok s.1) ≡ [])

-- a call that names another bay, and a refused call
elsewhere : (b : ℕ) (c : Call) (r : Result Reply Refusal) → (b ≡ bay_of c → ⊥) → Idle b (c, r)
elsewhere b c r other = (λ o. other (sym (ap bay_of o.0)), λ o. other (sym (ap bay_of o.0)), none c other)
  where
    none : (c : Call) → (b ≡ bay_of c → ⊥) → taken_by b c (is_ok r) ≡ []
    none (Open a) h = refl
    none (Take a n) h = let t : eqb a b ≡ false = ne_eqb a b (λ e. h (sym e)) in by_ok (is_ok r) (cond-false (eqb a b) (n ∷ []) [] t)
      where
        by_ok : (ok : Bool) → cond (eqb a b) (n ∷ []) [] ≡ [] → cond ok (cond (eqb a b) (n ∷ []) []) [] ≡ []
        by_ok true e = e
        by_ok false e = refl
    none (Read a) h = refl
    none (Clear a) h = refl

turned_down : (b : ℕ) (c : Call) (e : Refusal) → Idle b (c, Err e)
turned_down b c e = (λ o. both_ways false refl o.1, λ o. both_ways false refl o.1, none c)
  where
    none : (c : Call) → taken_by b c false ≡ []
    none (Open a) = refl
    none (Take a n) = refl
    none (Read a) = refl
    none (Clear a) = refl

pub taken_push : (b : ℕ) (h : List Step) (s : Step) → taken b (h ++ (s ∷ [])) ≡ taken b h ++ taken_by b s.0 (is_ok s.1)
taken_push b [] s = append-nil _
taken_push b (x ∷ h) s = ap (λ l. taken_by b x.0 (is_ok x.1) ++ l) (taken_push b h s) ∙ sym (append_assoc (taken_by b x.0 (is_ok x.1)) (taken b h) _)

-- an occupied bay stays occupied by a call that does not clear it
module _ (b : ℕ) (h : List Step) (s : Step) where
  pub pushed : (xs ys : List ℕ) → Occupied b h xs → (Clears b s → ⊥) → taken_by b s.0 (is_ok s.1) ≡ ys → Occupied b (h ++ (s ∷ [])) (xs ++ ys)
  pushed xs ys occ kept new = record {
    earlier = occ.earlier;
    opening = occ.opening;
    since = occ.since ++ (s ∷ []);
    split = ap (λ l. l ++ (s ∷ [])) occ.split ∙ append_assoc occ.earlier (occ.opening ∷ occ.since) (s ∷ []);
    opens = occ.opens;
    uncleared = All-push (λ x. Clears b x → ⊥) occ.since s occ.uncleared kept;
    items = taken_push b occ.since s ∙ ap (λ l. l ++ taken_by b s.0 (is_ok s.1)) occ.items ∙ ap (λ l. xs ++ l) new;
  }

  -- and was so before, if it did not open it
  popped : (xs : List ℕ) → Occupied b (h ++ (s ∷ [])) xs → (Opens b s → ⊥) → ((ys : List ℕ) × Occupied b h ys × (ys ++ taken_by b s.0 (is_ok s.1) ≡ xs)) × (Clears b s → ⊥)
  popped xs occ shut =
      ⊎_elim
      (λ here. absurd (shut (subst (Opens b) here.1 occ.opens)))
      (λ front.
      let all = all_before (λ x. Clears b x → ⊥) front.0 s (subst (AllByRecursion (λ x. Clears b x → ⊥)) front.1 occ.uncleared) in
      let back : Occupied b h (taken b front.0) = record { earlier = occ.earlier; opening = occ.opening; since = front.0; split = front.2; opens = occ.opens; uncleared = all.0; items = refl } in
      ((taken b front.0, back, sym (taken_push b front.0 s) ∙ ap (taken b) (sym front.1) ∙ occ.items), all.1))
      (split_push h occ.earlier s occ.opening occ.since occ.split)

  module _ (p : Boundary) (idle : Idle b s) where
    idle_on : (xs : List ℕ) → Occupied b h xs → Occupied b (h ++ (s ∷ [])) xs
    idle_on xs occ = subst (Occupied b (h ++ (s ∷ []))) (append-nil xs) (pushed xs [] occ idle.1 idle.2)

    idle_back : (xs : List ℕ) → Occupied b (h ++ (s ∷ [])) xs → (ys : List ℕ) × Occupied b h ys
    idle_back xs occ = let q = popped xs occ idle.0 in (q.0.0, q.0.1)

    idle_holds : (o : Option Record) → Holds p h b o → Holds p (h ++ (s ∷ [])) b o
    idle_holds None none = λ xs occ. let q = idle_back xs occ in none q.0 q.1
    idle_holds (Some r) some = (some.0, idle_on some.0 some.1, some.2, some.3, some.4)

-- tests that do not fit
pub not_first : (x : Bool) (e : Refusal) (y : Option Refusal) → cond x (Some e) y ≡ None → (x ≡ false) × (y ≡ None)
not_first true e y h = cc
not_first false e y h = (refl, h)

pub none_from : (o : Option Verdict) → is_some o ≡ false → o ≡ None
none_from None e = refl
none_from (Some v) e = absurd (true≢false e)

module _ (m : ℕ) (p : Boundary) where
  -- the named bay after a call that is not refused
  granted_holds : (h : List Step) (c : Call) (o : Option Record) → first_fitting (tests m has_verdict c o) ≡ None → Holds p h (bay_of c) o → Holds p (h ++ ((c, Ok (granted p c o)) ∷ [])) (bay_of c) (left p c o)
  granted_holds h (Open b) o f hold =
      ([], record { earlier = h; opening = (Open b, Ok (granted p (Open b) o)); since = []; split = refl; opens = (refl, refl); uncleared = tt; items = refl }, refl, refl, λ n v e. absurd (omega (arith, e.size, e.reached)))
  granted_holds h (Take b n) None f hold =
      let q = (not_first (ltb 31 b) _ _ f).1 in
      let t = (not_first (ltb m n) _ _ q).1 in
      cc
  granted_holds h (Take b n) (Some r) f hold =
      let q = (not_first (ltb 31 b) _ _ f).1 in
      let t = (not_first (ltb m n) _ _ q).1 in
      let live = none_from r.verdict (not_first (has_verdict r) _ _ t).0 in
      let s : Step = (Take b n, Ok (granted p (Take b n) (Some r))) in
      let xs = hold.0 in
      let there : taken_by b (Take b n) true ≡ n ∷ [] = cond-true (eqb b b) (n ∷ []) [] (eq-eqb b b refl) in
      let judged = judged_more p xs n (subst (Judges p xs) live hold.4) in
      let sized : length xs + 1 ≡ r.size + 1 = ap (λ k. k + 1) (sym hold.2) in
      let counted : total xs + n ≡ r.count + n = ap (λ k. k + n) (sym hold.3) in (
        xs ++ (n ∷ []),
        pushed b h s xs (n ∷ []) hold.1 (λ cl. kinds cl.0) there,
        ap (λ k. k + 1) hold.2 ∙ sym (length_push xs n),
        sym counted ∙ sym (total_push xs n),
        subst (λ d. Judges p (xs ++ (n ∷ [])) (ruling_at p (r.size + 1) d)) counted (subst (λ k. Judges p (xs ++ (n ∷ [])) (ruling_at p k (total xs + n))) sized judged),
      )
    where
      kinds : {a k : ℕ} {b : ℕ} → ◌≡◌ {A = Call} (Take a k) (Clear b) → ⊥
      kinds e = cc
  granted_holds h (Read b) o f hold = idle_holds b h _ p (λ x. shut x.0, λ x. kept x.0, refl) o hold
    where
      shut : {a b : ℕ} → ◌≡◌ {A = Call} (Read a) (Open b) → ⊥
      shut e = cc

      kept : {a b : ℕ} → ◌≡◌ {A = Call} (Read a) (Clear b) → ⊥
      kept e = cc
  granted_holds h (Clear b) o f hold = λ xs occ. (popped b h _ xs occ (λ x. shut x.0)).1 (refl, refl)
    where
      shut : {a b : ℕ} → ◌≡◌ {A = Call} (Clear a) (Open b) → ⊥
      shut e = cc

  -- a bay that is not there is refused
  no_bay : (c : Call) (o : Option Record) → 31 < bay_of c → first_fitting (tests m has_verdict c o) ≡ Some (refuse 1 Bay (bay_of c))
  no_bay (Open b) o h = cond-true (ltb 31 b) _ _ (lt-ltb 31 b h)
  no_bay (Take b n) o h = cond-true (ltb 31 b) _ _ (lt-ltb 31 b h)
  no_bay (Read b) o h = cond-true (ltb 31 b) _ _ (lt-ltb 31 b h)
  no_bay (Clear b) o h = cond-true (ltb 31 b) _ _ (lt-ltb 31 b h)

  -- the named bay after any call
  named_holds : (h : List Step) (c : Call) (o : Option Record) → Holds p h (bay_of c) o → Holds p (h ++ ((c, answer m has_verdict p c o) ∷ [])) (bay_of c) (after m has_verdict p c o)
  named_holds h c o hold = by_test (first_fitting (tests m has_verdict c o)) refl
    where
      by_test : (f : Option Refusal) → first_fitting (tests m has_verdict c o) ≡ f → Holds p (h ++ ((c, reply_by f (granted p c o)) ∷ [])) (bay_of c) (cond (is_some f) o (left p c o))
      by_test None e = granted_holds h c o e hold
      by_test (Some x) e = idle_holds (bay_of c) h (c, Err x) p (turned_down (bay_of c) c x) o hold

  module _ (h : List Step) (bays : List (Option Record)) (all : length bays ≡ 32) (lived : Lived m p h bays) (c : Call) where
    abbrev o : Option Record
    o = held bays (bay_of c)

    abbrev s : Step
    s = (c, answer m has_verdict p c o)

    abbrev later : List (Option Record)
    later = set bays (bay_of c) (after m has_verdict p c o)

    written : held later (bay_of c) ≡ after m has_verdict p c o
    written =
        ⊎_elim
        (λ inside. get_or-set_same bays (bay_of c) _ None (omega arith))
        (λ past.
        let gone : length bays ≤ bay_of c = omega arith in
        ap (λ l. held l (bay_of c)) (set_past bays (bay_of c) _ gone) ∙ sym (cond-true _ o (left p c o) (ap is_some (no_bay c o (omega arith)))))
        (cases_lt (bay_of c) 32)

    holds_later : (b : ℕ) → Holds p (h ++ (s ∷ [])) b (held later b)
    holds_later b =
        ⊎_elim
        (λ same. subst (λ k. Holds p (h ++ (s ∷ [])) k (held later k)) (sym same) (subst (Holds p (h ++ (s ∷ [])) (bay_of c)) (sym written) (named_holds h c o (lived.holds (bay_of c)))))
        (λ other. subst (Holds p (h ++ (s ∷ [])) b) (sym (get_or-set_other bays (bay_of c) b _ None other)) (idle_holds b h s p (elsewhere b c _ other) (held bays b) (lived.holds b)))
        (cases_eq b (bay_of c))

    replies_later : (e : List Step) (x : Step) (t : List Step) → h ++ (s ∷ []) ≡ e ++ (x ∷ t) → Replied m p e x
    replies_later e x t eq =
        ⊎_elim
        (λ here. subst (λ k. Replied m p k x) (sym here.0) (subst (Replied m p h) (sym here.1) (o, lived.holds (bay_of c), refl)))
        (λ front. lived.replies e x front.0 front.2)
        (split_push h e s x t eq)

    pub lived_more : Lived m p (h ++ (s ∷ [])) later
    lived_more = record { holds = holds_later; replies = replies_later }

  -- in a history a lot without a verdict is below the plan's last size
  module _ (law : Lawful p) where
    same_decided : (h : List Step) (b : ℕ) (o : Option Record) → Holds p h b o → satisfies (decided_by p) o ≡ satisfies has_verdict o
    same_decided h b None hold = refl
    same_decided h b (Some r) hold = by_verdict r.verdict refl
      where
        by_verdict : (v : Option Verdict) → r.verdict ≡ v → (is_some v || leb p.last r.size) ≡ is_some v
        by_verdict (Some v) e = refl
        by_verdict None e =
            let below = unfinished p law hold.0 (subst (Judges p hold.0) e hold.4) in
            lt-leb p.last r.size (omega (arith, hold.2))

    same_tests : (c : Call) (o : Option Record) → satisfies (decided_by p) o ≡ satisfies has_verdict o → tests m (decided_by p) c o ≡ tests m has_verdict c o
    same_tests (Open b) o e = refl
    same_tests (Take b n) o e = ap (λ x. (ltb 31 b, refuse 1 Bay b) ∷ (ltb m n, refuse 3 Number 1) ∷ (not (is_some o), refuse 21 Bay b) ∷ (x, refuse 22 Bay b) ∷ []) e
    same_tests (Read b) o e = refl
    same_tests (Clear b) o e = refl

    -- a call served after a history
    pub served_lived : (h : List Step) (bays later : List (Option Record)) (c : Call) (r : Result Reply Refusal) → length bays ≡ 32 → Lived m p h bays → Served m p c bays later r → Lived m p (h ++ ((c, r) ∷ [])) later
    served_lived h bays later c r all lived served =
        let o = held bays (bay_of c) in
        let same = same_tests c o (same_decided h (bay_of c) o (lived.holds (bay_of c))) in
        let reply : r ≡ answer m has_verdict p c o = served.reply ∙ ap (λ t. reply_by (first_fitting t) (granted p c o)) same in
        let bays_are : later ≡ set bays (bay_of c) (after m has_verdict p c o) = served.bays ∙ ap (λ t. set bays (bay_of c) (cond (is_some (first_fitting t)) o (left p c o))) same in
        subst (λ x. Lived m p (h ++ ((c, x) ∷ [])) later) (sym reply) (subst (Lived m p (h ++ ((c, answer m has_verdict p c o) ∷ []))) (sym bays_are) (lived_more h bays all lived c))

-- at its making
pub born : (m : ℕ) (p : Boundary) (bays : List (Option Record)) → ((b : ℕ) → held bays b ≡ None) → Lived m p [] bays
born m p bays none = record {
  holds = λ b. subst (Holds p [] b) (sym (none b)) (λ xs occ. empty occ.earlier occ.opening occ.since occ.split);
  replies = λ e s t eq. absurd (empty e s t eq);
}
  where
    empty : (e : List Step) (s : Step) (t : List Step) → [] ≡ e ++ (s ∷ t) → ⊥
    empty [] s t eq = cc
    empty (x ∷ e) s t eq = cc

-- one more entry with its reply
steps_append : (es fs : List Entry) → steps (es ++ fs) ≡ steps es ++ steps fs
steps_append [] fs = refl
steps_append (e ∷ es) fs = ap (λ l. step_of e.call e.reply ++ l) (steps_append es fs) ∙ sym (append_assoc (step_of e.call e.reply) (steps es) (steps fs))

pub steps_push : (es : List Entry) (c : Call) (r : Result Reply StandFault) → steps (es ++ (record { call = c; reply = Some r } ∷ [])) ≡ steps es ++ ((c, told (λ x. x) refused_call r) ∷ [])
steps_push es c r = steps_append es (record { call = c; reply = Some r } ∷ [])

-- the law, of equal plans and histories
pub lived_at : {m : ℕ} {p q : Boundary} {h k : List Step} {bays : List (Option Record)} → p ≡ q → h ≡ k → Lived m p h bays → Lived m q k bays
lived_at {m} {p} {q} {h} {k} {bays} e f l = subst (λ x. Lived m x k bays) e (subst (λ x. Lived m p x bays) f l)

-- a reply written beside its call: the calls stay, and the steps are one more
pub wrote : (h : List Entry) (i : ℕ) (d : Entry) (r : Result Reply StandFault) → i < length h → (map call_of (set h i (record { call = (get_or h i d).call; reply = Some r })) ≡ map call_of h) × (steps (take (i + 1) (set h i (record { call = (get_or h i d).call; reply = Some r }))) ≡ steps (take i h) ++ (((get_or h i d).call, told (λ x. x) refused_call r) ∷ []))
wrote h i d r inside =
    let x : Entry = record { call = (get_or h i d).call; reply = Some r } in (
      map-set call_of h i x ∙ ap (set (map call_of h) i) (sym (get_or-map call_of h i d d.call inside)) ∙ set-get_or (map call_of h) i d.call,
      ap steps (take_more_set h i x inside) ∙ steps_push (take i h) (get_or h i d).call r,
    )
