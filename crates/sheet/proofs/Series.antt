-- The counts that series come to at each size, and the span that holds them. Assumes nothing.
use Rattle.std.proofs.Common.{◌≡◌, ℕ, ◌+◌, ◌-◌, ◌<◌, ◌≤◌, max, List, [], ◌∷◌, ◌++◌, length, get_or, take, sym, refl, ap, ◌∙◌, subst, ⊎_elim, arith}
use Rattle.std.proofs.ByRecursion.{All-get_or, All-push, All-take}
use Rattle.std.proofs.lemmas.List.{length_push, length-take-le, take_all, take-append-le, take_more, take-take}
use Rattle.std.proofs.lemmas.Bool.{cases_lt}
use Rattle.std.specs.List.{AllByRecursion}
use Rattle.plan.proofs.Judging.{total_push}
use Rattle.plan.specs.Rulings.{total}
use Rattle.sheet.specs.Spans.{In, first, spread}
use Rattle.sheet.specs.declared.rows.Span.{Span}

-- one more item
pub total_more : (xs : List ℕ) (n : ℕ) → n < length xs → total (take (n + 1) xs) ≡ total (take n xs) + get_or xs n 0
total_more xs n h = ap total (take_more xs n 0 h) ∙ total_push (take n xs) (get_or xs n 0)

pub spread_in : (m : ℕ) (t : Span) (c x : ℕ) → In t c → x ≤ m → In (spread m t) (c + x)
spread_in m t c x at few = (omega arith, omega arith)

-- Series of counts up to m that are live, by L, at each size before n.
module _ (m : ℕ) (L : ℕ → ℕ → Type 0) where
  abbrev pub Lived : List ℕ → ℕ → Type 0
  Lived xs n = (k : ℕ) → 1 ≤ k → k < n → L k (total (take k xs))

  pub record Comes (n d : ℕ) : Type 0 where
    pub counts : List ℕ
    pub small : AllByRecursion (λ x. x ≤ m) counts
    pub size : length counts ≡ n
    pub sum : total counts ≡ d
    pub lived : Lived counts n

  pub first_comes : (d : ℕ) → In (first m) d → Comes 1 d
  first_comes d at = record { counts = d ∷ []; small = (omega arith, tt); size = refl; sum = omega arith; lived = λ k one below. absurd (omega arith) }

  pub push_comes : (n c x : ℕ) → Comes n c → L n c → x ≤ m → Comes (n + 1) (c + x)
  push_comes n c x from live few =
      let xs : List ℕ = from.counts in record {
        counts = xs ++ (x ∷ []);
        small = All-push (λ x. x ≤ m) xs x from.small few;
        size = omega (arith, length_push xs x, from.size);
        sum = total_push xs x ∙ ap (λ t. t + x) from.sum;
        lived = λ k one below.
            let front : total (take k (xs ++ (x ∷ []))) ≡ total (take k xs) = ap total (take-append-le k xs (x ∷ []) (omega (arith, from.size))) in
            subst (L k) (sym front) (⊎_elim (λ l. from.lived k one l) (λ l. here k (omega arith)) (cases_lt k n));
      }
    where
      here : (k : ℕ) → k ≡ n → L k (total (take k from.counts))
      here k e =
          let all : total (take k from.counts) ≡ c = ap total (take_all k from.counts (omega (arith, from.size))) ∙ from.sum in
          subst (L k) (sym all) (subst (λ j. L j c) (sym e) live)

  -- some series comes to each count of a span at the next size, if one comes to each live count
  pub next_comes : (n : ℕ) (t : Span) → t.low < t.end → ((c : ℕ) → In t c → Comes n c × L n c) → (d : ℕ) → In (spread m t) d → Comes (n + 1) d
  next_comes n t some from d at =
      let c : ℕ = max t.low (d - m) in
      let low = from c (omega arith, omega arith) in
      let all : c + (d - c) ≡ d = omega arith in
      subst (Comes (n + 1)) all (push_comes n c (d - c) low.0 low.1 (omega arith))

  -- and no series comes to another
  pub first_holds : (d : ℕ) → Comes 1 d → In (first m) d
  first_holds d from =
      let xs : List ℕ = from.counts in
      let all : total (take (0 + 1) xs) ≡ d = ap total (take_all (0 + 1) xs (omega (arith, from.size))) ∙ from.sum in
      let one : get_or xs 0 0 ≤ m = All-get_or (λ x. x ≤ m) xs 0 0 (omega (arith, from.size)) from.small in
      (omega arith, omega (arith, total_more xs 0 (omega (arith, from.size))))

  pub next_holds : (n : ℕ) (t : Span) → 1 ≤ n → ((c : ℕ) → Comes n c → L n c → In t c) → (d : ℕ) → Comes (n + 1) d → In (spread m t) d
  next_holds n t one holds d from =
      let xs : List ℕ = from.counts in
      let c : ℕ = total (take n xs) in
      let before : Comes n c = record {
        counts = take n xs;
        small = All-take (λ x. x ≤ m) n xs from.small;
        size = length-take-le n xs (omega (arith, from.size));
        sum = refl;
        lived = λ k one below. subst (λ l. L k (total l)) (sym (take-take k n xs (omega arith))) (from.lived k one (omega arith));
      } in
      let all : total (take (n + 1) xs) ≡ d = ap total (take_all (n + 1) xs (omega (arith, from.size))) ∙ from.sum in
      let last : get_or xs n 0 ≤ m = All-get_or (λ x. x ≤ m) xs n 0 (omega (arith, from.size)) from.small in
      let sum : c + get_or xs n 0 ≡ d = sym (total_more xs n (omega (arith, from.size))) ∙ all in
      subst (In (spread m t)) sum (spread_in m t c (get_or xs n 0) (holds c before (from.lived n one (omega arith))) last)
