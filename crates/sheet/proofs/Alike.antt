-- What the row of a pair tells of its rulings on the counts of a span. Assumes nothing.
use Rattle.std.proofs.Common.{◌≡◌, ℕ, ◌-◌, ◌<◌, ◌≤◌, min, max, true, cond, ltb, ℤ, Some, None, Option, sym, ap, ◌∙◌, subst, arith}
use Rattle.std.proofs.lemmas.Bool.{ltb-true, lt-ltb}
use Rattle.std.proofs.lemmas.Bool.Decides.{nat_tests}
use Rattle.plan.proofs.Judging.{rules_ruled, rules_one}
use Rattle.plan.specs.Rulings.{Rules, ruled}
use Rattle.plan.specs.declared.verdicts.Verdict.{Verdict}
use Rattle.plan.specs.declared.verdicts.Verdict.TheVariants.{Accept, Reject}
use Rattle.sheet.proofs.Pairs.{accepted, from_accepted, rejected, from_rejected, lives, from_live}
use Rattle.sheet.specs.Sheets.{row_over}
use Rattle.sheet.specs.Spans.{In, past, whole, live, some_in}
use Rattle.sheet.specs.declared.rows.Row.{Row}
use Rattle.sheet.specs.declared.rows.Span.{Span}

-- the live counts of a span
pub in_live : (p : ℤ × ℤ) (s : Span) (d : ℕ) → In (live p s) d → In s d × Rules p d None
in_live p s d at = ((omega arith, omega arith), lives p d (omega arith) (omega arith))

pub to_live : (p : ℤ × ℤ) (s : Span) (d : ℕ) → In s d → Rules p d None → In (live p s) d
to_live p s d at r = let n = from_live p d r in (omega arith, omega arith)

pub some_live : (p : ℤ × ℤ) (s : Span) (d : ℕ) → In s d → Rules p d None → some_in (live p s) ≡ true
some_live p s d at r = let n = from_live p d r in lt-ltb _ _ (omega arith)

-- a number, moved into a span or to its ends
abbrev clamped : Span → ℕ → ℕ
clamped s x = min s.end (max s.low x)

-- two pairs rule alike on the counts of a span
pub record Alike (p q : ℤ × ℤ) (s : Span) : Type 0 where
  pub accepts : clamped s (past p.0) ≡ clamped s (past q.0)
  pub rejects : clamped s (whole p.1) ≡ clamped s (whole q.1)

module _ (s : Span) (a b : ℕ) where
  from_acceptance : s.low < s.end → cond (ltb s.low a) (Some (min s.end a - 1)) None ≡ cond (ltb s.low b) (Some (min s.end b - 1)) None → clamped s a ≡ clamped s b
  from_acceptance some e = grind (arith, nat_tests)

  from_rejection : s.low < s.end → cond (ltb a s.end) (Some (max s.low a)) None ≡ cond (ltb b s.end) (Some (max s.low b)) None → clamped s a ≡ clamped s b
  from_rejection some e = grind (arith, nat_tests)

  to_acceptance : s.low < s.end → clamped s a ≡ clamped s b → cond (ltb s.low a) (Some (min s.end a - 1)) None ≡ cond (ltb s.low b) (Some (min s.end b - 1)) None
  to_acceptance some e = grind (arith, nat_tests)

  to_rejection : s.low < s.end → clamped s a ≡ clamped s b → cond (ltb a s.end) (Some (max s.low a)) None ≡ cond (ltb b s.end) (Some (max s.low b)) None
  to_rejection some e = grind (arith, nat_tests)

module _ (p q : ℤ × ℤ) (s : Span) where
  pub alike_from_row : s.low < s.end → row_over p s ≡ row_over q s → Alike p q s
  alike_from_row some e = record {
    accepts = from_acceptance s (past p.0) (past q.0) some (ap (λ (r : Row). r.acceptance) e);
    rejects = from_rejection s (whole p.1) (whole q.1) some (ap (λ (r : Row). r.rejection) e);
  }

  pub row_from_alike : s.low < s.end → Alike p q s → row_over p s ≡ row_over q s
  row_from_alike some h = joined (to_acceptance s (past p.0) (past q.0) some h.accepts) (to_rejection s (whole p.1) (whole q.1) some h.rejects)
    where
      joined : {a b c d : Option ℕ} → a ≡ b → c ≡ d → ◌≡◌ {A = Row} (record { acceptance = a; rejection = c }) (record { acceptance = b; rejection = d })
      joined e f = cc

  -- the live counts are the same, or there are none
  pub some_alike : s.low < s.end → Alike p q s → some_in (live p s) ≡ true → some_in (live q s) ≡ true
  some_alike some h t = lt-ltb _ _ (omega (arith, ltb-true _ _ t))

  pub live_alike : Alike p q s → some_in (live p s) ≡ true → live p s ≡ live q s
  live_alike h t = joined (omega (arith, ltb-true _ _ t)) (omega (arith, ltb-true _ _ t))
    where
      joined : {a b c d : ℕ} → a ≡ b → c ≡ d → ◌≡◌ {A = Span} (record { low = a; end = c }) (record { low = b; end = d })
      joined e f = cc

  -- a ruling on a count of the span is a ruling of both
  pub rules_alike : Alike p q s → (d : ℕ) → In s d → (v : Option Verdict) → Rules p d v → Rules q d v
  rules_alike h d at None r = let n = from_live p d r in lives q d (omega arith) (omega arith)
  rules_alike h d at (Some Accept) r = let n = from_accepted p d r in accepted q d (omega arith)
  rules_alike h d at (Some Reject) r = let n = from_rejected p d r in rejected q d (omega arith) (omega arith)

-- and pairs with the same rulings are alike
carried : (p q : ℤ × ℤ) (d : ℕ) (v : Option Verdict) → ruled p d ≡ ruled q d → Rules p d v → Rules q d v
carried p q d v e r = subst (Rules q d) (sym e ∙ rules_one p d (ruled p d) v (rules_ruled p d) r) (rules_ruled q d)

module _ (p q : ℤ × ℤ) (s : Span) (same : (d : ℕ) → In s d → ruled p d ≡ ruled q d) where
  no_fewer : clamped s (past q.0) < clamped s (past p.0) → ⊥
  no_fewer l =
      let d : ℕ = clamped s (past q.0) in
      omega (arith, from_accepted q d (carried p q d (Some Accept) (same d (omega arith, omega arith)) (accepted p d (omega arith))))

  no_later : past p.0 ≤ whole p.1 → clamped s (whole p.1) < clamped s (whole q.1) → ⊥
  no_later law l =
      let d : ℕ = clamped s (whole p.1) in
      omega (arith, from_rejected q d (carried p q d (Some Reject) (same d (omega arith, omega arith)) (rejected p d (omega arith) (omega arith))))

level : (a b : ℕ) → (a < b → ⊥) → (b < a → ⊥) → a ≡ b
level a b f g = omega arith

pub alike_from_ruled : (p q : ℤ × ℤ) (s : Span) → past p.0 ≤ whole p.1 → past q.0 ≤ whole q.1 → ((d : ℕ) → In s d → ruled p d ≡ ruled q d) → Alike p q s
alike_from_ruled p q s law_p law_q same =
    let back : (d : ℕ) → In s d → ruled q d ≡ ruled p d = λ d at. sym (same d at) in record {
      accepts = level _ _ (no_fewer q p s back) (no_fewer p q s same);
      rejects = level _ _ (no_later p q s same law_p) (no_later q p s back law_q);
    }
