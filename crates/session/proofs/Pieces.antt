-- The laws of lines and of pieces. Assumes nothing.
use Rattle.std.proofs.Common.{◌≡◌, ℕ, Bool, true, false, cond, eqb, List, [], ◌∷◌, ◌++◌, take, sym, refl, ap, ◌∙◌, subst, append_assoc, append-nil, arith}
use Rattle.std.proofs.ByRecursion.{All-push}
use Rattle.std.proofs.lemmas.List.{take-take}
use Rattle.std.proofs.lemmas.Bool.{eqb-true, eqb-false}
use Rattle.text.proofs.TextLaws.{added_added}
use Rattle.text.specs.Texts.{added}
use Rattle.session.specs.Feeds.{ended, unended, closed, NoFeed, Parted, LinesPart, PiecesJoin, transcript, state_after, number_after}
use Rattle.session.specs.Replies.{line_for}
use Rattle.session.specs.Sessions.{heard, next_line}
use Rattle.session.specs.Turns.{State}
use Rattle.session.proofs.Feeding.{ended_append, unended_append, transcript_append, state_append, number_append, same_heard}

parted : (p input : List ℕ) → NoFeed p → Parted (p ++ input) (ended p input) (unended p input)
parted p [] clean = record { joined = sym (append-nil p); lines = tt; last = clean }
parted p (b ∷ bs) clean = by_test (eqb b 10) refl (parted [] bs tt) (λ other. parted (p ++ (b ∷ [])) bs (All-push (λ x. x ≡ 10 → ⊥) p b clean other))
  where
    by_test :
        (t : Bool) → eqb b 10 ≡ t → Parted bs (ended [] bs) (unended [] bs) → ((b ≡ 10 → ⊥) → Parted ((p ++ (b ∷ [])) ++ bs) (ended (p ++ (b ∷ [])) bs) (unended (p ++ (b ∷ [])) bs))
        → Parted (p ++ (b ∷ bs)) (cond t (p ∷ ended [] bs) (ended (p ++ (b ∷ [])) bs)) (cond t (unended [] bs) (unended (p ++ (b ∷ [])) bs))
    by_test true e ended_here on = record {
      joined = append_assoc p (10 ∷ closed (ended [] bs)) (unended [] bs) ∙ ap (λ l. p ++ (10 ∷ l)) ended_here.joined ∙ ap (λ x. p ++ (x ∷ bs)) (sym (eqb-true b 10 e));
      lines = (clean, ended_here.lines);
      last = ended_here.last;
    }
    by_test false e ended_here on = subst (λ l. Parted l (ended (p ++ (b ∷ [])) bs) (unended (p ++ (b ∷ [])) bs)) (append_assoc p (b ∷ []) bs) (on (eqb-false b 10 e))

pub lines_part : LinesPart
lines_part input = parted [] input tt

-- two beginnings of a line of which the same is kept
longer : (p q : List ℕ) (x : ℕ) → take 96 p ≡ take 96 q → take 96 (p ++ (x ∷ [])) ≡ take 96 (q ++ (x ∷ []))
longer p q x e = sym (added_added [] p (x ∷ [])) ∙ ap (λ l. added l (x ∷ [])) e ∙ added_added [] q (x ∷ [])

same_line : (s : State) (p q : List ℕ) → take 96 p ≡ take 96 q → heard s p ≡ heard s q
same_line s p q e = sym (same_heard s p) ∙ ap (heard s) e ∙ same_heard s q

-- lines that are answered alike, and beginnings of which the same is kept
record Alike (s : State) (n : ℕ) (ls ms : List (List ℕ)) (u v : List ℕ) : Type 0 where
  replies : transcript s n ls ≡ transcript s n ms
  state : state_after s ls ≡ state_after s ms
  number : number_after n ls ≡ number_after n ms
  left : take 96 u ≡ take 96 v

-- what an input does depends on what is kept of a line only
alike : (s : State) (n : ℕ) (p q bs : List ℕ) → take 96 p ≡ take 96 q → Alike s n (ended p bs) (ended q bs) (unended p bs) (unended q bs)
alike s n p q [] e = record { replies = refl; state = refl; number = refl; left = e }
alike s n p q (b ∷ bs) e = by_test (eqb b 10) (alike s n (p ++ (b ∷ [])) (q ++ (b ∷ [])) bs (longer p q b e))
  where
    same : heard s p ≡ heard s q
    same = same_line s p q e

    by_test :
        (t : Bool) → Alike s n (ended (p ++ (b ∷ [])) bs) (ended (q ++ (b ∷ [])) bs) (unended (p ++ (b ∷ [])) bs) (unended (q ++ (b ∷ [])) bs)
        → Alike s n (cond t (p ∷ ended [] bs) (ended (p ++ (b ∷ [])) bs)) (cond t (q ∷ ended [] bs) (ended (q ++ (b ∷ [])) bs)) (cond t (unended [] bs) (unended (p ++ (b ∷ [])) bs)) (cond t (unended [] bs) (unended (q ++ (b ∷ [])) bs))
    by_test true ih = record {
      replies = ap (λ o. line_for o.1 (next_line n) ++ transcript o.0 (next_line n) (ended [] bs)) same;
      state = ap (λ o. state_after o.0 (ended [] bs)) same;
      number = refl;
      left = refl;
    }
    by_test false ih = ih

pub pieces_join : PiecesJoin
pieces_join s n p a b =
    let ls = ended p a in
    let q = unended p a in
    let same = alike (state_after s ls) (number_after n ls) q (take 96 q) b (sym (take-take 96 96 q (omega arith))) in
    let lines = ended_append p a b in
    record {
      replies = ap (transcript s n) lines ∙ transcript_append s n ls (ended q b) ∙ ap (λ t. transcript s n ls ++ t) same.replies;
      state = ap (state_after s) lines ∙ state_append s ls (ended q b) ∙ same.state;
      number = ap (number_after n) lines ∙ number_append n ls (ended q b) ∙ same.number;
      left = ap (take 96) (unended_append p a b) ∙ same.left;
    }
