-- The words of a line: the first of them, and what they are. Assumes nothing.
use Rattle.std.proofs.Common.{◌≡◌, ℕ, true, false, cond, eqb, List, [], ◌∷◌, Some, sym, refl, ap, inl, inr, arith}
use Rattle.std.proofs.lemmas.Bool.{eqb-true, eqb-false, cases_Bool}
use Rattle.text.specs.Cuts.{before, after}
use Rattle.text.specs.Readers.{words_in}
use Rattle.text.specs.Words.{with_first, words, Parts}

-- the first word, and the others
pub words_cut : (xs : List ℕ) → words xs ≡ before 32 xs ∷ words_in (after 32 xs)
words_cut [] = refl
words_cut (x ∷ xs) =
    elim (eqb x 32) as (λ t. cond t ([] ∷ words xs) (with_first x (words xs)) ≡ cond t [] (x ∷ before 32 xs) ∷ words_in (cond t (Some xs) (after 32 xs))) [ true ↦ refl | false ↦ ap (with_first x) (words_cut xs) ]

-- one more byte before the words of a line
parts_on : (c : ℕ) (cs : List ℕ) (ws : List (List ℕ)) → Parts cs ws → Parts (c ∷ cs) (cond (eqb c 32) ([] ∷ ws) (with_first c ws))
parts_on c cs [] p = absurd (omega (arith, p.some))
parts_on c cs (w ∷ ws) p =
    elim (cases_Bool (eqb c 32)) [ inl e ↦ rw e (record { some = omega arith; joined = λ k. sym (eqb-true c 32 e) k ∷ p.joined k; apart = (tt, p.apart) }) | inr e ↦ rw e (record { some = omega arith; joined = ap (λ l. c ∷ l) p.joined; apart = ((eqb-false c 32 e, p.apart.0), p.apart.1) }) ]

-- joined by single spaces the words are the line again, and none holds a space
pub words_parts : (xs : List ℕ) → Parts xs (words xs)
words_parts [] = record { some = omega arith; joined = refl; apart = (tt, tt) }
words_parts (c ∷ cs) = parts_on c cs (words cs) (words_parts cs)
