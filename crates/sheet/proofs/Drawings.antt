-- A sheet drawn row by row. Assumes nothing.
use Rattle.std.proofs.Common.{◌≡◌, ℕ, ◌+◌, ◌*◌, ◌<◌, ◌≤◌, true, false, ltb, List, [], ◌∷◌, ◌++◌, map, length, take, drop, Ok, Err, sym, refl, ap, ◌∙◌, subst, append_assoc, add-zero, arith}
use Rattle.std.specs.List.{flat_map}
use Rattle.std.proofs.lemmas.List.{length-append, take-append-drop}
use Rattle.std.proofs.lemmas.Bool.{cond-true, cond-false, le-ltb, lt-ltb}
use Rattle.plan.specs.Boundaries.{Boundary}
use Rattle.plan.specs.Refusals.{refuse}
use Rattle.plan.specs.declared.refusals.Layer.TheVariants.{Memory}
use Rattle.text.specs.Writes.{put_at}
use Rattle.text.proofs.WriteLaws.{over_put, put_then}
use Rattle.sheet.specs.Bytes.{Drawn, bytes_of, header, row_bytes, sheet_bytes}
use Rattle.sheet.specs.Sheets.{Line, lines, row_in, sheet}
use Rattle.sheet.specs.declared.rows.Row.{Row}

-- each row has two bytes
pub length_rows : (rows : List Row) → length (flat_map row_bytes rows) ≡ 2 * length rows
length_rows [] = refl
length_rows (r ∷ rows) = length-append (row_bytes r) (flat_map row_bytes rows) ∙ omega (arith, length_rows rows)

pub length_sheet : (m : ℕ) (rows : List Row) → length (bytes_of m rows) ≡ 8 + 2 * length rows
length_sheet m rows = length-append (header m (length rows)) (flat_map row_bytes rows) ∙ ap (λ n. 8 + n) (length_rows rows)

-- the bytes of some lines are written from a place on, and those of others are left: all together are the rows
pub record Drawing (m : ℕ) (b : Boundary) (start : ℕ) (lefts : List Line) (buffer buffer' : List ℕ) (at : ℕ) : Type 0 where
  pub text : List ℕ
  pub place : at ≡ start + length text
  pub bytes : buffer' ≡ put_at buffer start text
  pub whole : text ++ flat_map row_bytes (map row_in lefts) ≡ flat_map row_bytes (sheet m b)
  pub room : start + length (flat_map row_bytes (sheet m b)) ≤ length buffer

-- the same drawing, where what is left is shown otherwise
pub renamed : {m : _} {b : _} {start : _} {ls ks : List Line} {buffer buffer' : _} {at : _} → ls ≡ ks → Drawing m b start ls buffer buffer' at → Drawing m b start ks buffer buffer' at
renamed {m} {b} {start} {buffer = buffer} {buffer'} {at} e d = subst (λ l. Drawing m b start l buffer buffer' at) e d

module _ (m : ℕ) (b : Boundary) (start : ℕ) (buffer : List ℕ) where
  pub begun : start + length (flat_map row_bytes (sheet m b)) ≤ length buffer → Drawing m b start (lines m b) buffer buffer start
  begun room = record { text = []; place = omega arith; bytes = sym (ap (λ n. take start buffer ++ drop n buffer) (add-zero start) ∙ take-append-drop start buffer); whole = refl; room = room }

  module _ (l : Line) (lefts : List Line) (buffer' : List ℕ) (at : ℕ) (d : Drawing m b start (l ∷ lefts) buffer buffer' at) where
    inside : start + length d.text + 2 ≤ length buffer
    inside =
        let all = ap length d.whole in
        let parts = length-append d.text (row_bytes l.1 ++ flat_map row_bytes (map row_in lefts)) in
        let two = length-append (row_bytes l.1) (flat_map row_bytes (map row_in lefts)) in
        omega (arith, d.room)

    fits : start + length d.text ≤ length buffer
    fits = omega (arith, inside)

    -- one row more
    pub row_drawn : (buffer'' : List ℕ) (at' : ℕ) → at' ≡ at + 2 → buffer'' ≡ put_at buffer' at (row_bytes l.1) → Drawing m b start lefts buffer buffer'' at'
    row_drawn buffer'' at' place put = record {
      text = d.text ++ row_bytes l.1;
      place = omega (arith, place, d.place, length-append d.text (row_bytes l.1));
      bytes = put_then buffer buffer' buffer'' start at d.text (row_bytes l.1) fits d.bytes d.place put;
      whole = append_assoc d.text (row_bytes l.1) (flat_map row_bytes (map row_in lefts)) ∙ d.whole;
      room = d.room;
    }

-- the header and the rows
pub drawn : (m : ℕ) (b : Boundary) (buffer buffer₁ buffer' : List ℕ) (start r : ℕ) → 8 + 2 * length (sheet m b) ≤ length buffer → start ≡ 0 + 8 → buffer₁ ≡ put_at buffer 0 (header m (length (sheet m b))) → buffer' ≡ put_at buffer₁ start (flat_map row_bytes (sheet m b)) → r ≡ start + length (flat_map row_bytes (sheet m b)) → Drawn m b buffer buffer' (Ok r)
drawn m b buffer buffer₁ buffer' start r room place first next end =
    let long : ltb (length buffer) (length (sheet_bytes m b)) ≡ false = le-ltb _ _ (omega (arith, length_sheet m (sheet m b))) in
    record {
      bytes = put_then buffer buffer₁ buffer' 0 start (header m (length (sheet m b))) (flat_map row_bytes (sheet m b)) (omega arith) first place next ∙ over_put buffer (sheet_bytes m b) ∙ sym (cond-false _ _ _ long);
      result = ap Ok (omega (arith, end, place, length_rows (sheet m b), length_sheet m (sheet m b))) ∙ sym (cond-false _ _ _ long);
    }

pub too_short : (m : ℕ) (b : Boundary) (buffer : List ℕ) (needed : ℕ) → needed ≡ 8 + 2 * length (sheet m b) → length buffer < needed → Drawn m b buffer buffer (Err (refuse 13 Memory needed))
too_short m b buffer needed is short =
    let same : needed ≡ length (sheet_bytes m b) = is ∙ sym (length_sheet m (sheet m b)) in
    let test : ltb (length buffer) (length (sheet_bytes m b)) ≡ true = lt-ltb _ _ (omega arith) in
    record {
      bytes = sym (cond-true _ _ _ test);
      result = ap (λ n. Err (refuse 13 Memory n)) same ∙ sym (cond-true _ _ _ test);
    }
