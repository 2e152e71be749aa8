-- Bytes without a fault are the sheet of a lawful plan, and such a sheet has none. Assumes nothing.
use Rattle.std.proofs.Common.{◌≡◌, ℕ, zero, suc, ◌+◌, ◌-◌, ◌*◌, ◌/◌, ◌%◌, ◌<◌, ◌≤◌, min, max, Bool, true, false, cond, ltb, List, [], ◌∷◌, ◌++◌, map, length, take, drop, Some, None, Option, sym, refl, ap, ◌∙◌, subst, arith, rules}
use mathlib.Core.Logic.{∥∥₁_elim}
use Rattle.std.proofs.lemmas.List.{take-append-drop, length-drop}
use Rattle.std.proofs.lemmas.Bool.{ltb-true}
use Rattle.std.proofs.lemmas.Bool.Decides.{nat_tests}
use Rattle.std.specs.List.{flat_map}
use Rattle.plan.specs.Boundaries.{Boundary, Lawful}
use Rattle.sheet.proofs.Drawings.{length_sheet}
use Rattle.sheet.proofs.LawfulSheets.{sheet_lawful, sheet_some, sheet_most}
use Rattle.sheet.proofs.Lawfulness.{Low}
use Rattle.sheet.proofs.Loads.{first_low, loaded_lawful, loaded_sheet}
use Rattle.sheet.proofs.Pairs.{pair_bounds}
use Rattle.sheet.specs.Bytes.{bytes_of, header, number_byte, row_bytes, sheet_bytes}
use Rattle.sheet.specs.Loads.{Exact, byte, fault_in, first_fault, header_tests, number_of, or_else, row_fault, rows_in, rows_of, rows_told}
use Rattle.sheet.specs.Sheets.{lines_from, row_in, row_over, sheet}
use Rattle.sheet.specs.Spans.{first, live, past, some_in, spread, whole}
use Rattle.sheet.specs.Tables.{first_unlawful, loaded}
use Rattle.sheet.specs.declared.faults.SheetFault.{SheetFault}
use Rattle.sheet.specs.declared.rows.Span.{Span}

-- a byte is read and written back
same_number : (x : ℕ) → number_byte (number_of x) ≡ x
same_number x = grind (arith, nat_tests)

-- bytes are read as rows and written back
same_bytes : (bs : List ℕ) → length bs % 2 ≡ 0 → flat_map row_bytes (rows_of bs) ≡ bs
same_bytes [] even = refl
same_bytes (x ∷ []) even = absurd (omega arith)
same_bytes (x ∷ y ∷ bs) even =
    ap (λ l. number_byte (number_of x) ∷ number_byte (number_of y) ∷ l) (same_bytes bs (omega arith)) ∙ ap (λ a. a ∷ number_byte (number_of y) ∷ bs) (same_number x) ∙ ap (λ b. x ∷ b ∷ bs) (same_number y)

-- a number of a row is written and read back
small_byte : (x : Bool) (n : ℕ) → (x ≡ true → n ≤ 254) → number_of (number_byte (cond x (Some n) None)) ≡ cond x (Some n) None
small_byte x n h = grind (arith, nat_tests)

module _ (m : ℕ) (p : Boundary) (law : Lawful p) where
  -- the rows of a plan are written and read back
  reread : (k n : ℕ) (s : Span) → k + n ≡ p.last + 1 → 1 ≤ n → Low s → rows_of (flat_map row_bytes (map row_in (lines_from m p k n s))) ≡ map row_in (lines_from m p k n s)
  reread zero n s size one low = refl
  reread (suc k) n s size one low =
      let q = p.pairs n in
      let bounds = pair_bounds p law n one (omega arith) in
      let r = row_over q s in
      let a = small_byte (ltb s.low (past q.0)) (min s.end (past q.0) - 1) (λ e. omega (arith, bounds)) in
      let b = small_byte (ltb (whole q.1) s.end) (max s.low (whole q.1)) (λ e. omega (arith, bounds, low.low)) in
      let rest = by_test (some_in (live q s)) refl (λ next. reread k (n + 1) (spread m (live q s)) (omega arith) (omega arith) next) in
      ap (λ l. record { acceptance = number_of (number_byte r.acceptance); rejection = number_of (number_byte r.rejection) } ∷ l) rest
      ∙ ap (λ x. record { acceptance = x; rejection = number_of (number_byte r.rejection) } ∷ map row_in (cond (some_in (live q s)) (lines_from m p k (n + 1) (spread m (live q s))) [])) a
      ∙ ap (λ y. record { acceptance = r.acceptance; rejection = y } ∷ map row_in (cond (some_in (live q s)) (lines_from m p k (n + 1) (spread m (live q s))) [])) b
    where
      by_test : (t : Bool) → some_in (live (p.pairs n) s) ≡ t
          → (Low (spread m (live (p.pairs n) s)) → rows_of (flat_map row_bytes (map row_in (lines_from m p k (n + 1) (spread m (live (p.pairs n) s))))) ≡ map row_in (lines_from m p k (n + 1) (spread m (live (p.pairs n) s))))
          → rows_of (flat_map row_bytes (map row_in (cond t (lines_from m p k (n + 1) (spread m (live (p.pairs n) s))) []))) ≡ map row_in (cond t (lines_from m p k (n + 1) (spread m (live (p.pairs n) s))) [])
      by_test true t after =
          let some : (live (p.pairs n) s).low < (live (p.pairs n) s).end = ltb-true _ _ t in
          after (record { some = omega arith; low = omega (arith, pair_bounds p law n one (omega arith)) })
      by_test false t after = refl

  pub sheet_reread : rows_in (sheet_bytes m p) ≡ sheet m p
  sheet_reread = reread p.last 1 (first m) refl (omega arith) (first_low m)

-- bytes without a fault
pub record Fine (m : ℕ) (bytes : List ℕ) : Type 0 where
  pub long : 8 ≤ length bytes
  pub mark : (byte bytes 0 ≡ 83) × (byte bytes 1 ≡ 81) × (byte bytes 2 ≡ 65)
  pub version : (byte bytes 3 ≡ 1) × (byte bytes 4 ≡ 0)
  pub kind : byte bytes 5 ≡ m
  pub some : 1 ≤ rows_told bytes
  pub few : rows_told bytes ≤ 4096
  pub whole : length bytes ≡ 8 + 2 * rows_told bytes
  pub rows : first_unlawful m 1 (first m) (rows_in bytes) ≡ None

parts : (a b : Option SheetFault) → or_else a b ≡ None → (a ≡ None) × (b ≡ None)
parts None b h = (refl, h)
parts (Some e) b h = cc

no_row : (o : Option ℕ) → row_fault o ≡ None → o ≡ None
no_row None h = refl
no_row (Some i) h = cc

module _ (m : ℕ) (bytes : List ℕ) where
  pub fine_from : fault_in m bytes ≡ None → Fine m bytes
  fine_from none =
      let both = parts (first_fault (header_tests m bytes)) _ none in
      record {
        long = grind (arith, nat_tests);
        mark = (grind (arith, nat_tests), grind (arith, nat_tests), grind (arith, nat_tests));
        version = (grind (arith, nat_tests), grind (arith, nat_tests));
        kind = grind (arith, nat_tests);
        some = grind (arith, nat_tests);
        few = grind (arith, nat_tests);
        whole = grind (arith, nat_tests);
        rows = no_row _ both.1;
      }

  pub no_fault : Fine m bytes → fault_in m bytes ≡ None
  no_fault f =
      let header : first_fault (header_tests m bytes) ≡ None = search rules in
      ap (λ o. or_else o (row_fault (first_unlawful m 1 (first m) (rows_in bytes)))) header ∙ ap row_fault f.rows

-- as many rows as the header tells
length_rows_of : (bs : List ℕ) → length bs % 2 ≡ 0 → 2 * length (rows_of bs) ≡ length bs
length_rows_of [] even = refl
length_rows_of (x ∷ []) even = absurd (omega arith)
length_rows_of (x ∷ y ∷ bs) even = omega (arith, length_rows_of bs (omega arith))

-- the header, byte by byte
eight : (bs : List ℕ) → 8 ≤ length bs → take 8 bs ≡ byte bs 0 ∷ byte bs 1 ∷ byte bs 2 ∷ byte bs 3 ∷ byte bs 4 ∷ byte bs 5 ∷ byte bs 6 ∷ byte bs 7 ∷ []
eight [] h = absurd (omega arith)
eight (a ∷ []) h = absurd (omega arith)
eight (a ∷ b ∷ []) h = absurd (omega arith)
eight (a ∷ b ∷ c ∷ []) h = absurd (omega arith)
eight (a ∷ b ∷ c ∷ d ∷ []) h = absurd (omega arith)
eight (a ∷ b ∷ c ∷ d ∷ e ∷ []) h = absurd (omega arith)
eight (a ∷ b ∷ c ∷ d ∷ e ∷ f ∷ []) h = absurd (omega arith)
eight (a ∷ b ∷ c ∷ d ∷ e ∷ f ∷ g ∷ []) h = absurd (omega arith)
eight (a ∷ b ∷ c ∷ d ∷ e ∷ f ∷ g ∷ i ∷ bs) h = refl

module _ (m : ℕ) (bytes : List ℕ) (f : Fine m bytes) where
  rest_even : length (drop 8 bytes) ≡ 2 * rows_told bytes
  rest_even = length-drop 8 bytes ∙ omega (arith, f.whole)

  pub rows_number : length (rows_in bytes) ≡ rows_told bytes
  rows_number = omega (arith, rest_even, length_rows_of (drop 8 bytes) (omega (arith, rest_even)))

  pub rows_some : 1 ≤ length (rows_in bytes)
  rows_some = omega (arith, rows_number, f.some)

  pub rows_most : length (rows_in bytes) ≤ 4096
  rows_most = omega (arith, rows_number, f.few)

  pub is_lawful : Lawful (loaded (rows_in bytes))
  is_lawful = loaded_lawful m (rows_in bytes) rows_some rows_most f.rows

  -- the bytes are those of their rows
  same_header : byte bytes 6 < 256 → header m (length (rows_in bytes)) ≡ take 8 bytes
  same_header small =
      let low : length (rows_in bytes) % 256 ≡ byte bytes 6 = omega (arith, rows_number) in
      let high : length (rows_in bytes) / 256 ≡ byte bytes 7 = omega (arith, rows_number) in
      let same : byte bytes 0 ∷ byte bytes 1 ∷ byte bytes 2 ∷ byte bytes 3 ∷ byte bytes 4 ∷ byte bytes 5 ∷ byte bytes 6 ∷ byte bytes 7 ∷ [] ≡ header m (length (rows_in bytes)) = cc (f.mark.0, f.mark.1, f.mark.2, f.version.0, f.version.1, f.kind, low, high) in
      sym (eight bytes f.long ∙ same)

  pub is_sheet : byte bytes 6 < 256 → sheet_bytes m (loaded (rows_in bytes)) ≡ bytes
  is_sheet small =
      ap (bytes_of m) (loaded_sheet m (rows_in bytes) rows_some rows_most f.rows)
      ∙ ap (λ h. h ++ flat_map row_bytes (rows_in bytes)) (same_header small)
      ∙ ap (λ l. take 8 bytes ++ l) (same_bytes (drop 8 bytes) (omega (arith, rest_even)))
      ∙ take-append-drop 8 bytes

-- the sheet of a lawful plan
pub sheet_fine : (m : ℕ) (p : Boundary) → Lawful p → Fine m (sheet_bytes m p)
sheet_fine m p law =
    let rows = length (sheet m p) in
    let told : rows_told (sheet_bytes m p) ≡ rows = omega arith in
    record {
      long = omega (arith, length_sheet m (sheet m p));
      mark = (refl, refl, refl);
      version = (refl, refl);
      kind = refl;
      some = omega (arith, told, sheet_some m p law);
      few = omega (arith, told, sheet_most m p law);
      whole = length_sheet m (sheet m p) ∙ ap (λ n. 8 + 2 * n) (sym told);
      rows = ap (first_unlawful m 1 (first m)) (sheet_reread m p law) ∙ sheet_lawful m p law;
    }

pub exact : (m : ℕ) (bytes : List ℕ) → byte bytes 6 < 256 → Exact m bytes
exact m bytes small = (
  λ none. let f = fine_from m bytes none in ∣ (loaded (rows_in bytes), is_lawful m bytes f, is_sheet m bytes f small) ∣₁,
  λ some. by_fault some (fault_in m bytes) refl,
)
  where
    by_fault : ∥ ((b : Boundary) × Lawful b × (sheet_bytes m b ≡ bytes)) ∥₁ → (o : Option SheetFault) → fault_in m bytes ≡ o → fault_in m bytes ≡ None
    by_fault some None e = e
    by_fault some (Some x) e =
        absurd (∥∥₁_elim some (λ u v. absurd u) (λ w.
        let none : fault_in m bytes ≡ None = no_fault m bytes (subst (Fine m) w.2 (sheet_fine m w.0 w.1)) in
        cc))
